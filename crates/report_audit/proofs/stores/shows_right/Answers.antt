use Rattle.std.proofs.Common.{◌≡◌, ◌<◌, ℕ, Bool, true, List, length, get_or, refl, sym, ◌∙◌, ap, subst}
use Rattle.std.specs.Prelude.{IfOk}
use Rattle.std.proofs.lemmas.List.{get_or_default}
use Rattle.mate_num.specs.declared.store.Store.{Store}
use Rattle.mate_journal.specs.Journal.{journal_entry, no_store}
use Rattle.mate_journal.specs.Log.{Log}
use Rattle.mate_journal.specs.Machine.{Machine}
use Rattle.mate_journal.specs.declared.entry.Entry.{Entry}
use Rattle.mate_journal.specs.declared.entry.Entry.TheVariants as entry
use Rattle.journal_laws.specs.Growth.{IsNamedBelow}
use Rattle.audit_rules.specs.Roll.{Roll}
use Rattle.audit_rules.specs.Shown.{is_store_shown, shows_right}
use Rattle.audit_rules.specs.Views.{roll_in}
use Rattle.audit_programs.specs.Trials.{machine_for}
use Rattle.report_audit.proofs.stores.shows_right.Goals as goal

-- an entry that shows no store
shows_none : (m : Machine) (x : Roll) (store : Store) (l : Log) (e : Entry) → ((number : ℕ) → e ≡ entry.Seen number → ⊥) → true ≡ shows_right m x store (journal_entry l e)
shows_none m x store l (entry.Seen number) other = absurd (other number refl)
shows_none m x store l _ other = refl

pub returns-in_default-clause-shown : goal.returns-in_default-clause-shown
returns-in_default-clause-shown c =
    let t = c.args.trial.now in
    shows_none (machine_for t) (roll_in t.log.now.images c.args.roll.now.roll) c.args.store.now t.log.now c.args.entry.now c.in_default.not-Seen

pub bounds-stores-number : goal.bounds-stores-number
bounds-stores-number c =
    let l = c.args.trial.now.log.now in
    let k = c.in-Seen.number in
    let below : k < length l.stores = subst (IsNamedBelow (length l.images) (length l.stores)) c.in-Seen.is c.requires.named in
    subst (λ (stores : List Store). k < length stores) (sym c.stores.ensures) below

pub returns-clause-shown : goal.returns-clause-shown
returns-clause-shown c =
    let t = c.args.trial.now in
    let m = machine_for t in
    let l = t.log.now in
    let x : Roll = roll_in l.images c.args.roll.now.roll in
    let store = c.args.store.now in
    let k = c.in-Seen.number in
    let seen : Store = c.index-stores-number.result in
    let named : k < length l.stores = subst (IsNamedBelow (length l.images) (length l.stores)) c.in-Seen.is c.requires.named in
    let below = subst (λ (stores : List Store). k < length stores) (sym c.stores.ensures) named in
    let at = c.index-stores-number.is ∙ get_or_default c.stores.result.now k seen no_store below in
    subst (λ (shown : Bool). IfOk c.is_store_shown.result (λ b. b ≡ shown))
    (ap (λ (s : Store). is_store_shown m x store s) (at ∙ ap (λ (stores : List Store). get_or stores k no_store) c.stores.ensures)
    ∙ ap (λ (e : Entry). shows_right m x store (journal_entry l e)) (sym c.in-Seen.is))
    c.is_store_shown.ensures.shown
