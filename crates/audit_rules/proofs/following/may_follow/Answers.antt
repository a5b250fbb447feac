use Rattle.std.proofs.Common.{◌≡◌, ℕ, Bool, true, false, List, None, refl, sym, ◌∙◌, ap, subst}
use Rattle.std.specs.Prelude.{not, ◌&&◌, is_some, slice_index_or}
use Rattle.std.specs.List.{list_any}
use Rattle.mate_journal.specs.Journal.{journal_entry}
use Rattle.mate_journal.specs.Log.{Log}
use Rattle.mate_journal.specs.Machine.{Machine}
use Rattle.mate_journal.specs.Described.{machine_of}
use Rattle.mate_journal.specs.declared.entry.Entry.{Entry}
use Rattle.audit_rules.specs.Following.{may_follow, is_taken}
use Rattle.audit_rules.specs.Roll as told
use Rattle.audit_rules.specs.Views.{sits_at, has_context, roll_in}
use Rattle.audit_rules.specs.declared.phase.Stage.TheVariants as stage
use Rattle.audit_rules.specs.declared.roll.Roll.{Roll}
use Rattle.audit_rules.specs.declared.seat.Seat.{Seat}
use Rattle.audit_rules.proofs.RollTests.{at_queued, at_ready, at_waiting, taken-in, held-in, post_test}
use Rattle.audit_rules.proofs.following.may_follow.Goals as goal

and-true : (b : Bool) → (b && true) ≡ b
and-true true = refl
and-true false = refl

by_entry : (m : Machine) (l : Log) (x : told.Roll) (e f : Entry) (b : Bool) → e ≡ f → b ≡ may_follow m x (journal_entry l f) → b ≡ may_follow m x (journal_entry l e)
by_entry m l x e f b is h = subst (λ (g : Entry). b ≡ may_follow m x (journal_entry l g)) (sym is) h

pub returns-then-is_context_of : goal.returns-then-is_context_of
returns-then-is_context_of c =
    λ l meaning.
    let m = machine_of c.args.desc.now meaning in
    let x : Roll = c.args.roll.now in
    let h = c.in-Post.handler in
    by_entry m l (roll_in l.images x) c.args.entry.now _ (not c.is_taken.result) c.in-Post.is
    (post_test m (roll_in l.images x) c.in-Post.inv h c.in-Post.ctx c.in-Post.payload (not c.is_taken.result) (sym c.if-is_next.ensures)
    (sym (held-in l.images h (slice_index_or x.installed h.0 None)) ∙ ap (λ (k : ℕ). is_some (slice_index_or x.installed k None)) (sym c.from.ensures) ∙ sym c.if-is_some.ensures)
    (ap not (c.is_taken.ensures ∙ ap (λ (xs : List Seat). list_any (has_context c.in-Post.ctx) xs) c.as_slice.ensures.value ∙ taken-in l.images c.in-Post.ctx x)
    ∙ ap (λ (b : Bool). b && not (is_taken (roll_in l.images x) c.in-Post.ctx)) (c.if-is_context_of.ensures meaning)))

pub returns-else-is_context_of : goal.returns-else-is_context_of
returns-else-is_context_of c =
    λ l meaning.
    let m = machine_of c.args.desc.now meaning in
    let x : Roll = c.args.roll.now in
    let h = c.in-Post.handler in
    by_entry m l (roll_in l.images x) c.args.entry.now _ c.is_context_of.result c.in-Post.is
    (post_test m (roll_in l.images x) c.in-Post.inv h c.in-Post.ctx c.in-Post.payload c.is_context_of.result (sym c.if-is_next.ensures)
    (sym (held-in l.images h (slice_index_or x.installed h.0 None)) ∙ ap (λ (k : ℕ). is_some (slice_index_or x.installed k None)) (sym c.from.ensures) ∙ sym c.if-is_some.ensures)
    (c.if-is_context_of.false ∙ ap (λ (b : Bool). b && not (is_taken (roll_in l.images x) c.in-Post.ctx)) (c.if-is_context_of.ensures meaning)))

pub returns-in-Start : goal.returns-in-Start
returns-in-Start c =
    λ l meaning.
    by_entry (machine_of c.args.desc.now meaning) l (roll_in l.images c.args.roll.now) c.args.entry.now _ c.is_at.result c.in-Start.is
    (c.is_at.ensures ∙ ap (λ (xs : List Seat). list_any (sits_at c.in-Start.inv stage.Queued) xs) c.as_slice-in-Start.ensures.value ∙ at_queued l.images c.in-Start.inv c.args.roll.now)

pub returns-in-Ask : goal.returns-in-Ask
returns-in-Ask c =
    λ l meaning.
    by_entry (machine_of c.args.desc.now meaning) l (roll_in l.images c.args.roll.now) c.args.entry.now _ c.is_at-in-Ask.result c.in-Ask.is
    (c.is_at-in-Ask.ensures ∙ ap (λ (xs : List Seat). list_any (sits_at c.in-Ask.inv stage.Ready) xs) c.as_slice-in-Ask.ensures.value ∙ at_ready l.images c.in-Ask.inv c.args.roll.now)

pub returns-in-Answer : goal.returns-in-Answer
returns-in-Answer c =
    λ l meaning.
    by_entry (machine_of c.args.desc.now meaning) l (roll_in l.images c.args.roll.now) c.args.entry.now _ c.is_at-in-Answer.result c.in-Answer.is
    (c.is_at-in-Answer.ensures ∙ ap (λ (xs : List Seat). list_any (sits_at c.in-Answer.inv stage.Waiting) xs) c.as_slice-in-Answer.ensures.value ∙ at_waiting l.images c.in-Answer.inv c.args.roll.now)

pub returns-in-Halt : goal.returns-in-Halt
returns-in-Halt c =
    λ l meaning.
    by_entry (machine_of c.args.desc.now meaning) l (roll_in l.images c.args.roll.now) c.args.entry.now _ c.is_at-in-Halt.result c.in-Halt.is
    (c.is_at-in-Halt.ensures ∙ ap (λ (xs : List Seat). list_any (sits_at c.in-Halt.inv stage.Ready) xs) c.as_slice-in-Halt.ensures.value ∙ at_ready l.images c.in-Halt.inv c.args.roll.now ∙ sym (and-true _))

pub returns-in-Fault : goal.returns-in-Fault
returns-in-Fault c =
    λ l meaning.
    by_entry (machine_of c.args.desc.now meaning) l (roll_in l.images c.args.roll.now) c.args.entry.now _ c.is_at-in-Fault.result c.in-Fault.is
    (c.is_at-in-Fault.ensures ∙ ap (λ (xs : List Seat). list_any (sits_at c.in-Fault.inv stage.Ready) xs) c.as_slice-in-Fault.ensures.value ∙ at_ready l.images c.in-Fault.inv c.args.roll.now ∙ sym (and-true _))
