-- The answers to several calls, one after the other.
use Rattle.std.proofs.Common.{◌≡◌, ℕ, zero, suc, ◌+◌, ◌<◌, List, [], ◌∷◌, ◌++◌, length, take, get_or, refl, sym, ◌∙◌, ap, subst, arith, append_assoc, append-nil, true, inl, inr}
use Rattle.std.proofs.lemmas.List.{take_more, map-append}
use Rattle.mate_num.specs.declared.id.FunId.{FunId}
use Rattle.mate_journal.specs.Log.{Log}
use Rattle.mate_journal.specs.Journal.{JournalEntry, Posted, Dropped, Started, Asked, Answered, Ended, Installed, Reset, Seen, Void, NodeState, journal_entry}
use Rattle.mate_journal.specs.declared.entry.Stamped.{Stamped}
use Rattle.world_rules.specs.World.{World}
use Rattle.world_rules.specs.State.{Scheduled, answers_due, calls_in}
use Rattle.world_air.specs.Air.{timed_event, timed_events}
use Rattle.journal_laws.specs.Waiting.{asked_of, IsAwaitedBy, AreAwaited}
use Rattle.node_open.specs.Calls.{told_by_entries}
use Rattle.world_event.specs.Answering.{answer_items, with_call}
use Rattle.std.proofs.lemmas.Bool.{false≢true}
use Rattle.std.proofs.lemmas.Bool.Decides.{eqb_tells}
use Rattle.std.specs.Prelude.{◌==◌}

-- one entry more in front
pub due-front : (w : World) (node time : ℕ) (r : NodeState) (called : List FunId) (t : JournalEntry) (told : List JournalEntry)
    → answers_due w node time r called (t ∷ told) ≡ answer_items w node time r called (asked_of t) ++ answers_due w node time r (with_call called (asked_of t)) told
due-front w node time r called (Posted n h c payload) told = refl
due-front w node time r called _ told = refl

calls-front : (called : List FunId) (t : JournalEntry) (told : List JournalEntry) → called ++ calls_in (t ∷ told) ≡ with_call called (asked_of t) ++ calls_in told
calls-front called (Asked n f args) told = sym (append_assoc called (f ∷ []) (calls_in told))
calls-front called _ told = refl

-- one entry more behind
due-behind : (w : World) (node time : ℕ) (r : NodeState) (called : List FunId) (told : List JournalEntry) (t : JournalEntry)
    → answers_due w node time r called (told ++ t ∷ []) ≡ answers_due w node time r called told ++ answer_items w node time r (called ++ calls_in told) (asked_of t)
due-behind w node time r called [] t =
    due-front w node time r called t [] ∙ append-nil (answer_items w node time r called (asked_of t)) ∙ ap (λ (fs : List FunId). answer_items w node time r fs (asked_of t)) (sym (append-nil called))
due-behind w node time r called (u ∷ told) t =
    due-front w node time r called u (told ++ t ∷ [])
    ∙ ap (λ (xs : List Scheduled). answer_items w node time r called (asked_of u) ++ xs) (due-behind w node time r (with_call called (asked_of u)) told t)
    ∙ sym (append_assoc (answer_items w node time r called (asked_of u)) (answers_due w node time r (with_call called (asked_of u)) told) (answer_items w node time r (with_call called (asked_of u) ++ calls_in told) (asked_of t)))
    ∙ ap (λ (xs : List Scheduled). xs ++ answer_items w node time r (with_call called (asked_of u) ++ calls_in told) (asked_of t)) (sym (due-front w node time r called u told))
    ∙ ap (λ (fs : List FunId). answers_due w node time r called (u ∷ told) ++ answer_items w node time r fs (asked_of t)) (sym (calls-front called u told))

calls-behind : (called : List FunId) (told : List JournalEntry) (t : JournalEntry) → called ++ calls_in (told ++ t ∷ []) ≡ with_call (called ++ calls_in told) (asked_of t)
calls-behind called [] t = calls-front called t [] ∙ append-nil (with_call called (asked_of t)) ∙ ap (λ (fs : List FunId). with_call fs (asked_of t)) (sym (append-nil called))
calls-behind called (u ∷ told) t =
    calls-front called u (told ++ t ∷ []) ∙ calls-behind (with_call called (asked_of u)) told t ∙ ap (λ (fs : List FunId). with_call fs (asked_of t)) (sym (calls-front called u told))

-- ---- over the entries of a log

told-more : (l : Log) (es : List Stamped) (i : ℕ) (e : Stamped) → i < length es → e ≡ get_or es i e → told_by_entries l (take (i + 1) es) ≡ told_by_entries l (take i es) ++ journal_entry l e.entry ∷ []
told-more l es i e below is =
    ap (told_by_entries l) (take_more es i e below ∙ ap (λ (x : Stamped). take i es ++ x ∷ []) (sym is)) ∙ map-append (λ (x : Stamped). journal_entry l x.entry) (take i es) (e ∷ [])

pub awaited-at : (r : NodeState) (l : Log) (es : List Stamped) (i : ℕ) (e : Stamped) → i < length es → e ≡ get_or es i e → AreAwaited r (told_by_entries l es) → IsAwaitedBy r (asked_of (journal_entry l e.entry))
awaited-at r l [] i e below is all = absurd (omega (arith, below))
awaited-at r l (x ∷ es) zero e below is all = subst (λ (y : Stamped). IsAwaitedBy r (asked_of (journal_entry l y.entry))) (sym is) all.0
awaited-at r l (x ∷ es) (suc i) e below is all = awaited-at r l es i e (omega (arith, below)) is all.1

pub due-more : (w : World) (node time : ℕ) (r : NodeState) (called : List FunId) (l : Log) (es : List Stamped) (i : ℕ) (e : Stamped) → i < length es → e ≡ get_or es i e
    → timed_events w (answers_due w node time r called (told_by_entries l (take i es))) ++ timed_events w (answer_items w node time r (called ++ calls_in (told_by_entries l (take i es))) (asked_of (journal_entry l e.entry)))
    ≡ timed_events w (answers_due w node time r called (told_by_entries l (take (i + 1) es)))
due-more w node time r called l es i e below is =
    sym (ap (λ (ts : List JournalEntry). timed_events w (answers_due w node time r called ts)) (told-more l es i e below is)
    ∙ ap (timed_events w) (due-behind w node time r called (told_by_entries l (take i es)) (journal_entry l e.entry))
    ∙ map-append (timed_event w) (answers_due w node time r called (told_by_entries l (take i es))) (answer_items w node time r (called ++ calls_in (told_by_entries l (take i es))) (asked_of (journal_entry l e.entry))))

pub calls-more : (called : List FunId) (l : Log) (es : List Stamped) (i : ℕ) (e : Stamped) → i < length es → e ≡ get_or es i e
    → with_call (called ++ calls_in (told_by_entries l (take i es))) (asked_of (journal_entry l e.entry)) ≡ called ++ calls_in (told_by_entries l (take (i + 1) es))
calls-more called l es i e below is =
    sym (ap (λ (ts : List JournalEntry). called ++ calls_in ts) (told-more l es i e below is) ∙ calls-behind called (told_by_entries l (take i es)) (journal_entry l e.entry))

pub same-number : (a b : ℕ) → (a == b) ≡ true → a ≡ b
same-number a b e = elim (eqb_tells a b) [ inl t ↦ t.1 | inr t ↦ absurd (false≢true (sym t.0 ∙ e)) ]
