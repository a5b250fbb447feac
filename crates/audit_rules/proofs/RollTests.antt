-- What tests in memory are of what it stands for.
use Rattle.std.proofs.Common.{◌≡◌, ◌≤◌, ◌+◌, ℤ, le-leb, ℕ, suc, Bool, true, List, [], ◌∷◌, map, refl, sym, ◌∙◌, ap, Option, Some, None}
use Rattle.std.specs.Prelude.{nat_le, nat_lt, ◌==◌, ◌&&◌, ◌||◌, not, is_some}
use Rattle.std.specs.List.{list_any}
use Rattle.arrayvec.specs.ArrayVec.{ArrayVec}
use Rattle.mate_num.specs.declared.call.Stamp.{Stamp}
use Rattle.mate_num.specs.declared.id.ContextId.{ContextId}
use Rattle.mate_num.specs.declared.id.HandlerId.{HandlerId}
use Rattle.mate_journal.specs.Journal as journal
use Rattle.mate_journal.specs.Log.{Log}
use Rattle.mate_journal.specs.Machine.{Machine}
use Rattle.mate_journal.specs.declared.entry.Stamped.{Stamped}
use Rattle.journal_laws.specs.Growth.{event_of}
use Rattle.audit_rules.specs.Roll as told
use Rattle.audit_rules.specs.Following.{not_before, is_in_time, stamps_rise, is_taken, is_context_of, may_follow}
use Rattle.audit_rules.specs.Stamps.{rise_from, rise}
use Rattle.audit_rules.specs.Views.{stands_at, sits_at, has_context, phase_in, installed_in, seat_in, roll_in}
use Rattle.audit_rules.specs.declared.phase.Phase.{Phase}
use Rattle.audit_rules.specs.declared.phase.Phase.TheVariants as phase
use Rattle.audit_rules.specs.declared.phase.Stage.TheVariants as stage
use Rattle.audit_rules.specs.declared.roll.InstalledImage.{InstalledImage}
use Rattle.audit_rules.specs.declared.roll.Roll.{Roll}
use Rattle.audit_rules.specs.declared.seat.Seat.{Seat}

any-in : (images : List (ArrayVec ℕ)) (t : Seat → Bool) (u : told.Seat → Bool) → ((s : Seat) → t s ≡ u (seat_in images s)) → (xs : List Seat) → list_any t xs ≡ list_any u (map (seat_in images) xs)
any-in images t u each [] = refl
any-in images t u each (s ∷ xs) = ap (λ (b : Bool). b || list_any t xs) (each s) ∙ ap (λ (b : Bool). u (seat_in images s) || b) (any-in images t u each xs)

queued-in : (p : Phase) → stands_at stage.Queued p ≡ told.is_queued (phase_in p)
queued-in phase.Queued = refl
queued-in _ = refl

ready-in : (p : Phase) → stands_at stage.Ready p ≡ told.is_ready (phase_in p)
ready-in phase.Queued = refl
ready-in _ = refl

waiting-in : (p : Phase) → stands_at stage.Waiting p ≡ told.is_waiting (phase_in p)
waiting-in phase.Queued = refl
waiting-in _ = refl

pub at_queued : (images : List (ArrayVec ℕ)) (n : ℕ) (x : Roll) → list_any (sits_at n stage.Queued) x.seats.items ≡ told.is_at (roll_in images x) n told.is_queued
at_queued images n x = any-in images (sits_at n stage.Queued) (λ s. (s.number == n) && told.is_queued s.invocation.phase) (λ s. ap (λ (b : Bool). (s.number == n) && b) (queued-in s.phase)) x.seats.items

pub at_ready : (images : List (ArrayVec ℕ)) (n : ℕ) (x : Roll) → list_any (sits_at n stage.Ready) x.seats.items ≡ told.is_at (roll_in images x) n told.is_ready
at_ready images n x = any-in images (sits_at n stage.Ready) (λ s. (s.number == n) && told.is_ready s.invocation.phase) (λ s. ap (λ (b : Bool). (s.number == n) && b) (ready-in s.phase)) x.seats.items

pub at_waiting : (images : List (ArrayVec ℕ)) (n : ℕ) (x : Roll) → list_any (sits_at n stage.Waiting) x.seats.items ≡ told.is_at (roll_in images x) n told.is_waiting
at_waiting images n x = any-in images (sits_at n stage.Waiting) (λ s. (s.number == n) && told.is_waiting s.invocation.phase) (λ s. ap (λ (b : Bool). (s.number == n) && b) (waiting-in s.phase)) x.seats.items

pub taken-in : (images : List (ArrayVec ℕ)) (c : ContextId) (x : Roll) → list_any (has_context c) x.seats.items ≡ is_taken (roll_in images x) c
taken-in images c x = any-in images (has_context c) (λ s. s.invocation.context.0 == c.0) (λ s. refl) x.seats.items

pub held-in : (images : List (ArrayVec ℕ)) (h : HandlerId) (o : Option InstalledImage) → is_some o ≡ is_some (installed_in images h o)
held-in images h None = refl
held-in images h (Some v) = refl

-- ---- stamps

rising-from : (l : Log) (last : Stamp) (es : List Stamped) → rise_from (Some last) es ≡ is_in_time last (map (event_of l) es)
rising-from l last [] = refl
rising-from l last (e ∷ es) = ap (λ (b : Bool). not_before last e.stamp && b) (rising-from l e.stamp es)

pub rising : (l : Log) (es : List Stamped) → rise es ≡ stamps_rise (map (event_of l) es)
rising l [] = refl
rising l (e ∷ es) = rising-from l e.stamp es

-- ---- posts

context_test : (first place count : ℕ) → first ≤ place → nat_lt place (first + count) ≡ (nat_le first place && nat_lt place (first + count))
context_test first place count low = ap (λ (b : Bool). b && nat_lt place (first + count)) (sym (le-leb first place low))

pub context_in : (m : Machine) (h : HandlerId) (c : ContextId) (first place count : ℕ) → first ≡ m.first_context h → place ≡ c.0 → count ≡ m.contexts h → first ≤ place → nat_lt place (first + count) ≡ is_context_of m h c
context_in m h c first place count e f g low =
    context_test first place count low
    ∙ ap (λ (k : ℕ). nat_le k place && nat_lt place (k + count)) e
    ∙ ap (λ (k : ℕ). nat_le (m.first_context h) k && nat_lt k (m.first_context h + count)) f
    ∙ ap (λ (k : ℕ). nat_le (m.first_context h) c.0 && nat_lt c.0 (m.first_context h + k)) g

pub post_test : (m : Machine) (x : told.Roll) (n : ℕ) (h : HandlerId) (c : ContextId) (payload : ArrayVec ℤ) (b : Bool) → (n == suc x.posts) ≡ true → is_some (x.installed h) ≡ true
    → b ≡ (is_context_of m h c && not (is_taken x c)) → b ≡ may_follow m x (journal.Posted n h c payload)
post_test m x n h c payload b next installed rest =
    rest
    ∙ sym (ap (λ (a : Bool). a && (is_some (x.installed h) && (is_context_of m h c && not (is_taken x c)))) next
    ∙ ap (λ (a : Bool). a && (is_context_of m h c && not (is_taken x c))) installed)
