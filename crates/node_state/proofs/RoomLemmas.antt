-- How much room any node needs: 32 entries until nobody is ready, and 16 for one turn.
use Rattle.std.proofs.Common.{◌≡◌, ◌⊎◌, ℕ, zero, suc, ◌+◌, ◌<◌, ◌≤◌, true, Option, Some, None, refl, ap, arith, inl, inr}
use Rattle.mate_num.specs.declared.id.ContextId.{ContextId}
use Rattle.mate_num.specs.declared.lock_set.LockSet.{LockSet}
use Rattle.mate_journal.specs.Machine.{Machine}
use Rattle.mate_journal.specs.Journal.{Phase, Unposted, Queued, Ready, Waiting, Over, NodeState}
use Rattle.node_state.specs.declared.seat.Seat.{Seat}
use Rattle.node_state.specs.declared.contexts.Contexts.{Contexts}
use Rattle.node_state.specs.At.{At, at, idle}
use Rattle.node_state.specs.Programs.{Programs}
use Rattle.node_state.specs.Standing.{standing}
use Rattle.node_state.specs.Fits.{ContextsMatch, IsRightContext}
use Rattle.node_state.proofs.FitLemmas.{HasSeat, idle_or_seat}
use Rattle.node_state.proofs.MoveLemmas.{stood_ready}
use Rattle.node_state.specs.Totals.{total, context, if_waits, may_start, owed, starts_left, owes}
use Rattle.node_state.proofs.TotalLemmas.{total-less}

owed-standing : (p : Phase) (t : Seat) (l : LockSet) → owed (standing p t l) ≤ 2
owed-standing Unposted t l = omega arith
owed-standing _ t l = omega arith

owed-few : (held : Programs) (r : NodeState) (c : ContextId) (a : At) → IsRightContext held r c a → owed a ≤ 2
owed-few held r c a right = by (idle_or_seat held r c a right) where
  by : (a ≡ idle) ⊎ HasSeat held r c a → owed a ≤ 2
  by (inl e) = let z : owed a ≡ 0 = ap owed e in omega arith
  by (inr h) =
      let e = ap owed h.seated.stands in
      let f = owed-standing (r.invocations h.seat.inv).phase h.seat h.seated.x.locks in
      omega arith

total-twice : (f : ℕ → ℕ) (n : ℕ) → ((j : ℕ) → f j ≤ 2) → total f n ≤ n + n
unfolding total
total-twice f zero few = omega arith
total-twice f (suc n) few = let h = total-twice f n few in let e = few n in omega arith

total-ones : (n : ℕ) → total (λ _. 1) n ≡ n
unfolding total
total-ones zero = refl
total-ones (suc n) = let h = total-ones n in omega arith

pub owes-most : (held : Programs) (r : NodeState) (s : Contexts) → ContextsMatch held r s → owes s ≤ 32
owes-most held r s fits = total-twice (λ c. owed (at s (context c))) 16 (λ c. owed-few held r (context c) (at s (context c)) (fits.each (context c)))

waits-few : (o : Option LockSet) → if_waits o 1 ≤ 1
waits-few None = omega arith
waits-few (Some set) = omega arith

pub starts-most : (m : Machine) (held : Programs) (r : NodeState) (s : Contexts) (c : ContextId) → ContextsMatch held r s → c.0 < 16 → (at s c).ready ≡ true → starts_left s + 1 ≤ 16
starts-most m held r s c fits small is_ready =
    let none : may_start (at s c) ≡ 0 = ap may_start (stood_ready m held r s c fits is_ready) in
    let h = total-less (λ j. may_start (at s (context j))) (λ _. 1) c.0 16 small (λ j. waits-few (at s (context j)).waits) (omega arith) in
    let e = total-ones 16 in
    omega arith
