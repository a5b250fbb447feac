-- What the calls of a timer and of an exchange answer, in the words of the rules.
use Rattle.std.proofs.Common.{◌≡◌, ℕ, Bool, true, false, List, refl, sym, ap, inl, inr}
use Rattle.std.specs.Prelude.{IsTrue, ◌↔◌, Option, Some, None, IsSomeAnd, bytes_eq, nat_lt, if◌then◌else◌}
use Rattle.std.proofs.lemmas.Bool.{cases_Bool, false≢true}
use Rattle.std.proofs.lemmas.Slice.Eq.{bytes_eq-Decides}
use Rattle.trickle_timer.specs.Intervals as trickle
use Rattle.trickle_timer.specs.Timer.{Timer}
use Rattle.world_rules.specs.State.{is_some_length}
use Rattle.world_state.specs.Motes.{begins_with}

-- the judgement of a Vector is whether the versions are equal
pub judged : (o : Option Bool) (xs ys : List ℕ) → IsSomeAnd o (λ b. IsTrue b ↔ (xs ≡ ys)) → o ≡ Some (bytes_eq xs ys)
judged None xs ys h = absurd h
judged (Some true) xs ys h = ap (λ (b : Bool). Some b) (sym ((bytes_eq-Decides xs ys).1 (h.0 refl)))
judged (Some false) xs ys h = elim (cases_Bool (bytes_eq xs ys)) [
  | inl e ↦ absurd (false≢true (h.1 ((bytes_eq-Decides xs ys).0 e)))
  | inr e ↦ ap (λ (b : Bool). Some b) (sym e)
]

-- a reset begins an interval where the running one is longer than the shortest
pub begins-reset : (t : Timer) → begins_with t trickle.Reset ≡ nat_lt t.set.imin t.running.length
begins-reset t = by (nat_lt t.set.imin t.running.length) where
  by : (b : Bool) → is_some_length (if b then Some t.set.imin else None) ≡ b
  by true = refl
  by false = refl
