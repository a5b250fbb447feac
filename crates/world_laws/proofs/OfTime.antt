-- What is scheduled for a time.
use Rattle.std.proofs.Common.{◌≡◌, ℕ, Bool, true, false, List, [], ◌∷◌, sym, ◌∙◌, ap, inl, inr, ◌⊎◌}
use Rattle.std.specs.Prelude.{◌==◌}
use Rattle.std.proofs.lemmas.Bool.Decides.{eqb_tells}
use Rattle.mate_num.specs.Lists.{Among}
use Rattle.world_rules.specs.Cause.{Cause}
use Rattle.world_rules.specs.State.{Scheduled, of_time}

abbrev at : ℕ → Cause → Scheduled
at t c = record { time = t; cause = c }

pub among-of_time : (t : ℕ) (c : Cause) (xs : List Scheduled) → Among (at t c) xs → Among c (of_time t xs)
among-of_time t c [] h = absurd h
among-of_time t c (x ∷ xs) h = elim (eqb_tells x.time t) [
  | inl same ↦ rw same.0 (here (λ a. among-of_time t c xs a) h)
  | inr other ↦ rw other.0 (past (λ a. among-of_time t c xs a) h other.1)
] where
  here : (Among (at t c) xs → Among c (of_time t xs)) → (x ≡ at t c) ⊎ Among (at t c) xs → (x.cause ≡ c) ⊎ Among c (of_time t xs)
  here rest (inl e) = inl (ap (λ (y : Scheduled). y.cause) e)
  here rest (inr a) = inr (rest a)

  past : (Among (at t c) xs → Among c (of_time t xs)) → (x ≡ at t c) ⊎ Among (at t c) xs → (x.time ≡ t → ⊥) → Among c (of_time t xs)
  past rest (inl e) other = absurd (other (ap (λ (y : Scheduled). y.time) e))
  past rest (inr a) other = rest a

pub among-un_of_time : (t : ℕ) (c : Cause) (xs : List Scheduled) → Among c (of_time t xs) → Among (at t c) xs
among-un_of_time t c [] h = absurd h
among-un_of_time t c (x ∷ xs) h = elim (eqb_tells x.time t) [
  | inl same ↦ here (λ a. among-un_of_time t c xs a) same.1 (rw same.0 at h)
  | inr other ↦ inr (among-un_of_time t c xs (rw other.0 at h))
] where
  here : (Among c (of_time t xs) → Among (at t c) xs) → x.time ≡ t → (x.cause ≡ c) ⊎ Among c (of_time t xs) → (x ≡ at t c) ⊎ Among (at t c) xs
  here rest is (inl e) = inl (λ k. record { time = is k; cause = e k })
  here rest is (inr a) = inr (rest a)

-- two numbers that differ
pub apart : (a b : ℕ) → (a == b) ≡ false → a ≡ b → ⊥
apart a b differ same = elim (eqb_tells a b) [ inl e ↦ (let clash : true ≡ false = sym e.0 ∙ differ in cc) | inr e ↦ e.1 same ]
