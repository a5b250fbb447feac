-- One changed value of a function of numbers.
use Rattle.std.proofs.Common.{◌≡◌, ◌≢◌, ℕ, Bool, false, IsTrue, refl, sym, subst, inl, inr}
use Rattle.std.proofs.lemmas.Bool.Decides.{eqb_tells}
use Rattle.mate_journal.specs.Journal.{changed}

-- a fact of each value, with one changed
pub at_changed : {A : Type 0} (P : ℕ → A → Type 0) (f : ℕ → A) (n : ℕ) (value : A) → P n value
    → ((k : ℕ) → k ≢ n → P k (f k)) → (k : ℕ) → P k (changed f n value k)
at_changed P f n value here there k =
    elim (eqb_tells k n) [ inl t ↦ rw t.0 (subst (λ j. P j value) (sym t.1) here) | inr u ↦ rw u.0 (there k u.1) ]

-- the others are as they were
pub past_changed : {A : Type 0} (P : ℕ → A → Type 0) (f : ℕ → A) (n : ℕ) (value : A) (k : ℕ) → k ≢ n → P k (f k) → P k (changed f n value k)
past_changed P f n value k other h =
    elim (eqb_tells k n) [ inl t ↦ absurd (other t.1) | inr u ↦ rw u.0 h ]

-- the changed one
pub changed-here : {A : Type 0} (f : ℕ → A) (n : ℕ) (value : A) → changed f n value n ≡ value
changed-here f n value = elim (eqb_tells n n) [ inl t ↦ rw t.0 refl | inr u ↦ absurd (u.1 refl) ]

pub changed-other : {A : Type 0} (f : ℕ → A) (n : ℕ) (value : A) (k : ℕ) → k ≢ n → changed f n value k ≡ f k
changed-other f n value k other = elim (eqb_tells k n) [ inl t ↦ absurd (other t.1) | inr u ↦ rw u.0 refl ]

-- what holds of all values but those at n, and of the changed one, by what it is at k
pub by_changed : {A : Type 0} (P : A → Type 0) (f : ℕ → A) (n : ℕ) (value : A) (k : ℕ) → P (changed f n value k) → (C : Type 0)
    → (k ≡ n → P value → C) → (k ≢ n → P (f k) → C) → C
by_changed {A} P f n value k h C here there =
    elim (eqb_tells k n) [ inl t ↦ here t.1 (subst P (subst (λ j. changed f n value j ≡ value) (sym t.1) (changed-here f n value)) h) | inr u ↦ there u.1 (subst P (changed-other f n value k u.1) h) ]

pub untrue : (b : Bool) → IsTrue b → b ≡ false → ⊥
untrue b holds fails = cc
