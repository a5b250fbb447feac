-- How the two sums change where one context changes.
use Rattle.std.proofs.Common.{◌≡◌, ◌≢◌, ◌⊎◌, ℕ, zero, suc, ◌+◌, ◌<◌, ◌≤◌, refl, sym, ap, subst, arith, inl, inr}
use Rattle.std.proofs.lemmas.Bool.{cases_eq}
use Rattle.mate_num.specs.declared.id.ContextId.{ContextId}
use Rattle.node_state.specs.declared.contexts.Contexts.{Contexts}
use Rattle.node_state.specs.At.{At, at, Becomes}
use Rattle.node_state.specs.Totals.{total, context, over_all}

pub total-same : (f g : ℕ → ℕ) (n : ℕ) → ((j : ℕ) → j < n → g j ≡ f j) → total g n ≡ total f n
unfolding total
total-same f g zero same = refl
total-same f g (suc n) same =
    let h = total-same f g n (λ j below. same j (omega arith)) in
    let e = same n (omega arith) in
    omega arith

pub total-one : (f g : ℕ → ℕ) (k n : ℕ) → k < n → ((j : ℕ) → j ≢ k → g j ≡ f j) → total g n + f k ≡ total f n + g k
unfolding total
total-one f g k zero below same = absurd (omega arith)
total-one f g k (suc n) below same = by (cases_eq k n) (λ lower. total-one f g k n lower same) where
  by : (k ≡ n) ⊎ (k ≡ n → ⊥) → (k < n → total g n + f k ≡ total f n + g k) → total g (suc n) + f k ≡ total f (suc n) + g k
  by (inl e) further =
      let h = total-same f g n (λ j lower. same j (omega arith)) in
      let here : f n ≡ f k = ap f (sym e) in
      let there : g n ≡ g k = ap g (sym e) in
      omega arith
  by (inr other) further =
      let h = further (omega arith) in
      let e = same n (λ i. other (sym i)) in
      omega arith

-- one context changes
pub over_all-becomes : (weight : At → ℕ) (old new : Contexts) (c : ContextId) (a : At) → c.0 < 16 → Becomes old new c a → over_all weight new + weight (at old c) ≡ over_all weight old + weight a
over_all-becomes weight old new c a small becomes =
    let h = total-one (λ j. weight (at old (context j))) (λ j. weight (at new (context j))) c.0 16 small (λ j other. ap weight (becomes.others (context j) other)) in
    let e : weight (at new c) ≡ weight a = ap weight becomes.here in
    omega arith

pub over_all-same : (weight : At → ℕ) (old new : Contexts) → ((c : ContextId) → at new c ≡ at old c) → over_all weight new ≡ over_all weight old
over_all-same weight old new each = total-same (λ j. weight (at old (context j))) (λ j. weight (at new (context j))) 16 (λ j below. ap weight (each (context j)))

total-least : (f : ℕ → ℕ) (k n : ℕ) → k < n → f k ≤ total f n
unfolding total
total-least f k zero below = absurd (omega arith)
total-least f k (suc n) below = by (cases_eq k n) (λ lower. total-least f k n lower) where
  by : (k ≡ n) ⊎ (k ≡ n → ⊥) → (k < n → f k ≤ total f n) → f k ≤ total f (suc n)
  by (inl e) further = let here : f k ≡ f n = ap f e in omega arith
  by (inr other) further = let h = further (omega arith) in omega arith

-- one context's part is within the whole
pub over_all-least : (weight : At → ℕ) (s : Contexts) (c : ContextId) → c.0 < 16 → weight (at s c) ≤ over_all weight s
over_all-least weight s c small = total-least (λ j. weight (at s (context j))) c.0 16 small

total-below : (f g : ℕ → ℕ) (n : ℕ) → ((j : ℕ) → f j ≤ g j) → total f n ≤ total g n
unfolding total
total-below f g zero lower = omega arith
total-below f g (suc n) lower = let h = total-below f g n lower in let e = lower n in omega arith

pub total-less : (f g : ℕ → ℕ) (k n : ℕ) → k < n → ((j : ℕ) → f j ≤ g j) → f k < g k → total f n < total g n
unfolding total
total-less f g k zero below lower less = absurd (omega arith)
total-less f g k (suc n) below lower less = by (cases_eq k n) (λ further. total-less f g k n further lower less) where
  by : (k ≡ n) ⊎ (k ≡ n → ⊥) → (k < n → total f n < total g n) → total f (suc n) < total g (suc n)
  by (inl e) further =
      let h = total-below f g n lower in
      let P : ℕ → Type 0 = λ j. f j < g j in
      let here = subst P e less in
      omega arith
  by (inr other) further = let h = further (omega arith) in let e = lower n in omega arith

-- one sum is below another, and not the same where one context's part isn't
pub over_all-less : (v w : At → ℕ) (s : Contexts) (c : ContextId) → c.0 < 16 → ((a : At) → v a ≤ w a) → v (at s c) < w (at s c) → over_all v s < over_all w s
over_all-less v w s c small lower less = total-less (λ j. v (at s (context j))) (λ j. w (at s (context j))) c.0 16 small (λ j. lower (at s (context j))) less
