-- A part begins with no more tokens than the whole, and says nothing of what is left if it stops.
use Rattle.std.proofs.Common.{◌≡◌, ℕ, ◌+◌, ◌*◌, ◌<◌, ◌≤◌, Result, Ok, Err, IfOk, List, length, Bor, ◌∷◌, ap, lt_trans, lt_of_le_of_lt, le_of_lt, arith}
use Rattle.std.specs.Result.{IsErrAnd}
use Rattle.ts_trees.specs.declared.token.Token.{Token}
use Rattle.ts_trees.specs.declared.halt.Halt.{Halt}

-- nothing is told of what is left where a part stops
pub untold : {X : Type 0} (P : X → Type 0) (r : Result X Halt) (e : Halt) → IsErrAnd r (λ x. x ≡ e) → IfOk r P
untold P (Ok x) e i = absurd i
untold P (Err f) e i = tt

pub shorter_still : {X : Type 0} (ts rest : List Token) → length rest < length ts → (r : Result (X × Bor (List Token)) Halt) → IfOk r (λ x. length x.1.now < length rest) → IfOk r (λ x. length x.1.now < length ts)
shorter_still ts rest less (Ok x) h = lt_trans h less
shorter_still ts rest less (Err e) h = tt

pub shorter_behind : {X : Type 0} (ts rest : List Token) → length rest < length ts → (r : Result (X × Bor (List Token)) Halt) → IfOk r (λ x. length x.1.now ≤ length rest) → IfOk r (λ x. length x.1.now < length ts)
shorter_behind ts rest less (Ok x) h = lt_of_le_of_lt h less
shorter_behind ts rest less (Err e) h = tt

pub no_longer : {X : Type 0} (ts : List Token) (r : Result (X × Bor (List Token)) Halt) → IfOk r (λ x. length x.1.now < length ts) → IfOk r (λ x. length x.1.now ≤ length ts)
no_longer ts (Ok x) h = le_of_lt h
no_longer ts (Err e) h = tt

pub behind_one : (x : Token) {ts rest : List Token} → ts ≡ x ∷ rest → length rest < length ts
behind_one x e = omega (arith, ap length e)

-- a part of a lower rank begins with no more tokens, and any part with fewer
pub lower : (a b : ℕ) {m n t : ℕ} → a < b → m ≤ n → 8 * n + b ≡ t → 8 * m + a < t
lower a b less le e = omega arith

pub lowest : (b : ℕ) {m n t : ℕ} → 0 < b → m ≤ n → 8 * n + b ≡ t → 8 * m < t
lowest b less le e = omega arith

pub fewer : (a : ℕ) {m n t : ℕ} → a < 8 → m < n → 8 * n ≡ t → 8 * m + a < t
fewer a small less e = omega arith

pub fewest : {m n t : ℕ} → m < n → 8 * n ≡ t → 8 * m < t
fewest less e = omega arith

pub again : (a : ℕ) {m n t : ℕ} → m < n → 8 * n + a ≡ t → 8 * m + a < t
again a less e = omega arith
