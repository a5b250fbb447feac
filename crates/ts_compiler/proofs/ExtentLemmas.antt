-- Sizes and needs of lists of parts, which stop at 1,000,000,000.
use Rattle.std.proofs.Common.{◌≡◌, ℕ, zero, suc, ◌+◌, ◌≤◌, List, [], ◌∷◌, ◌++◌, refl, ap, arith}
use Rattle.std.specs.Prelude.{max, min}
use Rattle.mate_code.specs.declared.instr.Instr.{Instr}
use Rattle.mate_code.specs.Instr.{size_of}
use Rattle.ts_checked.specs.Expression.{Expression, Arguments, arguments, argument}
use Rattle.ts_checked.specs.Statement.{Statement, block}
use Rattle.ts_semantics.specs.Translation.{size_of_instrs, expr_code, args_code, expr_size, expr_need, args_need, stmt_size, stmt_need, block_size, block_need}
use Rattle.ts_semantics.proofs.PlaceLemmas.{bytes_of-append}
use Rattle.ts_compiler.specs.Parts.{capped}

-- all arguments take what those so far do, and what the rest does above them
pub record ArgsMeasured (size need below count : ℕ) (all rest : List Expression) : Type 0 where
  pub size_is : capped (size_of_instrs (args_code (arguments all))) ≡ capped (size + size_of_instrs (args_code (arguments rest)))
  pub need_is : capped (args_need 0 (arguments all)) ≡ capped (max need (args_need count (arguments rest)))
  pub size_fits : size ≤ 1000000000
  pub need_fits : need ≤ 1000000000
  pub below_is : below ≡ capped count

pub args_begin : (all : List Expression) → ArgsMeasured 0 0 0 0 all all
args_begin all = record { size_is = omega arith; need_is = omega arith; size_fits = omega arith; need_fits = omega arith; below_is = omega arith }

-- one argument more
pub args_next : {size need below count : ℕ} {all : List Expression} (e : Expression) (es : List Expression) (size' need' below' count' : ℕ) → ArgsMeasured size need below count all (e ∷ es)
    → size' ≡ capped (size + capped (expr_size e)) → need' ≡ max need (capped (capped (expr_need e) + below)) → below' ≡ capped (below + 1) → count' ≡ count + 1
    → ArgsMeasured size' need' below' count' all es
args_next {size} {need} {below} {count} {all} e es size' need' below' count' m size_is need_is below_is count_is =
    let bytes = bytes_of-append (expr_code e) (args_code (arguments es)) in
    let s = m.size_is in
    let n = m.need_is in
    let f = m.size_fits in
    let g = m.need_fits in
    let b = m.below_is in
    let next : suc count ≡ count' = omega arith in
    let same : args_need (suc count) (arguments es) ≡ args_need count' (arguments es) = ap (λ (k : ℕ). args_need k (arguments es)) next in
    record { size_is = omega arith; need_is = omega arith; size_fits = omega arith; need_fits = omega arith; below_is = omega arith }

pub args_size : {size need below count : ℕ} {all : List Expression} → ArgsMeasured size need below count all [] → size ≡ capped (size_of_instrs (args_code (arguments all)))
args_size m = let s = m.size_is in let f = m.size_fits in omega arith

pub args_needs : {size need below count : ℕ} {all : List Expression} → ArgsMeasured size need below count all [] → need ≡ capped (args_need 0 (arguments all))
args_needs m = let n = m.need_is in let g = m.need_fits in omega arith

-- the whole block takes what its statements so far do, and what the rest does
pub record BlockMeasured (size need : ℕ) (all rest : List Statement) : Type 0 where
  pub size_is : capped (block_size (block all)) ≡ capped (size + block_size (block rest))
  pub need_is : capped (block_need (block all)) ≡ capped (max need (block_need (block rest)))
  pub size_fits : size ≤ 1000000000
  pub need_fits : need ≤ 1000000000

pub block_begin : (all : List Statement) → BlockMeasured 0 0 all all
block_begin all = record { size_is = omega arith; need_is = omega arith; size_fits = omega arith; need_fits = omega arith }

pub block_next : {size need : ℕ} {all : List Statement} (x : Statement) (xs : List Statement) (size' need' : ℕ) → BlockMeasured size need all (x ∷ xs)
    → size' ≡ capped (size + capped (stmt_size x)) → need' ≡ max need (capped (stmt_need x)) → BlockMeasured size' need' all xs
block_next {size} {need} {all} x xs size' need' m size_is need_is =
    let s = m.size_is in
    let n = m.need_is in
    let f = m.size_fits in
    let g = m.need_fits in
    record { size_is = omega arith; need_is = omega arith; size_fits = omega arith; need_fits = omega arith }

pub block_sizes : {size need : ℕ} {all : List Statement} → BlockMeasured size need all [] → size ≡ capped (block_size (block all))
block_sizes m = let s = m.size_is in let f = m.size_fits in omega arith

pub block_needs : {size need : ℕ} {all : List Statement} → BlockMeasured size need all [] → need ≡ capped (block_need (block all))
block_needs m = let n = m.need_is in let g = m.need_fits in omega arith

-- the bytes of code with an instruction behind it
pub capped-push : (is : List Instr) (i : Instr) (size : ℕ) → size ≡ capped (capped (size_of_instrs is) + size_of i) → size ≡ capped (size_of_instrs (is ++ i ∷ []))
capped-push is i size e = let h = bytes_of-append is (i ∷ []) in omega arith

pub capped-two : (is js : List Instr) (i : Instr) (size : ℕ) → size ≡ capped (capped (capped (size_of_instrs is) + capped (size_of_instrs js)) + size_of i)
    → size ≡ capped (size_of_instrs (is ++ (js ++ i ∷ [])))
capped-two is js i size e = let h = bytes_of-append is (js ++ i ∷ []) in let k = bytes_of-append js (i ∷ []) in omega arith

-- the sums, step by step
pub two_sizes : (all both left right l r i : ℕ) → left ≡ capped l → right ≡ capped r → both ≡ capped (left + right) → all ≡ capped (both + 1) → i ≡ 1
    → all ≡ capped (capped (capped l + capped r) + i)
two_sizes all both left right l r i left_is right_is both_is all_is one = omega arith

-- ---- steps of an extent, each where it stops at 1,000,000,000

pub capped-with : (n k a all : ℕ) → a ≡ capped n → all ≡ capped (a + k) → all ≡ capped (n + k)
capped-with n k a all a_is all_is = omega arith

pub capped-above : (n k a all : ℕ) → a ≡ capped n → all ≡ capped (a + k) → all ≡ capped (k + n)
capped-above n k a all a_is all_is = omega arith

pub capped-then : (n m a b all : ℕ) → a ≡ capped n → b ≡ capped m → all ≡ capped (a + b) → all ≡ capped (n + m)
capped-then n m a b all a_is b_is all_is = omega arith

pub capped-max : (n m a b all : ℕ) → a ≡ capped n → b ≡ capped m → all ≡ max a b → all ≡ capped (max n m)
capped-max n m a b all a_is b_is all_is = omega arith

-- the test of a `for` needs room for its limit above its variable, and its step for two values
pub for_needs : (from to body : ℕ) → max (max from (max (1 + to) 2)) body ≡ max from (max (1 + to) (max 2 body))
for_needs from to body = omega arith

-- the bytes of the jumps stand where the tree has them
pub else_bytes : (e a b : ℕ) → (e + 6) + (a + b) ≡ e + 3 + a + 3 + b
else_bytes e a b = omega arith

pub for_bytes : (from to step body : ℕ) → (from + to + step + 16) + body ≡ from + 2 + 2 + to + 1 + 3 + body + 2 + step + 1 + 2 + 3
for_bytes from to step body = omega arith

pub while_bytes : (e a : ℕ) → (e + 6) + a ≡ e + 3 + a + 3
while_bytes e a = omega arith
