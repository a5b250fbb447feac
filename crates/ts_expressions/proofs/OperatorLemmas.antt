-- Reading operators: a sign that lengthens a part, and a part that no sign lengthens.
use Rattle.std.proofs.Common.{◌≡◌, ℕ, List, [], ◌∷◌, Option, Some, None, refl, sym, ◌∙◌, ap}
use Rattle.ts_checked.specs.declared.bin_op.BinOp.{BinOp}
use Rattle.ts_trees.specs.declared.token.Token.{Token}
use Rattle.ts_trees.specs.declared.token.TokenKind.{TokenKind}
use Rattle.ts_trees.specs.declared.token.TokenKind.TheVariants as kind
use Rattle.ts_trees.specs.Parsing.{Holds, reads, Starts, StartsOperator, Lacks, LacksOperator}
use Rattle.ts_trees.specs.Tree.{Tree, two}
use Rattle.ts_trees.specs.Code.{kind_code}
use Rattle.ts_trees.specs.Machine.{Product, first_sum, in_product, in_sum, Sum, first_compare, Inverse, in_compare, Conjunction, first_or, in_or, first_and, first_product, Whole, State, want, want_inverse, sum_due, have_product, have_sum, have_inverse, have_and, have, product_sign, sum_sign, comparison_sign, lengthened, give_inverse, give_sum, give_product, step, finish}
use Rattle.ts_trees.proofs.Turns.{summed, summed_step, summed_size, sum_step, compare_step, joined, joined_size}
use Rattle.ts_trees.proofs.Reading.{is_plain, sign_read, alike_at, alike_end}

no_sign : {o : BinOp} → None ≡ Some o → ⊥
no_sign h = cc

plain_sign : (f : TokenKind → Option BinOp) → ((n : List ℕ) → f (kind.Name n) ≡ None) → ((n : ℕ) → f (kind.Num n) ≡ None) → f kind.Step ≡ None
    → (m : TokenKind) {o : BinOp} → f m ≡ Some o → Holds (is_plain m)
plain_sign f of_name of_num of_step (kind.Name n) h = absurd (no_sign (sym (of_name n) ∙ h))
plain_sign f of_name of_num of_step (kind.Num n) h = absurd (no_sign (sym (of_num n) ∙ h))
plain_sign f of_name of_num of_step kind.Step h = absurd (no_sign (sym of_step ∙ h))
plain_sign f of_name of_num of_step _ h = tt

-- the sign of an operator is taken
operator_read : (f : TokenKind → Option BinOp) → ((n : List ℕ) → f (kind.Name n) ≡ None) → ((n : ℕ) → f (kind.Num n) ≡ None) → f kind.Step ≡ None
    → {o : BinOp} {ts rest : List Token} → (s : StartsOperator f o ts rest) → (q r : State) → ((n : ℕ) → step q s.token.kind n ≡ Some r) → reads ts q ≡ reads rest r
operator_read f of_name of_num of_step s q r e =
    sign_read s.token.kind (record { token = s.token; are = s.are; kind = refl }) (plain_sign f of_name of_num of_step s.token.kind s.operator) q r e

-- `*`, `/` and `%`
pub product_read : (e : Tree) (k : Product) {o : BinOp} {ts rest : List Token} → StartsOperator product_sign o ts rest → reads ts (have_product e k) ≡ reads rest (want (in_product o e k))
product_read e k {o} s =
    operator_read product_sign (λ n. refl) (λ n. refl) refl s (have_product e k) (want (in_product o e k))
    (λ n. ap (λ (x : Option BinOp). lengthened x (λ p. want (in_product p e k)) (give_product e k s.token.kind n)) s.operator)

-- `+` and `-`
pub sum_read : (e : Tree) (k : Sum) {o : BinOp} {ts rest : List Token} → StartsOperator sum_sign o ts rest → reads ts (have_sum e k) ≡ reads rest (want (first_product (in_sum o e k)))
sum_read e k {o} s =
    operator_read sum_sign (λ n. refl) (λ n. refl) refl s (have_sum e k) (want (first_product (in_sum o e k)))
    (λ n. ap (λ (x : Option BinOp). lengthened x (λ p. want (first_product (in_sum p e k))) (give_sum e k s.token.kind n)) s.operator)

-- `or`
pub or_read : (e : Tree) (k : Whole) {ts rest : List Token} → Starts kind.Or ts rest → reads ts (have e k) ≡ reads rest (want_inverse (first_and (in_or e k)))
or_read e k s = sign_read kind.Or s tt (have e k) (want_inverse (first_and (in_or e k))) (λ p. refl)

-- a product that no sign lengthens
summed_end : (e : Tree) (k : Product) → finish (have_product e k) ≡ finish (summed e k)
summed_end e (first_sum k) = refl
summed_end e (in_sum o l k) = refl

pub product_over : (e : Tree) (k : Product) (ts : List Token) → LacksOperator product_sign ts → reads ts (have_product e k) ≡ reads ts (summed e k)
product_over e k [] h = alike_end (have_product e k) (summed e k) (summed_end e k)
product_over e k (t ∷ ts) h = alike_at t ts (have_product e k) (summed e k) (summed_step e k t.kind h) (summed_size e k)

-- a conjunction that no `and` lengthens
joined_left : (e : Tree) (k : Conjunction) (m : TokenKind) → (kind_code m ≡ kind_code kind.And → ⊥) → (p : ℕ) → step (have_and e k) m p ≡ step (joined e k) m p
joined_left e k kind.And h p = absurd (h refl)
joined_left e (first_or k) m h p = refl
joined_left e (in_or l k) m h p = refl

joined_end : (e : Tree) (k : Conjunction) → finish (have_and e k) ≡ finish (joined e k)
joined_end e (first_or k) = refl
joined_end e (in_or l k) = refl

pub and_over : (e : Tree) (k : Conjunction) (ts : List Token) → Lacks kind.And ts → reads ts (have_and e k) ≡ reads ts (joined e k)
and_over e k [] h = alike_end (have_and e k) (joined e k) (joined_end e k)
and_over e k (t ∷ ts) h = alike_at t ts (have_and e k) (joined e k) (joined_left e k t.kind h) (joined_size e k)

-- a sum that no sign lengthens: behind a comparison's sign, or first
pub sum_over : (o : BinOp) (l e : Tree) (k : Inverse) (ts : List Token) → LacksOperator sum_sign ts → reads ts (have_sum e (in_compare o l k)) ≡ reads ts (have_inverse (two o l e) k)
sum_over o l e k [] h = alike_end (have_sum e (in_compare o l k)) (have_inverse (two o l e) k) refl
sum_over o l e k (t ∷ ts) h = alike_at t ts (have_sum e (in_compare o l k)) (have_inverse (two o l e) k) (sum_step e (in_compare o l k) t.kind h) refl

pub sum_alone : (e : Tree) (k : Inverse) (ts : List Token) → LacksOperator sum_sign ts → LacksOperator comparison_sign ts → reads ts (have_sum e (first_compare k)) ≡ reads ts (have_inverse e k)
sum_alone e k [] h g = alike_end (have_sum e (first_compare k)) (have_inverse e k) refl
sum_alone e k (t ∷ ts) h g = alike_at t ts (have_sum e (first_compare k)) (have_inverse e k) (λ p. sum_step e (first_compare k) t.kind h p ∙ compare_step e k t.kind g p) refl

comparison_is_no_sum : (m : TokenKind) {o : BinOp} → comparison_sign m ≡ Some o → sum_sign m ≡ None
comparison_is_no_sum kind.Plus h = absurd (no_sign h)
comparison_is_no_sum kind.Minus h = absurd (no_sign h)
comparison_is_no_sum _ h = refl

-- a sign of a comparison, behind a sum that no sign lengthens
pub comparison_sign_read : (e : Tree) (k : Inverse) {o : BinOp} {ts rest : List Token} → StartsOperator comparison_sign o ts rest → reads ts (have_sum e (first_compare k)) ≡ reads rest (want (sum_due (in_compare o e k)))
comparison_sign_read e k {o} s =
    operator_read comparison_sign (λ n. refl) (λ n. refl) refl s (have_sum e (first_compare k)) (want (sum_due (in_compare o e k)))
    (λ n. sum_step e (first_compare k) s.token.kind (comparison_is_no_sum s.token.kind s.operator) n
    ∙ ap (λ (x : Option BinOp). lengthened x (λ p. want (sum_due (in_compare p e k))) (give_inverse e k s.token.kind n)) s.operator)
