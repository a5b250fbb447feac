-- The machine reads each derived expression to its end.
use Rattle.std.proofs.Common.{◌≡◌, ℕ, zero, suc, ◌+◌, ◌-◌, ◌≤◌, Bool, List, [], ◌∷◌, ◌++◌, refl, sym, ◌∙◌, ap, subst, append_assoc, arith}
use Rattle.ts_checked.specs.declared.bin_op.BinOp.{BinOp}
use Rattle.ts_checked.specs.declared.bin_op.BinOp.TheVariants as op
use Rattle.ts_trees.specs.declared.word.Word.{Word}
use Rattle.ts_trees.specs.declared.token.TokenKind.{TokenKind}
use Rattle.ts_trees.specs.declared.token.TokenKind.TheVariants as kind
use Rattle.ts_trees.specs.Tree.{Tree, number, variable, item, size, message_item, message_size, call, negative, inverse, two, paren, Trees, no_trees, tree_then}
use Rattle.ts_trees.specs.Spelling.{sign, spelled, args_spelled, more_spelled}
use Rattle.ts_trees.specs.Derived.{level, Derived, ArgsDerived}
use Rattle.ts_trees.specs.Parsing.{Holds}
use Rattle.ts_trees.proofs.Levels.{at_or, at_not, at_compare, at_sign, level_of, left_of, right_of, IsPart}
use Rattle.ts_trees.specs.Machine.{Operand, in_negative, first_product, in_product, Product, first_sum, in_sum, Sum, first_compare, in_compare, Inverse, in_inverse, first_and, in_and, Conjunction, first_or, in_or, Whole, in_paren, in_item, in_message, in_args, State, want, want_inverse, opened, have_product, have_sum, have_inverse, have_and, have, with_tree, sum_due, inverse_due, expr_due, give, other_places, run}
use Rattle.ts_trees.proofs.Placed.{word_at, left, args_left, placed, args_placed}
use Rattle.ts_trees.proofs.Turns.{after_operand, after_product, after_inverse, after_and, inverse_follows_and, sum_follows_inverse, product_follows_sum, operand_follows_product, named_is_given, product_is_sum, sum_is_compared, inverse_is_read, inverse_is_first, inverse_is_next, and_is_joined, begins_operand, begins_expr, inverse_is_operand, opened_is_due}

-- what reading an expression leads to, at each level
abbrev AtOperand : Tree → Type 0
AtOperand e = (k : Operand) (m : TokenKind) → Holds (after_operand m) → (ms : List TokenKind) (ps : List ℕ) → run (spelled e ++ m ∷ ms) ps (want k) ≡ run (m ∷ ms) (left e ps) (give k (placed e ps))

abbrev AtProduct : Tree → Type 0
AtProduct e = (k : Product) (m : TokenKind) → Holds (after_operand m) → (ms : List TokenKind) (ps : List ℕ) → run (spelled e ++ m ∷ ms) ps (want (first_product k)) ≡ run (m ∷ ms) (left e ps) (have_product (placed e ps) k)

abbrev AtSum : Tree → Type 0
AtSum e = (k : Sum) (m : TokenKind) → Holds (after_product m) → (ms : List TokenKind) (ps : List ℕ) → run (spelled e ++ m ∷ ms) ps (want (sum_due k)) ≡ run (m ∷ ms) (left e ps) (have_sum (placed e ps) k)

abbrev AtCompare : Tree → Type 0
AtCompare e = (k : Inverse) (m : TokenKind) → Holds (after_inverse m) → (ms : List TokenKind) (ps : List ℕ) → run (spelled e ++ m ∷ ms) ps (want (inverse_due k)) ≡ run (m ∷ ms) (left e ps) (have_inverse (placed e ps) k)

abbrev AtInverse : Tree → Type 0
AtInverse e = (k : Inverse) (m : TokenKind) → Holds (after_inverse m) → (ms : List TokenKind) (ps : List ℕ) → run (spelled e ++ m ∷ ms) ps (want_inverse k) ≡ run (m ∷ ms) (left e ps) (have_inverse (placed e ps) k)

abbrev AtAnd : Tree → Type 0
AtAnd e = (k : Conjunction) (m : TokenKind) → Holds (after_inverse m) → (ms : List TokenKind) (ps : List ℕ) → run (spelled e ++ m ∷ ms) ps (want_inverse (first_and k)) ≡ run (m ∷ ms) (left e ps) (have_and (placed e ps) k)

abbrev pub AtExpr : Tree → Type 0
AtExpr e = (k : Whole) (m : TokenKind) → Holds (after_and m) → (ms : List TokenKind) (ps : List ℕ) → run (spelled e ++ m ∷ ms) ps (expr_due k) ≡ run (m ∷ ms) (left e ps) (have (placed e ps) k)

abbrev At : ℕ → Tree → Type 0
At zero e = AtExpr e
At (suc zero) e = AtAnd e
At (suc (suc zero)) e = AtInverse e
At (suc (suc (suc zero))) e = AtCompare e
At (suc (suc (suc (suc zero)))) e = AtSum e
At (suc (suc (suc (suc (suc zero))))) e = AtProduct e
At (suc (suc (suc (suc (suc (suc n)))))) e = AtOperand e

-- the first token, with what is known of it
pub record Starts (P : TokenKind → Bool) (ks : List TokenKind) : Type 0 where
  pub first : TokenKind
  pub others : List TokenKind
  pub are : ks ≡ first ∷ others
  pub begins : Holds (P first)

starts : {P : TokenKind → Bool} (k : TokenKind) (ks : List TokenKind) → Holds (P k) → Starts P (k ∷ ks)
starts k ks h = record { first = k; others = ks; are = refl; begins = h }

pub starts_more : {P : TokenKind → Bool} {xs : List TokenKind} (ys : List TokenKind) → Starts P xs → Starts P (xs ++ ys)
starts_more ys s = record { first = s.first; others = s.others ++ ys; are = ap (λ z. z ++ ys) s.are; begins = s.begins }

pub starts_expr : (e : Tree) → Starts begins_expr (spelled e)
starts_expr (number n) = starts _ _ tt
starts_expr (variable w) = starts _ _ tt
starts_expr (item w e) = starts _ _ tt
starts_expr (size w) = starts _ _ tt
starts_expr (message_item e) = starts _ _ tt
starts_expr message_size = starts _ _ tt
starts_expr (call w es) = starts _ _ tt
starts_expr (negative e) = starts _ _ tt
starts_expr (inverse e) = starts _ _ tt
starts_expr (two o l r) = starts_more _ (starts_expr l)
starts_expr (paren e) = starts _ _ tt

-- the left operand of a comparison, sum or product is no looser than a comparison
left_compares : (o : BinOp) (m : ℕ) → 3 ≤ level_of o → left_of o ≤ m → 3 ≤ m
left_compares op.Or m h g = omega arith
left_compares _ m h g = omega arith

starts_operand : (e : Tree) → Derived e → IsPart at_compare e → Starts begins_operand (spelled e)
starts_operand (number n) d h = starts _ _ tt
starts_operand (variable w) d h = starts _ _ tt
starts_operand (item w e) d h = starts _ _ tt
starts_operand (size w) d h = starts _ _ tt
starts_operand (message_item e) d h = starts _ _ tt
starts_operand message_size d h = starts _ _ tt
starts_operand (call w es) d h = starts _ _ tt
starts_operand (negative e) d h = starts _ _ tt
starts_operand (inverse e) d h = absurd (omega arith)
starts_operand (two o l r) d h = starts_more _ (starts_operand l d.1 (left_compares o (level l) h d.0))
starts_operand (paren e) d h = starts _ _ tt

-- a tighter level is read as a looser one
to_product : (e : Tree) → AtOperand e → AtProduct e
to_product e f k m h ms ps = f (first_product k) m h ms ps

to_sum : (e : Tree) → AtProduct e → AtSum e
to_sum e f k m h ms ps = f (first_sum k) m (operand_follows_product m h) ms ps ∙ product_is_sum (placed e ps) (first_sum k) m h ms (left e ps)

to_compare : (e : Tree) → AtSum e → AtCompare e
to_compare e f k m h ms ps = f (first_compare k) m (product_follows_sum m (sum_follows_inverse m h)) ms ps ∙ sum_is_compared (placed e ps) (first_compare k) m h ms (left e ps)

begun_operand : {ks : List TokenKind} → Starts begins_operand ks → (k : Inverse) (ms : List TokenKind) (ps : List ℕ) → run (ks ++ ms) ps (want_inverse k) ≡ run (ks ++ ms) ps (want (inverse_due k))
begun_operand s k ms ps =
    let e = ap (λ z. z ++ ms) s.are in
    ap (λ z. run z ps (want_inverse k)) e ∙ inverse_is_operand k s.first s.begins (s.others ++ ms) ps ∙ sym (ap (λ z. run z ps (want (inverse_due k))) e)

to_inverse : (e : Tree) → Starts begins_operand (spelled e) → AtCompare e → AtInverse e
to_inverse e s f k m h ms ps = begun_operand s k (m ∷ ms) ps ∙ f k m h ms ps

to_and : (e : Tree) → AtInverse e → AtAnd e
to_and e f k m h ms ps = f (first_and k) m h ms ps ∙ inverse_is_first (placed e ps) k (m ∷ ms) (left e ps)

to_expr : (e : Tree) → AtAnd e → AtExpr e
to_expr e f k m h ms ps = f (first_or k) m (inverse_follows_and m h) ms ps ∙ and_is_joined (placed e ps) (first_or k) m h ms (left e ps)

looser : (e : Tree) (n : ℕ) → (3 ≤ suc n → Starts begins_operand (spelled e)) → At (suc n) e → At n e
looser e zero s w = to_expr e w
looser e (suc zero) s w = to_and e w
looser e (suc (suc zero)) s w = to_inverse e (s (omega arith)) w
looser e (suc (suc (suc zero))) s w = to_compare e w
looser e (suc (suc (suc (suc zero)))) s w = to_sum e w
looser e (suc (suc (suc (suc (suc zero))))) s w = to_product e w
looser e (suc (suc (suc (suc (suc (suc n)))))) s w = w

lower : (e : Tree) (k n m : ℕ) → m ≡ n + k → (3 ≤ m → Starts begins_operand (spelled e)) → At m e → At n e
lower e zero n m p s w = subst (λ l. At l e) (omega arith) w
lower e (suc k) n m p s w = looser e n (λ h. s (omega arith)) (lower e k (suc n) m (omega arith) s w)

below : (e : Tree) (m n : ℕ) → n ≤ m → (3 ≤ m → Starts begins_operand (spelled e)) → At m e → At n e
below e m n h s w = lower e (m - n) n m (omega arith) s w

-- an operator between its operands, by its level
regroup : (o : BinOp) (l r : Tree) (m : TokenKind) (ms : List TokenKind) → spelled (two o l r) ++ m ∷ ms ≡ spelled l ++ (sign o ∷ (spelled r ++ m ∷ ms))
regroup o l r m ms = append_assoc (spelled l) (sign o ∷ spelled r) (m ∷ ms)

or_read : (l r : Tree) → AtExpr l → AtAnd r → AtExpr (two op.Or l r)
or_read l r f g k m h ms ps =
    ap (λ z. run z ps (expr_due k)) (regroup op.Or l r m ms) ∙ f k kind.Or tt (spelled r ++ m ∷ ms) ps
    ∙ g (in_or (placed l ps) k) m (inverse_follows_and m h) ms (left l ps) ∙ and_is_joined (placed r (left l ps)) (in_or (placed l ps) k) m h ms (left r (left l ps))

and_read : (l r : Tree) → AtAnd l → AtInverse r → AtAnd (two op.And l r)
and_read l r f g k m h ms ps =
    ap (λ z. run z ps (want_inverse (first_and k))) (regroup op.And l r m ms) ∙ f k kind.And tt (spelled r ++ m ∷ ms) ps
    ∙ g (in_and (placed l ps) k) m h ms (left l ps) ∙ inverse_is_next (placed l ps) (placed r (left l ps)) k (m ∷ ms) (left r (left l ps))

-- a comparison's sign leads from its left operand to its right one
Compares : BinOp → Type 0
Compares o = (e : Tree) (k : Inverse) (ms : List TokenKind) (ps : List ℕ) → run (sign o ∷ ms) ps (have_sum e (first_compare k)) ≡ run ms ps (want (sum_due (in_compare o e k)))

compare_read : (o : BinOp) → Compares o → Holds (after_product (sign o)) → (l r : Tree) → AtSum l → AtSum r → AtCompare (two o l r)
unfolding Compares
compare_read o c s l r f g k m h ms ps =
    ap (λ z. run z ps (want (inverse_due k))) (regroup o l r m ms) ∙ f (first_compare k) (sign o) s (spelled r ++ m ∷ ms) ps
    ∙ c (placed l ps) k (spelled r ++ m ∷ ms) (left l ps)
    ∙ g (in_compare o (placed l ps) k) m (product_follows_sum m (sum_follows_inverse m h)) ms (left l ps)
    ∙ sum_is_compared (placed r (left l ps)) (in_compare o (placed l ps) k) m h ms (left r (left l ps))

Adds : BinOp → Type 0
Adds o = (e : Tree) (k : Sum) (ms : List TokenKind) (ps : List ℕ) → run (sign o ∷ ms) ps (have_sum e k) ≡ run ms ps (want (first_product (in_sum o e k)))

sum_read : (o : BinOp) → Adds o → Holds (after_product (sign o)) → (l r : Tree) → AtSum l → AtProduct r → AtSum (two o l r)
unfolding Adds
sum_read o c s l r f g k m h ms ps =
    ap (λ z. run z ps (want (sum_due k))) (regroup o l r m ms) ∙ f k (sign o) s (spelled r ++ m ∷ ms) ps
    ∙ c (placed l ps) k (spelled r ++ m ∷ ms) (left l ps)
    ∙ g (in_sum o (placed l ps) k) m (operand_follows_product m h) ms (left l ps)
    ∙ product_is_sum (placed r (left l ps)) (in_sum o (placed l ps) k) m h ms (left r (left l ps))

Multiplies : BinOp → Type 0
Multiplies o = (e : Tree) (k : Product) (ms : List TokenKind) (ps : List ℕ) → run (sign o ∷ ms) ps (have_product e k) ≡ run ms ps (want (in_product o e k))

product_read : (o : BinOp) → Multiplies o → Holds (after_operand (sign o)) → (l r : Tree) → AtProduct l → AtOperand r → AtProduct (two o l r)
unfolding Multiplies
product_read o c s l r f g k m h ms ps =
    ap (λ z. run z ps (want (first_product k))) (regroup o l r m ms) ∙ f k (sign o) s (spelled r ++ m ∷ ms) ps
    ∙ c (placed l ps) k (spelled r ++ m ∷ ms) (left l ps)
    ∙ g (in_product o (placed l ps) k) m h ms (left l ps)

two_read : (o : BinOp) (l r : Tree) → At (left_of o) l → At (right_of o) r → At (level_of o) (two o l r)
unfolding Compares Adds Multiplies
two_read op.Or l r f g = or_read l r f g
two_read op.And l r f g = and_read l r f g
two_read op.Eq l r f g = compare_read op.Eq (λ e k ms ps. refl) tt l r f g
two_read op.Ne l r f g = compare_read op.Ne (λ e k ms ps. refl) tt l r f g
two_read op.Lt l r f g = compare_read op.Lt (λ e k ms ps. refl) tt l r f g
two_read op.Gt l r f g = compare_read op.Gt (λ e k ms ps. refl) tt l r f g
two_read op.Le l r f g = compare_read op.Le (λ e k ms ps. refl) tt l r f g
two_read op.Ge l r f g = compare_read op.Ge (λ e k ms ps. refl) tt l r f g
two_read op.Add l r f g = sum_read op.Add (λ e k ms ps. refl) tt l r f g
two_read op.Sub l r f g = sum_read op.Sub (λ e k ms ps. refl) tt l r f g
two_read op.Mul l r f g = product_read op.Mul (λ e k ms ps. refl) tt l r f g
two_read op.Div l r f g = product_read op.Div (λ e k ms ps. refl) tt l r f g
two_read op.Rem l r f g = product_read op.Rem (λ e k ms ps. refl) tt l r f g

-- ---- the arguments of a call, where K is their place and E what they lead to

-- arguments, behind others
abbrev pub with_trees : Trees → Trees → Trees
with_trees acc no_trees = acc
with_trees acc (tree_then e es) = with_trees (with_tree acc e) es

-- each argument is read
abbrev pub AllAt : Trees → Type 0
AllAt no_trees = Unit {0}
AllAt (tree_then e es) = AtExpr e × AllAt es

module _ (K : Trees → Whole) (E : Trees → State) (comma : (e : Tree) (acc : Trees) (ms : List TokenKind) (ps : List ℕ) → run (kind.Comma ∷ ms) ps (have e (K acc)) ≡ run ms ps (expr_due (K (with_tree acc e)))) (close : (e : Tree) (acc : Trees) (ms : List TokenKind) (ps : List ℕ) → run (kind.Close ∷ ms) ps (have e (K acc)) ≡ run ms ps (E (with_tree acc e))) where
  -- behind an argument
  more_read : (e : Tree) (acc : Trees) (es : Trees) → AllAt es → (ms : List TokenKind) (ps : List ℕ) →
      run (more_spelled es ++ kind.Close ∷ ms) ps (have e (K acc)) ≡ run ms (args_left es ps) (E (with_trees (with_tree acc e) (args_placed es ps)))
  more_read e acc no_trees f ms ps = close e acc ms ps
  more_read e acc (tree_then d no_trees) f ms ps =
      comma e acc ((spelled d ++ []) ++ kind.Close ∷ ms) ps
      ∙ ap (λ z. run z ps (expr_due (K (with_tree acc e)))) (append_assoc (spelled d) [] (kind.Close ∷ ms))
      ∙ f.0 (K (with_tree acc e)) kind.Close tt ms ps
      ∙ close (placed d ps) (with_tree acc e) ms (left d ps)
  more_read e acc (tree_then d (tree_then c es)) f ms ps =
      comma e acc ((spelled d ++ more_spelled (tree_then c es)) ++ kind.Close ∷ ms) ps
      ∙ ap (λ z. run z ps (expr_due (K (with_tree acc e)))) (append_assoc (spelled d) (more_spelled (tree_then c es)) (kind.Close ∷ ms))
      ∙ f.0 (K (with_tree acc e)) kind.Comma tt ((spelled c ++ more_spelled es) ++ kind.Close ∷ ms) ps
      ∙ more_read (placed d ps) (with_tree acc e) (tree_then c es) f.1 ms (left d ps)

  -- from the first argument on
  pub first_read : (e : Tree) (es : Trees) → AtExpr e → AllAt es → (ms : List TokenKind) (ps : List ℕ) →
      run (args_spelled (tree_then e es) ++ kind.Close ∷ ms) ps (expr_due (K no_trees)) ≡ run ms (args_left es (left e ps)) (E (with_trees (tree_then (placed e ps) no_trees) (args_placed es (left e ps))))
  first_read e no_trees f g ms ps =
      ap (λ z. run z ps (expr_due (K no_trees))) (append_assoc (spelled e) [] (kind.Close ∷ ms))
      ∙ f (K no_trees) kind.Close tt ms ps ∙ close (placed e ps) no_trees ms (left e ps)
  first_read e (tree_then c es) f g ms ps =
      ap (λ z. run z ps (expr_due (K no_trees))) (append_assoc (spelled e) (more_spelled (tree_then c es)) (kind.Close ∷ ms))
      ∙ f (K no_trees) kind.Comma tt ((spelled c ++ more_spelled es) ++ kind.Close ∷ ms) ps
      ∙ more_read (placed e ps) no_trees (tree_then c es) g ms (left e ps)

with_trees_cons : (d : Tree) (acc es : Trees) → with_trees (tree_then d acc) es ≡ tree_then d (with_trees acc es)
with_trees_cons d acc no_trees = refl
with_trees_cons d acc (tree_then e es) = with_trees_cons d (with_tree acc e) es

pub with_trees_none : (es : Trees) → with_trees no_trees es ≡ es
with_trees_none no_trees = refl
with_trees_none (tree_then e es) = with_trees_cons e no_trees es ∙ ap (λ z. tree_then e z) (with_trees_none es)

pub with_trees_one : (e : Tree) (es : Trees) → with_trees (tree_then e no_trees) es ≡ tree_then e es
with_trees_one e es = with_trees_cons e no_trees es ∙ ap (λ z. tree_then e z) (with_trees_none es)

-- an expression in brackets, before what follows
closing : (e : Tree) → AtExpr e → (k : Whole) (c m : TokenKind) → Holds (after_and c) → (ms : List TokenKind) (ps : List ℕ) →
    run ((spelled e ++ c ∷ []) ++ m ∷ ms) ps (expr_due k) ≡ run (c ∷ m ∷ ms) (left e ps) (have (placed e ps) k)
closing e f k c m h ms ps = ap (λ z. run z ps (expr_due k)) (append_assoc (spelled e) (c ∷ []) (m ∷ ms)) ∙ f k c h (m ∷ ms) ps

-- where the first argument is due
begun_args : (w : Word) (k : Operand) (e : Tree) (es : Trees) (ms : List TokenKind) (ps : List ℕ) →
    run (args_spelled (tree_then e es) ++ ms) ps (opened w k) ≡ run (args_spelled (tree_then e es) ++ ms) ps (expr_due (in_args w no_trees k))
begun_args w k e es ms ps =
    let s : Starts begins_expr (args_spelled (tree_then e es)) = starts_more (more_spelled es) (starts_expr e) in
    let i = ap (λ z. z ++ ms) s.are in
    ap (λ z. run z ps (opened w k)) i ∙ opened_is_due w k s.first s.begins (s.others ++ ms) ps ∙ sym (ap (λ z. run z ps (expr_due (in_args w no_trees k))) i)

call_read : (w : Word) (es : Trees) → AllAt es → (k : Operand) (m : TokenKind) (ms : List TokenKind) (ps : List ℕ) →
    run ((args_spelled es ++ kind.Close ∷ []) ++ m ∷ ms) ps (opened w k) ≡ run (m ∷ ms) (args_left es ps) (give k (call w (args_placed es ps)))
call_read w no_trees f k m ms ps = refl
call_read w (tree_then e es) f k m ms ps =
    ap (λ z. run z ps (opened w k)) (append_assoc (args_spelled (tree_then e es)) (kind.Close ∷ []) (m ∷ ms))
    ∙ begun_args w k e es (kind.Close ∷ m ∷ ms) ps
    ∙ first_read (λ acc. in_args w acc k) (λ acc. give k (call w acc)) (λ d acc ns qs. refl) (λ d acc ns qs. refl) e es f.0 f.1 (m ∷ ms) ps
    ∙ ap (λ z. run (m ∷ ms) (args_left es (left e ps)) (give k (call w z))) (with_trees_one (placed e ps) (args_placed es (left e ps)))

-- each expression is read at its level
mutual
  own : (e : Tree) → Derived e → At (level e) e
  own (number n) d = λ k m h ms ps. refl
  own (variable w) d = λ k m h ms ps. named_is_given (word_at w ps) k m h ms (other_places ps)
  own (item w e) d = λ k m h ms ps. closing e (below e (level e) at_or (omega arith) (starts_operand e d) (own e d)) (in_item (word_at w ps) k) kind.CloseBox m tt ms (other_places ps)
  own (size w) d = λ k m h ms ps. refl
  own (message_item e) d = λ k m h ms ps. closing e (below e (level e) at_or (omega arith) (starts_operand e d) (own e d)) (in_message k) kind.CloseBox m tt ms ps
  own message_size d = λ k m h ms ps. refl
  own (call w es) d = λ k m h ms ps. call_read (word_at w ps) es (own_all es d) k m ms (other_places ps)
  own (negative e) d = λ k m h ms ps. below e (level e) at_sign d.0 (starts_operand e d.1) (own e d.1) (in_negative k) m h ms ps
  own (inverse e) d = λ k m h ms ps. below e (level e) at_not d.0 (starts_operand e d.1) (own e d.1) (in_inverse k) m h ms ps ∙ inverse_is_read (placed e ps) k (m ∷ ms) (left e ps)
  own (two o l r) d = two_read o l r (below l (level l) (left_of o) d.0 (starts_operand l d.1) (own l d.1)) (below r (level r) (right_of o) d.2 (starts_operand r d.3) (own r d.3))
  own (paren e) d = λ k m h ms ps. closing e (below e (level e) at_or (omega arith) (starts_operand e d) (own e d)) (in_paren k) kind.Close m tt ms ps

  pub own_all : (es : Trees) → ArgsDerived es → AllAt es
  own_all no_trees d = tt
  own_all (tree_then e es) d = (below e (level e) at_or (omega arith) (starts_operand e d.0) (own e d.0), own_all es d.1)

-- a derived expression is read
pub expr_read : (e : Tree) → Derived e → AtExpr e
expr_read e d = below e (level e) at_or (omega arith) (starts_operand e d) (own e d)
