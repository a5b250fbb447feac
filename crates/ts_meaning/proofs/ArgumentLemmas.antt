-- The values of arguments, gathered one after another.
use Rattle.std.proofs.Common.{◌≡◌, ℕ, zero, suc, ◌+◌, ◌<◌, ℤ, List, [], ◌∷◌, ◌++◌, length, get_or, take, drop, map, ◌≤◌, subst, refl, ap, sym, ◌∙◌, append_assoc}
use Rattle.std.proofs.Math.Seq.{take-append_seam}
use Rattle.std.proofs.lemmas.List.{append-nil, take_all, drop_more, drop_all}
use Rattle.arrayvec.specs.ArrayVec.{ArrayVec}
use Rattle.mate_num.specs.declared.call.End.{End}
use Rattle.ts_checked.specs.Expression.{Expression, Arguments, argument, arguments}
use Rattle.ts_checked.specs.TreeOf.{expr_tree}
use Rattle.ts_checked.specs.declared.checked_expr.CExpr.{CExpr}
use Rattle.ts_semantics.specs.State.{ScriptState, Evaluation, Done, Over, then_do, first_ten}
use Rattle.ts_semantics.specs.Meaning.{value_of, values_of}

-- the values so far, and those that the outcome gives
abbrev pub gathered : List ℤ → Evaluation (List ℤ) → Evaluation (ArrayVec ℤ)
gathered xs o = then_do o (λ values s. Done (first_ten (xs ++ values)) s)

take-take_append : (n : ℕ) (xs ys : List ℤ) → take n (take n xs ++ ys) ≡ take n (xs ++ ys)
take-take_append zero xs ys = refl
take-take_append (suc n) [] ys = refl
take-take_append (suc n) (x ∷ xs) ys = ap (λ (zs : List ℤ). x ∷ zs) (take-take_append n xs ys)

first_ten-next : (xs ys rest : List ℤ) (v : ℤ) → record { items = ys } ≡ first_ten (xs ++ v ∷ []) → first_ten (ys ++ rest) ≡ first_ten (xs ++ v ∷ rest)
first_ten-next xs ys rest v e =
    ap (λ (p : ArrayVec ℤ). first_ten (p.items ++ rest)) e
    ∙ ap (λ (zs : List ℤ). record { items = zs }) (take-take_append 10 (xs ++ v ∷ []) rest)
    ∙ ap first_ten (append_assoc xs (v ∷ []) rest)

gathered-cons : (xs ys : List ℤ) (v : ℤ) (o : Evaluation (List ℤ)) → record { items = ys } ≡ first_ten (xs ++ v ∷ [])
    → gathered xs (then_do o (λ values s. Done (v ∷ values) s)) ≡ gathered ys o
gathered-cons xs ys v (Done values s) e = ap (λ (p : ArrayVec ℤ). Done p s) (sym (first_ten-next xs ys values v e))
gathered-cons xs ys v (Over end s) e = refl

-- after the next value
pub gathered_next : (xs ys : List ℤ) (e : Expression) (es : Arguments) (s after : ScriptState) (v : ℤ) → value_of e s ≡ Done v after
    → record { items = ys } ≡ first_ten (xs ++ v ∷ []) → gathered xs (values_of (argument e es) s) ≡ gathered ys (values_of es after)
gathered_next xs ys e es s after v gives fits =
    ap (λ (o : Evaluation ℤ). gathered xs (then_do o (λ a s. then_do (values_of es s) (λ values s. Done (a ∷ values) s)))) gives
    ∙ gathered-cons xs ys v (values_of es after) fits

-- where the next argument ends the run
pub gathered_over : (xs : List ℤ) (e : Expression) (es : Arguments) (s after : ScriptState) (end : End) → value_of e s ≡ Over end after
    → gathered xs (values_of (argument e es) s) ≡ Over end after
gathered_over xs e es s after end gives =
    ap (λ (o : Evaluation ℤ). gathered xs (then_do o (λ a s. then_do (values_of es s) (λ values s. Done (a ∷ values) s)))) gives

take-full : (n : ℕ) (xs ys : List ℤ) → n ≡ length xs → take n (xs ++ ys) ≡ xs
take-full n xs ys e = let P : ℕ → Type 0 = λ m. take m (xs ++ ys) ≡ xs in subst P (sym e) (take-append_seam xs ys)

-- one more than ten have no room
pub first_ten-full : (p : ArrayVec ℤ) (v : ℤ) → length p.items ≡ 10 → p ≡ first_ten (p.items ++ v ∷ [])
first_ten-full p v e = ap (λ (zs : List ℤ). record { items = zs }) (sym (take-full 10 p.items (v ∷ []) (sym e)))

pub ruleset full = (first_ten-full)

-- where no argument is left
pub gathered_all : (p : ArrayVec ℤ) (s : ScriptState) → length p.items ≤ 10 → gathered p.items (Done [] s) ≡ Done p s
gathered_all p s h = ap (λ (zs : List ℤ). Done (record { items = zs }) s) (ap (take 10) (append-nil p.items) ∙ take_all 10 p.items h)

-- the same at a place of a list of arguments
module _ (items : List CExpr) (i : ℕ) where
  pub gathered_item : (item : CExpr) (xs ys : List ℤ) (v : ℤ) (s after : ScriptState) → item ≡ get_or items i item → i < length items
      → value_of (expr_tree item) s ≡ Done v after → record { items = ys } ≡ first_ten (xs ++ v ∷ [])
      → gathered xs (values_of (arguments (map expr_tree (drop i items))) s) ≡ gathered ys (values_of (arguments (map expr_tree (drop (i + 1) items))) after)
  gathered_item item xs ys v s after is within gives fits =
      ap (λ (zs : List CExpr). gathered xs (values_of (arguments (map expr_tree zs)) s))
      (drop_more items i item within ∙ ap (λ (e : CExpr). e ∷ drop (i + 1) items) (sym is))
      ∙ gathered_next xs ys (expr_tree item) (arguments (map expr_tree (drop (i + 1) items))) s after v gives fits

  pub gathered_end : (p : ArrayVec ℤ) (s : ScriptState) → length items ≤ i → length p.items ≤ 10
      → gathered p.items (values_of (arguments (map expr_tree (drop i items))) s) ≡ Done p s
  gathered_end p s past fits =
      ap (λ (zs : List CExpr). gathered p.items (values_of (arguments (map expr_tree zs)) s)) (drop_all i items past) ∙ gathered_all p s fits

pub ruleset gathering = (gathered_next, gathered_over, gathered_all)
