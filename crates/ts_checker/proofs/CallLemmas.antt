-- A call whose function was found, case by case.
use Rattle.std.proofs.Common.{◌≡◌, ℕ, suc, ◌==◌, Bool, true, false, List, [], ◌∷◌, length, get_or, Option, Result, Ok, Err, refl, ap, sym, ◌∙◌, arith, ◌<◌, ◌≤◌}
use Rattle.std.specs.Int.{w16, int_wrap, cast_signed}
use Rattle.std.specs.Prelude.{pos, ◌%◌}
use Rattle.std.proofs.lemmas.Bool.{eq-eqb, ne_eqb}
use Rattle.mate_num.specs.Number.{wrap}
use Rattle.mate_num.specs.declared.id.FunId.{FunId}
use Rattle.vm_shape.specs.Limits.{function_args}
use Rattle.vm_shape.specs.Shapes.{sends_buffer}
use Rattle.vm_shape.specs.declared.function.FunKind.{FunKind}
use Rattle.ts_checked.specs.Expression.{Arguments}
use Rattle.ts_trees.specs.Seen.{tree_of, trees_of}
use Rattle.ts_trees.specs.declared.expr.Expr.{Expr}
use Rattle.ts_trees.specs.declared.word.Word.{Word}
use Rattle.ts_checker.specs.declared.fault.CheckFault.{CheckFault}
use Rattle.ts_checker.specs.declared.fault.CheckFault.TheVariants.{Arity, Kind}
use Rattle.mate_num.specs.Results.{◌>>=◌}
use Rattle.ts_checker.specs.Names.{ScriptNames, function}
use Rattle.ts_checker.specs.Checks.{calls, sends, name_alone, sent_name, sent, tree_count, checked_call}

-- a literal of at most 65535, read as a 16-bit number
pub wrap-literal : (n : ℕ) → n < 65536 → cast_signed w16 n ≡ wrap (pos n)
unfolding int_wrap
wrap-literal n small = let e : n ≡ n % 65536 = omega arith in ap (cast_signed w16) e

pub tree_count-trees_of : (es : List Expr) → tree_count (trees_of es) ≡ length es
tree_count-trees_of [] = refl
tree_count-trees_of (e ∷ es) = ap suc (tree_count-trees_of es)

-- a call that isn't of one argument sends no buffer
pub sent_other : (n : ScriptNames) (place : ℕ) (es : List Expr) → (length es ≡ 1 → ⊥) → Err (Arity place) ≡ sent n place (trees_of es)
sent_other n place [] other = refl
sent_other n place (e ∷ []) other = absurd (other refl)
sent_other n place (e ∷ (d ∷ es)) other = refl

-- a call of one argument sends the buffer of the name that it is
pub sent_one : (n : ScriptNames) (place : ℕ) (es : List Expr) (arg : Expr) (o : Option Word) → 1 ≤ length es → length es < 2 → arg ≡ get_or es 0 arg → o ≡ name_alone (tree_of arg)
    → sent_name n place o ≡ sent n place (trees_of es)
sent_one n place [] arg o some few is named = absurd (omega (arith, some))
sent_one n place (e ∷ []) arg o some few is named = ap (sent_name n place) (named ∙ ap (λ x. name_alone (tree_of x)) is)
sent_one n place (e ∷ (d ∷ es)) arg o some few is named = absurd (omega (arith, few))

-- the arguments of a function that sends no buffer are counted, and then checked
pub call_counted : (n : ScriptNames) (allowed : Bool) (w : Word) (es : List Expr) (args : Result Arguments CheckFault) (f : FunId × FunKind)
    → function n w ≡ Ok f → allowed ≡ true → sends_buffer f.1 ≡ false → length es ≡ function_args f.1
    → checked_call n allowed w (trees_of es) args ≡ (args >>= (λ checked. Ok (calls f.0 checked)))
call_counted n allowed w es args f found here plain same =
    let counted : (tree_count (trees_of es) == function_args f.1) ≡ true = eq-eqb (tree_count (trees_of es)) (function_args f.1) (tree_count-trees_of es ∙ same) in
    rw (found, here, plain, counted) refl

pub call_miscounted : (n : ScriptNames) (allowed : Bool) (w : Word) (es : List Expr) (args : Result Arguments CheckFault) (f : FunId × FunKind)
    → function n w ≡ Ok f → allowed ≡ true → sends_buffer f.1 ≡ false → (length es ≡ function_args f.1 → ⊥)
    → checked_call n allowed w (trees_of es) args ≡ Err (Arity w.place)
call_miscounted n allowed w es args f found here plain other =
    let counted : (tree_count (trees_of es) == function_args f.1) ≡ false =
    ne_eqb (tree_count (trees_of es)) (function_args f.1) (λ e. other (sym (tree_count-trees_of es) ∙ e)) in
    rw (found, here, plain, counted) refl

-- a function that isn't found, and a call where none is allowed
pub call_unfound : (n : ScriptNames) (allowed : Bool) (w : Word) (es : List Expr) (args : Result Arguments CheckFault) (e : CheckFault)
    → function n w ≡ Err e → checked_call n allowed w (trees_of es) args ≡ Err e
call_unfound n allowed w es args e missing = rw missing refl

pub call_barred : (n : ScriptNames) (allowed : Bool) (w : Word) (es : List Expr) (args : Result Arguments CheckFault) (f : FunId × FunKind)
    → function n w ≡ Ok f → allowed ≡ false → checked_call n allowed w (trees_of es) args ≡ Err (Kind w.place)
call_barred n allowed w es args f found here = rw (found, here) refl

-- a function that sends a buffer
pub call_sends : (n : ScriptNames) (allowed : Bool) (w : Word) (es : List Expr) (args : Result Arguments CheckFault) (f : FunId × FunKind)
    → function n w ≡ Ok f → allowed ≡ true → sends_buffer f.1 ≡ true
    → checked_call n allowed w (trees_of es) args ≡ (sent n w.place (trees_of es) >>= (λ p. Ok (sends f.0 p)))
call_sends n allowed w es args f found here sending = rw (found, here, sending) refl
