-- How a part of a run that is done came about, and how many arguments a call gets.
use Rattle.std.proofs.Common.{◌≡◌, suc, ℤ, List, [], ◌∷◌, length, refl, ap, ◌∙◌}
use Rattle.ts_checked.specs.Expression.{Arguments, no_arguments, argument}
use Rattle.ts_checked.specs.Right.{argument_count}
use Rattle.ts_semantics.specs.State.{ScriptState, Evaluation, Done, Over, then_do}
use Rattle.ts_semantics.specs.Meaning.{value_of, values_of}

-- the first part is done with a value, and then the second one
pub record DoneInTurn {A B : Type 0} (o : Evaluation A) (next : A → ScriptState → Evaluation B) (b : B) (after : ScriptState) : Type 0 where
  pub value : A
  pub middle : ScriptState
  pub first : o ≡ Done value middle
  pub second : next value middle ≡ Done b after

pub then_do-done : {A B : Type 0} (o : Evaluation A) (next : A → ScriptState → Evaluation B) (b : B) (after : ScriptState) → then_do o next ≡ Done b after → DoneInTurn o next b after
then_do-done (Done a s) next b after e = record { value = a; middle = s; first = refl; second = e }
then_do-done (Over end s) next b after e = absurd (cc)

-- there are as many values as arguments
pub values_of-length : (es : Arguments) (s after : ScriptState) (values : List ℤ) → values_of es s ≡ Done values after → length values ≡ argument_count es
values_of-length no_arguments s after values e = let none : values ≡ [] = cc in ap length none
values_of-length (argument x es) s after values e =
    let one : DoneInTurn (value_of x s) (λ a s. then_do (values_of es s) (λ vs s. Done (a ∷ vs) s)) values after =
    then_do-done (value_of x s) (λ a s. then_do (values_of es s) (λ vs s. Done (a ∷ vs) s)) values after e in
    let more : DoneInTurn (values_of es one.middle) (λ vs s. Done (one.value ∷ vs) s) values after =
    then_do-done (values_of es one.middle) (λ vs s. Done (one.value ∷ vs) s) values after one.second in
    let last : Done (one.value ∷ more.value) more.middle ≡ Done values after = more.second in
    let all : values ≡ one.value ∷ more.value = cc in
    ap length all ∙ ap suc (values_of-length es one.middle more.middle more.value more.first)
