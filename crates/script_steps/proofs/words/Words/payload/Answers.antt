use Rattle.std.proofs.Common.{ℤ, ◌<◌, List, length, sym, subst, arith}
use Rattle.std.proofs.lemmas.Bool.Decides.{nat_tests}
use Rattle.std.proofs.lemmas.Result.{err_from_is_err_and}
use Rattle.std.proofs.lemmas.Int.{to_z-of_z}
use Rattle.std.specs.Int.{w16}
use mir.Val.{SFits}
use Rattle.script_steps.specs.Lines.{split_words}
use Rattle.script_steps.proofs.NumberLemmas.{value_fits}
use Rattle.script_steps.proofs.PayloadLemmas.{IsReadTo, read_none, read_more, read_fails, read_full, read_done}
use Rattle.script_steps.proofs.words.Words.payload.Goals as goal
use Rattle.script_steps.proofs.words.Words.payload.Goals.{then-values-test+else-not-is_done, else-values-test}

pub values-init : goal.values-init
values-init c =
    let P : List ℤ → Type 0 = λ vs. IsReadTo (split_words c.args.self.now) vs (split_words c.args.self.now) in
    subst P (sym c.new-values.ensures) (read_none (split_words c.args.self.now))

pub values-preserved : goal.values-preserved
values-preserved c =
    let few : length c.values.values.items < 10 = omega arith in
    let fits : SFits w16 c.in_ok-value.value = value_fits _ _ c.in_ok-value.ensures in
    rw (c.push.ensures.items, to_z-of_z w16 c.in_ok-value.value fits) (read_more _ _ _ _ _ c.values.invariant few c.in_ok-value.ensures)

pub returns-in_err-value-clause-value : goal.returns-in_err-value-clause-value
returns-in_err-value-clause-value c =
    let e = err_from_is_err_and c.from_residual.result c.from_residual.ensures.1 in
    let few : length c.values.values.items < 10 = omega arith in
    let some : 0 < length (split_words c.values.self) = grind (arith, nat_tests) in
    rw (e.1, e.2) (read_fails _ _ _ _ c.values.invariant few some c.in_err-value.ensures)

pub returns-clause-value : goal.returns-clause-value
returns-clause-value c =
    elim c.values-test.branch [
      | then-values-test+else-not-is_done w ↦ read_done _ _ _ c.values.invariant (grind (arith, nat_tests))
      | else-values-test w ↦ read_full _ _ _ c.values.invariant (omega arith)
    ]
