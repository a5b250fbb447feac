use Rattle.std.proofs.Common.{rules, arith, ◌∙◌, ◌<◌, FitsSigned}
use Rattle.std.specs.Int.{w16}
use Rattle.std.proofs.lemmas.Int.{to_z-of_z}
use Rattle.ts_checker.proofs.CallLemmas.{wrap-literal}
use Rattle.ts_checker.proofs.exprs.number_of.Goals as goal

pub returns : goal.returns
returns c =
    let fits : FitsSigned w16 c.cast_signed.result = search rules in
    let small : c.args.literal < 65536 = omega arith in
    to_z-of_z w16 c.cast_signed.result fits ∙ c.cast_signed.ensures ∙ wrap-literal c.args.literal small
