use Rattle.std.proofs.Common.{rules, FitsSigned, ◌∙◌}
use Rattle.std.specs.Int.{w16, cast_signed, cast_unsigned}
use Rattle.std.proofs.lemmas.Int.{to_z-of_z}
use Rattle.mate_num.proofs.NumberLemmas.{quotient_is}
use Rattle.mate_num.proofs.num16.Num16.div.Goals as goal

pub returns : goal.returns
returns c =
    let a_fits : FitsSigned w16 c.args.self.0 = search rules in
    let b_fits : FitsSigned w16 c.args.by.0 = search rules in
    let r_fits : FitsSigned w16 c.wrapping_div.result = search rules in
    quotient_is c.args.self.0 c.args.by.0 (cast_signed w16 (cast_unsigned w16 c.wrapping_div.result)) a_fits c.if-by-eq0.false
    (to_z-of_z w16 c.wrapping_div.result r_fits ∙ (simp to_z-of_z at c.wrapping_div.ensures))
