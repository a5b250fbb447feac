use Rattle.std.proofs.Common.{ap, sym, ◌∙◌, subst}
use Rattle.std.proofs.lemmas.Int.{to_z-of_z}
use Rattle.std.specs.Int.{w16}
use Rattle.mate_code.specs.Effect.{Private, push}
use Rattle.code_verifier.specs.Verified.{IsAtVerified}
use Rattle.exec_unit.proofs.stepping.resume.Goals as goal

pub returns-clause-fits : goal.returns-clause-fits
returns-clause-fits c =
    let pushed = rw (to_z-of_z w16 c.args.value c.ranges.value) at c.push.ensures in
    let P : Private → Type 0 = λ p. IsAtVerified c.args.code.now p in
    subst P (sym (pushed ∙ ap (λ (p : Private). push c.args.value p) c.machine.view_is)) (c.requires.fits c.args.value)
