use Rattle.std.proofs.Common.{refl}
use Rattle.mate_code.specs.Verification.{pass}
use Rattle.callers_code.proofs.examples.verifications_are_right.Goals as goal

pub returns : goal.returns
unfolding pass
returns c = (refl, refl, refl, refl, refl, refl, refl, refl, refl, refl, refl, refl, refl, refl, refl, refl)
