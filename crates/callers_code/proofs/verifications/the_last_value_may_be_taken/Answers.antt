use Rattle.std.proofs.Common.{[], ◌∷◌, refl}
use Rattle.mate_code.specs.Code.{decoded_from}
use Rattle.mate_code.specs.Verification.{pass}
use Rattle.vm_shape.specs.Shapes.{shape_of}
use Rattle.callers_code.proofs.VerifyLemmas.{is_accepted}
use Rattle.callers_code.proofs.verifications.the_last_value_may_be_taken.Goals as goal

pub returns : goal.returns
unfolding decoded_from pass
returns c = is_accepted (shape_of c.args.desc.now) (2 ∷ 1 ∷ 25 ∷ 0 ∷ []) _ _ c.verify.result refl c.verify.ensures
