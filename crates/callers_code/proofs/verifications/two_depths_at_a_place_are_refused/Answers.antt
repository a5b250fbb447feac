use Rattle.std.proofs.Common.{[], ◌∷◌, refl}
use Rattle.mate_code.specs.Code.{decoded_from}
use Rattle.mate_code.specs.Verification.{pass}
use Rattle.vm_shape.specs.Shapes.{shape_of}
use Rattle.callers_code.proofs.VerifyLemmas.{refused_by_depth}
use Rattle.callers_code.proofs.verifications.two_depths_at_a_place_are_refused.Goals as goal

pub returns : goal.returns
unfolding decoded_from pass
returns c = refused_by_depth (shape_of c.args.desc.now) (2 ∷ 1 ∷ 22 ∷ 0 ∷ 7 ∷ 2 ∷ 2 ∷ 0 ∷ []) 7 c.verify.result refl c.verify.ensures
