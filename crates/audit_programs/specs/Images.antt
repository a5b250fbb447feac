-- The verified code of a program's image.
use Rattle.std.specs.Prelude.{◌≡◌, ℕ}
use Rattle.arrayvec.specs.ArrayVec.{ArrayVec}
use Rattle.code_verifier.specs.Verified.{VerifiedCode}
use Rattle.node_state.specs.Meaning.{image_code}
use Rattle.vm_shape.specs.Shapes.{shape_of}
use Rattle.vm_shape.specs.declared.description.Description.{Description}

-- it is the image's code, verified by the description's shape
pub record IsImageCode (d : Description) (image : ArrayVec ℕ) (v : VerifiedCode) : Type 0 where
  pub shape : v.shape ≡ shape_of d
  pub code : v.code ≡ image_code (shape_of d) image
