-- Right programs: an image is a capsule of the machine, with verified code that does what its source says.
use Rattle.std.specs.Prelude.{◌≡◌, ℕ, ℤ, List, All, IsOk, IfSome}
use Rattle.arrayvec.specs.ArrayVec.{ArrayVec}
use Rattle.mate_num.specs.declared.shape.Shape.{Shape}
use Rattle.mate_num.specs.declared.store.Store.{Store}
use Rattle.mate_code.specs.BytesVerification.{bytes_verification}
use Rattle.mate_code.specs.CodeUses.{uses_of as code_uses}
use Rattle.mate_code.specs.Run.{Code, code_run}
use Rattle.capsule_codec.specs.Image.{CapsuleParts, capsule_image, IsCapsule, IsOfMachine}
use Rattle.ts_checked.specs.Checked.{ScriptTree}
use Rattle.ts_semantics.specs.Meaning.{run_of}
use Rattle.ts_semantics.specs.Uses.{script_uses}
use Rattle.vm_shape.specs.Shapes.{shape_of}
use Rattle.vm_shape.specs.declared.description.Description.{Description}
use Rattle.mate_journal.specs.declared.program.Program.{Program}
use Rattle.node_state.specs.Meaning.{image_code}

-- the source has the machine's shape, and the code has its run, its reads and its writes
pub record IsSourceOf (shape : Shape) (code : Code) (source : ScriptTree) : Type 0 where
  pub shape_is : source.shape ≡ shape
  pub runs : (store : Store) (msg : ArrayVec ℤ) (answers : List ℤ) (turns : ℕ)
      → code_run shape code store msg answers turns ≡ run_of source.tree store msg answers turns
  pub uses : code_uses shape code ≡ script_uses shape source.tree

-- the image is the encoding of a capsule of this machine with the program's handler and version; its code is verified by
-- the description's shape; and a source is that of the code
pub record IsRightProgram (d : Description) (p : Program) : Type 0 where
  pub capsule : CapsuleParts
  pub is_capsule : IsCapsule capsule
  pub of_machine : IsOfMachine d capsule
  pub handler : capsule.handler ≡ p.handler.0
  pub version : capsule.version ≡ p.version
  pub image : p.image.items ≡ capsule_image capsule
  pub verified : IsOk (bytes_verification (shape_of d) capsule.code)
  pub source : IfSome p.source (IsSourceOf (shape_of d) (image_code (shape_of d) p.image))

abbrev pub AreRightPrograms : Description → List Program → Type 0
AreRightPrograms d ps = All (IsRightProgram d) ps
