-- What the programs of a node mean: the runs of their images' code.
use Rattle.std.specs.Prelude.{ℕ, [], Result, Ok, Err, drop}
use Rattle.std.specs.Result.{result_unwrap_or}
use Rattle.arrayvec.specs.ArrayVec.{ArrayVec}
use Rattle.mate_num.specs.declared.bounds.TheConstants.{IMAGE_HEAD}
use Rattle.mate_num.specs.declared.shape.Shape.{Shape}
use Rattle.mate_code.specs.declared.decoding.DecodeFault.{DecodeFault}
use Rattle.mate_code.specs.Code.{decoded}
use Rattle.mate_code.specs.CodeUses.{uses_of}
use Rattle.mate_code.specs.Run.{Code, code_run, next_mark, code_after}
use Rattle.mate_code.specs.Table.{table_of}
use Rattle.mate_journal.specs.Described.{machine_of}
use Rattle.mate_journal.specs.Machine.{Machine, Meaning}
use Rattle.vm_shape.specs.declared.description.Description.{Description}
use Rattle.vm_shape.specs.Shapes.{shape_of}

-- the code of an image, which is after its head
unfoldable pub image_code : Shape → ArrayVec ℕ → Code
image_code shape image = result_unwrap_or (decoded (table_of shape) (drop IMAGE_HEAD image.items)) []

-- a program's run is that of its code, in which it comes as far as its code does, and it uses what its code uses
abbrev pub meaning_of : Shape → Meaning
meaning_of shape = record {
  run = λ p store payload answers turns. code_run shape (image_code shape p.image) store payload answers turns;
  uses = λ p. uses_of shape (image_code shape p.image);
  mark = λ p store payload answers turns. next_mark shape (image_code shape p.image) store payload answers turns;
  after = λ n p store payload answers turns. code_after n shape (image_code shape p.image) store payload answers turns;
}

-- the machine of a node
abbrev pub machine_in : Description → Machine
machine_in d = machine_of d (meaning_of (shape_of d))
