-- What an instruction, and code, reads and writes.
use Rattle.std.specs.Prelude.{ℕ, Bool, false, List, Option, None, Some}
use Rattle.std.specs.List.{list_any}
use Rattle.mate_num.specs.Uses.{Uses, is_same_resource, is_device_of, function_shape}
use Rattle.mate_num.specs.declared.resource.Resource.{Resource}
use Rattle.mate_num.specs.declared.resource.Resource.TheVariants.{Buffer}
use Rattle.mate_num.specs.declared.shape.Shape.{Shape}
use Rattle.mate_code.specs.declared.instr.Instr.{Instr}
use Rattle.mate_code.specs.declared.uses.Use.{Use}
use Rattle.mate_code.specs.declared.uses.Use.TheVariants.{Gets, Changes, Calls, Sends}
use Rattle.mate_code.specs.Row.{row_of}

-- what an instruction has to do with what handlers share
abbrev pub use_of : Instr → Use
use_of i = (row_of i).uses

-- the cell that an instruction names
abbrev pub cell_in : Use → Option Resource
cell_in (Gets r) = Some r
cell_in (Changes r) = Some r
cell_in (Sends f b) = Some (Buffer b)
cell_in _ = None

-- it reads r: the cell that it gets from, or the buffer that it sends
abbrev pub reads_in : Use → Resource → Bool
reads_in (Gets cell) r = is_same_resource cell r
reads_in (Sends f b) r = is_same_resource (Buffer b) r
reads_in _ r = false

-- it writes r: the cell that it changes, or the device of the function that it calls
abbrev pub writes_in : Shape → Use → Resource → Bool
writes_in shape (Changes cell) r = is_same_resource cell r
writes_in shape (Calls f) r = is_device_of (function_shape shape f) r
writes_in shape (Sends f b) r = is_device_of (function_shape shape f) r
writes_in shape _ r = false

-- what code reads and writes: what some instruction of it does
abbrev pub uses_of : Shape → List (ℕ × Instr) → Uses
uses_of shape code =
    record {
      reads = λ r. list_any (λ p. reads_in (use_of p.1) r) code;
      writes = λ r. list_any (λ p. writes_in shape (use_of p.1) r) code;
    }
