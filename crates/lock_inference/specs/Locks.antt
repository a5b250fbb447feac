-- The locks of code: what a lock set holds, and what it gains from an instruction.
use Rattle.std.specs.Prelude.{◌≡◌, ℕ, take, Bool, true, ◌||◌, Option, None, Some}
use Rattle.mate_num.specs.declared.lock_set.LockSet.{LockSet}
use Rattle.mate_num.specs.declared.resource.Resource.{Resource}
use Rattle.mate_num.specs.declared.id.DeviceId.{DeviceId}
use Rattle.mate_num.specs.declared.shape.FunShape.{FunShape}
use Rattle.mate_num.specs.declared.shape.Shape.{Shape}
use Rattle.mate_num.specs.Uses.{Uses, IsSameUses}
use Rattle.mate_num.specs.Locks as locks
use Rattle.mate_num.specs.Locks.{is_resource}
use Rattle.mate_code.specs.Run.{Code, size_of_code}
use Rattle.mate_code.specs.declared.uses.Use.{Use}
use Rattle.mate_code.specs.CodeUses as code_uses
use Rattle.mate_code.specs.CodeUses.{cell_in, reads_in, writes_in}

-- the sets that a lock set holds
abbrev pub held_uses : LockSet → Uses
held_uses set = locks.lock_uses set

-- the set holds as read exactly what the code reads, and as written exactly what it writes
abbrev pub AreLocksOf : Shape → Code → LockSet → Type 0
AreLocksOf shape code set = IsSameUses (held_uses set) (code_uses.uses_of shape code)

-- a place of the code: the set holds what the instructions before it read and write
pub record IsGathered (shape : Shape) (code : Code) (place : ℕ) (set : LockSet) : Type 0 where
  pub many : ℕ
  pub place_is : place ≡ size_of_code (take many code)
  pub locks : AreLocksOf shape (take many code) set

-- a machine can have the resource, if there is one
abbrev pub is_some_resource : Option Resource → Bool
is_some_resource None = true
is_some_resource (Some r) = is_resource r

-- the variable or the buffer that an instruction names, if it names one, is one that a machine can have
abbrev pub names_resource : Use → Bool
names_resource u = is_some_resource (cell_in u)

-- the device of a function, if there is one
abbrev pub device_in : Option FunShape → Option DeviceId
device_in None = None
device_in (Some f) = f.device

-- the new set holds what the old one does, and what is read and written in this way
pub record Gains (shape : Shape) (old new : LockSet) (u : Use) : Type 0 where
  pub reads : (r : Resource) → (held_uses new).reads r ≡ ((held_uses old).reads r || reads_in u r)
  pub writes : (r : Resource) → (held_uses new).writes r ≡ ((held_uses old).writes r || writes_in shape u r)
