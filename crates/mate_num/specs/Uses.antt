-- What a piece of code reads and writes, and when two pieces conflict.
use Rattle.std.specs.Prelude.{◌≡◌, ◌≢◌, Bool, ◌||◌, ◌==◌, false, IsTrue, ◌⊎◌, Option, None, Some, slice_get}
use Rattle.mate_num.specs.declared.id.DeviceId.{DeviceId}
use Rattle.mate_num.specs.declared.id.FunId.{FunId}
use Rattle.mate_num.specs.declared.resource.Resource.{Resource}
use Rattle.mate_num.specs.declared.resource.Resource.TheVariants.{Shared, Buffer, Device}
use Rattle.mate_num.specs.declared.shape.FunShape.{FunShape}
use Rattle.mate_num.specs.declared.shape.Shape.{Shape}

-- the same resource
abbrev pub is_same_resource : Resource → Resource → Bool
is_same_resource (Shared v) (Shared w) = v.0 == w.0
is_same_resource (Buffer b) (Buffer c) = b.0 == c.0
is_same_resource (Device d) (Device e) = d.0 == e.0
is_same_resource _ _ = false

-- r is the device, if there is one
abbrev pub is_same_device : Option DeviceId → Resource → Bool
is_same_device None r = false
is_same_device (Some d) r = is_same_resource (Device d) r

-- r is the device of the function, if there is such a function and it has one
abbrev pub is_device_of : Option FunShape → Resource → Bool
is_device_of None r = false
is_device_of (Some f) r = is_same_device f.device r

-- the function of a machine
abbrev pub function_shape : Shape → FunId → Option FunShape
function_shape shape f = slice_get shape.functions.items f.0

-- the resources that are read, and those that are written, as tests
pub record Uses : Type 0 where
  pub reads : Resource → Bool
  pub writes : Resource → Bool

-- nothing is read or written
abbrev pub no_uses : Uses
no_uses = record { reads = λ _. false; writes = λ _. false }

-- r is read or written
abbrev pub uses : Uses → Resource → Bool
uses u r = u.reads r || u.writes r

-- one of the two writes r, and the other reads or writes it
abbrev pub ConflictsAt : Uses → Uses → Resource → Type 0
ConflictsAt a b r = (IsTrue (a.writes r) × IsTrue (uses b r)) ⊎ (IsTrue (b.writes r) × IsTrue (uses a r))

-- there is such a resource
pub record Conflicts (a b : Uses) : Type 0 where
  pub resource : Resource
  pub at : ConflictsAt a b resource

-- there is none
pub record IsCompatible (a b : Uses) : Type 0 where
  pub apart : (r : Resource) → ConflictsAt a b r → ⊥

-- the same reads and the same writes
pub record IsSameUses (a b : Uses) : Type 0 where
  pub reads : (r : Resource) → a.reads r ≡ b.reads r
  pub writes : (r : Resource) → a.writes r ≡ b.writes r

-- after is before and r
pub record AddsResource (before after : Resource → Bool) (r : Resource) : Type 0 where
  pub added : IsTrue (after r)
  pub others : (q : Resource) → q ≢ r → after q ≡ before q
