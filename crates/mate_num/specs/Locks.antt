-- A lock set as two words of bits, and the sets that they mean.
use Rattle.std.specs.Prelude.{ℕ, ◌+◌, Bool, nat_lt, ◌&&◌, ◌==◌, IsTrue}
use Rattle.std.specs.Int.{bit_at}
use Rattle.mate_num.specs.Uses.{Uses}
use Rattle.mate_num.specs.declared.bounds.TheConstants.{BUFFERS_MAX, DEVICES_MAX, SHARED_MAX}
use Rattle.mate_num.specs.declared.lock_set.TheConstants.{FIRST_BUFFER, FIRST_DEVICE}
use Rattle.mate_num.specs.declared.resource.Resource.{Resource}
use Rattle.mate_num.specs.declared.resource.Resource.TheVariants.{Shared, Buffer, Device}
use Rattle.mate_num.specs.declared.lock_set.LockSet.{LockSet}

-- the resource's bit
abbrev pub bit_of : Resource → ℕ
bit_of (Shared v) = v.0
bit_of (Buffer b) = FIRST_BUFFER + b.0
bit_of (Device d) = FIRST_DEVICE + d.0

-- a machine can have the resource
abbrev pub is_resource : Resource → Bool
is_resource (Shared v) = nat_lt v.0 SHARED_MAX
is_resource (Buffer b) = nat_lt b.0 BUFFERS_MAX
is_resource (Device d) = nat_lt d.0 DEVICES_MAX

-- the word has the resource
abbrev pub has : ℕ → Resource → Bool
has word r = is_resource r && (bit_at word (bit_of r) == 1)

-- the sets that a lock set means
abbrev pub lock_uses : LockSet → Uses
lock_uses s = record { reads = has s.read; writes = has s.written }

-- both words have a resource
pub record Share (a b : ℕ) : Type 0 where
  pub resource : Resource
  pub left : IsTrue (has a resource)
  pub right : IsTrue (has b resource)

-- no resource is in both words
pub record IsApart (a b : ℕ) : Type 0 where
  pub apart : (r : Resource) → IsTrue (has a r) → IsTrue (has b r) → ⊥
