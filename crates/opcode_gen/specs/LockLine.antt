-- The line of a handler's locks: the names of what it reads and writes, in the order of the machine's description.
use Rattle.std.specs.Prelude.{ℕ, List, [], ◌++◌, codes, if◌then◌else◌}
use Rattle.std.specs.List.{flat_map, enumerate_from}
use Rattle.mate_num.specs.Uses.{Uses}
use Rattle.mate_num.specs.declared.bounds.TheConstants.{BUFFERS_MAX, DEVICES_MAX, SHARED_MAX}
use Rattle.mate_num.specs.declared.resource.Resource.{Resource}
use Rattle.mate_num.specs.declared.resource.Resource.TheVariants.{Shared, Buffer, Device}
use Rattle.vm_shape.specs.declared.description.Description.{Description}
use Rattle.opcode_gen.specs.declared.lock_line.Group.{Group}
use Rattle.opcode_gen.specs.declared.lock_line.Group.TheVariants as group

-- the resource of a group that is at a place of the description's list
abbrev pub resource_at : Group → ℕ → Resource
resource_at group.Shared place = Shared record { 0 = place }
resource_at group.Buffers place = Buffer record { 0 = place }
resource_at group.Devices place = Device record { 0 = place }

-- how many resources of a group a machine can have
abbrev pub room_of : Group → ℕ
room_of group.Shared = SHARED_MAX
room_of group.Buffers = BUFFERS_MAX
room_of group.Devices = DEVICES_MAX

-- a space and the name if the resource is written, with `:r` after it if it is only read; else nothing
abbrev pub mention : Uses → Resource → List ℕ → List ℕ
mention u r name = if u.writes r then codes " " ++ name else if u.reads r then codes " " ++ name ++ codes ":r" else []

-- the mention of the name at a place of a group's list
abbrev pub mention_at : Uses → Group → ℕ × List ℕ → List ℕ
mention_at u g entry = mention u (resource_at g entry.0) entry.1

-- the mentions of a group's names, in their order
abbrev pub mentions : Uses → Group → List (List ℕ) → List ℕ
mentions u g names = flat_map (mention_at u g) (enumerate_from 0 names)

-- the whole line: first the shared variables, then the buffers, then the devices
abbrev pub lock_line : Description → Uses → List ℕ
lock_line d u =
    codes "locks" ++ mentions u group.Shared d.shared.items ++ mentions u group.Buffers d.buffers.items
    ++ mentions u group.Devices d.devices.items ++ codes "\n"
