-- The limits that every machine's shape keeps.
use Rattle.std.specs.Prelude.{ℕ, Bool, true, not, ◌&&◌, ◌||◌, ◌==◌, nat_le, nat_lt, Option, None, Some}
use Rattle.std.specs.List.{list_all}
use Rattle.mate_num.specs.declared.bounds.TheConstants.{SHARED_MAX, BUFFERS_MAX, DEVICES_MAX}
use Rattle.mate_num.specs.declared.id.DeviceId.{DeviceId}
use Rattle.mate_num.specs.declared.shape.FunShape.{FunShape}
use Rattle.mate_num.specs.declared.shape.Shape.{Shape}

-- the number, if there is one, is below the number of devices
abbrev pub is_device : ℕ → Option DeviceId → Bool
is_device devices None = true
is_device devices (Some d) = nat_lt d.0 devices

-- at most 4 values, none if a buffer is sent, and one of a machine's devices
abbrev pub is_fun_shape : FunShape → Bool
is_fun_shape f = nat_le f.args 4 && (not f.send || f.args == 0) && is_device DEVICES_MAX f.device

-- within the limits on variables and buffers, and each function within its own; the type holds at most 32 functions
abbrev pub is_shape : Shape → Bool
is_shape s = nat_le s.shared SHARED_MAX && nat_le s.buffers BUFFERS_MAX && list_all is_fun_shape s.functions.items
