-- The words that only a world's script has: nodes, times, sensors, series of values, and noise.
use Rattle.std.specs.Prelude.{ℕ, ◌+◌, ◌-◌, nat_lt, nat_le, ◌==◌, ℤ, if◌then◌else◌, List, [], ◌∷◌, length, Result, Ok, Err}
use Rattle.mate_num.specs.declared.bounds.TheConstants.{PACKET_MAX}
use Rattle.std.specs.Str.{bytes_eq}
use Rattle.arrayvec.specs.ArrayVec.{ArrayVec}
use Rattle.mate_num.specs.declared.id.FunId.{FunId}
use Rattle.vm_shape.specs.declared.description.Description.{Description}
use Rattle.vm_shape.specs.declared.function.Function.{Function}
use Rattle.vm_shape.specs.declared.function.FunKind.{FunKind}
use Rattle.vm_shape.specs.declared.function.FunKind.TheVariants as kind
use Rattle.capsule_codec.specs.declared.hex_text.HexFault.{HexFault}
use Rattle.capsule_codec.specs.declared.hex_text.HexFault.TheVariants.{BadHex, TooLong}
use Rattle.capsule_codec.specs.HexText.{image_in}
use Rattle.packet_codec.specs.Reading.{is_noise}
use Rattle.script_steps.specs.declared.fault.Cause.{Cause}
use Rattle.script_steps.specs.declared.fault.Cause.TheVariants.{Word, Number, Range, TimeBack, Name, Node, Packet}
use Rattle.script_steps.specs.Words.{WordReading, ◌>>=◌, found, a_word, a_number, values_from}

-- one of this number of nodes
unfoldable pub a_node : ℕ → WordReading ℕ
a_node nodes = a_number 0 (nodes - 1) Node

-- a time up to the last one of the run, and not before the last one so far
abbrev pub not_back : ℕ → ℕ → Result ℕ Cause
not_back last time = if nat_le last time then Ok time else Err TimeBack

unfoldable pub a_time : ℕ → ℕ → WordReading ℕ
a_time until last = a_number 0 until Range >>= (λ time. found (not_back last time))

abbrev pub if_senses : ℕ → FunKind → Result FunId Cause
if_senses n kind.Sense = Ok (record { 0 = n })
if_senses n _ = Err Name

-- the function with a name, among those from a number on, if it reads a sensor
abbrev pub sensor_from : List ℕ → ℕ → List Function → Result FunId Cause
sensor_from w n [] = Err Name
sensor_from w n (f ∷ functions) = if bytes_eq f.name w then if_senses n f.kind else sensor_from w (n + 1) functions

abbrev pub sensor_of : Description → List ℕ → Result FunId Cause
sensor_of d w = sensor_from w 0 d.functions.items

unfoldable pub a_sensor : Description → WordReading FunId
a_sensor d = a_word >>= (λ w. found (sensor_of d w))

-- one value or more, to the end of the line
abbrev pub some_values : WordReading (List ℤ)
some_values [] = Err Word
some_values (w ∷ words) = found (values_from [] (w ∷ words)) []

-- some bytes, at most `PACKET_MAX`, that are no packet
abbrev pub if_noise : Description → List ℕ → Result (ArrayVec ℕ) Cause
if_noise d bytes =
    if length bytes == 0 then Err Number
    else if nat_lt PACKET_MAX (length bytes) then Err Range
    else if is_noise d bytes then Ok (record { items = bytes })
    else Err Packet

-- the bytes that the hexadecimal digits spell; more of them than an image has are too many as well
abbrev pub noise_bytes : Description → Result (ArrayVec ℕ) HexFault → Result (ArrayVec ℕ) Cause
noise_bytes d (Ok bytes) = if_noise d bytes.items
noise_bytes d (Err BadHex) = Err Number
noise_bytes d (Err TooLong) = Err Range

unfoldable pub some_noise : Description → WordReading (ArrayVec ℕ)
some_noise d = a_word >>= (λ w. found (noise_bytes d (image_in w)))
