-- The number that bytes spell.
use Rattle.std.specs.Prelude.{ℕ, ◌^◌, nat_lt, ◌&&◌, if◌then◌else◌, List, Option, None, Some}
use Rattle.std.specs.List.{list_all}
use Rattle.std.specs.Char.{is_ascii_digit}
use Rattle.std.specs.Str.Parse.{digits_value}

-- the number of the digits, if each byte is one and it is below 2^64
abbrev pub spelled : List ℕ → Option ℕ
spelled bytes = if list_all is_ascii_digit bytes && nat_lt (digits_value 10 bytes) (2 ^ 64) then Some (digits_value 10 bytes) else None
