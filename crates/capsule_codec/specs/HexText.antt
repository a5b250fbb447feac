-- Images as hexadecimal text.
use Rattle.std.specs.Prelude.{◌≡◌, ℕ, ◌-◌, ◌*◌, ◌%◌, ◌==◌, nat_lt, Bool, not, ◌&&◌, ◌||◌, if◌then◌else◌, List, [], length, take, Result, Ok, Err}
use Rattle.std.specs.Char.{is_ascii_hexdigit}
use Rattle.std.specs.List.{list_all, suffix_len}
use Rattle.std.specs.Result.{result_unwrap_or}
use Rattle.arrayvec.specs.ArrayVec.{ArrayVec}
use Rattle.hex.specs.Hex.{decode_of}
use Rattle.mate_num.specs.declared.bounds.TheConstants.{IMAGE_MAX}
use Rattle.capsule_codec.specs.declared.hex_text.HexFault.{HexFault}
use Rattle.capsule_codec.specs.declared.hex_text.HexFault.TheVariants.{BadHex, TooLong}

-- a space, tab, carriage return or line feed
abbrev pub is_blank_byte : ℕ → Bool
is_blank_byte c = (c == 32 || c == 9) || (c == 13 || c == 10)

-- the text up to its last byte that is no blank
abbrev pub trimmed : List ℕ → List ℕ
trimmed text = take (length text - suffix_len is_blank_byte text) text

-- an even number of hexadecimal digits, in either case
abbrev pub is_hex : List ℕ → Bool
is_hex digits = (length digits % 2 == 0) && list_all is_ascii_hexdigit digits

-- the bytes of the digits, two for each
abbrev pub bytes_of_digits : List ℕ → List ℕ
bytes_of_digits digits = result_unwrap_or (decode_of digits) []

-- the image that the digits spell, or the first fault: the longest image has two digits for each byte
abbrev pub image_of_digits : List ℕ → Result (ArrayVec ℕ) HexFault
image_of_digits digits =
    if not (is_hex digits) then Err BadHex
    else if nat_lt (2 * IMAGE_MAX) (length digits) then Err TooLong
    else Ok (record { items = bytes_of_digits digits })

-- the image that the text spells, trailing blanks left out
abbrev pub image_in : List ℕ → Result (ArrayVec ℕ) HexFault
image_in text = image_of_digits (trimmed text)
