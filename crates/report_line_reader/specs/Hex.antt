-- Bytes as words of hexadecimal digits in lower case.
use Rattle.std.specs.Prelude.{ℕ, ◌*◌, ◌%◌, ◌==◌, nat_le, Bool, not, ◌&&◌, ◌||◌, if◌then◌else◌, List, length, Option, None, Some}
use Rattle.std.specs.List.{list_all}
use Rattle.arrayvec.specs.ArrayVec.{ArrayVec}
use Rattle.capsule_codec.specs.HexText.{bytes_of_digits}
use Rattle.mate_num.specs.declared.bounds.TheConstants.{IMAGE_MAX, PACKET_MAX}

abbrev pub is_lower_digit : ℕ → Bool
is_lower_digit b = (nat_le 48 b && nat_le b 57) || (nat_le 97 b && nat_le b 102)

-- one byte or more, two digits each
abbrev pub is_hex_word : List ℕ → Bool
is_hex_word word = (not (length word == 0) && length word % 2 == 0) && list_all is_lower_digit word

-- the bytes, at most `most`, that a word denotes
abbrev pub hex_of : ℕ → List ℕ → Option (ArrayVec ℕ)
hex_of most word = if is_hex_word word && nat_le (length word) (2 * most) then Some (record { items = bytes_of_digits word }) else None

-- the image, and the packet, that a word denotes
abbrev pub image_of : List ℕ → Option (ArrayVec ℕ)
image_of word = hex_of IMAGE_MAX word

abbrev pub packet_of : List ℕ → Option (ArrayVec ℕ)
packet_of word = hex_of PACKET_MAX word
