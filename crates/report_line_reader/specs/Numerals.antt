-- Numbers at the front of a line.
use Rattle.std.specs.Prelude.{◌≡◌, ◌<◌, ◌≤◌, ◌^◌, ℕ, List, Some, true, not, ◌==◌, length, take}
use Rattle.std.specs.Char.{is_ascii_digit}
use Rattle.std.specs.List.{list_all, prefix_len}
use Rattle.std.specs.Str.Parse.{digits_value}
use Rattle.report_line_reader.specs.Numbers.{unsigned_of}
use Rattle.report_line_reader.specs.declared.numbers.Numeral.{Numeral}

-- the line begins with so many digits, which spell the number
pub record IsLeading (line : List ℕ) (n : Numeral) : Type 0 where
  pub within : n.digits ≤ length line
  pub all : list_all is_ascii_digit (take n.digits line) ≡ true
  pub value : n.number ≡ digits_value 10 (take n.digits line)
  pub small : n.number < 2 ^ 64

-- the first word of the line is these digits, and denotes the number
pub record IsFirstNumeral (line : List ℕ) (n : Numeral) : Type 0 where
  pub word : n.digits ≡ prefix_len (λ b. not (b == 32)) line
  pub number : Some n.number ≡ unsigned_of (take n.digits line)
