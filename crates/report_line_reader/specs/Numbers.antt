-- How numbers and values are written, and which one a word denotes.
use Rattle.std.specs.Prelude.{ℕ, zero, suc, ◌^◌, ◌==◌, nat_lt, nat_le, Bool, false, not, ◌&&◌, ◌||◌, if◌then◌else◌, List, [], ◌∷◌, ◌++◌}
use Rattle.std.specs.Prelude.{length, ℤ, pos, negsuc, Option, None, Some}
use Rattle.std.specs.Char.{is_ascii_digit}
use Rattle.std.specs.List.{list_all}
use Rattle.std.specs.Option.{option_and_then}
use Rattle.std.specs.Str.Parse.{digits_value}

-- one byte, or more that do not begin with `0`
abbrev pub has_plain_lead : List ℕ → Bool
has_plain_lead [] = false
has_plain_lead (b ∷ bs) = not (b == 48) || length bs == 0

-- one digit, or more that do not begin with `0`
abbrev pub is_plain_numeral : List ℕ → Bool
is_plain_numeral word = list_all is_ascii_digit word && has_plain_lead word

abbrev pub below_limit : ℕ → ℕ → Option ℕ
below_limit limit n = if nat_lt n limit then Some n else None

-- the number, below 2^64, that a word denotes
abbrev pub unsigned_of : List ℕ → Option ℕ
unsigned_of word = if is_plain_numeral word then below_limit (2 ^ 64) (digits_value 10 word) else None

-- the number below a limit that a word denotes
abbrev pub below_of : ℕ → List ℕ → Option ℕ
below_of limit word = option_and_then (below_limit limit) (unsigned_of word)

-- a number from 1 to 32768 after a `-`, and one up to 32767 without
abbrev pub negative : ℕ → Option ℤ
negative zero = None
negative (suc n) = if nat_lt n 32768 then Some (negsuc n) else None

abbrev pub positive : ℕ → Option ℤ
positive n = if nat_lt n 32768 then Some (pos n) else None

-- the value that a word denotes
abbrev pub value_of : List ℕ → Option ℤ
value_of [] = None
value_of (b ∷ bs) = if b == 45 then option_and_then negative (unsigned_of bs) else option_and_then positive (unsigned_of (b ∷ bs))

-- the values that words denote, after others; at most 10 in all
abbrev pub values_after : List ℤ → List (List ℕ) → Option (List ℤ)
values_after before [] = Some before
values_after before (word ∷ words) = option_and_then (λ v. if nat_lt (length before) 10 then values_after (before ++ v ∷ []) words
    else None) (value_of word)
