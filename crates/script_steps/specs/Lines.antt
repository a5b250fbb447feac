-- The lines of a script, and the words of a line. A line ends with a line feed, which the last one may lack; one carriage
-- return before the line feed is no part of it.
use Rattle.std.specs.Prelude.{ℕ, Bool, true, false, ◌==◌, ◌||◌, List, [], ◌∷◌, filter}
use Rattle.std.specs.List.{slice_split}
pub use Rattle.std.specs.Str.Lines.{lines}

-- a space or a tab
abbrev pub is_blank : ℕ → Bool
is_blank byte = (byte == 32) || (byte == 9)

abbrev pub is_some_part : List ℕ → Bool
is_some_part [] = false
is_some_part (byte ∷ bytes) = true

-- the words of a line, which are between blanks
abbrev pub split_words : List ℕ → List (List ℕ)
split_words line = filter is_some_part (slice_split is_blank line)

-- a line without words, or one whose first word begins with #
abbrev pub is_skipped : List (List ℕ) → Bool
is_skipped [] = true
is_skipped ([] ∷ words) = false
is_skipped ((byte ∷ bytes) ∷ words) = byte == 35
