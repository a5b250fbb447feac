-- How lines of refusals end.
use Rattle.std.specs.Prelude.{ℕ, List, ◌++◌, codes, decimal}

-- a word, a number and a line feed
abbrev pub number_line : List ℕ → ℕ → List ℕ
number_line word n = word ++ decimal n ++ codes "\n"

-- a word, a name and a line feed
abbrev pub name_line : List ℕ → List ℕ → List ℕ
name_line word name = word ++ name ++ codes "\n"

-- a word, a name, a number and a line feed
abbrev pub numbered_name_line : List ℕ → List ℕ → ℕ → List ℕ
numbered_name_line word name n = word ++ name ++ number_line (codes " ") n
