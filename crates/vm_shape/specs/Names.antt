-- What a name is, and the first name that a list has twice.
use Rattle.std.specs.Prelude.{ℕ, List, [], ◌∷◌, ◌++◌, length, codes, Bool, false, not, ◌&&◌, ◌||◌, ◌==◌, nat_lt, nat_le, if◌then◌else◌, Option, Some, None}
use Rattle.std.specs.List.{list_any, list_all}
use Rattle.std.specs.Str.{bytes_eq}
use Rattle.mate_num.specs.declared.bounds.TheConstants.{NAME_MAX}

-- n is from low to high
abbrev pub between : ℕ → ℕ → ℕ → Bool
between low high n = nat_le low n && nat_le n high

-- a letter or `_`
abbrev pub begins_name : ℕ → Bool
begins_name c = (between 65 90 c || between 97 122 c) || c == 95

-- a letter, a digit or `_`
abbrev pub continues_name : ℕ → Bool
continues_name c = begins_name c || between 48 57 c

-- the keywords of scripts, which name nothing
abbrev pub reserved_words : List (List ℕ)
reserved_words =
    codes "shared" ∷ codes "private" ∷ codes "buffer" ∷ codes "if" ∷ codes "then" ∷ codes "else" ∷ codes "end" ∷ codes "for" ∷ codes "to"
    ∷ codes "step" ∷ codes "next" ∷ codes "while" ∷ codes "and" ∷ codes "or" ∷ codes "not" ∷ codes "size" ∷ codes "clear" ∷ codes "msg" ∷ []

abbrev pub is_keyword : List ℕ → Bool
is_keyword word = list_any (λ keyword. bytes_eq word keyword) reserved_words

-- 1 to `NAME_MAX` bytes: a letter or `_`, then letters, digits or `_`
abbrev pub has_form : List ℕ → Bool
has_form [] = false
has_form (c ∷ cs) = (nat_lt (length cs) NAME_MAX && begins_name c) && list_all continues_name cs

-- of that form, and no keyword
abbrev pub is_name : List ℕ → Bool
is_name text = has_form text && not (is_keyword text)

-- the name is in the list
abbrev pub stands_in : List (List ℕ) → List ℕ → Bool
stands_in names name = list_any (λ other. bytes_eq name other) names

-- the first of the names that occurs before it, in `seen` or among them
abbrev pub repeat_after : List (List ℕ) → List (List ℕ) → Option (List ℕ)
repeat_after seen [] = None
repeat_after seen (name ∷ names) = if stands_in seen name then Some name else repeat_after (seen ++ name ∷ []) names

-- the first name that its list repeats
abbrev pub first_repeat : List (List ℕ) → Option (List ℕ)
first_repeat names = repeat_after [] names

-- the text as a name, if it has a name's form
abbrev pub name_of : List ℕ → Option (List ℕ)
name_of text = if is_name text then Some text else None
