-- A line as the list of its words.
use Rattle.std.specs.Prelude.{ℕ, ◌==◌, Bool, true, false, List, [], ◌∷◌, Option, None, Some}
use Rattle.std.specs.List.{slice_split}
use Rattle.std.specs.Option.{option_and_then}

-- the words of a line: the parts between spaces
abbrev pub words_of : List ℕ → List (List ℕ)
words_of line = slice_split (λ b. b == 32) line

abbrev pub words_left : Bool → List ℕ → List (List ℕ)
words_left true bytes = []
words_left false bytes = words_of bytes

-- what the next word denotes, and the words after it
abbrev pub first : {A : Type 0} → (List ℕ → Option A) → List (List ℕ) → Option A
first tells [] = None
first tells (word ∷ words) = tells word

abbrev pub rest : List (List ℕ) → List (List ℕ)
rest [] = []
rest (word ∷ words) = words

-- reads the next word, and goes on after it
abbrev pub reads : {A B : Type 0} → (List ℕ → Option A) → (A → List (List ℕ) → Option B) → List (List ℕ) → Option B
reads tells go words = option_and_then (λ a. go a (rest words)) (first tells words)

-- what was read, if no word is left
abbrev pub only_at_end : {A : Type 0} → A → List (List ℕ) → Option A
only_at_end a [] = Some a
only_at_end a (word ∷ words) = None
