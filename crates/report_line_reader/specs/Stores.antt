-- The store that words denote.
use Rattle.std.specs.Prelude.{ℕ, ◌-◌, ◌==◌, nat_lt, not, ◌&&◌, if◌then◌else◌, List, [], ◌∷◌, ◌++◌, length, take, drop, min, slice_index}
use Rattle.std.specs.Prelude.{codes, ℤ, Option, None, Some}
use Rattle.std.specs.Option.{option_map, option_and_then}
use Rattle.std.specs.Str.{bytes_eq}
use Rattle.arrayvec.specs.ArrayVec.{ArrayVec}
use Rattle.mate_num.specs.declared.store.Store.{Store}
use Rattle.vm_shape.specs.declared.description.Description.{Description}
use Rattle.report_line_reader.specs.Words.{first, rest, only_at_end}
use Rattle.report_line_reader.specs.Numbers.{value_of}

-- what is after the front of a word
abbrev pub after : List ℕ → List ℕ → Option (List ℕ)
after front word =
    if bytes_eq (take (min (length front) (length word)) word) front then Some (drop (min (length front) (length word)) word) else None

-- what is before a `]` at the end of a word
abbrev pub closed : List ℕ → Option (List ℕ)
closed word = if not (length word == 0) && slice_index word (length word - 1) == 93 then Some (take (length word - 1) word) else None

-- the value in `NAME=V`
abbrev pub shared_value : List ℕ → List ℕ → Option ℤ
shared_value name word = option_and_then value_of (option_and_then (after (codes "=")) (after name word))

-- a value for each name, after others, and the words that are left
abbrev pub shared_after : List ℤ → List (List ℕ) → List (List ℕ) → Option (List ℤ × List (List ℕ))
shared_after before [] words = Some (before, words)
shared_after before (name ∷ names) words =
    option_and_then (λ v. shared_after (before ++ v ∷ []) names (rest words)) (first (shared_value name) words)

-- one more value: if `closed` is what is before a `]`, it is the last one
abbrev pub item : Option (List ℕ) → List ℤ → List ℕ → List (List ℕ) → (List ℤ → Option (List ℤ × List (List ℕ)))
    → Option (List ℤ × List (List ℕ))
item (Some inner) before word words go = option_map (λ v. (before ++ v ∷ [], words)) (value_of inner)
item None before word words go = option_and_then (λ v. go (before ++ v ∷ [])) (value_of word)

-- the values from `word` on, up to the one with `]`, after others; at most 10 in all
abbrev pub items_after : List ℤ → List ℕ → List (List ℕ) → Option (List ℤ × List (List ℕ))
items_after before word [] = if nat_lt (length before) 10 then item (closed word) before word [] (λ more. None) else None
items_after before word (next ∷ words) =
    if nat_lt (length before) 10 then item (closed word) before word (next ∷ words) (λ more. items_after more next words) else None

-- the values after a `[`
abbrev pub opened : List ℕ → List (List ℕ) → Option (List ℤ × List (List ℕ))
opened word words = if bytes_eq word (codes "]") then Some ([], words) else items_after [] word words

-- the values in `NAME=[V V]`, and the words that are left
abbrev pub buffer_of : List ℕ → List (List ℕ) → Option (List ℤ × List (List ℕ))
buffer_of name words =
    option_and_then (λ word. opened word (rest words)) (first (λ word. option_and_then (after (codes "=[")) (after name word)) words)

abbrev pub buffers_after : List (ArrayVec ℤ) → List (List ℕ) → List (List ℕ) → Option (List (ArrayVec ℤ) × List (List ℕ))
buffers_after before [] words = Some (before, words)
buffers_after before (name ∷ names) words =
    option_and_then (λ b. buffers_after (before ++ (record { items = b.0 }) ∷ []) names b.1) (buffer_of name words)

-- a store of these values
abbrev pub store_with : List ℤ → List (ArrayVec ℤ) → Store
store_with shared buffers = record { shared = record { items = shared }; buffers = record { items = buffers } }

-- the store that all words denote
abbrev pub store_of : Description → List (List ℕ) → Option Store
store_of d words =
    option_and_then (λ s. option_and_then (λ b. only_at_end (store_with s.0 b.0) b.1) (buffers_after [] d.buffers.items s.1))
    (shared_after [] d.shared.items words)
