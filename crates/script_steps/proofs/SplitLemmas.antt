-- The first word and the first line of a text, and what is left after them.
use Rattle.std.proofs.Common.{◌≡◌, ℕ, ◌+◌, ◌<◌, ◌≤◌, Bool, true, false, ◌==◌, not, cond, List, [], ◌∷◌, length, take, drop, filter, suc, ◌-◌, take_all, refl, sym, ◌∙◌, ap, one-add, arith}
use Rattle.std.specs.Prelude.{nat_eq, slice_index_or}
use Rattle.std.specs.List.{prefix_len, slice_split, onto_first}
use Rattle.std.proofs.lemmas.List.Folds.{length-prefix_len}
use Rattle.std.specs.Str.Lines.{lines, lines_of_parts, strip_carriage_return}
use Rattle.script_steps.specs.Lines.{is_blank, is_some_part, split_words, is_skipped}

-- how far no element is a separator
abbrev pub front_len : (ℕ → Bool) → List ℕ → ℕ
front_len p xs = prefix_len (λ x. not (p x)) xs

-- the parts are that front, and the parts from the first separator on without their first, which is empty
front_split : (p : ℕ → Bool) (xs : List ℕ) → slice_split p xs ≡ take (front_len p xs) xs ∷ drop 1 (slice_split p (drop (front_len p xs) xs))
front_split p [] = refl
front_split p (x ∷ xs) = by (p x) refl (front_split p xs)
  where
    by : (v : Bool) → p x ≡ v → slice_split p xs ≡ take (front_len p xs) xs ∷ drop 1 (slice_split p (drop (front_len p xs) xs))
        → cond v ([] ∷ slice_split p xs) (onto_first x (slice_split p xs)) ≡ take (cond (not v) (1 + front_len p xs) 0) (x ∷ xs) ∷ drop 1 (slice_split p (drop (cond (not v) (1 + front_len p xs) 0) (x ∷ xs)))
    by true e h = rw e refl
    by false e h = rw (one-add (front_len p xs)) (ap (onto_first x) h)

-- a text that begins with a separator
at_separator : (p : ℕ → Bool) (xs : List ℕ) → front_len p xs ≡ 0 → slice_split p xs ≡ [] ∷ drop 1 (slice_split p xs)
at_separator p xs none = front_split p xs ∙ rw none refl

front_none : (p : ℕ → Bool) (xs : List ℕ) → front_len p (drop (front_len p xs) xs) ≡ 0
front_none p [] = refl
front_none p (x ∷ xs) = by (p x) refl (front_none p xs)
  where
    by : (v : Bool) → p x ≡ v → front_len p (drop (front_len p xs) xs) ≡ 0 → front_len p (drop (cond (not v) (1 + front_len p xs) 0) (x ∷ xs)) ≡ 0
    by true e h = rw e refl
    by false e h = rw (one-add (front_len p xs)) h

-- blanks in front are no part of a word
words_of-blanks : (xs : List ℕ) → split_words (drop (prefix_len is_blank xs) xs) ≡ split_words xs
words_of-blanks [] = refl
words_of-blanks (x ∷ xs) = by (is_blank x) refl (words_of-blanks xs)
  where
    by : (v : Bool) → is_blank x ≡ v → split_words (drop (prefix_len is_blank xs) xs) ≡ split_words xs
        → split_words (drop (cond v (1 + prefix_len is_blank xs) 0) (x ∷ xs)) ≡ filter is_some_part (cond v ([] ∷ slice_split is_blank xs) (onto_first x (slice_split is_blank xs)))
    by true e h = rw (one-add (prefix_len is_blank xs)) h
    by false e h = rw e refl

-- the first word, where the text begins with no blank
words_of-front : (xs : List ℕ) → 0 < length (take (front_len is_blank xs) xs) → split_words xs ≡ take (front_len is_blank xs) xs ∷ split_words (drop (front_len is_blank xs) xs)
words_of-front xs some =
    let rest : List ℕ = drop (front_len is_blank xs) xs in
    let none : front_len is_blank rest ≡ 0 = front_none is_blank xs in
    ap (filter is_some_part) (front_split is_blank xs)
    ∙ kept (take (front_len is_blank xs) xs) (drop 1 (slice_split is_blank rest)) some
    ∙ ap (λ ws. take (front_len is_blank xs) xs ∷ ws) (sym (ap (filter is_some_part) (at_separator is_blank rest none)))
  where
    kept : (w : List ℕ) (parts : List (List ℕ)) → 0 < length w → filter is_some_part (w ∷ parts) ≡ w ∷ filter is_some_part parts
    kept [] parts h = absurd (omega arith)
    kept (x ∷ w) parts h = refl

-- no word is left, where the text is one of blanks
words_of-nil : (xs : List ℕ) → front_len is_blank xs ≡ 0 → prefix_len is_blank xs ≡ 0 → split_words xs ≡ []
words_of-nil [] h e = refl
words_of-nil (x ∷ xs) h e = by (is_blank x) refl h e
  where
    by : (v : Bool) → is_blank x ≡ v → cond (not v) (1 + front_len is_blank xs) 0 ≡ 0 → cond v (1 + prefix_len is_blank xs) 0 ≡ 0 → split_words (x ∷ xs) ≡ []
    by true e h k = absurd (omega arith)
    by false e h k = absurd (omega arith)

-- behind the blanks in front there is none
blanks_none : (xs : List ℕ) → prefix_len is_blank (drop (prefix_len is_blank xs) xs) ≡ 0
blanks_none [] = refl
blanks_none (x ∷ xs) = by (is_blank x) refl (blanks_none xs)
  where
    by : (v : Bool) → is_blank x ≡ v → prefix_len is_blank (drop (prefix_len is_blank xs) xs) ≡ 0 → prefix_len is_blank (drop (cond v (1 + prefix_len is_blank xs) 0) (x ∷ xs)) ≡ 0
    by true e h = rw (one-add (prefix_len is_blank xs)) h
    by false e h = rw e refl

-- how a text was cut for its next word
pub record IsCut (old from word new : List ℕ) : Type 0 where
  pub blanks : from ≡ drop (prefix_len is_blank old) old
  pub front : word ≡ take (front_len is_blank from) from
  pub back : new ≡ drop (front_len is_blank from) from

pub a_word_is_next : (old from word new : List ℕ) → IsCut old from word new → 0 < length word → split_words old ≡ word ∷ split_words new
a_word_is_next old from word new cut some =
    let first : split_words from ≡ take (front_len is_blank from) from ∷ split_words (drop (front_len is_blank from) from) = words_of-front from (rw cut.front at some) in
    sym (words_of-blanks old) ∙ ap split_words (sym cut.blanks) ∙ first ∙ rw (cut.front, cut.back) refl

pub no_word_is_next : (old from word new : List ℕ) → IsCut old from word new → length word ≡ 0 → (split_words old ≡ []) × (split_words new ≡ [])
no_word_is_next old from word new cut none =
    let len : front_len is_blank from ≡ 0 = sym (length-prefix_len (λ x. not (is_blank x)) from) ∙ ap length (sym cut.front) ∙ none in
    let blanks : prefix_len is_blank from ≡ 0 = ap (prefix_len is_blank) cut.blanks ∙ blanks_none old in
    let nothing : split_words from ≡ [] = words_of-nil from len blanks in
    let same : new ≡ from = cut.back ∙ ap (λ n. drop n from) len in
    (sym (words_of-blanks old) ∙ ap split_words (sym cut.blanks) ∙ nothing, ap split_words same ∙ nothing)

not_none : (w : List ℕ) (ws : List (List ℕ)) → (length (w ∷ ws) == 0) ≡ false
not_none w ws = grind arith

-- whether a word is left is told by what is behind the blanks
pub blanks_decide : (xs from : List ℕ) → from ≡ drop (prefix_len is_blank xs) xs → (length from == 0) ≡ (length (split_words xs) == 0)
blanks_decide xs [] cut = sym (ap (λ ws. length ws == 0) (sym (words_of-blanks xs) ∙ ap split_words (sym cut)))
blanks_decide xs (b ∷ bs) cut = by (is_blank b) refl (ap (prefix_len is_blank) cut ∙ blanks_none xs)
  where
    by : (v : Bool) → is_blank b ≡ v → cond v (1 + prefix_len is_blank bs) 0 ≡ 0 → (length (b ∷ bs) == 0) ≡ (length (split_words xs) == 0)
    by true e h = absurd (omega arith)
    by false e h =
        let some : 0 < length (take (front_len is_blank (b ∷ bs)) (b ∷ bs)) = rw (e, one-add (front_len is_blank bs)) (grind arith) in
        let word : List ℕ = take (front_len is_blank (b ∷ bs)) (b ∷ bs) in
        let new : List ℕ = drop (front_len is_blank (b ∷ bs)) (b ∷ bs) in
        let next : split_words xs ≡ word ∷ split_words new = a_word_is_next xs (b ∷ bs) word new (record { blanks = cut; front = refl; back = refl }) some in
        let here : (length (b ∷ bs) == 0) ≡ false = grind arith in
        here ∙ sym (ap (λ ws. length ws == 0) next ∙ not_none word (split_words new))

-- ---- lines

abbrev pub is_feed : ℕ → Bool
is_feed b = b == 10

-- parts are never none
parts_some : (p : ℕ → Bool) (xs : List ℕ) (x : List ℕ) → lines_of_parts (x ∷ slice_split p xs) ≡ strip_carriage_return x ∷ lines_of_parts (slice_split p xs)
parts_some p xs x = rw (front_split p xs) refl

-- a line that ends
pub line_ends : (text line : List ℕ) (byte : ℕ) (after : List ℕ) → line ≡ take (front_len is_feed text) text → byte ∷ after ≡ drop (front_len is_feed text) text
    → lines text ≡ strip_carriage_return line ∷ lines after
line_ends text line byte after front back =
    let at_feed : slice_split is_feed (byte ∷ after) ≡ [] ∷ slice_split is_feed after = feed_first byte after (ap (front_len is_feed) back ∙ front_none is_feed text) in
    let parts : slice_split is_feed text ≡ line ∷ slice_split is_feed after = front_split is_feed text ∙ rw (← front, ← back) (ap (λ ps. line ∷ drop 1 ps) at_feed) in
    ap lines_of_parts parts ∙ parts_some is_feed after line
  where
    feed_first : (byte : ℕ) (after : List ℕ) → front_len is_feed (byte ∷ after) ≡ 0 → slice_split is_feed (byte ∷ after) ≡ [] ∷ slice_split is_feed after
    feed_first byte after h = by (is_feed byte) refl h
      where
        by : (v : Bool) → is_feed byte ≡ v → cond (not v) (1 + front_len is_feed after) 0 ≡ 0
            → cond v ([] ∷ slice_split is_feed after) (onto_first byte (slice_split is_feed after)) ≡ [] ∷ slice_split is_feed after
        by true e h = refl
        by false e h = absurd (omega arith)

pub line_ends' : (text line rest : List ℕ) → line ≡ take (front_len is_feed text) text → rest ≡ drop (front_len is_feed text) text → 1 ≤ length rest
    → lines text ≡ strip_carriage_return line ∷ lines (take (length rest - 1) (drop 1 rest))
line_ends' text line [] front back some = absurd (omega arith)
line_ends' text line (byte ∷ after) front back some =
    line_ends text line byte after front back ∙ ap (λ bytes. strip_carriage_return line ∷ lines bytes) (whole after)
  where
    whole : (xs : List ℕ) → xs ≡ take (suc (length xs) - 1) xs
    whole xs = sym (take_all (suc (length xs) - 1) xs (omega arith))

-- a last line without its line feed
pub line_is_last : (text line rest : List ℕ) → line ≡ take (front_len is_feed text) text → rest ≡ drop (front_len is_feed text) text → length rest < 1 → 0 < length line
    → lines text ≡ line ∷ lines rest
line_is_last text [] rest front back none some = absurd (omega arith)
line_is_last text (b ∷ line) (byte ∷ rest) front back none some = absurd (omega arith)
line_is_last text (b ∷ line) [] front back none some =
    let parts : slice_split is_feed text ≡ (b ∷ line) ∷ [] = front_split is_feed text ∙ rw (← front, ← back) refl in
    ap lines_of_parts parts ∙ one b line
  where
    one : (b : ℕ) (line : List ℕ) → lines_of_parts ((b ∷ line) ∷ []) ≡ (b ∷ line) ∷ []
    one b line = let e : (length (b ∷ line) == 0) ≡ false = grind arith in rw e refl

pub no_line : (text : List ℕ) → length text ≡ 0 → lines text ≡ []
no_line [] none = refl
no_line (byte ∷ bytes) none = absurd (omega arith)

-- what the first byte behind the blanks tells of a line
abbrev pub skipped_by_first : List ℕ → Bool
skipped_by_first [] = true
skipped_by_first (x ∷ xs) = x == 35

by_first : (xs : List ℕ) → prefix_len is_blank xs ≡ 0 → is_skipped (split_words xs) ≡ skipped_by_first xs
by_first [] none = refl
by_first (x ∷ xs) none = by (is_blank x) refl none (slice_split is_blank xs) refl
  where
    by : (v : Bool) → is_blank x ≡ v → cond v (1 + prefix_len is_blank xs) 0 ≡ 0 → (parts : List (List ℕ)) → slice_split is_blank xs ≡ parts → is_skipped (split_words (x ∷ xs)) ≡ (x == 35)
    by true e none parts p = absurd (omega arith)
    by false e none [] p = rw (e, p) refl
    by false e none (part ∷ parts) p = rw (e, p) refl

by_blanks : (old from : List ℕ) → from ≡ drop (prefix_len is_blank old) old → is_skipped (split_words old) ≡ skipped_by_first from
by_blanks old from cut =
    ap is_skipped (sym (words_of-blanks old)) ∙ by_first (drop (prefix_len is_blank old) old) (blanks_none old) ∙ ap skipped_by_first (sym cut)

-- a line of blanks is skipped
pub blanks-skipped : (old from : List ℕ) → from ≡ drop (prefix_len is_blank old) old → length from < 1 → true ≡ is_skipped (split_words old)
blanks-skipped old from cut few = sym (by_blanks old from cut ∙ none from few)
  where
    none : (xs : List ℕ) → length xs < 1 → skipped_by_first xs ≡ true
    none [] h = refl
    none (x ∷ xs) h = absurd (omega arith)

-- another line is skipped as its first byte behind the blanks tells
pub first-skipped : (old from : List ℕ) → from ≡ drop (prefix_len is_blank old) old → 1 ≤ length from → nat_eq (slice_index_or from 0 0) 35 ≡ is_skipped (split_words old)
first-skipped old from cut some = sym (by_blanks old from cut ∙ one from some)
  where
    one : (xs : List ℕ) → 1 ≤ length xs → skipped_by_first xs ≡ nat_eq (slice_index_or xs 0 0) 35
    one [] h = absurd (omega arith)
    one (x ∷ xs) h = refl
