-- How runs of bytes are cut.
use Rattle.std.proofs.Common.{◌≡◌, ℕ, ◌+◌, ◌-◌, ◌*◌, ◌<◌, ◌≤◌, Bool, true, false, not, ◌&&◌, ◌||◌, ◌==◌, nat_lt, nat_le, inl, inr, List, [], ◌∷◌, ◌++◌, length, Result, Ok, Err, refl, sym, ◌∙◌, ap, subst, append_assoc, append-nil, add-zero, length-append, arith}
use Rattle.std.proofs.lemmas.Bool.{false≢true, cond-true, cond-false, or_cases, or_from, or_right, and_parts, and_left, and_right, not-true, not-false, leb-true, eqb-true, lt-leb, lt-ltb, le-ltb, ne_eqb, cases_lt}
use Rattle.ts_trees.specs.declared.token.Token.{Token}
use Rattle.ts_trees.specs.declared.token.TokenKind.TheVariants as kind
use Rattle.ts_trees.specs.Cut.{is_blank, is_digit, begins_name, in_name, word_kind, token, CutFault, bad_byte, big_literal, Mode, between, comment, word, literal, CutStep, stop, go, behind, fresh, turn, with_front, turned, cut_from}
use Rattle.ts_lexer.specs.Spans.{begins, BeginsWith, Passes, digits_value}

-- the bytes are at their end, or their first one fails the test
abbrev pub Stops : (ℕ → Bool) → List ℕ → Type 0
Stops p bs = begins p bs ≡ false

-- bytes of one kind are of no other

letters_high : (b : ℕ) → begins_name b ≡ true → 65 ≤ b
letters_high b h = elim (or_cases (nat_le 97 b && nat_le b 122 || nat_le 65 b && nat_le b 90) (b == 95) h) [
  | inl g ↦ elim (or_cases (nat_le 97 b && nat_le b 122) (nat_le 65 b && nat_le b 90) g) [
    | inl k ↦ omega (arith, leb-true 97 b (and_parts (nat_le 97 b) (nat_le b 122) k).0)
    | inr k ↦ leb-true 65 b (and_parts (nat_le 65 b) (nat_le b 90) k).0
  ]
  | inr g ↦ omega (arith, eqb-true b 95 g)
]

digits_low : (b : ℕ) → is_digit b ≡ true → (48 ≤ b) × (b ≤ 57)
digits_low b h = let p = and_parts (nat_le 48 b) (nat_le b 57) h in (leb-true 48 b p.0, leb-true b 57 p.1)

high_not_blank : (b : ℕ) → 48 ≤ b → is_blank b ≡ false
high_not_blank b h =
    or_from (b == 32 || b == 9 || b == 13) (b == 10)
    (or_from (b == 32 || b == 9) (b == 13) (or_from (b == 32) (b == 9) (ne_eqb b 32 (λ e. omega arith)) (ne_eqb b 9 (λ e. omega arith))) (ne_eqb b 13 (λ e. omega arith)))
    (ne_eqb b 10 (λ e. omega arith))

high_not_mark : (b : ℕ) → 48 ≤ b → (b == 33) ≡ false
high_not_mark b h = ne_eqb b 33 (λ e. omega arith)

low_no_letter : (b : ℕ) → b ≤ 57 → begins_name b ≡ false
low_no_letter b h =
    or_from (nat_le 97 b && nat_le b 122 || nat_le 65 b && nat_le b 90) (b == 95)
    (or_from (nat_le 97 b && nat_le b 122) (nat_le 65 b && nat_le b 90)
    (and_left (nat_le 97 b) (nat_le b 122) (lt-leb 97 b (omega arith))) (and_left (nat_le 65 b) (nat_le b 90) (lt-leb 65 b (omega arith))))
    (ne_eqb b 95 (λ e. omega arith))

high_no_digit : (b : ℕ) → 65 ≤ b → is_digit b ≡ false
high_no_digit b h = and_right (nat_le 48 b) (nat_le b 57) (lt-leb b 57 (omega arith))

-- what a first byte begins

pub fresh-blank : (i b : ℕ) → is_blank b ≡ true → fresh i b ≡ go [] between
fresh-blank i b h = cond-true (is_blank b) _ _ h

pub fresh-letter : (i b : ℕ) → begins_name b ≡ true → fresh i b ≡ go [] (word i (b ∷ []))
fresh-letter i b h =
    let high : 48 ≤ b = omega (arith, letters_high b h) in
    cond-false (is_blank b) _ _ (high_not_blank b high) ∙ cond-false (b == 33) _ _ (high_not_mark b high) ∙ cond-true (begins_name b) _ _ h

pub fresh-digit : (i b : ℕ) → is_digit b ≡ true → fresh i b ≡ go [] (literal i (b - 48))
fresh-digit i b h =
    let low = digits_low b h in
    cond-false (is_blank b) _ _ (high_not_blank b low.0) ∙ cond-false (b == 33) _ _ (high_not_mark b low.0)
    ∙ cond-false (begins_name b) _ _ (low_no_letter b low.1) ∙ cond-true (is_digit b) _ _ h

-- fronts

pub with_front-nil : (r : Result (List Token) CutFault) → with_front [] r ≡ r
with_front-nil (Ok us) = refl
with_front-nil (Err f) = refl

pub with_front-append : (ts us : List Token) (r : Result (List Token) CutFault) → with_front ts (with_front us r) ≡ with_front (ts ++ us) r
with_front-append ts us (Ok vs) = ap (λ z. Ok z) (sym (append_assoc ts us vs))
with_front-append ts us (Err f) = refl

turned-behind : (rest : Mode → Result (List Token) CutFault) (t : Token) (u : CutStep) → turned rest (behind t u) ≡ with_front (t ∷ []) (turned rest u)
turned-behind rest t (stop f) = refl
turned-behind rest t (go ts m) = sym (with_front-append (t ∷ []) ts (rest m))

-- one byte

pub cut_from-nil : (i : ℕ) (m : Mode) → cut_from i m [] ≡ turned (λ _. Ok []) (turn i m 10)
unfolding cut_from
cut_from-nil i m = refl

pub cut_from-cons : (i : ℕ) (m : Mode) (b : ℕ) (bs : List ℕ) → cut_from i m (b ∷ bs) ≡ turned (λ n. cut_from (i + 1) n bs) (turn i m b)
unfolding cut_from
cut_from-cons i m b bs = refl

pub cut_from-turn : (i : ℕ) (m : Mode) (b : ℕ) (bs : List ℕ) (u : CutStep) → turn i m b ≡ u → cut_from i m (b ∷ bs) ≡ turned (λ n. cut_from (i + 1) n bs) u
cut_from-turn i m b bs u e = cut_from-cons i m b bs ∙ ap (turned (λ n. cut_from (i + 1) n bs)) e

pub cut_from-go : (i : ℕ) (m n : Mode) (b : ℕ) (bs : List ℕ) → turn i m b ≡ go [] n → cut_from i m (b ∷ bs) ≡ cut_from (i + 1) n bs
cut_from-go i m n b bs e = cut_from-turn i m b bs (go [] n) e ∙ with_front-nil (cut_from (i + 1) n bs)

-- a token that ends before what follows
pub ends_before : (i : ℕ) (m : Mode) (t : Token) (b : ℕ) (bs : List ℕ) → turn i m b ≡ behind t (fresh i b) → cut_from i m (b ∷ bs) ≡ with_front (t ∷ []) (cut_from i between (b ∷ bs))
ends_before i m t b bs e =
    cut_from-turn i m b bs (behind t (fresh i b)) e ∙ turned-behind (λ n. cut_from (i + 1) n bs) t (fresh i b)
    ∙ ap (with_front (t ∷ [])) (sym (cut_from-cons i between b bs))

-- names and keywords

word_step : (i from : ℕ) (w : List ℕ) (b : ℕ) (bs : List ℕ) → in_name b ≡ true → length w < 16 → cut_from i (word from w) (b ∷ bs) ≡ cut_from (i + 1) (word from (w ++ b ∷ [])) bs
word_step i from w b bs h short = cut_from-go i (word from w) (word from (w ++ b ∷ [])) b bs (cond-true (in_name b) _ _ h ∙ cond-true (nat_lt (length w) 16) _ _ (lt-ltb (length w) 16 short))

word_run : (i from : ℕ) (w xs rest : List ℕ) → Passes in_name xs → length w + length xs ≤ 16 → cut_from i (word from w) (xs ++ rest) ≡ cut_from (i + length xs) (word from (w ++ xs)) rest
word_run i from w [] rest p short = sym (ap (λ j. cut_from j (word from (w ++ [])) rest) (add-zero i) ∙ ap (λ v. cut_from i (word from v) rest) (append-nil w))
word_run i from w (x ∷ xs) rest p short =
    word_step i from w x (xs ++ rest) p.0 (omega arith)
    ∙ word_run (i + 1) from (w ++ x ∷ []) xs rest p.1 (omega (arith, length-append w (x ∷ [])))
    ∙ ap (λ j. cut_from j (word from ((w ++ x ∷ []) ++ xs)) rest) (let e : i + 1 + length xs ≡ i + length (x ∷ xs) = omega arith in e)
    ∙ ap (λ v. cut_from (i + length (x ∷ xs)) (word from v) rest) (append_assoc w (x ∷ []) xs)

word_end : (i from : ℕ) (w rest : List ℕ) → Stops in_name rest → cut_from i (word from w) rest ≡ with_front (token (word_kind w) from i ∷ []) (cut_from i between rest)
unfolding cut_from
word_end i from w [] h = refl
word_end i from w (b ∷ bs) h = ends_before i (word from w) (token (word_kind w) from i) b bs (cond-false (in_name b) _ _ h)

-- a name or a keyword, and what follows it
pub word_cut : (i : ℕ) (xs rest : List ℕ) → BeginsWith begins_name xs → Passes in_name xs → Stops in_name rest → length xs ≤ 16
    → cut_from i between (xs ++ rest) ≡ with_front (token (word_kind xs) i (i + length xs) ∷ []) (cut_from (i + length xs) between rest)
word_cut i [] rest b p s short = absurd (false≢true b)
word_cut i (x ∷ xs) rest b p s short =
    cut_from-go i between (word i (x ∷ [])) x (xs ++ rest) (fresh-letter i x b)
    ∙ word_run (i + 1) i (x ∷ []) xs rest p.1 (omega arith)
    ∙ ap (λ j. cut_from j (word i (x ∷ xs)) rest) (let e : i + 1 + length xs ≡ i + length (x ∷ xs) = omega arith in e)
    ∙ word_end (i + length (x ∷ xs)) i (x ∷ xs) rest s

word_over : (i from : ℕ) (w xs rest : List ℕ) → Passes in_name xs → length w ≤ 16 → 16 < length w + length xs → cut_from i (word from w) (xs ++ rest) ≡ Err (bad_byte (i + (16 - length w)))
word_over i from w [] rest p short long = absurd (omega arith)
word_over i from w (x ∷ xs) rest p short long = elim (cases_lt (length w) 16) [
  | inl less ↦ word_step i from w x (xs ++ rest) p.0 less
      ∙ word_over (i + 1) from (w ++ x ∷ []) xs rest p.1 (omega (arith, length-append w (x ∷ []))) (omega (arith, length-append w (x ∷ [])))
      ∙ ap (λ j. Err (bad_byte j)) (let e : i + 1 + (16 - length (w ++ x ∷ [])) ≡ i + (16 - length w) = omega (arith, length-append w (x ∷ [])) in e)
  | inr full ↦ cut_from-turn i (word from w) x (xs ++ rest) (stop (bad_byte i)) (cond-true (in_name x) _ _ p.0 ∙ cond-false (nat_lt (length w) 16) _ _ (le-ltb (length w) 16 full))
      ∙ ap (λ j. Err (bad_byte j)) (let e : i ≡ i + (16 - length w) = omega arith in e)
]

-- a name stops at its 17th byte
pub long_word : (i : ℕ) (xs rest : List ℕ) → BeginsWith begins_name xs → Passes in_name xs → 16 < length xs → cut_from i between (xs ++ rest) ≡ Err (bad_byte (i + 16))
long_word i [] rest b p long = absurd (false≢true b)
long_word i (x ∷ xs) rest b p long =
    cut_from-go i between (word i (x ∷ [])) x (xs ++ rest) (fresh-letter i x b)
    ∙ word_over (i + 1) i (x ∷ []) xs rest p.1 (omega arith) (omega arith)
    ∙ ap (λ j. Err (bad_byte j)) (let e : i + 1 + (16 - 1) ≡ i + 16 = omega arith in e)

-- literals

literal_step : (i from n b : ℕ) (bs : List ℕ) → is_digit b ≡ true → cut_from i (literal from n) (b ∷ bs) ≡ cut_from (i + 1) (literal from (n * 10 + (b - 48))) bs
literal_step i from n b bs h = cut_from-go i (literal from n) (literal from (n * 10 + (b - 48))) b bs (cond-true (is_digit b) _ _ h)

literal_run : (i from n : ℕ) (xs rest : List ℕ) → Passes is_digit xs → cut_from i (literal from n) (xs ++ rest) ≡ cut_from (i + length xs) (literal from (digits_value n xs)) rest
literal_run i from n [] rest p = sym (ap (λ j. cut_from j (literal from n) rest) (add-zero i))
literal_run i from n (x ∷ xs) rest p =
    literal_step i from n x (xs ++ rest) p.0
    ∙ literal_run (i + 1) from (n * 10 + (x - 48)) xs rest p.1
    ∙ ap (λ j. cut_from j (literal from (digits_value n (x ∷ xs))) rest) (let e : i + 1 + length xs ≡ i + length (x ∷ xs) = omega arith in e)

literal_begins : (i : ℕ) (xs rest : List ℕ) → BeginsWith is_digit xs → Passes is_digit xs → cut_from i between (xs ++ rest) ≡ cut_from (i + length xs) (literal i (digits_value 0 xs)) rest
literal_begins i [] rest b p = absurd (false≢true b)
literal_begins i (x ∷ xs) rest b p =
    cut_from-go i between (literal i (x - 48)) x (xs ++ rest) (fresh-digit i x b)
    ∙ literal_run (i + 1) i (x - 48) xs rest p.1
    ∙ ap (λ j. cut_from j (literal i (digits_value (x - 48) xs)) rest) (let e : i + 1 + length xs ≡ i + length (x ∷ xs) = omega arith in e)
    ∙ ap (λ n. cut_from (i + length (x ∷ xs)) (literal i (digits_value n xs)) rest) (let e : x - 48 ≡ 0 * 10 + (x - 48) = omega arith in e)

literal_big : (i from n : ℕ) (rest : List ℕ) → Stops is_digit rest → 65535 < n → cut_from i (literal from n) rest ≡ Err (big_literal from)
literal_big i from n [] s big =
    cut_from-nil i (literal from n)
    ∙ ap (turned (λ _. Ok [])) (cond-true (nat_lt 65535 n) (stop (big_literal from)) (go (token (kind.Num n) from i ∷ []) between) (lt-ltb 65535 n big))
literal_big i from n (b ∷ bs) s big = cut_from-turn i (literal from n) b bs (stop (big_literal from)) (cond-false (is_digit b) _ _ s ∙ cond-true (nat_lt 65535 n) _ _ (lt-ltb 65535 n big))

letter_no_digit : (b : ℕ) → begins_name b ≡ true → is_digit b ≡ false
letter_no_digit b h = high_no_digit b (letters_high b h)

literal_letter : (i from n : ℕ) (rest : List ℕ) → BeginsWith begins_name rest → n ≤ 65535 → cut_from i (literal from n) rest ≡ Err (bad_byte i)
literal_letter i from n [] b small = absurd (false≢true b)
literal_letter i from n (x ∷ rest) b small = cut_from-turn i (literal from n) x rest (stop (bad_byte i))
    (cond-false (is_digit x) _ _ (letter_no_digit x b) ∙ cond-false (nat_lt 65535 n) _ _ (le-ltb 65535 n small) ∙ cond-true (begins_name x) _ _ b)

literal_end : (i from n : ℕ) (rest : List ℕ) → Stops is_digit rest → Stops begins_name rest → n ≤ 65535 → cut_from i (literal from n) rest ≡ with_front (token (kind.Num n) from i ∷ []) (cut_from i between rest)
literal_end i from n [] d s small =
    cut_from-nil i (literal from n)
    ∙ ap (turned (λ _. Ok [])) (cond-false (nat_lt 65535 n) (stop (big_literal from)) (go (token (kind.Num n) from i ∷ []) between) (le-ltb 65535 n small))
    ∙ ap (with_front (token (kind.Num n) from i ∷ [])) (sym (cut_from-nil i between))
literal_end i from n (x ∷ rest) d s small = ends_before i (literal from n) (token (kind.Num n) from i) x rest
    (cond-false (is_digit x) _ _ d ∙ cond-false (nat_lt 65535 n) _ _ (le-ltb 65535 n small) ∙ cond-false (begins_name x) _ _ s)

-- a literal, and what follows it
pub literal_cut : (i : ℕ) (xs rest : List ℕ) → BeginsWith is_digit xs → Passes is_digit xs → Stops is_digit rest → Stops begins_name rest → digits_value 0 xs ≤ 65535
    → cut_from i between (xs ++ rest) ≡ with_front (token (kind.Num (digits_value 0 xs)) i (i + length xs) ∷ []) (cut_from (i + length xs) between rest)
literal_cut i xs rest b p d s small = literal_begins i xs rest b p ∙ literal_end (i + length xs) i (digits_value 0 xs) rest d s small

pub big_literal_cut : (i : ℕ) (xs rest : List ℕ) → BeginsWith is_digit xs → Passes is_digit xs → Stops is_digit rest → 65535 < digits_value 0 xs → cut_from i between (xs ++ rest) ≡ Err (big_literal i)
big_literal_cut i xs rest b p d big = literal_begins i xs rest b p ∙ literal_big (i + length xs) i (digits_value 0 xs) rest d big

pub literal_letter_cut : (i : ℕ) (xs rest : List ℕ) → BeginsWith is_digit xs → Passes is_digit xs → BeginsWith begins_name rest → digits_value 0 xs ≤ 65535
    → cut_from i between (xs ++ rest) ≡ Err (bad_byte (i + length xs))
literal_letter_cut i xs rest b p s small = literal_begins i xs rest b p ∙ literal_letter (i + length xs) i (digits_value 0 xs) rest s small

-- more digits don't make a value smaller
pub value_of-ge : (n : ℕ) (xs : List ℕ) → n ≤ digits_value n xs
value_of-ge n [] = omega arith
value_of-ge n (x ∷ xs) = omega (arith, value_of-ge (n * 10 + (x - 48)) xs)

-- comments and blanks

-- a byte that doesn't end a comment
abbrev pub in_line : ℕ → Bool
in_line b = not (b == 10)

comment_run : (i : ℕ) (xs rest : List ℕ) → Passes in_line xs → cut_from i comment (xs ++ rest) ≡ cut_from (i + length xs) comment rest
comment_run i [] rest p = sym (ap (λ j. cut_from j comment rest) (add-zero i))
comment_run i (x ∷ xs) rest p =
    cut_from-go i comment comment x (xs ++ rest) (cond-false (x == 10) _ _ (not-true (x == 10) p.0))
    ∙ comment_run (i + 1) xs rest p.1
    ∙ ap (λ j. cut_from j comment rest) (let e : i + 1 + length xs ≡ i + length (x ∷ xs) = omega arith in e)

comment_end : (i : ℕ) (rest : List ℕ) → Stops in_line rest → cut_from i comment rest ≡ cut_from i between rest
comment_end i [] s = cut_from-nil i comment ∙ sym (cut_from-nil i between)
comment_end i (b ∷ bs) s =
    let lf : (b == 10) ≡ true = not-false (b == 10) s in
    cut_from-go i comment between b bs (cond-true (b == 10) _ _ lf)
    ∙ sym (cut_from-go i between between b bs (fresh-blank i b (or_right (b == 32 || b == 9 || b == 13) (b == 10) lf)))

-- a comment, and what follows it
pub comment_cut : (i : ℕ) (xs rest : List ℕ) → BeginsWith (λ b. b == 33) xs → Passes in_line xs → Stops in_line rest → cut_from i between (xs ++ rest) ≡ cut_from (i + length xs) between rest
comment_cut i [] rest b p s = absurd (false≢true b)
comment_cut i (x ∷ xs) rest b p s =
    cut_from-go i between comment x (xs ++ rest) (let e : x ≡ 33 = eqb-true x 33 b in subst (λ y. fresh i y ≡ go [] comment) (sym e) refl)
    ∙ comment_run (i + 1) xs rest p.1
    ∙ ap (λ j. cut_from j comment rest) (let e : i + 1 + length xs ≡ i + length (x ∷ xs) = omega arith in e)
    ∙ comment_end (i + length (x ∷ xs)) rest s

pub blank_cut : (i b : ℕ) (rest : List ℕ) → is_blank b ≡ true → cut_from i between (b ∷ rest) ≡ cut_from (i + 1) between rest
blank_cut i b rest h = cut_from-go i between between b rest (fresh-blank i b h)

-- a run of blanks, each of which is skipped by itself, and what follows it
pub blank_run : (i : ℕ) (xs rest : List ℕ) → Passes is_blank xs → cut_from i between (xs ++ rest) ≡ cut_from (i + length xs) between rest
blank_run i [] rest p = sym (ap (λ j. cut_from j between rest) (add-zero i))
blank_run i (x ∷ xs) rest p =
    blank_cut i x (xs ++ rest) p.0
    ∙ blank_run (i + 1) xs rest p.1
    ∙ ap (λ j. cut_from j between rest) (let e : i + 1 + length xs ≡ i + length (x ∷ xs) = omega arith in e)
