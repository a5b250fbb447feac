-- What the steps of a scanner leave to be cut.
use Rattle.std.proofs.Common.{◌≡◌, ℕ, ◌+◌, ◌<◌, ◌≤◌, Bool, true, false, ◌==◌, nat_lt, cond, if◌then◌else◌, List, [], ◌∷◌, ◌++◌, length, map, take, drop, slice_get, Some, None, Result, Ok, Err, MatchResult, refl, sym, ◌∙◌, ap, subst, one-add, append-nil, arith, length-drop}
use Rattle.std.specs.List.{prefix_len}
use Rattle.std.proofs.lemmas.Bool.{false≢true, or_left, eqb-true, ltb-true, ltb-false}
use Rattle.std.proofs.lemmas.List.{take-append-drop}
use Rattle.std.proofs.lemmas.List.Sums.{prefix_len-le-length}
use Rattle.std.proofs.lemmas.List.Folds.{length-prefix_len}
use Rattle.ts_trees.specs.declared.token.TokenKind.{TokenKind}
use Rattle.ts_trees.specs.declared.token.TokenKind.TheVariants as kind
use Rattle.ts_trees.specs.declared.dialect.Dialect.{Dialect}
use Rattle.ts_trees.specs.declared.dialect.Dialect.TheVariants as dialect
use Rattle.ts_trees.specs.declared.token.Token.{Token}
use Rattle.ts_trees.specs.Cut.{is_blank, is_digit, begins_name, in_name, word_kind, token, CutFault, bad_byte, big_literal, between, with_front, cut_from, token_in, all_in, cut_in}
use Rattle.ts_lexer.specs.declared.fault.TokenFault.{TokenFault}
use Rattle.ts_lexer.specs.declared.fault.TokenFault.TheVariants.{BadByte, BigLiteral, NoMemory}
use Rattle.ts_lexer.specs.declared.scanner.Scanner.{Scanner}
use Rattle.ts_lexer.specs.Spans.{begins, BeginsWith, Passes, digits_value}
use Rattle.ts_lexer.specs.Answers.{HasFault, CutsIn}
use Rattle.ts_lexer.specs.Scanner.{due, TakesBytes, Appends, Moves, Steps, EndsScan, LeadsOn}
use Rattle.ts_lexer.proofs.CutLemmas.{Stops, in_line, cut_from-nil, with_front-nil, with_front-append, word_cut, long_word, literal_cut, big_literal_cut, literal_letter_cut, comment_cut, blank_cut, blank_run}

-- the longest front that passes a test

prefix_passes : (p : ℕ → Bool) (bs : List ℕ) → Passes p (take (prefix_len p bs) bs)
prefix_passes p [] = tt
prefix_passes p (b ∷ bs) = by (p b) refl (prefix_passes p bs)
  where
    by : (v : Bool) → p b ≡ v → Passes p (take (prefix_len p bs) bs) → Passes p (take (cond v (1 + prefix_len p bs) 0) (b ∷ bs))
    by true e rest = subst (λ n. Passes p (take n (b ∷ bs))) (sym (one-add (prefix_len p bs))) (e, rest)
    by false e rest = tt

prefix_stops : (p : ℕ → Bool) (bs : List ℕ) → Stops p (drop (prefix_len p bs) bs)
prefix_stops p [] = refl
prefix_stops p (b ∷ bs) = by (p b) refl (prefix_stops p bs)
  where
    by : (v : Bool) → p b ≡ v → Stops p (drop (prefix_len p bs) bs) → Stops p (drop (cond v (1 + prefix_len p bs) 0) (b ∷ bs))
    by true e rest = subst (λ n. Stops p (drop n (b ∷ bs))) (sym (one-add (prefix_len p bs))) rest
    by false e rest = e

prefix_begins : (p q : ℕ → Bool) → ((b : ℕ) → q b ≡ true → p b ≡ true) → (bs : List ℕ) → BeginsWith q bs → BeginsWith q (take (prefix_len p bs) bs)
prefix_begins p q pass [] h = absurd (false≢true h)
prefix_begins p q pass (b ∷ bs) h = subst (λ v. BeginsWith q (take (cond v (1 + prefix_len p bs) 0) (b ∷ bs))) (sym (pass b h)) (subst (λ n. BeginsWith q (take n (b ∷ bs))) (sym (one-add (prefix_len p bs))) h)

prefix_some : (p q : ℕ → Bool) → ((b : ℕ) → q b ≡ true → p b ≡ true) → (bs : List ℕ) → BeginsWith q bs → 0 < prefix_len p bs
prefix_some p q pass [] h = absurd (false≢true h)
prefix_some p q pass (b ∷ bs) h = subst (λ v. 0 < cond v (1 + prefix_len p bs) 0) (sym (pass b h)) (let e : 0 < 1 + prefix_len p bs = omega arith in e)

-- what is cut from the front of bytes

letters_pass : (b : ℕ) → begins_name b ≡ true → in_name b ≡ true
letters_pass b h = or_left (begins_name b) (is_digit b) h

digits_pass : (b : ℕ) → is_digit b ≡ true → is_digit b ≡ true
digits_pass b h = h

marks_pass : (b : ℕ) → (b == 33) ≡ true → in_line b ≡ true
marks_pass b h = subst (λ c. in_line c ≡ true) (sym (eqb-true b 33 h)) refl

cut_split : (i n : ℕ) (bs : List ℕ) → cut_from i between bs ≡ cut_from i between (take n bs ++ drop n bs)
cut_split i n bs = ap (cut_from i between) (sym (take-append-drop n bs))

word_front : (i : ℕ) (bs : List ℕ) → BeginsWith begins_name bs → prefix_len in_name bs ≤ 16
    → cut_from i between bs ≡ with_front (token (word_kind (take (prefix_len in_name bs) bs)) i (i + prefix_len in_name bs) ∷ []) (cut_from (i + prefix_len in_name bs) between (drop (prefix_len in_name bs) bs))
word_front i bs b short =
    let n = prefix_len in_name bs in
    let e : length (take n bs) ≡ n = length-prefix_len in_name bs in
    let P : ℕ → Type 0 = λ m. m ≤ 16 in
    cut_split i n bs
    ∙ word_cut i (take n bs) (drop n bs) (prefix_begins in_name begins_name letters_pass bs b) (prefix_passes in_name bs) (prefix_stops in_name bs) (subst P (sym e) short)
    ∙ ap (λ m. with_front (token (word_kind (take n bs)) i (i + m) ∷ []) (cut_from (i + m) between (drop n bs))) e

long_front : (i : ℕ) (bs : List ℕ) → BeginsWith begins_name bs → 16 < prefix_len in_name bs → cut_from i between bs ≡ Err (bad_byte (i + 16))
long_front i bs b long =
    let n = prefix_len in_name bs in
    let P : ℕ → Type 0 = λ m. 16 < m in
    cut_split i n bs
    ∙ long_word i (take n bs) (drop n bs) (prefix_begins in_name begins_name letters_pass bs b) (prefix_passes in_name bs) (subst P (sym (length-prefix_len in_name bs)) long)

digits_front : (i : ℕ) (bs : List ℕ) → BeginsWith is_digit bs → Stops begins_name (drop (prefix_len is_digit bs) bs) → digits_value 0 (take (prefix_len is_digit bs) bs) ≤ 65535
    → cut_from i between bs ≡ with_front (token (kind.Num (digits_value 0 (take (prefix_len is_digit bs) bs))) i (i + prefix_len is_digit bs) ∷ []) (cut_from (i + prefix_len is_digit bs) between (drop (prefix_len is_digit bs) bs))
digits_front i bs b s small =
    let n = prefix_len is_digit bs in
    cut_split i n bs
    ∙ literal_cut i (take n bs) (drop n bs) (prefix_begins is_digit is_digit digits_pass bs b) (prefix_passes is_digit bs) (prefix_stops is_digit bs) s small
    ∙ ap (λ m. with_front (token (kind.Num (digits_value 0 (take n bs))) i (i + m) ∷ []) (cut_from (i + m) between (drop n bs))) (length-prefix_len is_digit bs)

big_front : (i : ℕ) (bs : List ℕ) → BeginsWith is_digit bs → 65535 < digits_value 0 (take (prefix_len is_digit bs) bs) → cut_from i between bs ≡ Err (big_literal i)
big_front i bs b big =
    let n = prefix_len is_digit bs in
    cut_split i n bs ∙ big_literal_cut i (take n bs) (drop n bs) (prefix_begins is_digit is_digit digits_pass bs b) (prefix_passes is_digit bs) (prefix_stops is_digit bs) big

letter_front : (i : ℕ) (bs : List ℕ) → BeginsWith is_digit bs → BeginsWith begins_name (drop (prefix_len is_digit bs) bs) → digits_value 0 (take (prefix_len is_digit bs) bs) ≤ 65535
    → cut_from i between bs ≡ Err (bad_byte (i + prefix_len is_digit bs))
letter_front i bs b s small =
    let n = prefix_len is_digit bs in
    cut_split i n bs
    ∙ literal_letter_cut i (take n bs) (drop n bs) (prefix_begins is_digit is_digit digits_pass bs b) (prefix_passes is_digit bs) s small
    ∙ ap (λ m. Err (bad_byte (i + m))) (length-prefix_len is_digit bs)

comment_front : (i : ℕ) (bs : List ℕ) → BeginsWith (λ b. b == 33) bs → cut_from i between bs ≡ cut_from (i + prefix_len in_line bs) between (drop (prefix_len in_line bs) bs)
comment_front i bs b =
    let n = prefix_len in_line bs in
    cut_split i n bs
    ∙ comment_cut i (take n bs) (drop n bs) (prefix_begins in_line (λ b. b == 33) marks_pass bs b) (prefix_passes in_line bs) (prefix_stops in_line bs)
    ∙ ap (λ m. cut_from (i + m) between (drop n bs)) (length-prefix_len in_line bs)

blank_front : (i : ℕ) (bs : List ℕ) → BeginsWith is_blank bs → cut_from i between bs ≡ cut_from (i + 1) between (drop 1 bs)
blank_front i [] h = absurd (false≢true h)
blank_front i (b ∷ bs) h = blank_cut i b bs h

blanks_front : (i : ℕ) (bs : List ℕ) → cut_from i between bs ≡ cut_from (i + prefix_len is_blank bs) between (drop (prefix_len is_blank bs) bs)
blanks_front i bs =
    let n = prefix_len is_blank bs in
    cut_split i n bs
    ∙ blank_run i (take n bs) (drop n bs) (prefix_passes is_blank bs)
    ∙ ap (λ m. cut_from (i + m) between (drop n bs)) (length-prefix_len is_blank bs)

-- steps of a scanner

-- the first byte passes a test
pub first_begins : (p : ℕ → Bool) (bs : List ℕ) (b : ℕ) → slice_get bs 0 ≡ Some b → p b ≡ true → BeginsWith p bs
first_begins p [] b e h = cc
first_begins p (x ∷ bs) b e h = let f : x ≡ b = cc in ap p f ∙ h

pub some_left : (p : ℕ → Bool) (bs : List ℕ) → BeginsWith p bs → 1 ≤ length bs
some_left p [] h = absurd (false≢true h)
some_left p (b ∷ bs) h = omega arith

shorter_by : (old new : Scanner) (len : ℕ) → TakesBytes old new len → 0 < len → len ≤ length old.rest.now → length new.rest.now < length old.rest.now
shorter_by old new len t some fits = omega (arith, ap length t.rest, length-drop len old.rest.now)

-- a fault of the rest is one of the whole
pub fault_due : (s : Scanner) (f : CutFault) → cut_from s.place between s.rest.now ≡ Err f → due s ≡ Err f
fault_due s f e = ap (λ r. with_front s.tokens (all_in s.dialect r)) e

-- tokens in a dialect, before others
front_in : (d : Dialect) (t : Token) (r : Result (List Token) CutFault) → all_in d (with_front (t ∷ []) r) ≡ with_front (token_in d t ∷ []) (all_in d r)
front_in d t (Ok us) = refl
front_in d t (Err f) = refl

-- bytes were taken that leave nothing behind
passed_due : (old new : Scanner) (len : ℕ) → TakesBytes old new len
    → cut_from old.place between old.rest.now ≡ cut_from (old.place + len) between (drop len old.rest.now) → due new ≡ due old
passed_due old new len t e =
    ap (λ ts. with_front ts (all_in new.dialect (cut_from new.place between new.rest.now))) t.tokens
    ∙ ap (λ d. with_front old.tokens (all_in d (cut_from new.place between new.rest.now))) t.dialect
    ∙ ap (λ j. with_front old.tokens (all_in old.dialect (cut_from j between new.rest.now))) t.place
    ∙ ap (λ bs. with_front old.tokens (all_in old.dialect (cut_from (old.place + len) between bs))) t.rest
    ∙ ap (λ r. with_front old.tokens (all_in old.dialect r)) (sym e)

passes_over : (old new : Scanner) (len : ℕ) → TakesBytes old new len → 0 < len → len ≤ length old.rest.now
    → cut_from old.place between old.rest.now ≡ cut_from (old.place + len) between (drop len old.rest.now) → Moves old new
passes_over old new len t some fits e = record { same = passed_due old new len t e; shorter = shorter_by old new len t some fits }

token_moves : (old mid new : Scanner) (len : ℕ) (k : TokenKind) → TakesBytes old mid len → 0 < len → len ≤ length old.rest.now
    → cut_from old.place between old.rest.now ≡ with_front (token k old.place (old.place + len) ∷ []) (cut_from (old.place + len) between (drop len old.rest.now))
    → Appends mid new (token k old.place mid.place) → Moves old new
token_moves old mid new len k t some fits e a =
    let d : Dialect = old.dialect in
    let rest : Result (List Token) CutFault = cut_from (old.place + len) between (drop len old.rest.now) in
    let here : Token = token k old.place (old.place + len) in
    let same_dialect : new.dialect ≡ d = a.dialect ∙ t.dialect in
    let appended : new.tokens ≡ old.tokens ++ token_in d here ∷ [] =
    a.tokens ∙ ap (λ ts. ts ++ token_in mid.dialect (token k old.place mid.place) ∷ []) t.tokens
    ∙ ap (λ l. old.tokens ++ token_in l (token k old.place mid.place) ∷ []) t.dialect
    ∙ ap (λ j. old.tokens ++ token_in d (token k old.place j) ∷ []) t.place in
    record {
      same = ap (λ ts. with_front ts (all_in new.dialect (cut_from new.place between new.rest.now))) appended
          ∙ ap (λ l. with_front (old.tokens ++ token_in d here ∷ []) (all_in l (cut_from new.place between new.rest.now))) same_dialect
          ∙ ap (λ j. with_front (old.tokens ++ token_in d here ∷ []) (all_in d (cut_from j between new.rest.now))) (a.place ∙ t.place)
          ∙ ap (λ bs. with_front (old.tokens ++ token_in d here ∷ []) (all_in d (cut_from (old.place + len) between bs))) (a.rest ∙ t.rest)
          ∙ sym (with_front-append old.tokens (token_in d here ∷ []) (all_in d rest))
          ∙ ap (with_front old.tokens) (sym (front_in d here rest))
          ∙ ap (λ r. with_front old.tokens (all_in d r)) (sym e);
      shorter = let s : length mid.rest.now < length old.rest.now = shorter_by old mid len t some fits in omega (arith, ap length a.rest);
    }

-- a token that was taken and then appended, or not for want of memory
pub token_steps : (old mid new : Scanner) (len : ℕ) (k : TokenKind) → TakesBytes old mid len → 0 < len → len ≤ length old.rest.now
    → cut_from old.place between old.rest.now ≡ with_front (token k old.place (old.place + len) ∷ []) (cut_from (old.place + len) between (drop len old.rest.now))
    → (r : Result (Unit {0}) TokenFault) → MatchResult r (λ _. Appends mid new (token k old.place mid.place)) (λ e. e ≡ NoMemory) → Steps old new r
token_steps old mid new len k t some fits e (Ok u) a = token_moves old mid new len k t some fits e a
token_steps old mid new len k t some fits e (Err f) a = by f a
  where
    by : (f : TokenFault) → f ≡ NoMemory → Steps old new (Err f)
    by (BadByte place) a = cc
    by (BigLiteral place) a = cc
    by NoMemory a = tt

pub blank_steps : (old new : Scanner) → BeginsWith is_blank old.rest.now → TakesBytes old new 1 → Moves old new
blank_steps old new b t = passes_over old new 1 t (omega arith) (some_left is_blank old.rest.now b) (blank_front old.place old.rest.now b)

-- blanks that are skipped at once, as many as there are
pub blanks_due : (old new : Scanner) (len : ℕ) → len ≡ prefix_len is_blank old.rest.now → TakesBytes old new len → due new ≡ due old
blanks_due old new len e t =
    let t' = subst (TakesBytes old new) e t in
    passed_due old new (prefix_len is_blank old.rest.now) t' (blanks_front old.place old.rest.now)

pub no_longer : (old new : Scanner) (len : ℕ) → TakesBytes old new len → length new.rest.now ≤ length old.rest.now
no_longer old new len t = omega (arith, ap length t.rest, length-drop len old.rest.now)

-- a step, and what changes nothing
pub moves_on : (a b c : Scanner) → Moves a b → due c ≡ due b → length c.rest.now ≤ length b.rest.now → Moves a c
moves_on a b c p same rest = record { same = same ∙ p.same; shorter = omega (arith, p.shorter, rest) }

pub comment_steps : (old new : Scanner) (len : ℕ) → BeginsWith (λ b. b == 33) old.rest.now → len ≡ prefix_len in_line old.rest.now → TakesBytes old new len → Moves old new
comment_steps old new len b e t =
    let t' = subst (TakesBytes old new) e t in
    passes_over old new (prefix_len in_line old.rest.now) t' (prefix_some in_line (λ b. b == 33) marks_pass old.rest.now b) (prefix_len-le-length in_line old.rest.now) (comment_front old.place old.rest.now b)

pub word_steps : (old mid new : Scanner) (len : ℕ) (text : List ℕ) (k : TokenKind) (r : Result (Unit {0}) TokenFault) → BeginsWith begins_name old.rest.now → len ≡ prefix_len in_name old.rest.now → len ≤ 16
    → TakesBytes old mid len → text ≡ take len old.rest.now → k ≡ word_kind text → MatchResult r (λ _. Appends mid new (token k old.place mid.place)) (λ e. e ≡ NoMemory) → Steps old new r
word_steps old mid new len text k r b e short t is named a =
    let n = prefix_len in_name old.rest.now in
    let P : ℕ → Type 0 = λ m. m ≤ 16 in
    let same : k ≡ word_kind (take n old.rest.now) = named ∙ ap word_kind (is ∙ ap (λ m. take m old.rest.now) e) in
    token_steps old mid new n k (subst (TakesBytes old mid) e t) (prefix_some in_name begins_name letters_pass old.rest.now b) (prefix_len-le-length in_name old.rest.now)
    (word_front old.place old.rest.now b (subst P e short) ∙ ap (λ z. with_front (token z old.place (old.place + n) ∷ []) (cut_from (old.place + n) between (drop n old.rest.now))) (sym same)) r a

pub long_word_due : (s : Scanner) (len : ℕ) → BeginsWith begins_name s.rest.now → len ≡ prefix_len in_name s.rest.now → 16 < len → due s ≡ Err (bad_byte (s.place + 16))
long_word_due s len b e long = let P : ℕ → Type 0 = λ m. 16 < m in fault_due s (bad_byte (s.place + 16)) (long_front s.place s.rest.now b (subst P e long))

-- what the answer of a literal's value says of it

value_some : (n v : ℕ) → Some v ≡ (if nat_lt 65535 n then None else Some n) → (v ≡ n) × (n ≤ 65535)
value_some n v e = by (nat_lt 65535 n) refl e
  where
    by : (t : Bool) → nat_lt 65535 n ≡ t → Some v ≡ (if t then None else Some n) → (v ≡ n) × (n ≤ 65535)
    by true q e = cc
    by false q e = ((let f : v ≡ n = cc in f), ltb-false 65535 n q)

value_none : (n : ℕ) → None ≡ (if nat_lt 65535 n then None else Some n) → 65535 < n
value_none n e = by (nat_lt 65535 n) refl e
  where
    by : (t : Bool) → nat_lt 65535 n ≡ t → None ≡ (if t then None else Some n) → 65535 < n
    by true q e = ltb-true 65535 n q
    by false q e = cc

pub number_steps : (old mid new : Scanner) (len : ℕ) (digits : List ℕ) (v : ℕ) (r : Result (Unit {0}) TokenFault) → BeginsWith is_digit old.rest.now → len ≡ prefix_len is_digit old.rest.now
    → TakesBytes old mid len → digits ≡ take len old.rest.now → Some v ≡ (if nat_lt 65535 (digits_value 0 digits) then None else Some (digits_value 0 digits)) → begins begins_name mid.rest.now ≡ false
    → MatchResult r (λ _. Appends mid new (token (kind.Num v) old.place mid.place)) (λ e. e ≡ NoMemory) → Steps old new r
number_steps old mid new len digits v r b e t is value s a =
    let n = prefix_len is_digit old.rest.now in
    let p = value_some (digits_value 0 digits) v value in
    let P : ℕ → Type 0 = λ m. m ≤ 65535 in
    let front : digits ≡ take n old.rest.now = is ∙ ap (λ m. take m old.rest.now) e in
    let same : v ≡ digits_value 0 (take n old.rest.now) = p.0 ∙ ap (digits_value 0) front in
    let t' = subst (TakesBytes old mid) e t in
    token_steps old mid new n (kind.Num v) t' (prefix_some is_digit is_digit digits_pass old.rest.now b) (prefix_len-le-length is_digit old.rest.now)
    (digits_front old.place old.rest.now b (ap (begins begins_name) (sym t'.rest) ∙ s) (subst P (ap (digits_value 0) front) p.1)
    ∙ ap (λ z. with_front (token (kind.Num z) old.place (old.place + n) ∷ []) (cut_from (old.place + n) between (drop n old.rest.now))) (sym same)) r a

pub big_literal_due : (s : Scanner) (len : ℕ) (digits : List ℕ) → BeginsWith is_digit s.rest.now → len ≡ prefix_len is_digit s.rest.now → digits ≡ take len s.rest.now
    → None ≡ (if nat_lt 65535 (digits_value 0 digits) then None else Some (digits_value 0 digits)) → due s ≡ Err (big_literal s.place)
big_literal_due s len digits b e is value =
    let P : List ℕ → Type 0 = λ ds. 65535 < digits_value 0 ds in
    fault_due s (big_literal s.place) (big_front s.place s.rest.now b (subst P (is ∙ ap (λ m. take m s.rest.now) e) (value_none (digits_value 0 digits) value)))

pub letter_due : (old mid : Scanner) (len : ℕ) (digits : List ℕ) (v : ℕ) → BeginsWith is_digit old.rest.now → len ≡ prefix_len is_digit old.rest.now → TakesBytes old mid len → digits ≡ take len old.rest.now
    → Some v ≡ (if nat_lt 65535 (digits_value 0 digits) then None else Some (digits_value 0 digits)) → begins begins_name mid.rest.now ≡ true → due old ≡ Err (bad_byte mid.place)
letter_due old mid len digits v b e t is value s =
    let n = prefix_len is_digit old.rest.now in
    let t' = subst (TakesBytes old mid) e t in
    let P : List ℕ → Type 0 = λ ds. digits_value 0 ds ≤ 65535 in
    fault_due old (bad_byte mid.place)
    (letter_front old.place old.rest.now b (ap (begins begins_name) (sym t'.rest) ∙ s) (subst P (is ∙ ap (λ m. take m old.rest.now) e) (value_some (digits_value 0 digits) v value).1)
    ∙ ap (λ j. Err (bad_byte j)) (sym t'.place))

pub fits_front : (p : ℕ → Bool) (bs : List ℕ) (n : ℕ) → n ≡ prefix_len p bs → n ≤ length bs
fits_front p bs n e = let P : ℕ → Type 0 = λ m. m ≤ length bs in subst P (sym e) (prefix_len-le-length p bs)

pub front_passes : (p : ℕ → Bool) (bs xs : List ℕ) (n : ℕ) → n ≡ prefix_len p bs → xs ≡ take n bs → Passes p xs
front_passes p bs xs n e is = subst (Passes p) (sym (is ∙ ap (λ m. take m bs) e)) (prefix_passes p bs)

-- nothing is left
pub all_due : (s : Scanner) → None ≡ slice_get s.rest.now 0 → due s ≡ Ok s.tokens
all_due s e =
    ap (λ bs. with_front s.tokens (all_in s.dialect (cut_from s.place between bs))) (none_left s.rest.now e)
    ∙ ap (λ r. with_front s.tokens (all_in s.dialect r)) (cut_from-nil s.place between)
    ∙ ap (λ ts. Ok ts) (append-nil s.tokens)
  where
    none_left : (bs : List ℕ) → None ≡ slice_get bs 0 → bs ≡ []
    none_left [] e = refl
    none_left (b ∷ bs) e = cc

-- a whole text, and its tokens in each dialect
plain_tokens : (ts : List Token) → map (token_in dialect.Plain) ts ≡ ts
plain_tokens [] = refl
plain_tokens (t ∷ ts) = ap (λ z. t ∷ z) (plain_tokens ts)

plain_all : (r : Result (List Token) CutFault) → all_in dialect.Plain r ≡ r
plain_all (Ok ts) = ap (λ z. Ok z) (plain_tokens ts)
plain_all (Err f) = refl

pub cut_in-all : (d : Dialect) (bytes : List ℕ) → all_in d (cut_from 0 between bytes) ≡ cut_in d bytes
cut_in-all dialect.Plain bytes = plain_all (cut_from 0 between bytes)
cut_in-all dialect.Procedures bytes = refl

-- ---- whole runs of a scanner

-- what is due from here is due from the start, and its fault is one of the whole
pub same_fault : (whole rest : Result (List Token) CutFault) → rest ≡ whole → (f : TokenFault) → HasFault rest f → HasFault whole f
same_fault whole rest e f h = subst (λ r. HasFault r f) e h

pub leads_same : (r : Result (List Token) CutFault) → LeadsOn r r
leads_same r = record { front = []; is = sym (with_front-nil r) }

pub leads_on : (a b c : Result (List Token) CutFault) → LeadsOn a b → LeadsOn b c → LeadsOn a c
leads_on a b c p q = record { front = p.front ++ q.front; is = p.is ∙ ap (with_front p.front) q.is ∙ with_front-append p.front q.front c }

pub leads_by : (a b c : Result (List Token) CutFault) → LeadsOn a b → c ≡ b → LeadsOn a c
leads_by a b c p e = record { front = p.front; is = p.is ∙ ap (with_front p.front) (sym e) }

pub leads_fault : (whole rest : Result (List Token) CutFault) (f : TokenFault) → LeadsOn whole rest → HasFault rest f → HasFault whole f
leads_fault whole rest (BadByte place) p h = p.is ∙ ap (with_front p.front) h
leads_fault whole rest (BigLiteral place) p h = p.is ∙ ap (with_front p.front) h
leads_fault whole rest NoMemory p h = tt

pub leads_end : (whole rest : Result (List Token) CutFault) (ts : List Token) → LeadsOn whole rest → rest ≡ Ok ts → (all : List Token) × (whole ≡ Ok all)
leads_end whole rest ts p e = (p.front ++ ts, p.is ∙ ap (with_front p.front) e)

-- what is due without the tokens that were read
pub forgotten : (old new : Scanner) → new.tokens ≡ [] → new.rest.now ≡ old.rest.now → new.place ≡ old.place → new.dialect ≡ old.dialect → LeadsOn (due old) (due new)
forgotten old new none rest place dialect = record {
  front = old.tokens;
  is = ap (with_front old.tokens)
      (sym (ap (λ ts. with_front ts (all_in new.dialect (cut_from new.place between new.rest.now))) none
      ∙ with_front-nil (all_in new.dialect (cut_from new.place between new.rest.now))
      ∙ ap (λ bs. all_in new.dialect (cut_from new.place between bs)) rest ∙ ap (λ j. all_in new.dialect (cut_from j between old.rest.now)) place
      ∙ ap (λ d. all_in d (cut_from old.place between old.rest.now)) dialect));
}

-- tokens of a whole text begin with those that were read
pub reads_front : (s : Scanner) (all : List Token) → due s ≡ Ok all → (more : List Token) × (all ≡ s.tokens ++ more)
reads_front s all e = by (all_in s.dialect (cut_from s.place between s.rest.now)) e where
  by : (r : Result (List Token) CutFault) → with_front s.tokens r ≡ Ok all → (more : List Token) × (all ≡ s.tokens ++ more)
  by (Ok us) e = let is : s.tokens ++ us ≡ all = cc in (us, sym is)
  by (Err f) e = cc

-- what a whole text answers, by what is due at first
pub cuts_by : (d : Dialect) (bytes : List ℕ) (r : Result (List Token) CutFault) (result : Result (List Token) TokenFault) → r ≡ cut_in d bytes → EndsScan r result → CutsIn d bytes result
cuts_by d bytes r (Ok ts) e h = sym e ∙ h
cuts_by d bytes r (Err f) e h = subst (λ r. HasFault r f) e h
