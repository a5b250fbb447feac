-- How printed tokens are cut.
use Rattle.std.proofs.Common.{◌≡◌, ℕ, ◌+◌, ◌-◌, ◌*◌, ◌/◌, ◌%◌, ◌<◌, ◌≤◌, Bool, true, false, nat_le, List, [], ◌∷◌, ◌++◌, length, decimal, Ok, refl, sym, ◌∙◌, ap, subst, arith}
use Rattle.std.specs.List.{list_all}
use Rattle.std.proofs.lemmas.Bool.{false≢true, and_parts, and_from, le-leb, leb-true}
use Rattle.std.proofs.lemmas.Fmt.{decimal_by_steps}
use Rattle.ts_trees.specs.declared.token.Token.{Token}
use Rattle.ts_trees.specs.declared.token.TokenKind.{TokenKind}
use Rattle.ts_trees.specs.declared.token.TokenKind.TheVariants as kind
use Rattle.ts_trees.specs.Text.{token_text, written, text_of}
use Rattle.ts_trees.specs.Spelling.{kinds}
use Rattle.ts_trees.specs.Cut.{is_digit, begins_name, in_name, word_kind, token, between, less, greater, go, behind, fresh, turn, with_front, cut_from}
use Rattle.ts_lexer.specs.Spans.{BeginsWith, Passes, digits_value}
use Rattle.ts_lexer.specs.Printed.{IsKind, AreKinds, IsCutInto}
use Rattle.ts_lexer.proofs.CutLemmas.{Stops, cut_from-nil, cut_from-go, cut_from-turn, ends_before, word_cut, literal_cut, blank_cut}

-- the bytes are at their end or begin with a space
abbrev Spaced : List ℕ → Type 0
Spaced [] = Unit {0}
Spaced (b ∷ bs) = b ≡ 32

spaced-Stops : (p : ℕ → Bool) → p 32 ≡ false → (bs : List ℕ) → Spaced bs → Stops p bs
spaced-Stops p h [] s = refl
spaced-Stops p h (b ∷ bs) s = ap p s ∙ h

-- the text of a kind, before a space or the end, is cut into a token of the kind
abbrev IsCutAt : TokenKind → ℕ → List ℕ → List ℕ → Type 0
IsCutAt k i text rest = cut_from i between (text ++ rest) ≡ with_front (token k i (i + length text) ∷ []) (cut_from (i + length text) between rest)

-- words

passes_from : (p : ℕ → Bool) (bs : List ℕ) → list_all p bs ≡ true → Passes p bs
passes_from p [] h = tt
passes_from p (b ∷ bs) h = let q = and_parts (p b) (list_all p bs) h in (q.0, passes_from p bs q.1)

word_again : (k : TokenKind) (i : ℕ) (text rest : List ℕ) → BeginsWith begins_name text → Passes in_name text → length text ≤ 16 → word_kind text ≡ k → Spaced rest → IsCutAt k i text rest
word_again k i text rest b p short e s =
    word_cut i text rest b p (spaced-Stops in_name refl rest s) short
    ∙ ap (λ z. with_front (token z i (i + length text) ∷ []) (cut_from (i + length text) between rest)) e

-- literals

record IsNumeral (n : ℕ) (ds : List ℕ) : Type 0 where
  begins : BeginsWith is_digit ds
  passes : Passes is_digit ds
  value : digits_value 0 ds ≡ n

is_digit_of : (d : ℕ) → d < 10 → is_digit (48 + d) ≡ true
is_digit_of d h = and_from (nat_le 48 (48 + d)) (nat_le (48 + d) 57) (le-leb 48 (48 + d) (omega arith)) (le-leb (48 + d) 57 (omega arith))

value_of-push : (n : ℕ) (xs : List ℕ) (c : ℕ) → digits_value n (xs ++ c ∷ []) ≡ digits_value n xs * 10 + (c - 48)
value_of-push n [] c = refl
value_of-push n (x ∷ xs) c = value_of-push (n * 10 + (x - 48)) xs c

numeral_one : (n : ℕ) → n < 10 → IsNumeral n ((48 + n) ∷ [])
numeral_one n h = record { begins = is_digit_of n h; passes = (is_digit_of n h, tt); value = omega arith }

numeral_more : (n : ℕ) (ds : List ℕ) → 10 ≤ n → IsNumeral (n / 10) ds → IsNumeral n (ds ++ ((48 + n % 10) ∷ []))
numeral_more n ds h u =
    let last : is_digit (48 + n % 10) ≡ true = is_digit_of (n % 10) (omega arith) in
    record { begins = first ds u.begins; passes = all ds last u.passes; value = value_of-push 0 ds (48 + n % 10) ∙ sum (digits_value 0 ds) u.value }
  where
    first : (v : List ℕ) → BeginsWith is_digit v → BeginsWith is_digit (v ++ ((48 + n % 10) ∷ []))
    first [] f = absurd (false≢true f)
    first (x ∷ xs) f = f

    all : (v : List ℕ) → is_digit (48 + n % 10) ≡ true → Passes is_digit v → Passes is_digit (v ++ ((48 + n % 10) ∷ []))
    all [] c p = (c, tt)
    all (x ∷ xs) c p = (p.0, all xs c p.1)

    sum : (v : ℕ) → v ≡ n / 10 → v * 10 + (48 + n % 10 - 48) ≡ n
    sum v e = omega arith

numeral : (n : ℕ) → n ≤ 65535 → IsNumeral n (decimal n)
numeral n h = decimal_by_steps IsNumeral numeral_one numeral_more n (omega arith)

number_again : (n i : ℕ) (rest : List ℕ) → n ≤ 65535 → Spaced rest → IsCutAt (kind.Num n) i (decimal n) rest
number_again n i rest small s =
    let u = numeral n small in
    literal_cut i (decimal n) rest u.begins u.passes (spaced-Stops is_digit refl rest s) (spaced-Stops begins_name refl rest s) (let P : ℕ → Type 0 = λ v. v ≤ 65535 in subst P (sym u.value) small)
    ∙ ap (λ v. with_front (token (kind.Num v) i (i + length (decimal n)) ∷ []) (cut_from (i + length (decimal n)) between rest)) u.value

-- signs

sign_again : (k : TokenKind) (i b : ℕ) (rest : List ℕ) → turn i between b ≡ go (token k i (i + 1) ∷ []) between → IsCutAt k i (b ∷ []) rest
sign_again k i b rest e = cut_from-turn i between b rest (go (token k i (i + 1) ∷ []) between) e

less_end : (i : ℕ) (rest : List ℕ) → Spaced rest → cut_from (i + 1) (less i) rest ≡ with_front (token kind.Lt i (i + 1) ∷ []) (cut_from (i + 1) between rest)
unfolding cut_from
less_end i [] s = refl
less_end i (b ∷ bs) s = ends_before (i + 1) (less i) (token kind.Lt i (i + 1)) b bs (subst (λ c. turn (i + 1) (less i) c ≡ behind (token kind.Lt i (i + 1)) (fresh (i + 1) c)) (sym s) refl)

greater_end : (i : ℕ) (rest : List ℕ) → Spaced rest → cut_from (i + 1) (greater i) rest ≡ with_front (token kind.Gt i (i + 1) ∷ []) (cut_from (i + 1) between rest)
unfolding cut_from
greater_end i [] s = refl
greater_end i (b ∷ bs) s = ends_before (i + 1) (greater i) (token kind.Gt i (i + 1)) b bs (subst (λ c. turn (i + 1) (greater i) c ≡ behind (token kind.Gt i (i + 1)) (fresh (i + 1) c)) (sym s) refl)

two_on : (i : ℕ) → i + 1 + 1 ≡ i + 2
two_on i = omega arith

less_again : (k : TokenKind) (i b : ℕ) (rest : List ℕ) → turn (i + 1) (less i) b ≡ go (token k i (i + 1 + 1) ∷ []) between → IsCutAt k i (60 ∷ b ∷ []) rest
less_again k i b rest e =
    cut_from-go i between (less i) 60 (b ∷ rest) refl
    ∙ cut_from-turn (i + 1) (less i) b rest (go (token k i (i + 1 + 1) ∷ []) between) e
    ∙ ap (λ j. with_front (token k i j ∷ []) (cut_from j between rest)) (two_on i)

greater_again : (i : ℕ) (rest : List ℕ) → IsCutAt kind.Ge i (62 ∷ 61 ∷ []) rest
greater_again i rest =
    cut_from-go i between (greater i) 62 (61 ∷ rest) refl
    ∙ cut_from-turn (i + 1) (greater i) 61 rest (go (token kind.Ge i (i + 1 + 1) ∷ []) between) refl
    ∙ ap (λ j. with_front (token kind.Ge i j ∷ []) (cut_from j between rest)) (two_on i)

-- each kind

keyword_again : (k : TokenKind) (i : ℕ) (rest : List ℕ) → BeginsWith begins_name (token_text k) → list_all in_name (token_text k) ≡ true → nat_le (length (token_text k)) 16 ≡ true → word_kind (token_text k) ≡ k → Spaced rest → IsCutAt k i (token_text k) rest
keyword_again k i rest b p short e s = word_again k i (token_text k) rest b (passes_from in_name (token_text k) p) (leb-true (length (token_text k)) 16 short) e s

token_again : (k : TokenKind) → IsKind k → (i : ℕ) (rest : List ℕ) → Spaced rest → IsCutAt k i (token_text k) rest
unfolding word_kind
token_again kind.Semi h i rest s = sign_again kind.Semi i 59 rest refl
token_again kind.Comma h i rest s = sign_again kind.Comma i 44 rest refl
token_again kind.Open h i rest s = sign_again kind.Open i 40 rest refl
token_again kind.Close h i rest s = sign_again kind.Close i 41 rest refl
token_again kind.OpenBox h i rest s = sign_again kind.OpenBox i 91 rest refl
token_again kind.CloseBox h i rest s = sign_again kind.CloseBox i 93 rest refl
token_again kind.Eq h i rest s = sign_again kind.Eq i 61 rest refl
token_again kind.Plus h i rest s = sign_again kind.Plus i 43 rest refl
token_again kind.Minus h i rest s = sign_again kind.Minus i 45 rest refl
token_again kind.Star h i rest s = sign_again kind.Star i 42 rest refl
token_again kind.Slash h i rest s = sign_again kind.Slash i 47 rest refl
token_again kind.Percent h i rest s = sign_again kind.Percent i 37 rest refl
token_again kind.Lt h i rest s = cut_from-go i between (less i) 60 rest refl ∙ less_end i rest s
token_again kind.Gt h i rest s = cut_from-go i between (greater i) 62 rest refl ∙ greater_end i rest s
token_again kind.Le h i rest s = less_again kind.Le i 61 rest refl
token_again kind.Ne h i rest s = less_again kind.Ne i 62 rest refl
token_again kind.Ge h i rest s = greater_again i rest
token_again (kind.Name w) h i rest s = word_again (kind.Name w) i w rest h.fits.begins h.fits.passes h.fits.short h.named s
token_again (kind.Num n) h i rest s = number_again n i rest h s
token_again kind.Proc h i rest s = absurd h
token_again kind.Do h i rest s = absurd h
token_again k h i rest s = keyword_again k i rest refl refl refl refl s

-- all tokens

-- the bytes at a place are cut into tokens of these kinds
record IsCutFrom (i : ℕ) (bytes : List ℕ) (ks : List TokenKind) : Type 0 where
  tokens : List Token
  cuts : cut_from i between bytes ≡ Ok tokens
  are : kinds tokens ≡ ks

written-Spaced : (ks : List TokenKind) → Spaced (written true ks)
unfolding written
written-Spaced [] = tt
written-Spaced (k ∷ ks) = refl

first_again : (k : TokenKind) (ks : List TokenKind) (i : ℕ) → IsKind k → IsCutFrom (i + length (token_text k)) (written true ks) ks → IsCutFrom i (token_text k ++ written true ks) (k ∷ ks)
first_again k ks i h u = record {
  tokens = token k i (i + length (token_text k)) ∷ u.tokens;
  cuts = token_again k h i (written true ks) (written-Spaced ks) ∙ ap (with_front (token k i (i + length (token_text k)) ∷ [])) u.cuts;
  are = ap (λ z. k ∷ z) u.are;
}

spaced_again : (i : ℕ) (bytes : List ℕ) (ks : List TokenKind) → IsCutFrom (i + 1) bytes ks → IsCutFrom i (32 ∷ bytes) ks
spaced_again i bytes ks u = record { tokens = u.tokens; cuts = blank_cut i 32 bytes refl ∙ u.cuts; are = u.are }

written_again : (b : Bool) (ks : List TokenKind) (i : ℕ) → AreKinds ks → IsCutFrom i (written b ks) ks
unfolding written
written_again b [] i h = record { tokens = []; cuts = cut_from-nil i between; are = refl }
written_again false (k ∷ ks) i h = first_again k ks i h.0 (written_again true ks (i + length (token_text k)) h.1)
written_again true (k ∷ ks) i h =
    spaced_again i (token_text k ++ written true ks) (k ∷ ks) (first_again k ks (i + 1) h.0 (written_again true ks (i + 1 + length (token_text k)) h.1))

-- what is written of such tokens
pub written_cut : (ks : List TokenKind) → AreKinds ks → IsCutInto (text_of ks) ks
written_cut ks h = let u = written_again false ks 0 h in record { tokens = u.tokens; cuts = u.cuts; are = u.are }
