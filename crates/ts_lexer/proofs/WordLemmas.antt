-- Names and keywords as texts.
use Rattle.std.proofs.Common.{◌≡◌, ℕ, zero, suc, ◌<◌, ◌≤◌, Bool, cond, length, ap, true, false, ◌&&◌, ◌||◌, ◌==◌, nat_le, nat_lt, inl, inr, Option, Some, None, List, [], ◌∷◌, refl, sym, ◌∙◌, arith}
use Rattle.std.specs.List.{find, list_all, AllByRecursion}
use Rattle.std.specs.Str.{IsUtf8, IsAscii, bytes_eq}
use Rattle.std.proofs.lemmas.Bool.{or_cases, and_parts, leb-true, ltb-true, eqb-true, eqb-false, ne_eqb, cond-false, cond_both, false_from_ne_true}
use Rattle.std.proofs.lemmas.Str.{IsUtf8-from_ascii}
use Rattle.std.proofs.lemmas.Str.Ascii.{IsAscii-nil, IsAscii-cons}
use Rattle.std.proofs.lemmas.Slice.Eq.{bytes_eq-Decides}
use Rattle.mate_num.specs.Lists.{Each}
use Rattle.ts_trees.specs.declared.token.TokenKind.{TokenKind}
use Rattle.ts_trees.specs.declared.token.TokenKind.TheVariants as kind
use Rattle.ts_trees.specs.declared.dialect.Dialect.{Dialect}
use Rattle.ts_trees.specs.declared.dialect.Dialect.TheVariants as dialect
use Rattle.ts_trees.specs.Text.{token_text}
use Rattle.ts_trees.specs.Cut.{is_digit, begins_name, in_name, signs, sign_of, keywords, keyword_among, procedure_kind, kind_in}
use Rattle.ts_lexer.specs.Spans.{Passes}

in_name-lt : (b : ℕ) → in_name b ≡ true → b < 128
in_name-lt b h = elim (or_cases (begins_name b) (is_digit b) h) [
  | inl l ↦ elim (or_cases (nat_le 97 b && nat_le b 122 || nat_le 65 b && nat_le b 90) (b == 95) l) [
    | inl g ↦ elim (or_cases (nat_le 97 b && nat_le b 122) (nat_le 65 b && nat_le b 90) g) [
      | inl k ↦ omega (arith, leb-true b 122 (and_parts (nat_le 97 b) (nat_le b 122) k).1)
      | inr k ↦ omega (arith, leb-true b 90 (and_parts (nat_le 65 b) (nat_le b 90) k).1)
    ]
    | inr g ↦ omega (arith, eqb-true b 95 g)
  ]
  | inr d ↦ omega (arith, leb-true b 57 (and_parts (nat_le 48 b) (nat_le b 57) d).1)
]

passes-IsAscii : (bs : List ℕ) → Passes in_name bs → IsAscii bs
passes-IsAscii [] p = IsAscii-nil
passes-IsAscii (b ∷ bs) p = IsAscii-cons b bs (in_name-lt b p.0) (passes-IsAscii bs p.1)

-- what can stand in a name is a text
pub passes-IsUtf8 : (bs : List ℕ) → Passes in_name bs → IsUtf8 bs
passes-IsUtf8 bs p = IsUtf8-from_ascii bs (passes-IsAscii bs p)

-- none of the keywords reads so
abbrev pub NoneReads : List TokenKind → List ℕ → Type 0
NoneReads ks w = Each (λ k. bytes_eq w (token_text k) ≡ false) ks

pub among_none : (ks : List TokenKind) (w : List ℕ) → NoneReads ks w → keyword_among ks w ≡ kind.Name w
among_none [] w h = refl
among_none (k ∷ ks) w h = cond-false (bytes_eq w (token_text k)) _ _ h.0 ∙ among_none ks w h.1

-- what holds of each sign, and where there is none, holds of the sign that a byte is
pub sign-is : (P : Option TokenKind → Type 0) (b : ℕ) → Each (λ k. P (Some k)) signs → P None → P (sign_of b)
sign-is P b each none = by signs each where
  by : (ks : List TokenKind) → Each (λ k. P (Some k)) ks → P (find (λ k. bytes_eq (b ∷ []) (token_text k)) ks)
  by [] all = none
  by (k ∷ ks) all = cond_both (bytes_eq (b ∷ []) (token_text k)) _ _ P (λ _. all.0) (λ _. by ks all.1)

-- a byte that is none of the signs
pub no-sign : (b : ℕ) → NoneReads signs (b ∷ []) → sign_of b ≡ None
no-sign b h = by signs h where
  by : (ks : List TokenKind) → NoneReads ks (b ∷ []) → find (λ k. bytes_eq (b ∷ []) (token_text k)) ks ≡ None
  by [] none = refl
  by (k ∷ ks) none = cond-false (bytes_eq (b ∷ []) (token_text k)) _ _ none.0 ∙ by ks none.1

-- a text that isn't another one
pub unlike : (w v : List ℕ) → (w ≡ v → ⊥) → bytes_eq w v ≡ false
unlike w v h = false_from_ne_true (bytes_eq w v) (λ e. h ((bytes_eq-Decides w v).0 e))

-- the keywords of a length
abbrev pub of_length : ℕ → List TokenKind → List TokenKind
of_length n [] = []
of_length n (k ∷ ks) = cond (length (token_text k) == n) (k ∷ of_length n ks) (of_length n ks)

of_its_length : (ks : List TokenKind) (k : TokenKind) (w : List ℕ) (b : Bool) → (length (token_text k) == length w) ≡ b → keyword_among ks w ≡ keyword_among (of_length (length w) ks) w
    → keyword_among (k ∷ ks) w ≡ keyword_among (cond b (k ∷ of_length (length w) ks) (of_length (length w) ks)) w
of_its_length ks k w true e later = ap (λ r. cond (bytes_eq w (token_text k)) k r) later
of_its_length ks k w false e later =
    cond-false (bytes_eq w (token_text k)) _ _ (unlike w (token_text k) (λ same. eqb-false (length (token_text k)) (length w) e (sym (ap length same)))) ∙ later

-- a word is a keyword of its own length, or none
pub among_its_length : (ks : List TokenKind) (w : List ℕ) → keyword_among ks w ≡ keyword_among (of_length (length w) ks) w
among_its_length [] w = refl
among_its_length (k ∷ ks) w = of_its_length ks k w (length (token_text k) == length w) refl (among_its_length ks w)

-- a word that is shorter than each keyword, or longer, is none
none_short : (n : ℕ) → n < 2 → of_length n keywords ≡ []
none_short zero h = refl
none_short (suc zero) h = refl
none_short (suc (suc n)) h = absurd (omega arith)

none_long : (n : ℕ) (ks : List TokenKind) → list_all (λ k. nat_lt (length (token_text k)) 8) ks ≡ true → 8 ≤ n → of_length n ks ≡ []
none_long n [] short h = refl
none_long n (k ∷ ks) short h =
    let both = and_parts (nat_lt (length (token_text k)) 8) (list_all (λ k. nat_lt (length (token_text k)) 8) ks) short in
    let first : length (token_text k) < 8 = ltb-true (length (token_text k)) 8 both.0 in
    cond-false (length (token_text k) == n) _ _ (ne_eqb (length (token_text k)) n (λ same. omega (arith, first, same))) ∙ none_long n ks both.1 h

no_keyword : (w : List ℕ) → of_length (length w) keywords ≡ [] → keyword_among keywords w ≡ kind.Name w
no_keyword w none = among_its_length keywords w ∙ ap (λ ks. keyword_among ks w) none

pub short_word_none : (w : List ℕ) → length w < 2 → keyword_among keywords w ≡ kind.Name w
short_word_none w h = no_keyword w (none_short (length w) h)

pub long_word_none : (w : List ℕ) → 8 ≤ length w → keyword_among keywords w ≡ kind.Name w
long_word_none w h = no_keyword w (none_long (length w) keywords refl h)

-- a kind that is no name of a dialect's own keyword is the same in each dialect
pub same_in : (d : Dialect) (k : TokenKind) → procedure_kind k ≡ k → k ≡ kind_in d k
same_in dialect.Plain k e = refl
same_in dialect.Procedures k e = sym e
