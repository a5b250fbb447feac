-- How the text of a source is cut.
use Rattle.std.proofs.Common.{◌≡◌, ℕ, ◌+◌, ◌≤◌, true, List, [], ◌∷◌, ◌++◌, length, codes, Ok, refl, ◌∙◌, ap, arith}
use Rattle.std.proofs.lemmas.Bool.Decides.{nat_tests}
use Rattle.ts_trees.specs.declared.token.Token.{Token}
use Rattle.ts_trees.specs.declared.token.TokenKind.{TokenKind}
use Rattle.ts_trees.specs.declared.token.TokenKind.TheVariants as kind
use Rattle.ts_trees.specs.Cut.{is_digit, begins_name, in_name, word_kind, token, between, go, fresh, cut_from, with_front}
use Rattle.ts_lexer.specs.Spans.{digits_value}
use Rattle.ts_lexer.proofs.CutLemmas.{Stops, word_cut, literal_cut, blank_cut, cut_from-turn, cut_from-nil}
use Rattle.script_reader.proofs.NameLemmas.{IsOneName}

pub name_then : (i : ℕ) (w rest : List ℕ) (ts : List Token) → IsOneName w → Stops in_name rest → cut_from (i + length w) between rest ≡ Ok ts
    → cut_from i between (w ++ rest) ≡ Ok (token (kind.Name w) i (i + length w) ∷ ts)
name_then i w rest ts one stops e =
    word_cut i w rest one.begins one.passes stops one.short ∙ ap (with_front (token (word_kind w) i (i + length w) ∷ [])) e ∙ ap (λ k. Ok (token k i (i + length w) ∷ ts)) one.kind_is

pub byte_then : (i b : ℕ) (k : TokenKind) (rest : List ℕ) (ts : List Token) → fresh i b ≡ go (token k i (i + 1) ∷ []) between → cut_from (i + 1) between rest ≡ Ok ts
    → cut_from i between (b ∷ rest) ≡ Ok (token k i (i + 1) ∷ ts)
byte_then i b k rest ts is e = cut_from-turn i between b rest (go (token k i (i + 1) ∷ []) between) is ∙ ap (with_front (token k i (i + 1) ∷ [])) e

pub space_then : (i : ℕ) (rest : List ℕ) (ts : List Token) → cut_from (i + 1) between rest ≡ Ok ts → cut_from i between (32 ∷ rest) ≡ Ok ts
space_then i rest ts e = blank_cut i 32 rest refl ∙ e

digit_is : (v : ℕ) → v ≤ 9 → is_digit (48 + v) ≡ true
digit_is v small = grind (arith, nat_tests)

digit_value : (v : ℕ) → digits_value 0 ((48 + v) ∷ []) ≡ v
digit_value v = omega arith

pub digit_then : (i v : ℕ) (rest : List ℕ) (ts : List Token) → v ≤ 9 → Stops is_digit rest → Stops begins_name rest → cut_from (i + 1) between rest ≡ Ok ts
    → cut_from i between ((48 + v) ∷ rest) ≡ Ok (token (kind.Num v) i (i + 1) ∷ ts)
digit_then i v rest ts small no_digit no_name e =
    literal_cut i ((48 + v) ∷ []) rest (digit_is v small) (digit_is v small, tt) no_digit no_name (omega (arith, digit_value v))
    ∙ ap (with_front (token (kind.Num (digits_value 0 ((48 + v) ∷ []))) i (i + 1) ∷ [])) e ∙ ap (λ n. Ok (token (kind.Num n) i (i + 1) ∷ ts)) (digit_value v)

-- ---- the places of the words

abbrev pub target_place : List ℕ → ℕ
target_place s = 7 + length s + 1 + 1

abbrev pub operand_place : List ℕ → ℕ
operand_place s = target_place s + length s + 1 + 1 + 1

abbrev pub sensor_place : List ℕ → ℕ
sensor_place s = operand_place s + length s + 1 + 1 + 1

abbrev pub head_tokens : List ℕ → List Token → List Token
head_tokens s ts =
    token kind.Shared 0 6 ∷ token (kind.Name s) 7 (7 + length s) ∷ token kind.Semi (7 + length s) (7 + length s + 1)
    ∷ token (kind.Name s) (target_place s) (target_place s + length s) ∷ token kind.Eq (target_place s + length s + 1) (target_place s + length s + 1 + 1)
    ∷ token (kind.Name s) (operand_place s) (operand_place s + length s) ∷ token kind.Plus (operand_place s + length s + 1) (operand_place s + length s + 1 + 1) ∷ ts

abbrev pub digit_tokens : ℕ → ℕ → List Token
digit_tokens i v = token (kind.Num v) i (i + 1) ∷ token kind.Semi (i + 1) (i + 1 + 1) ∷ []

abbrev pub call_tokens : ℕ → List ℕ → ℕ → List Token
call_tokens i f v =
    token (kind.Name f) i (i + length f) ∷ token kind.Open (i + length f) (i + length f + 1) ∷ token kind.Close (i + length f + 1) (i + length f + 1 + 1)
    ∷ token kind.Plus (i + length f + 1 + 1 + 1) (i + length f + 1 + 1 + 1 + 1) ∷ digit_tokens (i + length f + 1 + 1 + 1 + 1 + 1) v

-- the text, with what stands behind the head
abbrev pub text_with : List ℕ → List ℕ → List ℕ
text_with s rest = codes "shared" ++ 32 ∷ (s ++ 59 ∷ 32 ∷ (s ++ 32 ∷ 61 ∷ 32 ∷ (s ++ 32 ∷ 43 ∷ 32 ∷ rest)))

abbrev pub digit_text : ℕ → List ℕ
digit_text v = (48 + v) ∷ 59 ∷ []

abbrev pub call_text : List ℕ → ℕ → List ℕ
call_text f v = f ++ 40 ∷ 41 ∷ 32 ∷ 43 ∷ 32 ∷ digit_text v

shared_kind : word_kind (codes "shared") ≡ kind.Shared
unfolding word_kind
shared_kind = refl

shared_then : (rest : List ℕ) (ts : List Token) → cut_from 6 between (32 ∷ rest) ≡ Ok ts → cut_from 0 between (codes "shared" ++ 32 ∷ rest) ≡ Ok (token kind.Shared 0 6 ∷ ts)
shared_then rest ts e =
    word_cut 0 (codes "shared") (32 ∷ rest) refl (refl, (refl, (refl, (refl, (refl, (refl, tt)))))) refl (omega arith)
    ∙ ap (with_front (token (word_kind (codes "shared")) 0 6 ∷ [])) e ∙ ap (λ k. Ok (token k 0 6 ∷ ts)) shared_kind

pub head_cut : (s rest : List ℕ) (ts : List Token) → IsOneName s → cut_from (sensor_place s) between rest ≡ Ok ts → cut_from 0 between (text_with s rest) ≡ Ok (head_tokens s ts)
head_cut s rest ts one e =
    shared_then _ _ (space_then 6 _ _ (name_then 7 s _ _ one refl
    (byte_then (7 + length s) 59 kind.Semi _ _ refl (space_then (7 + length s + 1) _ _ (name_then (target_place s) s _ _ one refl
    (space_then (target_place s + length s) _ _ (byte_then (target_place s + length s + 1) 61 kind.Eq _ _ refl (space_then (target_place s + length s + 1 + 1) _ _ (name_then (operand_place s) s _ _ one refl
    (space_then (operand_place s + length s) _ _ (byte_then (operand_place s + length s + 1) 43 kind.Plus _ _ refl (space_then (operand_place s + length s + 1 + 1) _ _ e))))))))))))

pub digit_cut : (i v : ℕ) → v ≤ 9 → cut_from i between (digit_text v) ≡ Ok (digit_tokens i v)
digit_cut i v small = digit_then i v (59 ∷ []) _ small refl refl (byte_then (i + 1) 59 kind.Semi [] [] refl (cut_from-nil (i + 1 + 1) between))

pub call_cut : (i v : ℕ) (f : List ℕ) → v ≤ 9 → IsOneName f → cut_from i between (call_text f v) ≡ Ok (call_tokens i f v)
call_cut i v f small one =
    name_then i f _ _ one refl (byte_then (i + length f) 40 kind.Open _ _ refl (byte_then (i + length f + 1) 41 kind.Close _ _ refl
    (space_then (i + length f + 1 + 1) _ _ (byte_then (i + length f + 1 + 1 + 1) 43 kind.Plus _ _ refl (space_then (i + length f + 1 + 1 + 1 + 1) _ _
    (digit_cut (i + length f + 1 + 1 + 1 + 1 + 1) v small))))))
