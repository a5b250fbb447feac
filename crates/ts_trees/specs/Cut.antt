-- How bytes are cut into tokens, byte by byte from the left.
use Rattle.std.specs.Prelude.{ℕ, ◌+◌, ◌-◌, ◌*◌, Bool, ◌&&◌, ◌||◌, ◌==◌, nat_lt, nat_le, if◌then◌else◌, List, [], ◌∷◌, ◌++◌, length, map, Option, Some, None, Result, Ok, Err}
use Rattle.mate_num.specs.Results.{result_map}
use Rattle.std.specs.List.{find}
use Rattle.std.specs.Str.{bytes_eq}
use Rattle.mate_num.specs.declared.bounds.TheConstants.{NAME_MAX}
use Rattle.ts_trees.specs.declared.dialect.Dialect.{Dialect}
use Rattle.ts_trees.specs.declared.dialect.Dialect.TheVariants as dialect
use Rattle.ts_trees.specs.declared.token.Token.{Token}
use Rattle.ts_trees.specs.declared.token.TokenKind.{TokenKind}
use Rattle.ts_trees.specs.declared.token.TokenKind.TheVariants as kind
use Rattle.ts_trees.specs.Text.{token_text}

-- space, tab, CR and LF
abbrev pub is_blank : ℕ → Bool
is_blank b = b == 32 || b == 9 || b == 13 || b == 10

abbrev pub is_digit : ℕ → Bool
is_digit b = nat_le 48 b && nat_le b 57

-- a letter or `_`
abbrev pub begins_name : ℕ → Bool
begins_name b = nat_le 97 b && nat_le b 122 || nat_le 65 b && nat_le b 90 || b == 95

-- a letter, a digit or `_`
abbrev pub in_name : ℕ → Bool
in_name b = begins_name b || is_digit b

-- the signs of one byte that no other byte can lengthen
abbrev pub signs : List TokenKind
signs = kind.Semi ∷ kind.Comma ∷ kind.Open ∷ kind.Close ∷ kind.OpenBox ∷ kind.CloseBox ∷ kind.Eq ∷ kind.Plus ∷ kind.Minus ∷ kind.Star
    ∷ kind.Slash ∷ kind.Percent ∷ []

-- the one of these that a byte is
abbrev pub sign_of : ℕ → Option TokenKind
sign_of b = find (λ k. bytes_eq (b ∷ []) (token_text k)) signs

abbrev pub keywords : List TokenKind
keywords = kind.Shared ∷ kind.Private ∷ kind.Buffer ∷ kind.If ∷ kind.Then ∷ kind.Else ∷ kind.End ∷ kind.For ∷ kind.To ∷ kind.Step
    ∷ kind.Next ∷ kind.While ∷ kind.And ∷ kind.Or ∷ kind.Not ∷ kind.Size ∷ kind.Clear ∷ kind.Msg ∷ []

-- the keyword of these that reads so; else a name
abbrev pub keyword_among : List TokenKind → List ℕ → TokenKind
keyword_among [] w = kind.Name w
keyword_among (k ∷ ks) w = if bytes_eq w (token_text k) then k else keyword_among ks w

unfoldable pub word_kind : List ℕ → TokenKind
word_kind w = keyword_among keywords w

abbrev pub token : TokenKind → ℕ → ℕ → Token
token k from to = record { kind = k; from = from; to = to }

-- a byte that begins no token; a literal over 65535
pub data CutFault : Type 0 where
  bad_byte big_literal : ℕ → CutFault

-- what a byte is in: nothing yet, a comment, a name or keyword so far, a literal so far, or after `<` or `>`
pub data Mode : Type 0 where
  between comment : Mode
  word : (from : ℕ) (text : List ℕ) → Mode
  literal : (from value : ℕ) → Mode
  less greater : (from : ℕ) → Mode

-- what a byte does: a fault, or the tokens that end before or with it, and what the next byte is in
pub data CutStep : Type 0 where
  stop : CutFault → CutStep
  go : List Token → Mode → CutStep

-- a token that ends before the byte
abbrev pub behind : Token → CutStep → CutStep
behind t (stop f) = stop f
behind t (go ts m) = go (t ∷ ts) m

abbrev pub sign_turn : ℕ → Option TokenKind → CutStep
sign_turn i None = stop (bad_byte i)
sign_turn i (Some k) = go (token k i (i + 1) ∷ []) between

-- a byte at place i that begins a token, a comment or a blank
abbrev pub fresh : ℕ → ℕ → CutStep
fresh i b =
    if is_blank b then go [] between else
    if b == 33 then go [] comment else
    if begins_name b then go [] (word i (b ∷ [])) else
    if is_digit b then go [] (literal i (b - 48)) else
    if b == 60 then go [] (less i) else
    if b == 62 then go [] (greater i) else sign_turn i (sign_of b)

-- a byte at place i
abbrev pub turn : ℕ → Mode → ℕ → CutStep
turn i between b = fresh i b
turn i comment b = if b == 10 then go [] between else go [] comment
turn i (word from w) b =
    if in_name b then (if nat_lt (length w) NAME_MAX then go [] (word from (w ++ b ∷ [])) else stop (bad_byte i))
    else behind (token (word_kind w) from i) (fresh i b)
turn i (literal from n) b =
    if is_digit b then go [] (literal from (n * 10 + (b - 48))) else
    if nat_lt 65535 n then stop (big_literal from) else
    if begins_name b then stop (bad_byte i) else behind (token (kind.Num n) from i) (fresh i b)
turn i (less from) b =
    if b == 61 then go (token kind.Le from (i + 1) ∷ []) between else
    if b == 62 then go (token kind.Ne from (i + 1) ∷ []) between else behind (token kind.Lt from i) (fresh i b)
turn i (greater from) b =
    if b == 61 then go (token kind.Ge from (i + 1) ∷ []) between else behind (token kind.Gt from i) (fresh i b)

-- tokens before others
abbrev pub with_front : List Token → Result (List Token) CutFault → Result (List Token) CutFault
with_front ts rest = result_map (λ us. ts ++ us) rest

-- the rest of the text after a turn, where rest gives the tokens of a mode there
abbrev pub turned : (Mode → Result (List Token) CutFault) → CutStep → Result (List Token) CutFault
turned rest (stop f) = Err f
turned rest (go ts m) = with_front ts (rest m)

-- the tokens of the bytes from place i on, or the first fault; the end of the text ends a token as an LF does
unfoldable pub cut_from : ℕ → Mode → List ℕ → Result (List Token) CutFault
cut_from i m [] = turned (λ _. Ok []) (turn i m 10)
cut_from i m (b ∷ bs) = turned (λ n. cut_from (i + 1) n bs) (turn i m b)

-- the tokens of a text, or its first fault
abbrev pub cut : List ℕ → Result (List Token) CutFault
cut bytes = cut_from 0 between bytes

-- what a kind of token is in a dialect: if a script may have procedures, the names `proc` and `do` are keywords
abbrev pub procedure_kind : TokenKind → TokenKind
procedure_kind (kind.Name w) = keyword_among (kind.Proc ∷ kind.Do ∷ []) w
procedure_kind k = k

abbrev pub kind_in : Dialect → TokenKind → TokenKind
kind_in dialect.Plain k = k
kind_in dialect.Procedures k = procedure_kind k

abbrev pub token_in : Dialect → Token → Token
token_in d t = token (kind_in d t.kind) t.from t.to

abbrev pub all_in : Dialect → Result (List Token) CutFault → Result (List Token) CutFault
all_in d (Ok ts) = Ok (map (token_in d) ts)
all_in d (Err f) = Err f

-- the tokens of a text in a dialect, or its first fault
abbrev pub cut_in : Dialect → List ℕ → Result (List Token) CutFault
cut_in dialect.Plain bytes = cut bytes
cut_in dialect.Procedures bytes = all_in dialect.Procedures (cut bytes)
