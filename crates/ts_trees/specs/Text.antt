-- How tokens are written: each in its one form, with one space between two.
use Rattle.std.specs.Prelude.{ℕ, Bool, true, false, List, [], ◌∷◌, ◌++◌, codes, decimal}
use Rattle.ts_trees.specs.declared.token.TokenKind.{TokenKind}
use Rattle.ts_trees.specs.declared.token.TokenKind.TheVariants as kind

-- the text of a token; a literal's is its value in decimal
abbrev pub token_text : TokenKind → List ℕ
token_text kind.Shared = codes "shared"
token_text kind.Private = codes "private"
token_text kind.Buffer = codes "buffer"
token_text kind.If = codes "if"
token_text kind.Then = codes "then"
token_text kind.Else = codes "else"
token_text kind.End = codes "end"
token_text kind.For = codes "for"
token_text kind.To = codes "to"
token_text kind.Step = codes "step"
token_text kind.Next = codes "next"
token_text kind.While = codes "while"
token_text kind.And = codes "and"
token_text kind.Or = codes "or"
token_text kind.Not = codes "not"
token_text kind.Size = codes "size"
token_text kind.Clear = codes "clear"
token_text kind.Msg = codes "msg"
token_text kind.Proc = codes "proc"
token_text kind.Do = codes "do"
token_text kind.Semi = codes ";"
token_text kind.Comma = codes ","
token_text kind.Open = codes "("
token_text kind.Close = codes ")"
token_text kind.OpenBox = codes "["
token_text kind.CloseBox = codes "]"
token_text kind.Eq = codes "="
token_text kind.Ne = codes "<>"
token_text kind.Lt = codes "<"
token_text kind.Gt = codes ">"
token_text kind.Le = codes "<="
token_text kind.Ge = codes ">="
token_text kind.Plus = codes "+"
token_text kind.Minus = codes "-"
token_text kind.Star = codes "*"
token_text kind.Slash = codes "/"
token_text kind.Percent = codes "%"
token_text (kind.Name n) = n
token_text (kind.Num n) = decimal n

-- the space between two tokens, if one was written before
abbrev pub space : Bool → List ℕ
space true = codes " "
space false = []

-- tokens after others, or at the start
unfoldable pub written : Bool → List TokenKind → List ℕ
written b [] = []
written b (k ∷ ks) = space b ++ token_text k ++ written true ks

-- whether a token was written, after these
abbrev pub begun : Bool → List TokenKind → Bool
begun b [] = b
begun b (k ∷ ks) = true

-- the text of tokens
abbrev pub text_of : List TokenKind → List ℕ
text_of ks = written false ks
