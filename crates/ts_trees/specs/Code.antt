-- Numbers for the kinds of tokens: each sign and keyword has its own.
use Rattle.std.specs.Prelude.{ℕ, Bool, nat_lt, []}
use Rattle.ts_trees.specs.declared.token.TokenKind.{TokenKind}
use Rattle.ts_trees.specs.declared.token.TokenKind.TheVariants as kind

abbrev pub kind_code : TokenKind → ℕ
kind_code kind.Shared = 0
kind_code kind.Private = 1
kind_code kind.Buffer = 2
kind_code kind.If = 3
kind_code kind.Then = 4
kind_code kind.Else = 5
kind_code kind.End = 6
kind_code kind.For = 7
kind_code kind.To = 8
kind_code kind.Step = 9
kind_code kind.Next = 10
kind_code kind.While = 11
kind_code kind.And = 12
kind_code kind.Or = 13
kind_code kind.Not = 14
kind_code kind.Size = 15
kind_code kind.Clear = 16
kind_code kind.Msg = 17
kind_code kind.Semi = 18
kind_code kind.Comma = 19
kind_code kind.Open = 20
kind_code kind.Close = 21
kind_code kind.OpenBox = 22
kind_code kind.CloseBox = 23
kind_code kind.Eq = 24
kind_code kind.Ne = 25
kind_code kind.Lt = 26
kind_code kind.Gt = 27
kind_code kind.Le = 28
kind_code kind.Ge = 29
kind_code kind.Plus = 30
kind_code kind.Minus = 31
kind_code kind.Star = 32
kind_code kind.Slash = 33
kind_code kind.Percent = 34
kind_code kind.Proc = 35
kind_code kind.Do = 36
kind_code (kind.Name n) = 37
kind_code (kind.Num n) = 38

-- a sign or a keyword
abbrev pub is_sign : TokenKind → Bool
is_sign k = nat_lt (kind_code k) (kind_code (kind.Name []))
