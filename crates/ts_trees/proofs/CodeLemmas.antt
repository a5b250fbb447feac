-- A sign or a keyword is known by its number.
use Rattle.std.proofs.Common.{◌≡◌, ℕ, nat_lt, List, [], ◌∷◌, get_or, refl, sym, ◌∙◌, ap, subst}
use Rattle.ts_trees.specs.declared.token.TokenKind.{TokenKind}
use Rattle.ts_trees.specs.declared.token.TokenKind.TheVariants as kind
use Rattle.ts_trees.specs.Parsing.{Holds}
use Rattle.ts_trees.specs.Code.{kind_code, is_sign}

signs : List TokenKind
signs = kind.Shared ∷ kind.Private ∷ kind.Buffer ∷ kind.If ∷ kind.Then ∷ kind.Else ∷ kind.End ∷ kind.For ∷ kind.To ∷ kind.Step ∷ kind.Next ∷ kind.While ∷ kind.And ∷ kind.Or ∷ kind.Not ∷ kind.Size ∷ kind.Clear ∷ kind.Msg ∷ kind.Semi ∷ kind.Comma ∷ kind.Open ∷ kind.Close ∷ kind.OpenBox ∷ kind.CloseBox ∷ kind.Eq ∷ kind.Ne ∷ kind.Lt ∷ kind.Gt ∷ kind.Le ∷ kind.Ge ∷ kind.Plus ∷ kind.Minus ∷ kind.Star ∷ kind.Slash ∷ kind.Percent ∷ kind.Proc ∷ kind.Do ∷ []

kind_at : ℕ → TokenKind
kind_at n = get_or signs n (kind.Name [])

by_code : (k : TokenKind) → Holds (is_sign k) → kind_at (kind_code k) ≡ k
unfolding kind_at signs
by_code (kind.Name n) h = absurd h
by_code (kind.Num n) h = absurd h
by_code _ h = refl

pub same_code : (a b : TokenKind) → Holds (is_sign b) → kind_code a ≡ kind_code b → a ≡ b
same_code a b h e = sym (by_code a (subst (λ n. Holds (nat_lt n (kind_code (kind.Name [])))) (sym e) h)) ∙ ap kind_at e ∙ by_code b h
