-- If only one kind of token would be taken: what the tokens that lack it begin with, and that no other kind is taken.
use Rattle.std.proofs.Common.{◌≡◌, ℕ, List, ◌∷◌, None, refl, subst}
use Rattle.ts_trees.specs.declared.token.Token.{Token}
use Rattle.ts_trees.specs.declared.token.TokenKind.{TokenKind}
use Rattle.ts_trees.specs.declared.token.TokenKind.TheVariants as kind
use Rattle.ts_trees.specs.declared.word.Word.{Word}
use Rattle.ts_trees.specs.Code.{kind_code}
use Rattle.ts_trees.specs.Machine.{State, step_open, step_close, step_open_box, step_eq, step_semi, step_name}
use Rattle.ts_trees.specs.Parsing.{Lacks, LacksName}

-- another kind, by its number
abbrev pub IsOther : TokenKind → TokenKind → Type 0
IsOther k m = kind_code m ≡ kind_code k → ⊥

pub lacks_first : (k : TokenKind) (ts : List Token) → Lacks k ts → (t : Token) (rest : List Token) → ts ≡ t ∷ rest → IsOther k t.kind
lacks_first k ts l t rest e = let h : Lacks k (t ∷ rest) = subst (λ z. Lacks k z) e l in h

pub lacks_name : (ts : List Token) → LacksName ts → (t : Token) (rest : List Token) → ts ≡ t ∷ rest → (n : List ℕ) → t.kind ≡ kind.Name n → ⊥
lacks_name ts l t rest e = let h : LacksName (t ∷ rest) = subst LacksName e l in h

pub only_open : (q : State) (m : TokenKind) → IsOther kind.Open m → step_open m q ≡ None
only_open q kind.Open h = absurd (h refl)
only_open q m h = refl

pub only_close : (q : State) (m : TokenKind) → IsOther kind.Close m → step_close m q ≡ None
only_close q kind.Close h = absurd (h refl)
only_close q m h = refl

pub only_box : (q : State) (m : TokenKind) → IsOther kind.OpenBox m → step_open_box m q ≡ None
only_box q kind.OpenBox h = absurd (h refl)
only_box q m h = refl

pub only_eq : (q : State) (m : TokenKind) → IsOther kind.Eq m → step_eq m q ≡ None
only_eq q kind.Eq h = absurd (h refl)
only_eq q m h = refl

pub only_semi : (q : State) (m : TokenKind) → IsOther kind.Semi m → step_semi m q ≡ None
only_semi q kind.Semi h = absurd (h refl)
only_semi q m h = refl

pub only_name : (q : Word → State) (m : TokenKind) → ((n : List ℕ) → m ≡ kind.Name n → ⊥) → (p : ℕ) → step_name m p q ≡ None
only_name q (kind.Name n) h p = absurd (h n refl)
only_name q m h p = refl
