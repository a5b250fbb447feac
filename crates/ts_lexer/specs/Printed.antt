-- Texts that are cut into tokens of given kinds, and texts that spell a script.
use Rattle.std.specs.Prelude.{◌≡◌, ◌≤◌, ℕ, List, [], ◌∷◌, length, Ok}
use Rattle.mate_num.specs.Lists.{Each}
use Rattle.mate_num.specs.declared.bounds.TheConstants.{NAME_MAX}
use Rattle.ts_trees.specs.declared.token.Token.{Token}
use Rattle.ts_trees.specs.declared.token.TokenKind.{TokenKind}
use Rattle.ts_trees.specs.declared.token.TokenKind.TheVariants as kind
use Rattle.ts_trees.specs.Tree.{Source}
use Rattle.ts_trees.specs.Cut.{begins_name, in_name, word_kind, cut}
use Rattle.ts_trees.specs.Spelling.{kinds}
use Rattle.ts_trees.specs.Faults.{Spells}
use Rattle.ts_lexer.specs.Bare.{bare}
use Rattle.ts_lexer.specs.Spans.{BeginsWith, Passes}

-- a text that can be in a name token or a keyword: at most `NAME_MAX` letters, digits and `_`, of which the first is no digit
pub record IsWord (w : List ℕ) : Type 0 where
  pub begins : BeginsWith begins_name w
  pub passes : Passes in_name w
  pub short : length w ≤ NAME_MAX

-- the text of a name token
pub record IsNameText (w : List ℕ) : Type 0 where
  pub fits : IsWord w
  pub named : word_kind w ≡ kind.Name w

-- a kind that some text is cut into: a name that is no keyword, a literal that is small enough, or a sign or keyword of plain
-- TinyScript
abbrev pub IsKind : TokenKind → Type 0
IsKind (kind.Name w) = IsNameText w
IsKind (kind.Num n) = n ≤ 65535
IsKind kind.Proc = ⊥
IsKind kind.Do = ⊥
IsKind _ = Unit {0}

abbrev pub AreKinds : List TokenKind → Type 0
AreKinds = Each IsKind

-- the bytes are cut into tokens of these kinds
pub record IsCutInto (bytes : List ℕ) (ks : List TokenKind) : Type 0 where
  pub tokens : List Token
  pub cuts : cut bytes ≡ Ok tokens
  pub are : kinds tokens ≡ ks

-- the bytes are cut into tokens that spell the script
pub record IsTextOf (bytes : List ℕ) (s : Source) : Type 0 where
  pub tokens : List Token
  pub cuts : cut bytes ≡ Ok tokens
  pub spells : Spells tokens s

-- the bytes spell the same script but for places
pub record IsTextButPlaces (bytes : List ℕ) (s : Source) : Type 0 where
  pub other : Source
  pub same : bare other ≡ bare s
  pub text : IsTextOf bytes other
