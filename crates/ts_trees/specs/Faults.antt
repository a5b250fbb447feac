-- When tokens spell a script, and the place of the first fault if they don't.
use Rattle.std.specs.Prelude.{◌≡◌, ℕ, List, [], ◌∷◌, ◌++◌, length, Some, None}
use Rattle.ts_trees.specs.declared.token.Token.{Token}
use Rattle.ts_trees.specs.declared.token.TokenKind.{TokenKind}
use Rattle.ts_trees.specs.declared.dialect.Dialect.{Dialect}
use Rattle.ts_trees.specs.Tree.{Source, ProcedureSource}
use Rattle.ts_trees.specs.Spelling.{source_spelled, source_places, procedure_source_spelled, procedure_source_places, kinds, noted}
use Rattle.ts_trees.specs.Derived.{IsDerived, IsDerivedIn}
use Rattle.ts_trees.specs.Script.{IsScriptIn, BeginsScript}
use Rattle.ts_trees.specs.Depth.{first_deep}

-- the tokens spell the script: the grammar derives it, they are its tokens at its places, and none lies too deep
pub record Spells (tokens : List Token) (source : Source) : Type 0 where
  pub derived : IsDerived source
  pub spells : source_spelled source ≡ kinds tokens
  pub places : source_places source ≡ noted tokens
  pub within : first_deep (kinds tokens) ≡ None

-- the same, in a dialect
pub record SpellsIn (d : Dialect) (tokens : List Token) (source : ProcedureSource) : Type 0 where
  pub derived : IsDerivedIn d source
  pub spells : procedure_source_spelled source ≡ kinds tokens
  pub places : procedure_source_places source ≡ noted tokens
  pub within : first_deep (kinds tokens) ≡ None

-- front begins a script, and with what follows it doesn't: it is no whole script itself, or the next token doesn't fit;
-- here and below Is says which tokens are scripts
abbrev pub Stops : (List TokenKind → Type 0) → List TokenKind → List TokenKind → Type 0
Stops Is front [] = Is front → ⊥
Stops Is front (k ∷ ks) = BeginsScript Is (front ++ k ∷ []) → ⊥

-- the place of the token that doesn't fit; the text's length if the text ends too early
abbrev pub place_of : ℕ → List Token → ℕ
place_of len [] = len
place_of len (t ∷ ts) = t.from

-- the place of the first token that doesn't fit
pub record IsUnexpected (Is : List TokenKind → Type 0) (tokens : List Token) (len place : ℕ) : Type 0 where
  pub front : List Token
  pub rest : List Token
  pub are : tokens ≡ front ++ rest
  pub begins : BeginsScript Is (kinds front)
  pub stops : Stops Is (kinds front) (kinds rest)
  pub within : first_deep (kinds front) ≡ None
  pub stands : place ≡ place_of len rest

-- the place of the first token that lies too deep, if all up to it fit
pub record IsTooDeep (Is : List TokenKind → Type 0) (tokens : List Token) (place : ℕ) : Type 0 where
  pub front : List Token
  pub token : Token
  pub rest : List Token
  pub are : tokens ≡ front ++ token ∷ rest
  pub deep : first_deep (kinds tokens) ≡ Some (length front)
  pub begins : BeginsScript Is (kinds front ++ token.kind ∷ [])
  pub stands : place ≡ token.from

-- the same for scripts of a dialect
abbrev pub StopsIn : Dialect → List TokenKind → List TokenKind → Type 0
StopsIn d front rest = Stops (IsScriptIn d) front rest

abbrev pub IsUnexpectedIn : Dialect → List Token → ℕ → ℕ → Type 0
IsUnexpectedIn d tokens len place = IsUnexpected (IsScriptIn d) tokens len place

abbrev pub IsTooDeepIn : Dialect → List Token → ℕ → Type 0
IsTooDeepIn d tokens place = IsTooDeep (IsScriptIn d) tokens place
