-- When tokens are a script and when they begin one, by what derived trees spell.
use Rattle.std.specs.Prelude.{◌≡◌, List, ◌++◌}
use Rattle.ts_trees.specs.declared.token.TokenKind.{TokenKind}
use Rattle.ts_trees.specs.declared.dialect.Dialect.{Dialect}
use Rattle.ts_trees.specs.declared.dialect.Dialect.TheVariants as dialect
use Rattle.ts_trees.specs.Tree.{Source, ProcedureSource}
use Rattle.ts_trees.specs.Spelling.{source_spelled, procedure_source_spelled}
use Rattle.ts_trees.specs.Derived.{IsDerived, IsDerivedWithProcedures}

-- tokens that a derived tree spells
pub record IsScript (ms : List TokenKind) : Type 0 where
  pub source : Source
  pub derived : IsDerived source
  pub spells : source_spelled source ≡ ms

-- the same, with procedures
pub record IsProcedureScript (ms : List TokenKind) : Type 0 where
  pub source : ProcedureSource
  pub derived : IsDerivedWithProcedures source
  pub spells : procedure_source_spelled source ≡ ms

-- a script of a dialect
abbrev pub IsScriptIn : Dialect → List TokenKind → Type 0
IsScriptIn dialect.Plain = IsScript
IsScriptIn dialect.Procedures = IsProcedureScript

-- tokens that some tokens after them make a script, where Is says which tokens are scripts
pub record BeginsScript (Is : List TokenKind → Type 0) (ms : List TokenKind) : Type 0 where
  pub rest : List TokenKind
  pub script : Is (ms ++ rest)

-- the same for scripts of a dialect
abbrev pub BeginsScriptIn : Dialect → List TokenKind → Type 0
BeginsScriptIn d ms = BeginsScript (IsScriptIn d) ms
