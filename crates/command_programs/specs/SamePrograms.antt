-- Programs that mean the same and install the same.
use Rattle.std.specs.Prelude.{◌≡◌, List, [], ◌∷◌, Option, Some, None, ⊤}
use Rattle.mate_journal.specs.declared.program.Program.{Program}
use Rattle.ts_checked.specs.Checked.{ScriptTree}

-- the same tree, or none
abbrev pub SameSource : Option ScriptTree → Option ScriptTree → Type 0
SameSource None None = ⊤
SameSource (Some a) (Some b) = a.tree ≡ b.tree
SameSource _ _ = ⊥

pub record SameProgram (a b : Program) : Type 0 where
  pub handler : a.handler ≡ b.handler
  pub version : a.version ≡ b.version
  pub image : a.image ≡ b.image
  pub source : SameSource a.source b.source

-- as many, and each the same as the one at its place
abbrev pub SamePrograms : List Program → List Program → Type 0
SamePrograms [] [] = ⊤
SamePrograms (p ∷ ps) (q ∷ qs) = SameProgram p q × SamePrograms ps qs
SamePrograms _ _ = ⊥
