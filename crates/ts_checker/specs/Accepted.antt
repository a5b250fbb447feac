-- Which texts are scripts of a machine, with the tree that they mean, and which refusal comes first for the others.
use Rattle.std.specs.Prelude.{◌≡◌, ℕ, List, length, Result, Ok, Err}
use Rattle.vm_shape.specs.declared.description.Description.{Description}
use Rattle.ts_trees.specs.declared.token.Token.{Token}
use Rattle.ts_trees.specs.Cut.{cut, CutFault}
use Rattle.ts_trees.specs.Tree.{Source}
use Rattle.ts_trees.specs.Script.{IsScript}
use Rattle.ts_trees.specs.Faults.{Spells, IsUnexpected, IsTooDeep}
use Rattle.ts_checked.specs.Statement.{Block}
use Rattle.ts_checker.specs.declared.fault.CheckFault.{CheckFault}
use Rattle.ts_checker.specs.Checks.{checked_source}

-- the tokens are cut from the bytes, and spell a script, whose checks give this
pub record IsChecked (machine : Description) (bytes : List ℕ) (result : Result Block CheckFault) : Type 0 where
  pub tokens : List Token
  pub source : Source
  pub cuts : cut bytes ≡ Ok tokens
  pub spells : Spells tokens source
  pub checks : checked_source machine source ≡ result

abbrev pub IsAccepted : Description → List ℕ → Block → Type 0
IsAccepted machine bytes tree = IsChecked machine bytes (Ok tree)

-- why a text is refused: by its bytes, by its grammar, with a place, or by the checks of its script
pub data TextRefusal : Type 0 where
  by_bytes : CutFault → TextRefusal
  unexpected : ℕ → TextRefusal
  too_deep : ℕ → TextRefusal
  by_check : CheckFault → TextRefusal

-- the tokens are cut from the bytes, and the grammar stops at a place
abbrev pub IsMisspelled : List ℕ → ℕ → Type 0
IsMisspelled bytes place = (tokens : List Token) × (cut bytes ≡ Ok tokens) × IsUnexpected IsScript tokens (length bytes) place

abbrev pub IsSpelledTooDeep : List ℕ → ℕ → Type 0
IsSpelledTooDeep bytes place = (tokens : List Token) × (cut bytes ≡ Ok tokens) × IsTooDeep IsScript tokens place

-- the first refusal of a text: its bytes come before its grammar, and its grammar before its checks
abbrev pub IsRefusedBy : Description → List ℕ → TextRefusal → Type 0
IsRefusedBy machine bytes (by_bytes fault) = cut bytes ≡ Err fault
IsRefusedBy machine bytes (unexpected place) = IsMisspelled bytes place
IsRefusedBy machine bytes (too_deep place) = IsSpelledTooDeep bytes place
IsRefusedBy machine bytes (by_check fault) = IsChecked machine bytes (Err fault)
