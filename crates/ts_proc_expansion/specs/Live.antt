-- Statements that become the same as others.
use Rattle.std.specs.Prelude.{◌≡◌, ℕ, List, ◌++◌}
use Rattle.ts_trees.specs.Tree.{Act, Acts}
use Rattle.ts_trees.specs.Seen.{acts}
use Rattle.ts_proc_renaming.specs.Renaming.{Hiding}
use Rattle.ts_proc_expansion.specs.Expansion.{Callee, expanded_act, expanded_acts}

-- two blocks become the same, whatever is hidden in them
abbrev pub BecomesSame : List (List ℕ × Callee) → Acts → Acts → Type 0
BecomesSame known a b = (h : Hiding) → expanded_acts known h a ≡ expanded_acts known h b

-- what is appended to statements becomes the same as this one
abbrev pub AddsSame : List (List ℕ × Callee) → List Act → Act → List Act → Type 0
AddsSame known old a new = (h : Hiding) → expanded_acts known h (acts new) ≡ expanded_acts known h (acts old) ++ expanded_act known h a
