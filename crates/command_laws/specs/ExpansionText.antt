-- What the text that `expand` writes of a source with procedures is, if it is cut and parsed as a plain script.
use Rattle.std.specs.Prelude.{◌≡◌, ◌↔◌, ℕ, List, None, Ok}
use Rattle.vm_shape.specs.declared.description.Description.{Description}
use Rattle.ts_trees.specs.Depth.{first_deep}
use Rattle.ts_trees.specs.Spelling.{source_spelled}
use Rattle.ts_checked.specs.Statement.{Block}
use Rattle.ts_trees.specs.Tree.{ProcedureSource}
use Rattle.ts_syntax.specs.Line.{script_line}
use Rattle.ts_lexer.specs.Printed.{IsTextButPlaces}
use Rattle.ts_checker.specs.Accepted.{IsAccepted}
use Rattle.ts_checker.specs.Checks.{checked_source}
use Rattle.ts_proc_expansion.specs.Expansion.{expansion}
use Rattle.ts_proc_laws.specs.FrameLaw.{RunsWithFrames}

-- the text of the expansion
abbrev pub expansion_text : ProcedureSource → List ℕ
expansion_text s = script_line (expansion s)

-- none of its tokens lies too deep: at most `BLOCKS_MAX` blocks are open, and at most `COUNTED_MAX` tokens count since a break
abbrev pub IsShallow : ProcedureSource → Type 0
IsShallow s = first_deep (source_spelled (expansion s)) ≡ None

-- the text spells the expansion but for its places
abbrev pub SpellsExpansion : ProcedureSource → Type 0
SpellsExpansion s = IsShallow s → IsTextButPlaces (expansion_text s) (expansion s)

-- a machine accepts the text exactly if it isn't too deep and the checks of the expansion pass, and with their tree
abbrev pub IsAcceptedAsExpanded : ProcedureSource → Type 0
IsAcceptedAsExpanded s =
    (machine : Description) (tree : Block) →
    IsAccepted machine (expansion_text s) tree ↔ (IsShallow s × (checked_source machine (expansion s) ≡ Ok tree))

-- whatever tree a machine takes the text for runs as the source with procedures does with frames
abbrev pub TextMeansIt : ProcedureSource → Type 0
TextMeansIt s = (machine : Description) (tree : Block) → IsAccepted machine (expansion_text s) tree → RunsWithFrames machine s tree
