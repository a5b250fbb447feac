-- The text of a script in a file of its own.
use Rattle.std.specs.Prelude.{ℕ, List, ◌++◌, codes}
use Rattle.ts_trees.specs.Spelling.{source_spelled}
use Rattle.ts_trees.specs.Text.{text_of}
use Rattle.ts_trees.specs.Tree.{Source}

-- the tokens of a plain script, with one space between two, and a line feed
abbrev pub script_line : Source → List ℕ
script_line s = text_of (source_spelled s) ++ codes "\n"
