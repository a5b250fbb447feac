-- What a checked script shows.
use Rattle.mate_num.specs.declared.shape.Shape.{Shape}
use Rattle.ts_checked.specs.Statement.{Block}

-- a script that passed the checks: the shape of the machine for which it was checked, and its statements
pub record ScriptTree : Type 0 where
  pub shape : Shape
  pub tree : Block

abbrev pub checked_shape : ScriptTree → Shape
checked_shape s = s.shape

abbrev pub checked_tree : ScriptTree → Block
checked_tree s = s.tree
