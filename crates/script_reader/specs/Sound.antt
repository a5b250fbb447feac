-- A source that a machine accepts, within the limits of its stack and of its code.
use Rattle.std.specs.Prelude.{ℕ, ◌≤◌, List}
use Rattle.mate_num.specs.declared.bounds.TheConstants.{CODE_MAX, STACK_MAX}
use Rattle.vm_shape.specs.declared.description.Description.{Description}
use Rattle.ts_checked.specs.Statement.{Block}
use Rattle.ts_checker.specs.Accepted.{IsAccepted}
use Rattle.ts_semantics.specs.Translation.{script_need, script_size}

pub record IsSoundSource (d : Description) (bytes : List ℕ) : Type 0 where
  pub tree : Block
  pub accepted : IsAccepted d bytes tree
  pub need : script_need tree ≤ STACK_MAX
  pub size : script_size tree ≤ CODE_MAX
