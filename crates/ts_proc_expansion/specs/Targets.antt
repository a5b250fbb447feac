-- The procedures that are run in place of others.
use Rattle.std.specs.Prelude.{◌≡◌, ◌<◌, ℕ, List, [], length, Option, Some, option_map, unwrap_or, slice_get}
use Rattle.ts_trees.specs.declared.procedure.Proc.{Proc}
use Rattle.ts_trees.specs.Tree.{Act}
use Rattle.ts_proc_expansion.specs.Plan.{bodies_of}

-- what the body of the procedure at a place becomes
abbrev pub body_at : List Proc → ℕ → List Act
body_at procs i = unwrap_or (option_map (λ c. c.1.body) (slice_get (bodies_of procs) i)) []

-- the body at t becomes the same as the one at i
pub record IsTarget (procs : List Proc) (i t : ℕ) : Type 0 where
  pub within : t < length procs
  pub body : body_at procs t ≡ body_at procs i

abbrev pub AreTargets : List Proc → List ℕ → Type 0
AreTargets procs targets = (i t : ℕ) → slice_get targets i ≡ Some t → IsTarget procs i t
