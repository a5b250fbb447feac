-- What the program's extents mean.
use Rattle.std.specs.Prelude.{ℕ, min, List, map}
use Rattle.ts_trees.specs.Tree.{Act}
use Rattle.ts_trees.specs.Seen.{acts}
use Rattle.ts_proc_expansion.specs.declared.extent.Extent.{Extent}
use Rattle.ts_proc_expansion.specs.declared.extent.TheConstants.{COUNT_MAX}
use Rattle.ts_proc_expansion.specs.Expansion.{Callee}
use Rattle.ts_proc_expansion.specs.Extent.{acts_count, acts_depth}

-- the extent of statements: their number stops at `COUNT_MAX`, and their depth at 2^32 - 1
abbrev pub extent_of : List Act → Extent
extent_of xs = record { count = min COUNT_MAX (acts_count (acts xs)); depth = min 4294967295 (acts_depth (acts xs)) }

-- the extents of bodies
abbrev pub body_extents : List (List ℕ × Callee) → List Extent
body_extents known = map (λ c. extent_of c.1.body) known
