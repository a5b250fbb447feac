use Rattle.std.proofs.Common.{◌≡◌, ◌≤◌, take, drop}
use Rattle.ts_trees.specs.Seen.{acts_of}
use Rattle.ts_proc_renaming.specs.Renaming.{Hiding}
use Rattle.ts_proc_expansion.specs.Expansion.{expanded_acts}
use Rattle.ts_proc_expansion.specs.Extents.{extent_of}
use Rattle.ts_proc_expansion.specs.Plan.{bodies_of}
use Rattle.ts_proc_expansion.proofs.ExtentLemmas.{joined}
use Rattle.ts_proc_expansion.proofs.extent.+block.Given as goal

-- the extent of all statements is that of those so far and of the rest
abbrev pub invariant-block_extent-loop-stmt : goal.invariant-block_extent-loop-stmt
invariant-block_extent-loop-stmt l =
    record {
      capped : l.extent.count ≤ 1000000;
      whole : (h : Hiding) → extent_of (expanded_acts (take l.count (bodies_of l.heads.procs.now)) h (acts_of l.stmt-items))
          ≡ joined l.extent (extent_of (expanded_acts (take l.count (bodies_of l.heads.procs.now)) h (acts_of (drop l.stmt-index l.stmt-items))));
    }
