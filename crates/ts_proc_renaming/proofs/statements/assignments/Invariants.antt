use Rattle.std.proofs.Common.{◌≡◌, ◌+◌, ◌++◌, map, drop}
use Rattle.ts_trees.specs.Seen.{act_of, trees_of}
use Rattle.ts_proc_renaming.specs.Renaming.{assigned}
use Rattle.ts_proc_renaming.specs.Hidden.{hiding_of}
use Rattle.ts_proc_renaming.proofs.statements.assignments.Given as goal

-- the assignments so far, and those that are left
abbrev pub invariant-loop-index : goal.invariant-loop-index
invariant-loop-index l =
    map act_of l.written ++ assigned (hiding_of l.hidden) l.place (l.first + l.index) (trees_of (drop l.index l.args))
    ≡ map act_of l.initial.written ++ assigned (hiding_of l.hidden) l.place l.first (trees_of l.args)
