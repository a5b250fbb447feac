use Rattle.std.proofs.Common.{◌+◌, drop}
use Rattle.ts_trees.specs.Seen.{acts, trees_of}
use Rattle.ts_trees.specs.Spelling.{acts_spelled}
use Rattle.ts_proc_renaming.specs.Renaming.{assigned}
use Rattle.ts_proc_texts.specs.Hidings.{hiding_at}
use Rattle.ts_proc_texts.specs.Rest.{PrintsUpTo}
use Rattle.ts_proc_texts.proofs.call.assignments.Given as goal

-- the assignments before this one are printed
abbrev pub invariant-loop-index : goal.invariant-loop-index
invariant-loop-index g l =
    PrintsUpTo (g.S.Sink.written l.initial.out) (g.S.Sink.faults l.initial.out) l.initial.printer (g.S.Sink.written l.out) (g.S.Sink.faults l.out) l.printer
    (acts_spelled (acts (assigned (hiding_at l.bodies.plan.heads.procs.now l.count) l.place (l.first + l.index) (trees_of (drop l.index l.args)))))
    (acts_spelled (acts (assigned (hiding_at l.bodies.plan.heads.procs.now l.count) l.place l.first (trees_of l.args))))
