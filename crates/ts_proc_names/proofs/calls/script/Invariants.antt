use Rattle.std.proofs.Common.{◌≡◌, [], drop, take, map}
use Rattle.ts_trees.specs.Seen.{procedure_of, acts_of}
use Rattle.ts_proc_names.specs.Heads.{heads_of}
use Rattle.ts_proc_names.specs.NameFaults.{procedures_fault}
use Rattle.ts_proc_names.proofs.calls.script.Given as goal

-- the first refusal of all procedures and the statements behind them is that of the rest behind those so far
abbrev pub invariant-loop-place : goal.invariant-loop-place
invariant-loop-place l =
    procedures_fault [] (map procedure_of l.procs) (acts_of l.script.body)
    ≡ procedures_fault (take l.place (heads_of l.procs)) (map procedure_of (drop l.place l.procs)) (acts_of l.script.body)
