use Rattle.std.proofs.Common.{◌≡◌, take}
use Rattle.ts_proc_expansion.specs.Plan.{bodies_of, firsts_of}
use Rattle.ts_proc_expansion.proofs.CalleeLemmas.{count_before}
use Rattle.ts_proc_expansion.proofs.plan.numbered.Given as goal

-- the numbers so far, and the next one
abbrev pub invariant-loop-proc : goal.invariant-loop-proc
invariant-loop-proc l = record { firsts : l.firsts.items ≡ firsts_of (take l.proc-index (bodies_of l.procs)); next : l.next ≡ count_before l.procs l.proc-index }
