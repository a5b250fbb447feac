use Rattle.std.proofs.Common.{length}
use Rattle.ts_proc_texts.specs.Rest.{block_tokens, tokens_on, PrintsUpTo}
use Rattle.ts_proc_texts.specs.Size.{size_on}
use Rattle.ts_proc_texts.proofs.walk.walk.Given as goal

-- all is printed but for what is left on the stack
abbrev pub invariant-loop-rest : goal.invariant-loop-rest
invariant-loop-rest g l =
    PrintsUpTo (g.S.Sink.written l.fn.out) (g.S.Sink.faults l.fn.out) l.fn.printer (g.S.Sink.written l.out) (g.S.Sink.faults l.out) l.printer
    (tokens_on l.bodies.plan.heads.procs.now l.stack.items) (block_tokens l.bodies.plan.heads.procs.now (length l.bodies.plan.heads.procs.now) l.fn.stmts)

abbrev pub decreases-loop-rest : goal.decreases-loop-rest
decreases-loop-rest g l = size_on l.bodies.plan.heads.procs.now l.stack.items
