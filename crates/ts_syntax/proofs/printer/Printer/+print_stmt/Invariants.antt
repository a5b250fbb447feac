use Rattle.std.proofs.Common.{drop}
use Rattle.ts_syntax.proofs.PrintLemmas.{ActsUpTo}
use Rattle.ts_syntax.proofs.printer.Printer.+print_stmt.Given as goal

-- the statements before this one are printed
abbrev pub invariant-block-loop-stmt : goal.invariant-block-loop-stmt
invariant-block-loop-stmt g l =
    ActsUpTo (g.N.Naming.named l.naming) (g.S.Sink.written l.initial.out) (g.S.Sink.faults l.initial.out) l.initial.self (g.S.Sink.written l.out) (g.S.Sink.faults l.out) l.self
    (drop l.stmt-index l.stmt-items) l.stmt-items
