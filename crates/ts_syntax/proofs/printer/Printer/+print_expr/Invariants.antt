use Rattle.std.proofs.Common.{drop}
use Rattle.ts_syntax.proofs.PrintLemmas.{ArgsUpTo}
use Rattle.ts_syntax.proofs.printer.Printer.+print_expr.Given as goal

-- the arguments before this one are printed
abbrev pub invariant-args-loop-arg : goal.invariant-args-loop-arg
invariant-args-loop-arg g l =
    ArgsUpTo (g.N.Naming.named l.naming) (g.S.Sink.written l.initial.out) (g.S.Sink.faults l.initial.out) l.initial.self (g.S.Sink.written l.out) (g.S.Sink.faults l.out) l.self
    l.first (drop l.arg-index l.arg-items) l.arg-items
