use Rattle.std.proofs.Common.{drop}
use Rattle.ts_syntax.proofs.PrintLemmas.{DeclsUpTo}
use Rattle.ts_syntax.proofs.printer.Printer.decls.Given as goal

-- the names before this one are printed
abbrev pub invariant-loop-decl : goal.invariant-loop-decl
invariant-loop-decl g l =
    DeclsUpTo (g.S.Sink.written l.initial.out) (g.S.Sink.faults l.initial.out) l.initial.self (g.S.Sink.written l.out) (g.S.Sink.faults l.out) l.self
    l.behind (drop l.decl-index l.decls) l.decls
