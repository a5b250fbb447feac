use Rattle.std.proofs.lemmas.List.{drop_all}
use Rattle.ts_checked.proofs.ListLemmas.{drop_item}
use Rattle.ts_syntax.proofs.PrintLemmas.{decls_begin, decls_next, decls_finish}
use Rattle.ts_syntax.proofs.printer.Printer.decls.Goals as goal

pub loop-decl-init : goal.loop-decl-init
loop-decl-init g c = decls_begin _ _ _ _

pub loop-decl-preserved : goal.loop-decl-preserved
loop-decl-preserved g c = decls_next c.loop-decl.behind (drop_item _ _ _ c.loop-decl-test.true c.decl-item.is) c.loop-decl.invariant c.decl.ensures

pub returns : goal.returns
returns g c = decls_finish c.loop-decl.behind (drop_all _ _ c.loop-decl-test.false) c.loop-decl.invariant c.close.ensures
