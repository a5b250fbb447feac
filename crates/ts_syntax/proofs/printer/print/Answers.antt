use Rattle.std.proofs.Common.{ap, sym, ◌∙◌, ◌++◌, List}
use Rattle.mate_files.proofs.PenLemmas.{Puts-finished, Prints-by}
use Rattle.ts_trees.specs.declared.token.TokenKind.{TokenKind}
use Rattle.ts_trees.specs.Seen.{acts_of}
use Rattle.ts_trees.specs.Text.{written}
use Rattle.ts_trees.specs.Spelling.{decls_spelled, acts_spelled}
use Rattle.ts_syntax.proofs.NamingLemmas.{acts_stay}
use Rattle.ts_syntax.proofs.PrintLemmas.{◌⋙◌, tokens_by}
use Rattle.ts_syntax.proofs.printer.print.Goals as goal

pub returns : goal.returns
returns g c =
    let body : List TokenKind = acts_spelled (acts_of c.args.script.now.body) in
    let block = tokens_by (ap acts_spelled (sym (acts_stay (acts_of c.args.script.now.body)))) c.block.ensures in
    let all = tokens_by (ap (λ ds. decls_spelled ds ++ body) (sym c.as_slice.ensures)) (c.decls.ensures ⋙ block) in
    Puts-finished c.new-printer.ensures.fresh (c.finish.ensures ∙ ap (λ p. p.result) c.into_pen.ensures)
    (Prints-by (ap (λ b. written b (decls_spelled c.args.script.now.decls ++ body)) c.new-printer.ensures.begun) all.prints)
