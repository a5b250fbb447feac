use Rattle.ts_syntax.proofs.PrintLemmas.{◌⋙◌}
use Rattle.ts_proc_texts.proofs.ProgressLemmas.{after_all}
use Rattle.ts_proc_texts.proofs.TextLemmas.{line_ended, line_stopped}
use Rattle.ts_proc_texts.proofs.writing.lines.Goals as goal

pub returns-then-whole : goal.returns-then-whole
returns-then-whole g c =
    line_ended c.into_pen-pen.result c.ended.result c.new-printer.ensures.fresh c.new-printer.ensures.begun c.into_pen-pen.ensures (c.decls.ensures ⋙ c.if-whole.ensures) c.ended.ensures

pub returns : goal.returns
returns g c =
    line_stopped c.into_pen-pen.result c.stopped.result c.new-printer.ensures.fresh c.new-printer.ensures.begun c.into_pen-pen.ensures c.stopped.ensures
    (after_all c.decls.ensures c.if-whole.ensures.1)
