use Rattle.ts_statements.proofs.TakenLemmas.{simple_reads, simple_shorter}
use Rattle.ts_trees.specs.Machine.{cleared}
use Rattle.ts_statements.proofs.taken.append_clearing.Goals as goal

pub returns-clause-reads : goal.returns-clause-reads
returns-clause-reads c =
    simple_reads c.args.tokens.now cleared c.args.stmts.now c.appended.new.stmts c.clearing.result c.clearing.ensures.reads c.appended.result c.appended.ensures

pub returns-clause-shorter : goal.returns-clause-shorter
returns-clause-shorter c =
    simple_shorter c.args.tokens.now c.args.stmts.now c.appended.new.stmts c.clearing.result c.clearing.ensures.shorter c.appended.result c.appended.ensures
