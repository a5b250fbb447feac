use Rattle.ts_statements.proofs.TakenLemmas.{simple_reads, simple_shorter}
use Rattle.ts_trees.specs.Machine.{stmt_named}
use Rattle.ts_statements.proofs.taken.append_named.Goals as goal

pub returns-clause-reads : goal.returns-clause-reads
returns-clause-reads c =
    simple_reads c.args.tokens.now (stmt_named c.args.word) c.args.stmts.now c.appended.new.stmts c.behind_name.result c.behind_name.ensures.reads c.appended.result c.appended.ensures

pub returns-clause-shorter : goal.returns-clause-shorter
returns-clause-shorter c =
    simple_shorter c.args.tokens.now c.args.stmts.now c.appended.new.stmts c.behind_name.result c.behind_name.ensures.shorter c.appended.result c.appended.ensures
