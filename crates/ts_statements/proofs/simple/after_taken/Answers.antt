use Rattle.std.proofs.Common.{sym, subst}
use Rattle.ts_statements.specs.Simple.{FindsTaken}
use Rattle.ts_statements.proofs.TakingLemmas.{takes_all}
use Rattle.ts_statements.proofs.simple.after_taken.Goals as goal

pub returns-clause-finds : goal.returns-clause-finds
returns-clause-finds c =
    subst (FindsTaken c.args.tokens.now) (sym c.ok.ensures.value) (takes_all c.args.tokens.now c.name.result c.ended-boxed.result c.ended.result c.name.ensures c.ended-boxed.ensures c.ended.ensures)
