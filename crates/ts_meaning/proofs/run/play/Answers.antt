use Rattle.std.proofs.Common.{rules}
use Rattle.ts_checked.specs.Checked.{checked_shape, checked_tree}
use Rattle.ts_meaning.proofs.StoreLemmas.{outside_writes}
use Rattle.ts_meaning.proofs.run.play.Goals as goal

pub returns-in-Ok-clause-outside : goal.returns-in-Ok-clause-outside
returns-in-Ok-clause-outside c =
    outside_writes (checked_shape c.args.script.now) (checked_tree c.args.script.now) c.args.store.now c.args.msg.now c.args.answers.now c.args.turns
    c.outcome.result (search rules)

pub returns-in-Err-Ended-clause-outside : goal.returns-in-Err-Ended-clause-outside
returns-in-Err-Ended-clause-outside c =
    outside_writes (checked_shape c.args.script.now) (checked_tree c.args.script.now) c.args.store.now c.args.msg.now c.args.answers.now c.args.turns
    c.outcome-in-Err-Ended.result (search rules)
