use Rattle.ts_checked.specs.Checked.{checked_shape, checked_tree}
use Rattle.ts_compiler.proofs.compiling.compile.Goals as goal

pub returns-then-extent-clause-uses : goal.returns-then-extent-clause-uses
returns-then-extent-clause-uses c = c.code_uses_as_its_script.ensures (checked_shape c.args.script.now) (checked_tree c.args.script.now)

pub returns-then-extent-2-clause-uses : goal.returns-then-extent-2-clause-uses
returns-then-extent-2-clause-uses c = c.code_uses_as_its_script.ensures (checked_shape c.args.script.now) (checked_tree c.args.script.now)

pub returns-clause-uses : goal.returns-clause-uses
returns-clause-uses c = c.code_uses_as_its_script.ensures (checked_shape c.args.script.now) (checked_tree c.args.script.now)
