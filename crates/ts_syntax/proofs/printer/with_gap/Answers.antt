use Rattle.std.proofs.Common.{◌++◌, ◌∙◌, ap, sym}
use Rattle.ts_trees.specs.Text.{space}
use Rattle.ts_syntax.proofs.printer.with_gap.Goals as goal

pub returns-then-begun : goal.returns-then-begun
returns-then-begun c = λ text e. e ∙ ap (λ b. space b ++ text) (sym c.if-begun.true)
