use Rattle.std.proofs.Common.{refl}
use Rattle.script_reader.specs.Made.{node_count}
use Rattle.script_reader.proofs.made.node_count.Goals as goal

pub returns-clause-value : goal.returns-clause-value
unfolding node_count
returns-clause-value c = refl
