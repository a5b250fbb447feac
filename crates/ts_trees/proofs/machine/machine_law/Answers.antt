use Rattle.ts_trees.proofs.Exact.{refused}
use Rattle.ts_trees.proofs.MachineLemmas.{taken, read_derived, read_places}
use Rattle.ts_trees.proofs.machine.machine_law.Goals as goal

pub returns : goal.returns
returns c = record { complete = taken; sound = read_derived; places = read_places; refused = refused }
