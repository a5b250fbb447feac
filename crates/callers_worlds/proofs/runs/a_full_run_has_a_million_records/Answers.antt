use Rattle.callers_worlds.proofs.RunLemmas.{full_behind}
use Rattle.callers_worlds.proofs.runs.a_full_run_has_a_million_records.Goals as goal

pub returns : goal.returns
returns c = full_behind c.args.desc.now c.args.world.now c.args.programs.now c.run.result c.run.ensures
