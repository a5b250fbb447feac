use Rattle.callers_worlds.proofs.RunLemmas.{lacks_byte}
use Rattle.callers_worlds.proofs.runs.a_cut_report_lacks_a_byte.Goals as goal

pub returns : goal.returns
returns g c = lacks_byte c.args.desc.now c.args.world.now c.args.programs.now _ _ _ _ c.run_into.result c.run_into.ensures.gives
