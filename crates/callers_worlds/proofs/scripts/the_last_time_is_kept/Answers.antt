use Rattle.callers_worlds.proofs.ScriptLemmas.{refused_script, turned_back}
use Rattle.callers_worlds.proofs.scripts.the_last_time_is_kept.Goals as goal

pub returns : goal.returns
returns c = refused_script 5 _ _ c.world_script.result (turned_back c.args.desc.now) c.world_script.ensures.value
