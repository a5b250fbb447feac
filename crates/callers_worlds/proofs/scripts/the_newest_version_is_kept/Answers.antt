use Rattle.callers_worlds.proofs.ScriptLemmas.{refused_script, not_newer}
use Rattle.callers_worlds.proofs.scripts.the_newest_version_is_kept.Goals as goal

pub returns : goal.returns
returns c = λ h one name. refused_script 5 _ _ c.world_script.result (not_newer c.args.desc.now h one name) c.world_script.ensures.value
