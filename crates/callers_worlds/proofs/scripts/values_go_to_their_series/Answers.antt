use Rattle.callers_worlds.proofs.ScriptLemmas.{read_values, told_values}
use Rattle.callers_worlds.proofs.scripts.values_go_to_their_series.Goals as goal

pub returns : goal.returns
returns c = λ f g two first second senses senses'.
    read_values _ c.world_script.result (told_values c.args.desc.now f g two first second senses senses') c.world_script.ensures.value
