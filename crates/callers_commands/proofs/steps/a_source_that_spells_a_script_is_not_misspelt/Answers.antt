use Rattle.callers_commands.proofs.AcceptingLemmas.{not_misspelt}
use Rattle.callers_commands.proofs.steps.a_source_that_spells_a_script_is_not_misspelt.Goals as goal

pub returns : goal.returns
returns c = λ tokens source cuts spells.
    not_misspelt c.verdict_law.ensures.one c.args.bytes.now tokens source cuts spells c.args.desc.now c.accept.result c.accept.ensures.tells
