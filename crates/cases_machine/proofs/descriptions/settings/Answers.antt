use Rattle.vm_shape.proofs.DescriptionLemmas.{trickle_rules}
use Rattle.cases_machine.proofs.descriptions.settings.Goals as goal

pub longest-longest-requires : goal.longest-longest-requires
longest-longest-requires c = trickle_rules c.args.desc.now
