use Rattle.vm_shape.proofs.DescriptionLemmas.{trickle_rules}
use Rattle.view_bounds.proofs.bounds.hop_of.Goals as goal

pub longest-requires : goal.longest-requires
longest-requires c = trickle_rules c.args.desc.now
