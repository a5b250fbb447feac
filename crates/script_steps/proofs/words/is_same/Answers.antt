use Rattle.script_steps.proofs.SpellLemmas.{all-same}
use Rattle.script_steps.proofs.words.is_same.Goals as goal

pub returns-then-bytes-others : goal.returns-then-bytes-others
returns-then-bytes-others c = rw c.are_same.ensures (all-same c.args.bytes.now c.args.others.now c.if-bytes-others.true)
