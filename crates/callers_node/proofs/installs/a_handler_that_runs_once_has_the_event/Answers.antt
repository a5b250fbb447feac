use Rattle.callers_node.proofs.EraLemmas.{on_ok_once, has_event}
use Rattle.callers_node.proofs.installs.a_handler_that_runs_once_has_the_event.Goals as goal

pub returns : goal.returns
returns c = on_ok_once c.install.result _ _ _ (λ capsule right once. has_event c.args.node.now c.install.new.self c.args.at c.args.bytes.now capsule right c.install.result once c.install.ensures)
