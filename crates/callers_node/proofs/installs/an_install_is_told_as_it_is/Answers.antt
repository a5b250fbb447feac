use Rattle.callers_node.proofs.EraLemmas.{on_ok, told_as_it_is}
use Rattle.callers_node.proofs.installs.an_install_is_told_as_it_is.Goals as goal

pub returns : goal.returns
returns c = on_ok c.install.result _ _ (λ capsule right. told_as_it_is c.args.node.now c.install.new.self c.args.at c.args.bytes.now capsule right c.install.result c.install.ensures)
