use Rattle.node_open.specs.View.{heard_of}
use Rattle.callers_node.proofs.EraLemmas.{none_behind, era_told, stands_idle}
use Rattle.callers_node.proofs.installs.nothing_goes_on_behind_an_install.Goals as goal

pub returns : goal.returns
returns c = λ p capsule has right never.
    let t = c.in_ok-install.ensures in
    stands_idle (heard_of c.install.new.self) c.standing.result
    (none_behind c.args.node.now c.install.new.self c.args.at _ t
    (era_told c.args.node.now c.install.new.self c.args.at c.args.bytes.now capsule right p t.told never (t.paces p has).1.0)) c.standing.ensures
