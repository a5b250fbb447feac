use Rattle.callers_node.proofs.EraLemmas.{refused_alone}
use Rattle.callers_node.proofs.installs.an_equal_version_is_not_taken.Goals as goal

pub returns : goal.returns
returns c = λ p capsule has right older.
    refused_alone c.args.node.now c.install.new.self c.args.at c.args.bytes.now capsule right c.install.result p has older c.install.ensures
