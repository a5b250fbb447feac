-- The code is verified or is refused.
use Rattle.std.proofs.Common.{refl, ◌∙◌, ap}
use Rattle.mate_code.specs.Table.{table_of}
use Rattle.node_calls.proofs.InstallLemmas.{IsUnverified-from}
use Rattle.node_calls.proofs.installing.install_new.Goals as goal

pub verify-requires : goal.verify-requires
verify-requires c = c.of-table.ensures ∙ ap table_of c.shape.ensures.value

pub returns-in-Err-clause-installs : goal.returns-in-Err-clause-installs
returns-in-Err-clause-installs c =
    (IsUnverified-from c.args.description.now c.args.bytes.now c.args.capsule.now.code.now c.args.capsule.now c.in-Err.fault c.requires.read.decoded refl c.in-Err.ensures, refl)

pub returns-in-Ok-clause-installs : goal.returns-in-Ok-clause-installs
returns-in-Ok-clause-installs c = c.install_code.ensures.installs
