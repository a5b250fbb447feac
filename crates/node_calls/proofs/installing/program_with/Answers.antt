-- The image is the bytes.
use Rattle.node_calls.proofs.InstallLemmas.{IsInstallable-from}
use Rattle.node_calls.proofs.installing.program_with.Goals as goal

pub returns : goal.returns
returns c =
    let read = c.requires.read in
    IsInstallable-from c.args.description.now c.args.bytes.now c.args.capsule.now c.args.code c.locks-locks.result c.image_in.result read.decoded read.image read.of_machine c.requires.verified c.locks-locks.ensures c.image_in.ensures
