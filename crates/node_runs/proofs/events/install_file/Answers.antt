-- The program that is read is the file's.
use Rattle.std.proofs.Common.{subst}
use Rattle.mate_journal.specs.Machine.{HeldProgram}
use Rattle.mate_journal.specs.NodeScript.{Install}
use Rattle.node_open.specs.View.{Tells}
use Rattle.node_runs.specs.Running.{MakesOn}
use Rattle.node_runs.proofs.EventLemmas.{right-program, program-is}
use Rattle.node_runs.proofs.events.install_file.Goals as goal

pub install-requires-clause-right : goal.install-requires-clause-right
install-requires-clause-right c =
    right-program c.args.programs.now c.as_slice.result.now c.args.file c.index-as_slice-file.result c.as_slice.ensures c.requires.below c.index-as_slice-file.is c.args.node.now.description c.requires.programs

pub returns : goal.returns
returns c =
    let v = c.args.node.now in
    let P : HeldProgram → Type 0 = λ h. Tells v c.install.new.node c.args.at (MakesOn v (Install h)) in
    subst P (program-is c.args.programs.now c.as_slice.result.now c.args.file c.index-as_slice-file.result c.as_slice.ensures c.requires.below c.index-as_slice-file.is) c.install.ensures
