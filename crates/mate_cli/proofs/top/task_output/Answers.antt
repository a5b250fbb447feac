use Rattle.std.proofs.Common.{sym, subst}
use Rattle.mate_cli.specs.Ends.{command}
use Rattle.command_steps.specs.Parts.{Folder}
use Rattle.command_line.specs.Commands.{task_held}
use Rattle.command_line.specs.declared.command.Command.{Command}
use Rattle.command_documents.specs.Outputs.{owed_in}
use Rattle.mate_cli.proofs.top.task_output.Goals as goal

pub returns-in-Node-clause-does : goal.returns-in-Node-clause-does
returns-in-Node-clause-does g c =
    let f : Folder = record { told = g.F.Files.contents c.args.files.now; steady = g.F.Files.steady c.args.files.now } in
    subst (λ (t : Command). command f (task_held t) (owed_in c.output.result)) (sym c.in-Node.is) c.output.ensures.does

pub returns-in-Sim-clause-does : goal.returns-in-Sim-clause-does
returns-in-Sim-clause-does g c =
    let f : Folder = record { told = g.F.Files.contents c.args.files.now; steady = g.F.Files.steady c.args.files.now } in
    subst (λ (t : Command). command f (task_held t) (owed_in c.output-in-Sim.result)) (sym c.in-Sim.is) c.output-in-Sim.ensures.does

pub returns-in-Gen-clause-does : goal.returns-in-Gen-clause-does
returns-in-Gen-clause-does g c =
    let f : Folder = record { told = g.F.Files.contents c.args.files.now; steady = g.F.Files.steady c.args.files.now } in
    subst (λ (t : Command). command f (task_held t) (owed_in c.output-in-Gen.result)) (sym c.in-Gen.is) c.output-in-Gen.ensures.does

pub returns-in-Table-clause-does : goal.returns-in-Table-clause-does
returns-in-Table-clause-does g c =
    let f : Folder = record { told = g.F.Files.contents c.args.files.now; steady = g.F.Files.steady c.args.files.now } in
    subst (λ (t : Command). command f (task_held t) (owed_in c.output-in-Table.result)) (sym c.in-Table.is) c.output-in-Table.ensures.does

pub returns-in-Compile-clause-does : goal.returns-in-Compile-clause-does
returns-in-Compile-clause-does g c =
    let f : Folder = record { told = g.F.Files.contents c.args.files.now; steady = g.F.Files.steady c.args.files.now } in
    subst (λ (t : Command). command f (task_held t) (owed_in c.output-in-Compile.result)) (sym c.in-Compile.is) c.output-in-Compile.ensures.does

pub returns-in-Check-clause-does : goal.returns-in-Check-clause-does
returns-in-Check-clause-does g c =
    let f : Folder = record { told = g.F.Files.contents c.args.files.now; steady = g.F.Files.steady c.args.files.now } in
    subst (λ (t : Command). command f (task_held t) (owed_in c.output-in-Check.result)) (sym c.in-Check.is) c.output-in-Check.ensures.does

pub returns-in-Expand-clause-does : goal.returns-in-Expand-clause-does
returns-in-Expand-clause-does g c =
    let f : Folder = record { told = g.F.Files.contents c.args.files.now; steady = g.F.Files.steady c.args.files.now } in
    subst (λ (t : Command). command f (task_held t) (owed_in c.output-in-Expand.result)) (sym c.in-Expand.is) c.output-in-Expand.ensures.does

pub returns-in-Feed-clause-does : goal.returns-in-Feed-clause-does
returns-in-Feed-clause-does g c =
    let f : Folder = record { told = g.F.Files.contents c.args.files.now; steady = g.F.Files.steady c.args.files.now } in
    subst (λ (t : Command). command f (task_held t) (owed_in c.output-in-Feed.result)) (sym c.in-Feed.is) c.output-in-Feed.ensures.does

pub returns-in-Audit-clause-does : goal.returns-in-Audit-clause-does
returns-in-Audit-clause-does g c =
    let f : Folder = record { told = g.F.Files.contents c.args.files.now; steady = g.F.Files.steady c.args.files.now } in
    subst (λ (t : Command). command f (task_held t) (owed_in c.output-in-Audit.result)) (sym c.in-Audit.is) c.output-in-Audit.ensures.does

pub returns-in-Node-clause-reads : goal.returns-in-Node-clause-reads
returns-in-Node-clause-reads g c = c.output.ensures.reads

pub returns-in-Node-clause-writable : goal.returns-in-Node-clause-writable
returns-in-Node-clause-writable g c = c.output.ensures.writable

pub returns-in-Sim-clause-reads : goal.returns-in-Sim-clause-reads
returns-in-Sim-clause-reads g c = c.output-in-Sim.ensures.reads

pub returns-in-Sim-clause-writable : goal.returns-in-Sim-clause-writable
returns-in-Sim-clause-writable g c = c.output-in-Sim.ensures.writable

pub returns-in-Gen-clause-reads : goal.returns-in-Gen-clause-reads
returns-in-Gen-clause-reads g c = c.output-in-Gen.ensures.reads

pub returns-in-Gen-clause-writable : goal.returns-in-Gen-clause-writable
returns-in-Gen-clause-writable g c = c.output-in-Gen.ensures.writable

pub returns-in-Table-clause-reads : goal.returns-in-Table-clause-reads
returns-in-Table-clause-reads g c = c.output-in-Table.ensures.reads

pub returns-in-Table-clause-writable : goal.returns-in-Table-clause-writable
returns-in-Table-clause-writable g c = c.output-in-Table.ensures.writable

pub returns-in-Compile-clause-reads : goal.returns-in-Compile-clause-reads
returns-in-Compile-clause-reads g c = c.output-in-Compile.ensures.reads

pub returns-in-Compile-clause-writable : goal.returns-in-Compile-clause-writable
returns-in-Compile-clause-writable g c = c.output-in-Compile.ensures.writable

pub returns-in-Check-clause-reads : goal.returns-in-Check-clause-reads
returns-in-Check-clause-reads g c = c.output-in-Check.ensures.reads

pub returns-in-Check-clause-writable : goal.returns-in-Check-clause-writable
returns-in-Check-clause-writable g c = c.output-in-Check.ensures.writable

pub returns-in-Expand-clause-reads : goal.returns-in-Expand-clause-reads
returns-in-Expand-clause-reads g c = c.output-in-Expand.ensures.reads

pub returns-in-Expand-clause-writable : goal.returns-in-Expand-clause-writable
returns-in-Expand-clause-writable g c = c.output-in-Expand.ensures.writable

pub returns-in-Feed-clause-reads : goal.returns-in-Feed-clause-reads
returns-in-Feed-clause-reads g c = c.output-in-Feed.ensures.reads

pub returns-in-Feed-clause-writable : goal.returns-in-Feed-clause-writable
returns-in-Feed-clause-writable g c = c.output-in-Feed.ensures.writable

pub returns-in-Audit-clause-reads : goal.returns-in-Audit-clause-reads
returns-in-Audit-clause-reads g c = c.output-in-Audit.ensures.reads

pub returns-in-Audit-clause-writable : goal.returns-in-Audit-clause-writable
returns-in-Audit-clause-writable g c = c.output-in-Audit.ensures.writable
