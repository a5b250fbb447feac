use Rattle.command_steps.specs.Parts.{Folder}
use Rattle.command_steps.specs.Steps.{goes_on}
use Rattle.command_steps.proofs.Laws.{stops_by, reads-as, reads-err}
use Rattle.node_programs.specs.Right.{IsRightProgram}
use Rattle.command_programs.specs.Programs.{IsInstalled}
use Rattle.command_programs.proofs.ReadLemmas.{if-err, obtained-read}
use Rattle.command_programs.proofs.EachLemmas.{source-tree}
use Rattle.command_programs.proofs.programs.installed.Goals as goal

pub returns-in_err-source-clause-does : goal.returns-in_err-source-clause-does
returns-in_err-source-clause-does g c = stops_by c.in_err-source.field-0.0 c.from_residual.result c.in_err-source.ensures.does c.from_residual.ensures.1

pub returns-clause-does : goal.returns-clause-does
returns-clause-does g c = goes_on c.in_ok-source.source c.in_ok-source.ensures.does c.program.ensures.installed

pub returns-clause-right : goal.returns-clause-right
returns-clause-right g c =
    let f : Folder = record { told = g.F.Files.contents c.args.files.now; steady = g.F.Files.steady c.args.files.now } in
    let tree = source-tree f c.args.desc.now c.args.fold c.args.name.now c.in_ok-source.source c.in_ok-source.ensures.does in
    c.program.ensures.right c.args.fold tree.bytes tree.tree tree.accepted tree.compiled

pub returns-in_err-source-clause-reads : goal.returns-in_err-source-clause-reads
returns-in_err-source-clause-reads g c = reads-err c.in_err-source.field-0.0 c.from_residual.result c.in_err-source.ensures.reads c.from_residual.ensures.1

pub returns-in_err-source-clause-right : goal.returns-in_err-source-clause-right
returns-in_err-source-clause-right g c = if-err (IsRightProgram c.args.desc.now) c.in_err-source.field-0.0 c.from_residual.result c.from_residual.ensures.1

pub returns-clause-reads : goal.returns-clause-reads
returns-clause-reads g c =
    reads-as c.in_ok-source.ensures.reads (obtained-read (IsInstalled c.args.desc.now c.args.handler c.args.version c.in_ok-source.source) c.program.result c.program.ensures.installed)
