use Rattle.std.proofs.Common.{codes}
use Rattle.command_steps.specs.Parts.{Folder}
use Rattle.callers_commands.proofs.FolderLemmas.{missing_machine}
use Rattle.callers_commands.proofs.steps.a_missing_description_is_told_by_its_name.Goals as goal

pub returns : goal.returns
returns g c =
    let f : Folder = record { told = g.F.Files.contents c.args.files.now; steady = g.F.Files.steady c.args.files.now } in
    missing_machine f (codes "w.toml") c.machine_of.result c.requires (λ same. cc) c.machine_of.ensures.does
