use Rattle.command_steps.specs.Parts.{Folder}
use Rattle.callers_commands.proofs.FolderLemmas.{large_file}
use Rattle.callers_commands.proofs.steps.a_large_file_is_told_as_large.Goals as goal

pub returns : goal.returns
returns g c =
    let f : Folder = record { told = g.F.Files.contents c.args.files.now; steady = g.F.Files.steady c.args.files.now } in
    λ bytes held many. large_file f c.args.name.now bytes c.read_file.result held many c.read_file.ensures.does
