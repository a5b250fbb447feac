use Rattle.command_steps.specs.Expansions.{expansion_in}
use Rattle.command_steps.specs.Parts.{Folder}
use Rattle.callers_commands.proofs.FolderLemmas.{was_read, told_alike}
use Rattle.callers_commands.proofs.steps.a_source_that_is_there_is_never_unread.Goals as goal

pub returns : goal.returns
returns g c =
    let f : Folder = record { told = g.F.Files.contents c.args.files.now; steady = g.F.Files.steady c.args.files.now } in
    λ bytes held few. told_alike c.args.name.now c.expandable_of.result
    (was_read f c.args.name.now bytes (expansion_in c.expandable_of.result) held few c.expandable_of.ensures.does)
