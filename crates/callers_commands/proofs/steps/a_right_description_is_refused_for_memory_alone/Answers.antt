use Rattle.command_steps.specs.Parts.{Folder}
use Rattle.callers_commands.proofs.FolderLemmas.{right_machine}
use Rattle.callers_commands.proofs.steps.a_right_description_is_refused_for_memory_alone.Goals as goal

pub returns : goal.returns
returns g c =
    let f : Folder = record { told = g.F.Files.contents c.args.files.now; steady = g.F.Files.steady c.args.files.now } in
    λ bytes parts held few right. right_machine f c.args.word.now bytes parts c.machine_of.result c.requires held few right c.machine_of.ensures.does
