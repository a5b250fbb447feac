use Rattle.command_steps.specs.Parts.{Folder}
use Rattle.callers_commands.proofs.FolderLemmas.{keep_trees}
use Rattle.callers_commands.proofs.steps.an_unfolded_source_keeps_its_tree.Goals as goal

pub returns : goal.returns
returns g c =
    let f : Folder = record { told = g.F.Files.contents c.args.files.now; steady = g.F.Files.steady c.args.files.now } in
    λ bytes held. keep_trees f c.args.desc.now c.args.name.now bytes c.source_of.result held c.source_of.ensures.does
