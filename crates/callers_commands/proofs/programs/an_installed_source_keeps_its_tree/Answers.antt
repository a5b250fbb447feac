use Rattle.std.proofs.Common.{codes, refl, sym, subst}
use Rattle.command_programs.specs.Numbers.{NamesInOrder}
use Rattle.command_steps.specs.Parts.{Folder}
use Rattle.callers_commands.proofs.ProgramLemmas.{installed_alone}
use Rattle.callers_commands.proofs.programs.an_installed_source_keeps_its_tree.Goals as goal

pub returns : goal.returns
returns g c =
    let f : Folder = record { told = g.F.Files.contents c.args.files.now; steady = g.F.Files.steady c.args.files.now } in
    λ bytes held. installed_alone f c.args.desc.now c.args.script.now (codes "a") bytes c.programs_of.result c.requires.script held c.programs_of.ensures.does

pub programs_of-requires-clause-in_order : goal.programs_of-requires-clause-in_order
programs_of-requires-clause-in_order g c = subst NamesInOrder (sym c.requires.script) (refl, refl)
