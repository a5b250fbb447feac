use Rattle.std.proofs.Common.{codes, refl, sym, subst}
use Rattle.command_programs.specs.Numbers.{NamesInOrder}
use Rattle.command_steps.specs.Parts.{Folder}
use Rattle.callers_commands.proofs.ProgramLemmas.{none_of_one}
use Rattle.callers_commands.proofs.programs.a_missing_file_is_not_skipped.Goals as goal

pub returns : goal.returns
returns g c =
    let f : Folder = record { told = g.F.Files.contents c.args.files.now; steady = g.F.Files.steady c.args.files.now } in
    none_of_one f c.args.desc.now c.args.script.now (codes "a") c.programs_of.result c.requires.missing c.requires.script c.programs_of.ensures.does

pub programs_of-requires-clause-in_order : goal.programs_of-requires-clause-in_order
programs_of-requires-clause-in_order g c = subst NamesInOrder (sym c.requires.script) (refl, refl)
