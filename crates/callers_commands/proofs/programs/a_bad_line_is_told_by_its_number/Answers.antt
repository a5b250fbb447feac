use Rattle.command_steps.specs.Parts.{Folder}
use Rattle.callers_commands.proofs.ProgramLemmas.{bad_script}
use Rattle.callers_commands.proofs.programs.a_bad_line_is_told_by_its_number.Goals as goal

pub returns : goal.returns
returns g c =
    let f : Folder = record { told = g.F.Files.contents c.args.files.now; steady = g.F.Files.steady c.args.files.now } in
    λ bytes cause held few bad. bad_script f c.args.desc.now c.args.name.now bytes 3 cause c.script_of.result held few bad c.script_of.ensures.does
