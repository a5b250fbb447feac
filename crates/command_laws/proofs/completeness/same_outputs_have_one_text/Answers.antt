use Rattle.node_programs.specs.ScriptSteps.{program_at}
use Rattle.node_programs.specs.Sources.{meaning_by}
use Rattle.command_laws.proofs.OneText.{one-text}
use Rattle.command_laws.proofs.completeness.same_outputs_have_one_text.Goals as goal

pub returns : goal.returns
returns c o o' same full full' bs bs' is is' = one-text (λ d w ps right. c.script_has_one_report.ensures d (meaning_by d ps) w (program_at ps) right) o o' same full full' bs bs' is is'
