use Rattle.node_programs.specs.ScriptSteps.{program_at}
use Rattle.node_programs.specs.Sources.{meaning_by}
use Rattle.command_laws.proofs.OneCall.{owes_agree}
use Rattle.command_laws.proofs.completeness.words_have_one_answer.Goals as goal

pub returns : goal.returns
returns c names words = owes_agree (λ d w ps right. c.script_has_one_report.ensures d (meaning_by d ps) w (program_at ps) right) names words
