use Rattle.node_programs.specs.ScriptSteps.{program_at}
use Rattle.node_programs.specs.Sources.{meaning_by}
use Rattle.command_laws.proofs.OneWorld.{sim_agrees}
use Rattle.command_laws.proofs.completeness.sim_has_one_answer.Goals as goal

pub returns : goal.returns
returns c names fold short vm name = sim_agrees (λ d w ps right. c.script_has_one_report.ensures d (meaning_by d ps) w (program_at ps) right) names fold short vm name
