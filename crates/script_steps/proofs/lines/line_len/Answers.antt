use Rattle.script_steps.proofs.LineLemmas.{found-end, no-end}
use Rattle.script_steps.proofs.lines.line_len.Goals as goal

pub returns-in-Some-clause-value : goal.returns-in-Some-clause-value
returns-in-Some-clause-value c = found-end c.args.text.now c.in-Some.len c.in-Some.ensures

pub returns-in-None-clause-value : goal.returns-in-None-clause-value
returns-in-None-clause-value c = no-end c.args.text.now c.in-None.ensures
