use Rattle.std.proofs.Common.{◌∙◌}
use Rattle.callers_worlds.proofs.SourceLemmas.{of_actuator}
use Rattle.callers_worlds.proofs.sources.an_actuator_is_not_read.Goals as goal

pub returns : goal.returns
returns c = λ f shared functions acts. c.in_ok-text.ensures.value ∙ of_actuator c.args.desc.now f shared functions acts
