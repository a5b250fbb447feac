use Rattle.command_laws.proofs.OneCall.{completes}
use Rattle.command_laws.proofs.completeness.owed_output_comes.Goals as goal

pub returns : goal.returns
returns c f names words before now s t status free ends = completes f names words before now s t status free ends
