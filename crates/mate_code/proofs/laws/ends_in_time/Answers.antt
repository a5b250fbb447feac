use Rattle.mate_code.proofs.BoundLemmas.{verified-EndsInTime}
use Rattle.mate_code.proofs.laws.ends_in_time.Goals as goal

pub returns : goal.returns
returns c = verified-EndsInTime
