use Rattle.mate_code.specs.Run.{begun_run}
use Rattle.mate_code.proofs.RunLemmas.{one_end}
use Rattle.mate_code.proofs.laws.ends_once.Goals as goal

pub returns : goal.returns
returns c = λ shape code store msg answers turns m n over_m over_n.
    one_end m n shape code (begun_run store msg answers turns) over_m over_n
