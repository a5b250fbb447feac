use Rattle.mate_code.specs.Run.{begun_run, bound}
use Rattle.mate_code.proofs.RunLemmas.{after-other}
use Rattle.mate_code.proofs.laws.changes_what_it_writes.Goals as goal

pub returns : goal.returns
returns c = λ shape code store msg answers turns. record {
  on_the_way = λ n r none. after-other n shape code (begun_run store msg answers turns) r none;
  in_the_end = λ r none. after-other (bound code turns) shape code (begun_run store msg answers turns) r none;
}
