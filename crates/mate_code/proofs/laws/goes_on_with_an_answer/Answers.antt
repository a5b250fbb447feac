use Rattle.std.proofs.Common.{refl, arith}
use Rattle.mate_code.specs.Run.{begun_run}
use Rattle.mate_code.proofs.RunLemmas.{after-given}
use Rattle.mate_code.proofs.laws.goes_on_with_an_answer.Goals as goal

pub returns : goal.returns
returns c = λ shape code store msg answers turns n f args answer waits counted.
    after-given n answer f args shape code (begun_run store msg answers turns) refl waits (omega arith)
