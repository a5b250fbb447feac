use Rattle.mate_num.proofs.NumberLemmas.{wrap-IsNumber, wrap-IsCongruent, wrap-only}
use Rattle.mate_num.proofs.num16.wrap_is_the_residue.Goals as goal

pub returns : goal.returns
returns c = record { number = wrap-IsNumber; congruent = wrap-IsCongruent; only = wrap-only }
