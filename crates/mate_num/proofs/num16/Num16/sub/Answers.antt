use Rattle.std.proofs.Common.{ap, rules, ℤ}
use Rattle.mate_num.specs.Number.{num}
use Rattle.std.proofs.lemmas.Int.{wraps}
use Rattle.mate_num.proofs.num16.Num16.sub.Goals as goal

pub returns : goal.returns
returns c = ap (λ (n : ℤ). num n) (search (rules, wraps))
