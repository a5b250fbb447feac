use Rattle.std.proofs.Common.{rules, arith}
use Rattle.std.proofs.lemmas.Fmt.{length-decimal-le}
use Rattle.report_writer.proofs.ChunkLemmas.{◌⋙◌}
use Rattle.report_writer.proofs.front.number_in_front.Goals as goal

pub number-requires : goal.number-requires
number-requires g c = let short = length-decimal-le 10 c.args.n (omega arith) (omega arith) (omega arith) in (search rules, omega (arith, short))

pub byte-requires : goal.byte-requires
byte-requires g c = let short = length-decimal-le 10 c.args.n (omega arith) (omega arith) (omega arith) in (search rules, omega (arith, short))

pub returns-clause-adds : goal.returns-clause-adds
returns-clause-adds g c = c.byte.ensures.adds ⋙ c.number.ensures.adds

pub returns-clause-fits : goal.returns-clause-fits
returns-clause-fits g c = let short = length-decimal-le 10 c.args.n (omega arith) (omega arith) (omega arith) in omega (arith, short)
