use Rattle.std.proofs.Common.{rules, arith}
use Rattle.std.proofs.lemmas.Fmt.{length-decimal-le}
use Rattle.report_writer.proofs.ChunkLemmas.{◌⋙◌}
use Rattle.report_writer.proofs.front.stamp_in_front.Goals as goal

pub number-requires : goal.number-requires
number-requires g c = let short = length-decimal-le 20 c.args.stamp.event (omega arith) (omega arith) (omega arith) in (search rules, omega (arith, short))

pub returns : goal.returns
returns g c = c.number.ensures.adds ⋙ c.number_in_front.ensures.adds ⋙ c.place_in_front.ensures.adds
