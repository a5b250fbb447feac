use Rattle.std.proofs.Common.{rules, arith}
use Rattle.std.proofs.lemmas.Fmt.{length-decimal-le}
use Rattle.report_writer.proofs.chunk.Chunk.value.Goals as goal

pub number-requires : goal.number-requires
number-requires g c =
    let short = length-decimal-le 5 c.unsigned_abs.result (omega arith) (omega arith) (omega arith) in
    (search rules, omega (arith, short))

pub byte-requires : goal.byte-requires
byte-requires g c =
    let short = length-decimal-le 5 c.unsigned_abs.result (omega arith) (omega arith) (omega arith) in
    (search rules, omega (arith, short))

pub returns-then-value-lt0-clause-fits : goal.returns-then-value-lt0-clause-fits
returns-then-value-lt0-clause-fits g c = let short = length-decimal-le 5 c.unsigned_abs.result (omega arith) (omega arith) (omega arith) in omega (arith, short)

pub returns-else-value-lt0-clause-fits : goal.returns-else-value-lt0-clause-fits
returns-else-value-lt0-clause-fits g c = let short = length-decimal-le 5 c.unsigned_abs.result (omega arith) (omega arith) (omega arith) in omega (arith, short)
