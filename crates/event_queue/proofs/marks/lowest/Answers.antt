use Rattle.std.specs.Int.{w64}
use Rattle.std.proofs.lemmas.Nat.Bits.{bit_at-trailing_zeros}
use Rattle.event_queue.proofs.marks.lowest.Goals as goal

pub returns-clause-set : goal.returns-clause-set
returns-clause-set c = (bit_at-trailing_zeros w64 c.args.bits c.requires c.ranges.bits.fits).1

pub returns-clause-first : goal.returns-clause-first
returns-clause-first c = (bit_at-trailing_zeros w64 c.args.bits c.requires c.ranges.bits.fits).2
