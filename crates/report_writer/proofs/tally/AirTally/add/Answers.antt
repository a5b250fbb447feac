use Rattle.std.proofs.Common.{arith}
use Rattle.report_writer.specs.declared.kinds.AirKind.TheVariants as kinds
use Rattle.report_writer.proofs.tally.AirTally.add.Goals as goal

pub overflow_add-self : goal.overflow_add-self
overflow_add-self c = omega (arith, c.requires.records)

pub overflow_add-self-in-Sent : goal.overflow_add-self-in-Sent
overflow_add-self-in-Sent c = omega (arith, c.requires.counts kinds.Sent)

pub overflow_add-self-in-Got : goal.overflow_add-self-in-Got
overflow_add-self-in-Got c = omega (arith, c.requires.counts kinds.Got)

pub overflow_add-self-in-Lost : goal.overflow_add-self-in-Lost
overflow_add-self-in-Lost c = omega (arith, c.requires.counts kinds.Lost)
