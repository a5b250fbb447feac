use Rattle.std.proofs.Common.{arith}
use Rattle.report_writer.specs.declared.kinds.EntryKind.TheVariants as kinds
use Rattle.report_writer.proofs.tally.EntryCounts.add.Goals as goal

pub overflow_add-self : goal.overflow_add-self
overflow_add-self c = omega (arith, c.requires kinds.Post)

pub overflow_add-self-in-Dropped : goal.overflow_add-self-in-Dropped
overflow_add-self-in-Dropped c = omega (arith, c.requires kinds.Drop)

pub overflow_add-self-in-Halt : goal.overflow_add-self-in-Halt
overflow_add-self-in-Halt c = omega (arith, c.requires kinds.Halt)

pub overflow_add-self-in-Fault : goal.overflow_add-self-in-Fault
overflow_add-self-in-Fault c = omega (arith, c.requires kinds.Fault)

pub overflow_add-self-in-Install : goal.overflow_add-self-in-Install
overflow_add-self-in-Install c = omega (arith, c.requires kinds.Install)
