use Rattle.command_refusals.proofs.refusal.Refusal.print.Goals as goal

pub returns-in-SinkFault : goal.returns-in-SinkFault
returns-in-SinkFault g c = rw c.in-SinkFault.is c.text-in-SinkFault.ensures
