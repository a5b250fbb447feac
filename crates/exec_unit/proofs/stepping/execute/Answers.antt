use Rattle.exec_unit.proofs.StepLemmas.{asked-fetch}
use Rattle.exec_unit.proofs.stepping.execute.Goals as goal

pub ask-requires-clause-asks : goal.ask-requires-clause-asks
ask-requires-clause-asks c = asked-fetch c.args.code.now c.args.registers.now c.advance.new.registers c.args.memory.now c.advance.new.memory c.in-Asks.ensures.0 c.in-Asks.ensures.1

pub send-requires-clause-sends : goal.send-requires-clause-sends
send-requires-clause-sends c = asked-fetch c.args.code.now c.args.registers.now c.advance.new.registers c.args.memory.now c.advance.new.memory c.in-Sends.ensures.0 c.in-Sends.ensures.1
