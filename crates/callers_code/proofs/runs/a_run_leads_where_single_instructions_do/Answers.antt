use Rattle.callers_code.proofs.RunLemmas.{comes_there}
use Rattle.callers_code.proofs.runs.a_run_leads_where_single_instructions_do.Goals as goal

pub returns : goal.returns
returns c = λ new after goes.
    comes_there c.args.code.now c.args.machine.now c.args.heap.now c.args.n c.run.result.instructions c.run.result.how c.run.new.machine c.run.new.heap new after goes c.run.ensures
