use Rattle.std.proofs.Common.{Result, ap}
use Rattle.report_writer.specs.declared.pass.Pass.{Pass}
use Rattle.report_writer.specs.declared.write_fault.WriteFault.{WriteFault}
use Rattle.world_runs.proofs.pieces.end_with.Goals as goal

pub returns : goal.returns
returns g c = λ air long.
    let P : Result (Unit {0}) WriteFault → Pass = λ r. record { events = c.args.events; whole = c.args.whole; result = r } in
    record { put = c.put_last-put.result; puts = c.put_last-put.ensures air long; is = ap P c.ended.ensures }
