use Rattle.world_runs.specs.Writing.{report_of}
use Rattle.world_runs.proofs.LastLemmas.{last_refused}
use Rattle.world_runs.proofs.pieces.put_last.Goals as goal

pub returns-in-None : goal.returns-in-None
returns-in-None g c = λ air long. last_refused (report_of c.args.motes.now air c.args.events c.args.whole) (g.S.Sink.written c.args.out.now) (g.S.Sink.faults c.args.out.now)
