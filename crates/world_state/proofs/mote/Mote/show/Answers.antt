use Rattle.std.proofs.Common.{refl}
use Rattle.mate_journal.specs.NodeScript.{ShowsOnce}
use Rattle.node_state.specs.Meaning.{machine_in}
use Rattle.node_open.specs.Calls.{Pacing}
use Rattle.world_state.proofs.NodeLemmas.{tellable-same, tells-behind}
use Rattle.world_state.proofs.mote.Mote.show.Goals as goal

pub seen-requires-clause-timely : goal.seen-requires-clause-timely
seen-requires-clause-timely c = (tellable-same c.args.self.now.node c.reserve.new.self c.args.at c.in_ok-reserve.ensures.same c.requires).timely

pub returns : goal.returns
returns c = record {
  tells = tells-behind c.args.self.now.node c.reserve.new.self c.seen.new.self c.args.at (λ d r. Pacing (ShowsOnce (machine_in d) r)) c.in_ok-reserve.ensures.same c.in_ok-reserve.ensures.pace c.seen.ensures;
  same = refl;
}
