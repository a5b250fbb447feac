use Rattle.std.proofs.Common.{true, refl, ap}
use Rattle.mate_journal.specs.NodeScript.{Resets}
use Rattle.node_state.specs.Meaning.{machine_in}
use Rattle.node_open.specs.Calls.{Pacing}
use Rattle.world_state.specs.declared.effect.Effect.{Effect}
use Rattle.world_state.proofs.NodeLemmas.{tellable-same, tells-behind}
use Rattle.world_state.proofs.mote.Mote.reset.Goals as goal

pub reset-requires-clause-timely : goal.reset-requires-clause-timely
reset-requires-clause-timely c = (tellable-same c.args.self.now.node c.reserve.new.self c.args.at c.in_ok-reserve.ensures.same c.requires.tellable).timely

pub returns : goal.returns
returns c = record {
  tells = tells-behind c.args.self.now.node c.reserve.new.self c.reset.new.self c.args.at (λ d r. Pacing (Resets (machine_in d) r)) c.in_ok-reserve.ensures.same c.in_ok-reserve.ensures.pace c.reset.ensures;
  timer = c.again.ensures.next.next;
  exchange = c.forget.ensures.learned;
  pumps = refl;
  calls = refl;
  effect = ap (λ (e : Effect). record e { begins = true; cuts = true; resets = true }) c.requires.plain;
}
