use Rattle.std.proofs.Common.{◌≡◌, Bool, [], subst}
use Rattle.std.specs.Prelude.{MatchBool}
use Rattle.journal_laws.specs.Progress.{IsSomeReady}
use Rattle.node_open.specs.View.{heard_of}
use Rattle.node_open.specs.Calls.{IsNoneReady}
use Rattle.world_event.proofs.TurnLemmas.{timely-behind, turns-tell, turns-few, formed-apart, turns-awaited, none-tell, none-awaited}
use Rattle.world_event.proofs.turns.have_turns.Goals as goal

pub settle-requires-clause-timely : goal.settle-requires-clause-timely
settle-requires-clause-timely c = timely-behind c.args.node.now c.reserve.new.self c.args.at c.in_ok-reserve.ensures.same c.requires.timely

pub returns-clause-tells : goal.returns-clause-tells
returns-clause-tells c = turns-tell c.args.node.now c.reserve.new.self c.settle.new.self c.args.at _ c.in_ok-reserve.ensures.same c.in_ok-reserve.ensures.pace c.requires.paced c.settle.ensures

pub returns-clause-few : goal.returns-clause-few
returns-clause-few c =
    turns-few c.args.node.now c.reserve.new.self c.settle.new.self c.args.at _ c.in_ok-reserve.ensures.same c.in_ok-reserve.ensures.pace c.requires.paced c.settle.ensures
    c.is_well_formed-2.ensures c.is_well_formed-3.ensures (c.settling_tells_few.ensures _)

pub returns-clause-apart : goal.returns-clause-apart
returns-clause-apart c = formed-apart c.settle.new.self c.is_well_formed-3.ensures (c.waits_are_apart.ensures.apart _)

pub returns-clause-awaited : goal.returns-clause-awaited
returns-clause-awaited c =
    turns-awaited c.args.node.now c.reserve.new.self c.settle.new.self c.args.at _ c.in_ok-reserve.ensures.same c.in_ok-reserve.ensures.pace c.requires.paced c.settle.ensures
    c.is_well_formed-3.ensures (c.settling_leaves_waiting.ensures.awaits _) (c.waits_are_apart.ensures.small _)

pub returns-then-not-is_ready-clause-tells : goal.returns-then-not-is_ready-clause-tells
returns-then-not-is_ready-clause-tells c =
    let none = subst (λ (b : Bool). MatchBool b (IsSomeReady (heard_of c.args.node.now)) (IsNoneReady (heard_of c.args.node.now) × (c.args.node.now.line ≡ []))) c.if-not-is_ready.true c.is_ready.ensures in
    none-tell c.args.node.now c.args.at none.0 none.1 c.requires.timely

pub returns-then-not-is_ready-clause-apart : goal.returns-then-not-is_ready-clause-apart
returns-then-not-is_ready-clause-apart c = formed-apart c.args.node.now c.is_well_formed.ensures (c.waits_are_apart.ensures.apart _)

pub returns-then-not-is_ready-clause-awaited : goal.returns-then-not-is_ready-clause-awaited
returns-then-not-is_ready-clause-awaited c = none-awaited c.args.node.now
