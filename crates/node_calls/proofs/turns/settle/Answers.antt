-- The first of the ring goes last, and has a turn.
use Rattle.std.proofs.Common.{ℕ, refl, ap, ◌∙◌, subst, ◌<◌, arith}
use Rattle.node_state.specs.At.{At}
use Rattle.node_calls.specs.Pacing.{most, AreQuanta}
use Rattle.node_state.specs.Totals.{falls}
use Rattle.node_calls.proofs.SettleLemmas.{first-ready, Rests-way, owes-way, falls-way, SettlesSome-none, SettlesSome-then, SettlesAll-from, room-turn}
use Rattle.node_calls.proofs.turns.settle.Goals as goal

pub give_way-requires-clause-ready : goal.give_way-requires-clause-ready
give_way-requires-clause-ready c = first-ready c.loop-ctx.parts.contexts c.in-Some.ctx c.in-Some.ensures.first

pub take_turn-requires-clause-rests : goal.take_turn-requires-clause-rests
take_turn-requires-clause-rests c = Rests-way c.args.description.now c.loop-ctx.parts c.give_way.new.self c.in-Some.ctx c.give_way.ensures c.loop-ctx.invariant.settles.rests

pub take_turn-requires-clause-room : goal.take_turn-requires-clause-room
take_turn-requires-clause-room c =
    let e = owes-way c.args.description.now c.loop-ctx.parts c.give_way.new.self c.in-Some.ctx c.give_way.ensures in
    let f = c.loop-ctx.invariant.settles.owed in
    let g = c.loop-ctx.invariant.settles.grows.spare in
    let h = c.requires.room in
    let ready = ap (λ (a : At). a.ready) (c.give_way.ensures.each c.in-Some.ctx) ∙ first-ready c.loop-ctx.parts.contexts c.in-Some.ctx c.in-Some.ensures.first in
    let k = room-turn c.give_way.new.self c.in-Some.ctx c.in-Some.ensures.small ready in
    omega arith

pub loop-ctx-smaller : goal.loop-ctx-smaller
loop-ctx-smaller c =
    let e = falls-way c.args.description.now c.loop-ctx.parts c.give_way.new.self c.in-Some.ctx c.give_way.ensures in
    let f = c.take_turn.ensures.turn.falls_by in
    let d = c.args.description.now in
    let g : falls (most d) c.take_turn.new.parts.contexts < falls (most d) c.loop-ctx.parts.contexts = omega arith in
    g

pub loop-ctx-preserved : goal.loop-ctx-preserved
loop-ctx-preserved c = record {
  settles =
      let P : ℕ → Type 0 = λ j. AreQuanta c.args.description.now.quantum j c.length_of_turn-n.result in
      SettlesSome-then c.args.description.now c.args.parts.now c.loop-ctx.parts c.take_turn.new.parts c.give_way.new.self c.args.at c.in-Some.ctx c.in-Some.ensures.first c.loop-ctx.invariant.settles c.give_way.ensures c.length_of_turn-n.result c.take_turn.result
      (subst P c.len.ensures.count c.length_of_turn-n.ensures) c.take_turn.ensures.turn;
  gone = c.take_turn.ensures.gone ∙ c.loop-ctx.invariant.gone;
  handlers = c.take_turn.ensures.handlers ∙ c.loop-ctx.invariant.handlers;
}

pub returns-clause-settles : goal.returns-clause-settles
returns-clause-settles c = SettlesAll-from c.args.description.now c.args.parts.now c.loop-ctx.parts c.args.at c.loop-ctx.invariant.settles c.in_default.ensures.first

pub loop-ctx-init : goal.loop-ctx-init
loop-ctx-init c = record { settles = SettlesSome-none c.args.description.now c.args.parts.now c.args.at c.requires.rests c.requires.timely; gone = refl; handlers = refl }

pub give_way-requires-clause-small : goal.give_way-requires-clause-small
give_way-requires-clause-small c = c.in-Some.ensures.small

pub take_turn-requires-clause-timely : goal.take_turn-requires-clause-timely
take_turn-requires-clause-timely c = c.loop-ctx.invariant.settles.grows.timely

pub take_turn-requires-clause-small : goal.take_turn-requires-clause-small
take_turn-requires-clause-small c = c.in-Some.ensures.small

pub take_turn-requires-clause-ready : goal.take_turn-requires-clause-ready
take_turn-requires-clause-ready c = ap (λ (a : At). a.ready) (c.give_way.ensures.each c.in-Some.ctx) ∙ first-ready c.loop-ctx.parts.contexts c.in-Some.ctx c.in-Some.ensures.first

pub take_turn-requires-clause-some : goal.take_turn-requires-clause-some
take_turn-requires-clause-some c = let are = c.length_of_turn-n.ensures.are in let quantum = c.requires.quantum in omega (arith, are, quantum)

pub returns-clause-gone : goal.returns-clause-gone
returns-clause-gone c = c.loop-ctx.invariant.gone

pub returns-clause-handlers : goal.returns-clause-handlers
returns-clause-handlers c = c.loop-ctx.invariant.handlers
