use Rattle.std.proofs.Common.{◌∙◌, sym, ap, List, ◌++◌, subst, arith}
use Rattle.mate_journal.specs.declared.air.Aired.{Aired}
use Rattle.radio_sim.specs.Sending.{IsFurther}
use Rattle.radio_sim.specs.Wires.{carried_by}
use Rattle.radio_sim.specs.declared.waiting.Delivery.{Delivery}
use Rattle.radio_sim.proofs.WireLemmas.{carried_none, lost_more, delivered_more, carried_all, further}
use Rattle.radio_sim.proofs.wire.Wires.carry.Goals as goal
use Rattle.radio_sim.proofs.wire.Wires.carry.Goals.{then-loses+in_ok-push, else-loses+in_ok-copy+in_ok-push_back}

pub loop-wire-init : goal.loop-wire-init
loop-wire-init c = carried_none c.args.sending c.args.packet.now c.args.air.now c.reserve.new.self.items

pub returns-in_err-push-clause-kept : goal.returns-in_err-push-clause-kept
returns-in_err-push-clause-kept c = subst (λ (xs : List Aired). IsFurther c.args.air.now xs) (sym c.in_err-push.ensures) (further _ _ _ _ _ _ _ c.loop-wire.invariant)

pub returns-in_err-copy-clause-kept : goal.returns-in_err-copy-clause-kept
returns-in_err-copy-clause-kept c = further _ _ _ _ _ _ _ c.loop-wire.invariant

pub returns-in_err-push_back-clause-kept : goal.returns-in_err-push_back-clause-kept
returns-in_err-push_back-clause-kept c = further _ _ _ _ _ _ _ c.loop-wire.invariant

pub loop-wire-preserved : goal.loop-wire-preserved
loop-wire-preserved c = elim c.if-loses.branch [
  | then-loses+in_ok-push w ↦
      lost_more c.args.sending c.args.packet.now c.deref-wire-items.result.now c.loop-wire.wire-index c.wire-item.result c.args.air.now c.loop-wire.air c.if-loses.air c.reserve.new.self.items c.loop-wire.carried.items c.if-loses.carried.items
      c.loop-wire.invariant (omega arith) c.wire-item.is (sym c.loses.ensures ∙ w.if-loses.true) (w.air-is ∙ w.in_ok-push.ensures) (ap (λ q. q.items) w.carried-is)
  | else-loses+in_ok-copy+in_ok-push_back w ↦
      delivered_more c.args.sending c.args.packet.now w.in_ok-copy.copy c.deref-wire-items.result.now c.loop-wire.wire-index c.wire-item.result c.args.air.now c.loop-wire.air c.if-loses.air c.reserve.new.self.items c.loop-wire.carried.items c.if-loses.carried.items
      c.loop-wire.invariant (omega arith) c.wire-item.is (sym c.loses.ensures ∙ w.if-loses.false) w.air-is w.in_ok-copy.ensures (ap (λ q. q.items) w.carried-is ∙ w.in_ok-push_back.ensures.items)
]

pub returns-clause-air : goal.returns-clause-air
returns-clause-air c = (carried_all c.args.sending c.args.packet.now c.deref-wire-items.result.now c.args.self.now c.loop-wire.wire-index _ _ _ _ c.loop-wire.invariant c.loop-wire-test.false (c.deref-wire-items.ensures.value ∙ c.self.view_is)).air

pub returns-clause-carried : goal.returns-clause-carried
returns-clause-carried c =
    let all = (carried_all c.args.sending c.args.packet.now c.deref-wire-items.result.now c.args.self.now c.loop-wire.wire-index _ _ _ _ c.loop-wire.invariant c.loop-wire-test.false (c.deref-wire-items.ensures.value ∙ c.self.view_is)).carried in
    all ∙ ap (λ (ds : List Delivery). ds ++ carried_by c.args.sending c.args.packet.now c.args.self.now) c.reserve.ensures.items

pub returns-clause-kept : goal.returns-clause-kept
returns-clause-kept c = further _ _ _ _ _ _ _ c.loop-wire.invariant
