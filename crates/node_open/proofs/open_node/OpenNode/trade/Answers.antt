-- The same log, with other room.
use Rattle.std.proofs.Common.{refl, sym, ap, subst}
use Rattle.mate_journal.specs.Log.{IsSameLog}
use Rattle.mate_journal.specs.OpenLog.{OpenView}
use Rattle.node_open.specs.View.{NodeView, HasPace}
use Rattle.node_open.proofs.PaceLemmas.{IsPace-seen, HasPace-from}
use Rattle.node_open.proofs.JournalLemmas.{Rests-room, IsPace-room}
use Rattle.node_open.proofs.open_node.OpenNode.trade.Goals as goal

pub invariant_of-self : goal.invariant_of-self
invariant_of-self c =
    let l = c.self.inside.parts.log in
    let P : OpenView → Type 0 = λ v. IsSameLog v.all l.all in
    record { rests = Rests-room c.self.inside.machine c.self.inside.parts c.trade.new.self (subst P (sym c.trade.ensures.same) (record { entries = refl; images = refl; stores = refl })) c.self.invariant.rests }

pub returns-clause-pace : goal.returns-clause-pace
returns-clause-pace c = λ p pace.
    (let d = c.self.inside.machine in
    let s = c.self.inside.parts in
    let rests = c.self.invariant.rests in
    let Q : OpenView → Type 0 = λ v. IsSameLog v.all s.log.all in
    let same : Q c.trade.new.self = subst Q (sym c.trade.ensures.same) (record { entries = refl; images = refl; stores = refl }) in
    let P : NodeView → Type 0 = λ v. HasPace v p in
    let after = Rests-room d s c.trade.new.self same rests in
    HasPace-from d (record s { log = c.trade.new.self }) after.order.keeps p
    (IsPace-room d s c.trade.new.self same rests p (IsPace-seen d s rests.order.keeps p (subst P (sym c.self.view_is) pace))))
