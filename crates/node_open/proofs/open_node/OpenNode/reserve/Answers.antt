-- More room changes nothing else.
use Rattle.std.proofs.Common.{sym, subst}
use Rattle.node_open.specs.View.{NodeView, HasPace}
use Rattle.node_open.proofs.PaceLemmas.{IsPace-seen, HasPace-from}
use Rattle.node_open.proofs.JournalLemmas.{Rests-room, IsPace-room}
use Rattle.node_open.proofs.open_node.OpenNode.reserve.Goals as goal

pub invariant_of-self : goal.invariant_of-self
invariant_of-self c = record { rests = Rests-room c.self.inside.machine c.self.inside.parts c.reserve.new.self c.reserve.ensures.same c.self.invariant.rests }

pub returns-clause-pace : goal.returns-clause-pace
returns-clause-pace c = λ p pace.
    (let d = c.self.inside.machine in
    let s = c.self.inside.parts in
    let rests = c.self.invariant.rests in
    let P : NodeView → Type 0 = λ v. HasPace v p in
    let after = Rests-room d s c.reserve.new.self c.reserve.ensures.same rests in
    HasPace-from d (record s { log = c.reserve.new.self }) after.order.keeps p
    (IsPace-room d s c.reserve.new.self c.reserve.ensures.same rests p (IsPace-seen d s rests.order.keeps p (subst P (sym c.self.view_is) pace))))
