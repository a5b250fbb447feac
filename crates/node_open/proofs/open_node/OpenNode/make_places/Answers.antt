-- The programs stay, and what rests of them.
use Rattle.std.proofs.Common.{◌≤◌, List, Option, length, sym, ap, subst, arith}
use Rattle.node_state.specs.declared.handlers.Held.{Held}
use Rattle.node_state.specs.Programs.{HasOwnRoom}
use Rattle.node_open.specs.View.{NodeView, HasPace}
use Rattle.node_open.proofs.PaceLemmas.{IsPace-seen, HasPace-from}
use Rattle.node_open.proofs.JournalLemmas.{Rests-programs}
use Rattle.node_open.proofs.CallLemmas.{on-ok}
use Rattle.node_open.proofs.open_node.OpenNode.make_places.Goals as goal

pub invariant_of-self : goal.invariant_of-self
invariant_of-self c = record { rests = Rests-programs c.self.inside.machine c.self.inside.parts c.make_room.new.self c.make_room.ensures.same c.self.invariant.rests }

pub returns-clause-pace : goal.returns-clause-pace
returns-clause-pace c = λ p pace.
    (let d = c.self.inside.machine in
    let s = c.self.inside.parts in
    let rests = c.self.invariant.rests in
    let P : NodeView → Type 0 = λ v. HasPace v p in
    let after = Rests-programs d s c.make_room.new.self c.make_room.ensures.same rests in
    HasPace-from d (record s { handlers = c.make_room.new.self }) after.order.keeps p
    (IsPace-seen d s rests.order.keeps p (subst P (sym c.self.view_is) pace)))

pub returns-clause-more : goal.returns-clause-more
returns-clause-more c =
    let was = ap (λ (v : NodeView). v.places) c.self.view_is in
    let more = c.make_room.ensures.more in
    omega (arith, was, more)

pub returns-clause-places : goal.returns-clause-places
returns-clause-places c =
    let d = c.self.inside.machine in
    let held = c.make_room.new.self in
    let same = ap (λ (ps : List (Option Held)). length ps) c.make_room.ensures.same in
    let places = c.self.invariant.rests.order.keeps.places in
    let goes : HasOwnRoom held → length d.handlers.items ≤ held.room = λ room. omega (arith, room, same, places) in
    on-ok c.make_room.result _ _ goes c.make_room.ensures.room
