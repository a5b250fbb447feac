-- A new node rests.
use Rattle.std.proofs.Common.{refl, subst}
use Rattle.vm_shape.specs.declared.description.Description.{Description}
use Rattle.node_state.specs.Keeps.{reading}
use Rattle.mate_journal.specs.Pace.{no_pace}
use Rattle.node_open.specs.Start.{AreNewParts}
use Rattle.node_open.proofs.PaceLemmas.{HasPace-from}
use Rattle.node_open.proofs.MadeLemmas.{IsPace-idle}
use Rattle.node_open.proofs.open_node.OpenNode.on.Goals as goal

pub invariant_of-result : goal.invariant_of-result
invariant_of-result c =
    let P : Description → Type 0 = λ d. AreNewParts d c.in_ok-parts.parts in
    record { rests = (subst P c.description.ensures c.in_ok-parts.ensures).rests }

pub returns : goal.returns
returns c =
    let d = c.args.machine in
    let s = c.in_ok-parts.parts in
    let P : Description → Type 0 = λ x. AreNewParts x s in
    let made : P d = subst P c.description.ensures c.in_ok-parts.ensures in
    (refl, made.empty, HasPace-from d s made.rests.order.keeps no_pace (IsPace-idle (reading d s.log.all) s.contexts made.idle), made.gone)
