use Rattle.std.proofs.Common.{ap, set, sym, ◌∙◌, arith}
use Rattle.std.proofs.lemmas.List.Edits.{map_over_more}
use Rattle.radio_sim.specs.declared.wire.Wire.{Wire}
use Rattle.radio_sim.specs.Wires.{turned_wire}
use Rattle.radio_sim.proofs.wire.Wires.turn.Goals as goal

pub loop-wire-preserved : goal.loop-wire-preserved
loop-wire-preserved c =
    let ys = c.loop-wire.wire-items in
    let i = c.loop-wire.wire-index in
    let x = c.wire-item.result in
    ap (λ (w : Wire). set ys i w) (c.turn.ensures ∙ ap turned_wire (sym c.wire-item.is)) ∙ map_over_more turned_wire c.deref_mut-wire-items.result.now ys i x (omega arith) c.loop-wire.invariant c.wire-item.is
