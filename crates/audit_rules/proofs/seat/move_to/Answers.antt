use Rattle.std.proofs.Common.{get_or, set, ◌∙◌, ap, arith}
use Rattle.std.proofs.lemmas.List.{get_or_default}
use Rattle.std.proofs.lemmas.List.Edits.{map_over_more}
use Rattle.audit_rules.specs.declared.seat.Seat.{Seat}
use Rattle.audit_rules.specs.Views.{come_to}
use Rattle.audit_rules.proofs.seat.move_to.Goals as goal

pub loop-seat-preserved : goal.loop-seat-preserved
loop-seat-preserved c =
    let ss = c.args.seats.now in
    let now = c.loop-seat.seat-items in
    let i = c.loop-seat.seat-index in
    let w : Seat = get_or now i c.seat-item.result in
    let f : Seat → Seat = come_to c.args.number c.args.phase.now in
    ap (λ (v : Seat). set now i v) c.come_to.ensures ∙ map_over_more f ss now i w (omega arith) c.loop-seat.invariant (get_or_default now i c.seat-item.result w (omega arith))
