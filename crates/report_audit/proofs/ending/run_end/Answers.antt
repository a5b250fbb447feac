use Rattle.std.proofs.Common.{◌≡◌, ℕ, false, Option, Some, refl, sym, ◌∙◌, ◌+◌, ap, subst}
use Rattle.std.specs.Prelude.{unwrap_or}
use Rattle.mate_num.specs.declared.store.Store.{Store}
use Rattle.audit_rules.specs.Rerun.{ends_right, run_on}
use Rattle.audit_rules.specs.Tests.{conflict_of}
use Rattle.audit_rules.specs.Views.{seat_in, roll_in}
use Rattle.audit_programs.specs.Kept.{AreKept}
use Rattle.audit_programs.specs.Trials.{machine_for, IsSeatReady}
use Rattle.audit_programs.proofs.LoopLemmas.{shown, past-shown, of-all, all-fails}
use Rattle.report_audit.proofs.EndLemmas.{HasEnded, ended-here, ended-other, ended-all}
use Rattle.report_audit.proofs.ending.run_end.Goals as goal
use Rattle.report_audit.proofs.ending.run_end.Goals.{then-seat-number+in_ok-right+else-not-right, else-seat-number}

pub returns-then-not-right-clause-right : goal.returns-then-not-right-clause-right
returns-then-not-right-clause-right c =
    let t = c.args.trial.now in
    let m = machine_for t in
    let conflict = conflict_of t.desc.now in
    let images = t.log.now.images in
    let x = roll_in images c.args.roll.now.roll in
    let z = seat_in images c.seat-item.result in
    let seats = c.args.roll.now.roll.seats.items in
    let i = c.loop-seat.seat-index in
    let r = shown seats c.as_slice-seat-items.result.now i c.seat-item.result c.as_slice-seat-items.ensures.value c.loop-seat-test.true c.seat-item.is in (
      sym (all-fails (seat_in images) (ends_right m conflict x c.args.store.now c.args.number c.args.how.now) seats i c.seat-item.result r.0 r.1
          (subst (λ (k : ℕ). ends_right m conflict x c.args.store.now k c.args.how.now z ≡ false) c.if-seat-number.true (sym c.in_ok-right.ensures.right.0 ∙ c.if-not-right.true))),
      λ never. absurd (cc),
    )

pub loop-seat-preserved : goal.loop-seat-preserved
loop-seat-preserved c =
    let t = c.args.trial.now in
    let m = machine_for t in
    let conflict = conflict_of t.desc.now in
    let images = t.log.now.images in
    let roll = c.args.roll.now.roll in
    let store = c.args.store.now in
    let after = (run_on m store (seat_in images c.seat-item.result).invocation).store in
    let i = c.loop-seat.seat-index in
    let r = shown roll.seats.items c.as_slice-seat-items.result.now i c.seat-item.result c.as_slice-seat-items.ensures.value c.loop-seat-test.true c.seat-item.is in
    let before : HasEnded m conflict images roll store c.args.number c.args.how.now i c.loop-seat.left = record { all = c.loop-seat.invariant.all; left_is = c.loop-seat.invariant.left; lengths = c.loop-seat.invariant.lengths } in
    let E : Option Store → Type 0 = λ left. HasEnded m conflict images roll store c.args.number c.args.how.now (i + 1) left in
    let now : E c.if-seat-number.left = elim c.if-seat-number.branch [
      | then-seat-number+in_ok-right+else-not-right w ↦
          let left = w.in_ok-right.ensures.right.1 w.if-not-right.false in
          subst E (sym (w.left-is ∙ left.0))
          (ended-here m conflict images roll store c.args.number c.args.how.now i c.loop-seat.left before c.seat-item.result r.0 r.1 (Some after) after
          (sym w.in_ok-right.ensures.right.0 ∙ w.if-not-right.false, refl, left.1) refl w.if-seat-number.true)
      | else-seat-number w ↦ subst E (sym w.left-is)
          (ended-other m conflict images roll store c.args.number c.args.how.now i c.loop-seat.left before c.seat-item.result r.0 r.1 w.if-seat-number.false)
    ] in
    let runs : AreKept t.desc.now c.if-seat-number.runs = elim c.if-seat-number.branch [
      | then-seat-number+in_ok-right+else-not-right w ↦ subst (AreKept t.desc.now) (sym w.runs-is) w.in_ok-right.ensures.runs
      | else-seat-number w ↦ subst (AreKept t.desc.now) (sym w.runs-is) c.loop-seat.invariant.runs
    ] in
    record { all = now.all; left = now.left_is; lengths = now.lengths; runs = runs }

pub loop-seat-init : goal.loop-seat-init
loop-seat-init c = record { all = refl; left = refl; lengths = tt; runs = c.requires.runs }

pub ends_right-requires-clause-ended : goal.ends_right-requires-clause-ended
ends_right-requires-clause-ended c =
    let seats = c.args.roll.now.roll.seats.items in
    let i = c.loop-seat.seat-index in
    let r = shown seats c.as_slice-seat-items.result.now i c.seat-item.result c.as_slice-seat-items.ensures.value c.loop-seat-test.true c.seat-item.is in
    of-all (IsSeatReady c.args.trial.now c.args.roll.now) seats i c.seat-item.result c.requires.ready r.0 r.1

pub returns-in-Some-clause-right : goal.returns-in-Some-clause-right
returns-in-Some-clause-right c =
    let t = c.args.trial.now in
    let m = machine_for t in
    let conflict = conflict_of t.desc.now in
    let roll = c.args.roll.now.roll in
    let store = c.args.store.now in
    let i = c.loop-seat.seat-index in
    let ended : HasEnded m conflict t.log.now.images roll store c.args.number c.args.how.now i c.loop-seat.left = record { all = c.loop-seat.invariant.all; left_is = c.loop-seat.invariant.left; lengths = c.loop-seat.invariant.lengths } in
    ended-all m conflict t.log.now.images roll store c.args.number c.args.how.now i c.loop-seat.left c.in-Some.after ended
    (past-shown roll.seats.items c.as_slice-seat-items.result.now i c.as_slice-seat-items.ensures.value c.loop-seat-test.false) c.requires.lengths
    (ap (λ (o : Option Store). unwrap_or o store) (sym c.in-Some.is))

pub returns-in_default-clause-right : goal.returns-in_default-clause-right
returns-in_default-clause-right c =
    let t = c.args.trial.now in
    let m = machine_for t in
    let conflict = conflict_of t.desc.now in
    let roll = c.args.roll.now.roll in
    let store = c.args.store.now in
    let i = c.loop-seat.seat-index in
    let ended : HasEnded m conflict t.log.now.images roll store c.args.number c.args.how.now i c.loop-seat.left = record { all = c.loop-seat.invariant.all; left_is = c.loop-seat.invariant.left; lengths = c.loop-seat.invariant.lengths } in
    ended-all m conflict t.log.now.images roll store c.args.number c.args.how.now i c.loop-seat.left store ended
    (past-shown roll.seats.items c.as_slice-seat-items.result.now i c.as_slice-seat-items.ensures.value c.loop-seat-test.false) c.requires.lengths
    (ap (λ (o : Option Store). unwrap_or o store) (sym c.in_default.is))
