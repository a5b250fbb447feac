use Rattle.std.proofs.Common.{◌≡◌, ◌≤◌, ◌-◌, ℕ, suc, length, sym, subst, arith}
use Rattle.report_writer.specs.declared.pass.Pass.{Pass}
use Rattle.world_run_laws.specs.Coming.{code_world}
use Rattle.world_state.proofs.RangeLemmas.{left-ranges, few-before}
use Rattle.world_state.proofs.KeepingLemmas.{few-after, left-stands}
use Rattle.world_runs.specs.Writing.{EndsSo}
use Rattle.world_runs.proofs.HandLemmas.{written-still, at-hand-now, put-now, left-written}
use Rattle.world_runs.proofs.RecordingLemmas.{recorded-before, recorded-still, left-recorded}
use Rattle.world_runs.proofs.WritingLemmas.{memory-ends, step-goes, step-fails}
use Rattle.world_runs.proofs.writing.write_step.Goals as goal

number-before : (event n : ℕ) → event ≡ suc n → event - 1 ≡ n
number-before event n is = omega (arith, is)

number-least : (event n : ℕ) → event ≡ suc n → 1 ≤ event
number-least event n is = omega (arith, is)

-- memory was refused within the event: the report is of what stood before
pub returns-in_default-clause-writes : goal.returns-in_default-clause-writes
returns-in_default-clause-writes g c =
    let b = c.requires.stands in
    let number = number-before c.args.at.event (length b.moments) b.stamp in
    subst (λ (p : Pass). EndsSo c.args.desc.now (code_world c.args.desc.now c.args.world.now c.args.programs.now) c.args.sim.now (g.S.Sink.written c.args.out.now) (g.S.Sink.faults c.args.out.now) (g.S.Sink.written c.args.out.now) (g.S.Sink.faults c.args.out.now) p c.args.records.now)
    (sym c.stopped_at.ensures)
    (λ out0 f0 written. memory-ends c.args.desc.now c.args.world.now c.args.programs.now b.moments c.args.sim.now (c.args.at.event - 1) b.come b.air b.nodes b.motes number c.requires.kept c.requires.ranges (few-before c.args.at.event c.stamp_is_in_range.ensures.event) c.args.records.now c.requires.recorded _ _ out0 f0 written)

pub record_event-requires-clause-node : goal.record_event-requires-clause-node
record_event-requires-clause-node g c = (at-hand-now c.args.at.event c.in-Ok.node c.args.sim.now c.in-Ok.ensures.adds.mid c.step.new.sim c.in-Ok.ensures.adds.lets_go c.in-Ok.ensures.adds.adds).low

pub record_event-requires-clause-before : goal.record_event-requires-clause-before
record_event-requires-clause-before g c =
    recorded-before c.args.records.now c.args.sim.now c.in-Ok.ensures.adds.mid c.step.new.sim c.in-Ok.node c.args.at.event c.in-Ok.ensures.adds.lets_go c.in-Ok.ensures.adds.adds c.requires.recorded

-- memory was refused to the record
pub returns-in_default-record_event-clause-writes : goal.returns-in_default-record_event-clause-writes
returns-in_default-record_event-clause-writes g c =
    let b = c.requires.stands in
    let number = number-before c.args.at.event (length b.moments) b.stamp in
    subst (λ (p : Pass). EndsSo c.args.desc.now (code_world c.args.desc.now c.args.world.now c.args.programs.now) c.args.sim.now (g.S.Sink.written c.args.out.now) (g.S.Sink.faults c.args.out.now) (g.S.Sink.written c.args.out.now) (g.S.Sink.faults c.args.out.now) p c.record_event.new.records)
    (sym c.stopped_at-in_default-record_event.ensures)
    (λ out0 f0 written. memory-ends c.args.desc.now c.args.world.now c.args.programs.now b.moments c.args.sim.now (c.args.at.event - 1) b.come b.air b.nodes b.motes number c.requires.kept c.requires.ranges (few-before c.args.at.event c.stamp_is_in_range.ensures.event) c.record_event.new.records
    (recorded-still c.args.records.now c.record_event.new.records c.args.sim.now c.in_default-record_event.ensures.recorded c.requires.recorded) _ _ out0 f0 written)

pub write_piece-requires : goal.write_piece-requires
write_piece-requires g c = (at-hand-now c.args.at.event c.in-Ok.node c.args.sim.now c.in-Ok.ensures.adds.mid c.step.new.sim c.in-Ok.ensures.adds.lets_go c.in-Ok.ensures.adds.adds).low

pub leave-requires-clause-node : goal.leave-requires-clause-node
leave-requires-clause-node g c = (at-hand-now c.args.at.event c.in-Ok.node c.args.sim.now c.in-Ok.ensures.adds.mid c.step.new.sim c.in-Ok.ensures.adds.lets_go c.in-Ok.ensures.adds.adds).low

pub leave-requires-clause-few : goal.leave-requires-clause-few
leave-requires-clause-few g c = λ room.
    let stands = c.in-Ok.ensures.stands in
    let low = (at-hand-now c.args.at.event c.in-Ok.node c.args.sim.now c.in-Ok.ensures.adds.mid c.step.new.sim c.in-Ok.ensures.adds.lets_go c.in-Ok.ensures.adds.adds).low in
    let nodes = stands.nodes in
    few-after (code_world c.args.desc.now c.args.world.now c.args.programs.now) c.args.at.event c.step.new.sim c.in-Ok.node stands (omega (arith, low, nodes)) room

pub returns-clause-writes : goal.returns-clause-writes
returns-clause-writes g c =
    let a = c.in-Ok.ensures.adds in
    let h = at-hand-now c.args.at.event c.in-Ok.node c.args.sim.now a.mid c.step.new.sim a.lets_go a.adds in
    let left = c.leave.ensures.leaves in (
      left-stands c.step.new.sim c.leave.new.self c.in-Ok.node (code_world c.args.desc.now c.args.world.now c.args.programs.now) c.args.at.event left h.low c.in-Ok.ensures.stands,
      c.leave.ensures.kept (c.in-Ok.ensures.kept c.requires.kept),
      λ out0 f0 written.
          left-written c.step.new.sim c.leave.new.self c.in-Ok.node left c.args.desc.now out0 f0 _ _
          (step-goes c.args.desc.now c.args.world.now c.args.programs.now c.args.at.event c.in-Ok.node a.mid c.step.new.sim a.adds _ _ _ _ out0 f0
          (written-still c.args.sim.now a.mid c.in-Ok.node a.lets_go c.args.desc.now out0 f0 _ _ written) (put-now c.args.desc.now c.in-Ok.node a.mid c.step.new.sim a.adds h _ _ _ _ _ (c.in_default-write_piece.ensures a.adds.after h.found))),
      left-recorded c.record_event.new.records c.step.new.sim c.leave.new.self c.in-Ok.node left c.in-Ok-record_event.ensures.recorded,
      left-ranges c.step.new.sim c.leave.new.self c.in-Ok.node left (c.in-Ok.ensures.ranges c.requires.ranges),
    )

pub returns-in-Err-clause-writes : goal.returns-in-Err-clause-writes
returns-in-Err-clause-writes g c =
    let a = c.in-Ok.ensures.adds in
    let h = at-hand-now c.args.at.event c.in-Ok.node c.args.sim.now a.mid c.step.new.sim a.lets_go a.adds in
    subst (λ (p : Pass). EndsSo c.args.desc.now (code_world c.args.desc.now c.args.world.now c.args.programs.now) c.args.sim.now (g.S.Sink.written c.args.out.now) (g.S.Sink.faults c.args.out.now) (g.S.Sink.written c.write_piece.new.out) (g.S.Sink.faults c.write_piece.new.out) p c.record_event.new.records)
    (sym c.stopped_at-in-Err.ensures)
    (λ out0 f0 written.
    step-fails c.args.desc.now c.args.world.now c.args.programs.now c.args.at.event c.in-Ok.node a.mid c.step.new.sim a.adds c.in-Ok.ensures.stands (c.in-Ok.ensures.kept c.requires.kept) (c.in-Ok.ensures.ranges c.requires.ranges) c.stamp_is_in_range.ensures.event c.record_event.new.records c.in-Ok-record_event.ensures.recorded
    c.in-Err.fault c.stopped.result _ _ _ _ out0 f0
    (written-still c.args.sim.now a.mid c.in-Ok.node a.lets_go c.args.desc.now out0 f0 _ _ written) (put-now c.args.desc.now c.in-Ok.node a.mid c.step.new.sim a.adds h _ _ _ _ _ (c.in-Err.ensures a.adds.after h.found)) c.stopped.ensures)

pub returns-clause-later : goal.returns-clause-later
returns-clause-later g c =
    let a = c.in-Ok.ensures.adds in
    (c.in_default-write_piece.ensures a.adds.after (at-hand-now c.args.at.event c.in-Ok.node c.args.sim.now a.mid c.step.new.sim a.lets_go a.adds).found).later

pub returns-in-Err-clause-later : goal.returns-in-Err-clause-later
returns-in-Err-clause-later g c =
    let a = c.in-Ok.ensures.adds in
    (c.in-Err.ensures a.adds.after (at-hand-now c.args.at.event c.in-Ok.node c.args.sim.now a.mid c.step.new.sim a.lets_go a.adds).found).later

pub overflow_sub-at : goal.overflow_sub-at
overflow_sub-at g c = number-least c.args.at.event _ c.requires.stands.stamp

pub overflow_sub-at-in_default-record_event : goal.overflow_sub-at-in_default-record_event
overflow_sub-at-in_default-record_event g c = number-least c.args.at.event _ c.requires.stands.stamp

pub returns-clause-kept : goal.returns-clause-kept
returns-clause-kept g c = c.record_event.ensures.kept

pub returns-in-Err-clause-kept : goal.returns-in-Err-clause-kept
returns-in-Err-clause-kept g c = c.record_event.ensures.kept

pub returns-in_default-record_event-clause-kept : goal.returns-in_default-record_event-clause-kept
returns-in_default-record_event-clause-kept g c = c.record_event.ensures.kept
