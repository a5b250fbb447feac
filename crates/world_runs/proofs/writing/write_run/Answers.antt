use Rattle.std.proofs.Common.{◌≡◌, ℕ, ◌≤◌, lit<, false, length, refl, sym, ◌∙◌, ap, subst, arith}
use Rattle.mate_journal.specs.NodeScript.{Whole, Full}
use Rattle.radio_sim.specs.Radio.{Ether}
use Rattle.world_runs.proofs.RecordLemmas.{all-self}
use Rattle.report_writer.specs.declared.pass.Pass.{Pass}
use Rattle.world_rules.specs.Report.{IsWorldReport}
use Rattle.world_run_laws.specs.Coming.{code_world}
use Rattle.world_state.specs.Reporting.{mote_logs}
use Rattle.world_state.proofs.RangeLemmas.{same-ranges, report-ranges, few-of}
use Rattle.world_state.proofs.RunLemmas.{behind, is-done}
use Rattle.world_runs.specs.Writing.{WritesRecorded}
use Rattle.world_runs.proofs.RecordingLemmas.{recorded-as}
use Rattle.world_runs.proofs.WritingLemmas.{at-end, memory-ends, full-ends}
use Rattle.world_runs.proofs.EndingLemmas.{written-air}
use Rattle.world_runs.proofs.writing.write_run.Goals as goal

pub returns-in-Err-clause-gives : goal.returns-in-Err-clause-gives
returns-in-Err-clause-gives g c =
    subst (λ (p : Pass). WritesRecorded c.args.desc.now (IsWorldReport (code_world c.args.desc.now c.args.world.now c.args.programs.now)) (g.S.Sink.written c.args.out.now) (g.S.Sink.written c.write_start.new.out) (g.S.Sink.faults c.args.out.now) (g.S.Sink.faults c.write_start.new.out) p c.args.records.now)
    (sym c.stopped_at.ensures) (record { ended = c.args.sim; gives = c.in-Err.ensures.writes; recorded = c.requires.recorded; ranges = report-ranges c.args.sim 0 false c.requires.ranges (lit< tt) })

pub write_ending-requires-clause-ends : goal.write_ending-requires-clause-ends
write_ending-requires-clause-ends g c =
    let b = c.loop-events.invariant.stands in
    at-end (code_world c.args.desc.now c.args.world.now c.args.programs.now) Whole c.loop-events.events c.loop-events.sim (record { radio = c.next_into.new.self; motes = c.loop-events.sim.motes; records = c.loop-events.sim.records }) b
    (is-done (code_world c.args.desc.now c.args.world.now c.args.programs.now) b.moments c.loop-events.sim.radio b.radio c.in_default-next_into.ensures.first) c.loop-events.invariant.kept (ap (λ (e : Ether). e.air) c.next_into.ensures.others) refl

pub write_ending-requires-clause-recorded : goal.write_ending-requires-clause-recorded
write_ending-requires-clause-recorded g c = (recorded-as c.loop-events.records c.loop-events.sim (record { radio = c.next_into.new.self; motes = c.loop-events.sim.motes; records = c.loop-events.sim.records }) (all-self (mote_logs c.loop-events.sim.motes.items)) (ap (λ (e : Ether). e.air) c.next_into.ensures.others) c.loop-events.invariant.recorded)

pub write_ending-requires-clause-ranges : goal.write_ending-requires-clause-ranges
write_ending-requires-clause-ranges g c = (same-ranges c.loop-events.sim (record { radio = c.next_into.new.self; motes = c.loop-events.sim.motes; records = c.loop-events.sim.records }) refl (ap (λ (e : Ether). e.air) c.next_into.ensures.others) (ap (λ (e : Ether). e.gone) c.next_into.ensures.others) c.loop-events.invariant.ranges)

pub returns-in_default-next_into-clause-gives : goal.returns-in_default-next_into-clause-gives
returns-in_default-next_into-clause-gives g c = c.write_ending.ensures.writes _ _ (written-air c.args.desc.now c.loop-events.sim (record { radio = c.next_into.new.self; motes = c.loop-events.sim.motes; records = c.loop-events.sim.records }) (ap (λ (e : Ether). e.air) c.next_into.ensures.others) refl _ _ _ _ c.loop-events.invariant.written)

pub write_last-requires : goal.write_last-requires
write_last-requires g c =
    let few = c.requires.right.world.nodes_high in
    let count = c.loop-events.invariant.stands.nodes in
    omega (arith, few, count)

pub returns-then-sim-ge-RECORDS_MAX-clause-gives : goal.returns-then-sim-ge-RECORDS_MAX-clause-gives
returns-then-sim-ge-RECORDS_MAX-clause-gives g c =
    let b = c.loop-events.invariant.stands in
    let n = behind (code_world c.args.desc.now c.args.world.now c.args.programs.now) b.moments c.loop-events.sim.radio c.next_into.new.self c.in-Some.time c.next_into.new.event c.requires.right.world.nodes_high
    (c.states_are_sound.ensures.dues c.args.desc.now c.args.world.now c.args.programs.now c.requires.right) b.come b.radio c.in-Some.ensures.first c.next_into.ensures.others in
    full-ends c.args.desc.now c.args.world.now c.args.programs.now (record { radio = c.next_into.new.self; motes = c.loop-events.sim.motes; records = c.loop-events.sim.records }) c.loop-events.events
    (at-end (code_world c.args.desc.now c.args.world.now c.args.programs.now) Full c.loop-events.events c.loop-events.sim (record { radio = c.next_into.new.self; motes = c.loop-events.sim.motes; records = c.loop-events.sim.records }) b
    (subst (λ (k : ℕ). 1000000 ≤ k) b.records c.if-sim-ge-RECORDS_MAX.true, c.in-Some.time, n.cause, n.within, n.next) c.loop-events.invariant.kept (ap (λ (e : Ether). e.air) c.next_into.ensures.others) refl)
    (same-ranges c.loop-events.sim (record { radio = c.next_into.new.self; motes = c.loop-events.sim.motes; records = c.loop-events.sim.records }) refl (ap (λ (e : Ether). e.air) c.next_into.ensures.others) (ap (λ (e : Ether). e.gone) c.next_into.ensures.others) c.loop-events.invariant.ranges)
    (few-of c.loop-events.events c.loop-events-test.true) c.write_last.result c.loop-events.records (recorded-as c.loop-events.records c.loop-events.sim (record { radio = c.next_into.new.self; motes = c.loop-events.sim.motes; records = c.loop-events.sim.records }) (all-self (mote_logs c.loop-events.sim.motes.items)) (ap (λ (e : Ether). e.air) c.next_into.ensures.others) c.loop-events.invariant.recorded) _ _ _ _ _ _ (written-air c.args.desc.now c.loop-events.sim (record { radio = c.next_into.new.self; motes = c.loop-events.sim.motes; records = c.loop-events.sim.records }) (ap (λ (e : Ether). e.air) c.next_into.ensures.others) refl _ _ _ _ c.loop-events.invariant.written) c.write_last.ensures

pub write_step-requires-clause-stands : goal.write_step-requires-clause-stands
write_step-requires-clause-stands g c =
    let b = c.loop-events.invariant.stands in
    let count = b.count in
    let n = behind (code_world c.args.desc.now c.args.world.now c.args.programs.now) b.moments c.loop-events.sim.radio c.next_into.new.self c.in-Some.time c.next_into.new.event c.requires.right.world.nodes_high
    (c.states_are_sound.ensures.dues c.args.desc.now c.args.world.now c.args.programs.now c.requires.right) b.come b.radio c.in-Some.ensures.first c.next_into.ensures.others in
    record {
      moments = b.moments;
      cause = n.cause;
      come = b.come;
      next = n.next;
      in_time = n.within;
      room = c.if-sim-ge-RECORDS_MAX.false;
      is = n.is;
      stamp = omega (arith, count);
      taken = n.taken;
      air = (ap (λ (e : Ether). e.air) c.next_into.ensures.others) ∙ b.radio.air;
      nodes = b.nodes;
      motes = b.motes;
      records = b.records;
      fit = b.radio.fit;
      well_formed = b.well_formed;
    }

pub write_step-requires-clause-recorded : goal.write_step-requires-clause-recorded
write_step-requires-clause-recorded g c = (recorded-as c.loop-events.records c.loop-events.sim (record { radio = c.next_into.new.self; motes = c.loop-events.sim.motes; records = c.loop-events.sim.records }) (all-self (mote_logs c.loop-events.sim.motes.items)) (ap (λ (e : Ether). e.air) c.next_into.ensures.others) c.loop-events.invariant.recorded)

pub write_step-requires-clause-ranges : goal.write_step-requires-clause-ranges
write_step-requires-clause-ranges g c = (same-ranges c.loop-events.sim (record { radio = c.next_into.new.self; motes = c.loop-events.sim.motes; records = c.loop-events.sim.records }) refl (ap (λ (e : Ether). e.air) c.next_into.ensures.others) (ap (λ (e : Ether). e.gone) c.next_into.ensures.others) c.loop-events.invariant.ranges)

pub returns-in-Err-write_step-clause-gives : goal.returns-in-Err-write_step-clause-gives
returns-in-Err-write_step-clause-gives g c = c.in-Err-write_step.ensures.writes _ _ (written-air c.args.desc.now c.loop-events.sim (record { radio = c.next_into.new.self; motes = c.loop-events.sim.motes; records = c.loop-events.sim.records }) (ap (λ (e : Ether). e.air) c.next_into.ensures.others) refl _ _ _ _ c.loop-events.invariant.written)

pub loop-events-preserved : goal.loop-events-preserved
loop-events-preserved g c = record {
  stands = c.in_default-write_step.ensures.writes.0;
  kept = c.in_default-write_step.ensures.writes.1;
  empty = c.in_default-write_step.ensures.empty;
  plain = c.in_default-write_step.ensures.plain;
  written = c.in_default-write_step.ensures.writes.2 _ _ (written-air c.args.desc.now c.loop-events.sim (record { radio = c.next_into.new.self; motes = c.loop-events.sim.motes; records = c.loop-events.sim.records }) (ap (λ (e : Ether). e.air) c.next_into.ensures.others) refl _ _ _ _ c.loop-events.invariant.written);
  recorded = c.in_default-write_step.ensures.writes.3;
  ranges = c.in_default-write_step.ensures.writes.4;
  same = c.in_default-write_step.ensures.kept ∙ c.loop-events.invariant.same;
}

pub returns-clause-gives : goal.returns-clause-gives
returns-clause-gives g c =
    let b = c.loop-events.invariant.stands in
    let count = b.count in
    let past = c.loop-events-test.false in
    let within = c.loop-events.auto.events-end in
    let all : 18446744073709551615 ≡ length b.moments = omega (arith, count, past, within) in
    subst (λ (p : Pass). WritesRecorded c.args.desc.now (IsWorldReport (code_world c.args.desc.now c.args.world.now c.args.programs.now)) (g.S.Sink.written c.args.out.now) (g.S.Sink.written c.loop-events.out) (g.S.Sink.faults c.args.out.now) (g.S.Sink.faults c.loop-events.out) p c.loop-events.records)
    (sym c.stopped_at-2.ensures)
    (memory-ends c.args.desc.now c.args.world.now c.args.programs.now b.moments c.loop-events.sim 18446744073709551615 b.come b.radio.air b.nodes b.motes all c.loop-events.invariant.kept c.loop-events.invariant.ranges (lit< tt) c.loop-events.records c.loop-events.invariant.recorded
    _ _ _ _ c.loop-events.invariant.written)

pub returns-in-Err-clause-later : goal.returns-in-Err-clause-later
returns-in-Err-clause-later g c = c.in-Err.ensures.later

pub returns-in_default-next_into-clause-kept : goal.returns-in_default-next_into-clause-kept
returns-in_default-next_into-clause-kept g c = c.write_ending.ensures.kept ∙ c.loop-events.invariant.same

pub returns-in_default-next_into-clause-later : goal.returns-in_default-next_into-clause-later
returns-in_default-next_into-clause-later g c = let a = c.loop-events.invariant.written.later in let b = c.write_ending.ensures.later in omega (arith, a, b)

pub returns-then-sim-ge-RECORDS_MAX-clause-kept : goal.returns-then-sim-ge-RECORDS_MAX-clause-kept
returns-then-sim-ge-RECORDS_MAX-clause-kept g c = c.loop-events.invariant.same

pub returns-then-sim-ge-RECORDS_MAX-clause-later : goal.returns-then-sim-ge-RECORDS_MAX-clause-later
returns-then-sim-ge-RECORDS_MAX-clause-later g c = let a = c.loop-events.invariant.written.later in let b = c.write_last.ensures.puts.later in omega (arith, a, b)

pub returns-in-Err-write_step-clause-kept : goal.returns-in-Err-write_step-clause-kept
returns-in-Err-write_step-clause-kept g c = c.in-Err-write_step.ensures.kept ∙ c.loop-events.invariant.same

pub returns-in-Err-write_step-clause-later : goal.returns-in-Err-write_step-clause-later
returns-in-Err-write_step-clause-later g c = let a = c.loop-events.invariant.written.later in let b = c.in-Err-write_step.ensures.later in omega (arith, a, b)

pub returns-clause-kept : goal.returns-clause-kept
returns-clause-kept g c = c.loop-events.invariant.same

pub returns-clause-later : goal.returns-clause-later
returns-clause-later g c = c.loop-events.invariant.written.later
