use Rattle.std.proofs.Common.{ℕ, ◌≤◌, false, length, refl, sym, ◌∙◌, ap, subst, arith, inr}
use Rattle.mate_journal.specs.NodeScript.{Whole, Full}
use Rattle.radio_sim.specs.Radio.{Ether}
use Rattle.world_run_laws.specs.Promise.{IsReportOfWorld}
use Rattle.world_run_laws.specs.Coming.{code_world}
use Rattle.world_state.specs.Reporting.{told_report}
use Rattle.world_state.specs.declared.simulation.Simulation.{Simulation}
use Rattle.world_state.proofs.RangeLemmas.{same-ranges, report-ranges, few-of}
use Rattle.world_state.proofs.RunLemmas.{behind, is-done}
use Rattle.world_runs.proofs.WritingLemmas.{at-end, full-report-now}
use Rattle.world_runs.proofs.CountingLemmas.{tallied-air, run-summary}
use Rattle.world_runs.proofs.counting.sum_started.Goals as goal

pub loop-events-init : goal.loop-events-init
loop-events-init c =
    let s = c.requires.starts in
    record {
      stands = s.stands;
      kept = s.kept;
      empty = record { entries = c.new-room.ensures.entries; images = c.new-room.ensures.images; stores = c.new-room.ensures.stores };
      plain = c.none-effect.ensures;
      ranges = s.ranges;
      counted = s.counted;
      small = s.small;
    }

pub sum_ending-requires-clause-ends : goal.sum_ending-requires-clause-ends
sum_ending-requires-clause-ends c =
    let b = c.loop-events.invariant.stands in
    let w = code_world c.args.desc.now c.args.world.now c.args.programs.now in
    at-end w Whole c.loop-events.events c.loop-events.sim (record { radio = c.next_into.new.self; motes = c.loop-events.sim.motes; records = c.loop-events.sim.records }) b
    (is-done w b.moments c.loop-events.sim.radio b.radio c.in_default.ensures.first) c.loop-events.invariant.kept (ap (λ (e : Ether). e.air) c.next_into.ensures.others) refl

pub sum_ending-requires-clause-ranges : goal.sum_ending-requires-clause-ranges
sum_ending-requires-clause-ranges c =
    same-ranges c.loop-events.sim (record { radio = c.next_into.new.self; motes = c.loop-events.sim.motes; records = c.loop-events.sim.records }) refl (ap (λ (e : Ether). e.air) c.next_into.ensures.others)
    (ap (λ (e : Ether). e.gone) c.next_into.ensures.others) c.loop-events.invariant.ranges

pub sum_ending-requires-clause-counted : goal.sum_ending-requires-clause-counted
sum_ending-requires-clause-counted c =
    tallied-air (length c.args.desc.now.handlers.items) c.loop-events.tally c.loop-events.sim (record { radio = c.next_into.new.self; motes = c.loop-events.sim.motes; records = c.loop-events.sim.records })
    (ap (λ (e : Ether). e.air) c.next_into.ensures.others) refl c.loop-events.invariant.counted

pub returns-then-sim-ge-RECORDS_MAX : goal.returns-then-sim-ge-RECORDS_MAX
returns-then-sim-ge-RECORDS_MAX c =
    let b = c.loop-events.invariant.stands in
    let d = c.args.desc.now in
    let script = c.args.world.now in
    let ps = c.args.programs.now in
    let w = code_world d script ps in
    let sim : Simulation = record { radio = c.next_into.new.self; motes = c.loop-events.sim.motes; records = c.loop-events.sim.records } in
    let air = ap (λ (e : Ether). e.air) c.next_into.ensures.others in
    let n = behind w b.moments c.loop-events.sim.radio c.next_into.new.self c.in-Some.time c.next_into.new.event c.requires.right.world.nodes_high (c.states_are_sound.ensures.dues d script ps c.requires.right) b.come b.radio c.in-Some.ensures.first
    c.next_into.ensures.others in
    let e = at-end w Full c.loop-events.events c.loop-events.sim sim b (subst (λ (k : ℕ). 1000000 ≤ k) b.records c.if-sim-ge-RECORDS_MAX.true, c.in-Some.time, n.cause, n.within, n.next) c.loop-events.invariant.kept air refl in
    let is = full-report-now d script ps e.moments c.loop-events.events sim e.come e.air e.nodes e.each (sym e.count) e.kept e.ends in
    let ranges = report-ranges sim c.loop-events.events false (same-ranges c.loop-events.sim sim refl air (ap (λ (x : Ether). x.gone) c.next_into.ensures.others) c.loop-events.invariant.ranges) (few-of c.loop-events.events c.loop-events-test.true) in
    let count = b.nodes in
    let high = c.requires.right.world.nodes_high in
    run-summary d (IsReportOfWorld d script ps) c.loop-events.tally sim c.loop-events.events false c.summary.result
    (tallied-air (length d.handlers.items) c.loop-events.tally c.loop-events.sim sim air refl c.loop-events.invariant.counted) c.loop-events.invariant.small (omega (arith, count, high))
    (inr (c.reports_keep_the_promise.ensures d script ps Full (told_report sim c.loop-events.events false) c.requires.right is ranges)) c.summary.ensures

pub count_step-requires-clause-stands : goal.count_step-requires-clause-stands
count_step-requires-clause-stands c =
    let b = c.loop-events.invariant.stands in
    let count = b.count in
    let n = behind (code_world c.args.desc.now c.args.world.now c.args.programs.now) b.moments c.loop-events.sim.radio c.next_into.new.self c.in-Some.time c.next_into.new.event c.requires.right.world.nodes_high
    (c.states_are_sound.ensures.dues c.args.desc.now c.args.world.now c.args.programs.now c.requires.right) b.come b.radio c.in-Some.ensures.first c.next_into.ensures.others in
    record {
      moments = b.moments;
      cause = n.cause;
      come = b.come;
      next = n.next;
      in_time = n.within;
      room = c.if-sim-ge-RECORDS_MAX.false;
      is = n.is;
      stamp = omega (arith, count);
      taken = n.taken;
      air = ap (λ (e : Ether). e.air) c.next_into.ensures.others ∙ b.radio.air;
      nodes = b.nodes;
      motes = b.motes;
      records = b.records;
      fit = b.radio.fit;
      well_formed = b.well_formed;
    }

pub count_step-requires-clause-ranges : goal.count_step-requires-clause-ranges
count_step-requires-clause-ranges c =
    same-ranges c.loop-events.sim (record { radio = c.next_into.new.self; motes = c.loop-events.sim.motes; records = c.loop-events.sim.records }) refl (ap (λ (e : Ether). e.air) c.next_into.ensures.others)
    (ap (λ (e : Ether). e.gone) c.next_into.ensures.others) c.loop-events.invariant.ranges

pub count_step-requires-clause-counted : goal.count_step-requires-clause-counted
count_step-requires-clause-counted c =
    tallied-air (length c.args.desc.now.handlers.items) c.loop-events.tally c.loop-events.sim (record { radio = c.next_into.new.self; motes = c.loop-events.sim.motes; records = c.loop-events.sim.records })
    (ap (λ (e : Ether). e.air) c.next_into.ensures.others) refl c.loop-events.invariant.counted
