use Rattle.std.proofs.Common.{◌≡◌, ◌+◌, ℕ, suc, true, List, length, refl, sym, ap, subst, arith, inl}
use Rattle.mate_num.specs.declared.call.Stamp.{Stamp}
use Rattle.mate_journal.specs.NodeScript.{Whole}
use Rattle.report_writer.specs.declared.summary.RunTally.{RunTally}
use Rattle.world_run_laws.specs.Promise.{IsReportOfWorld}
use Rattle.world_state.specs.Reporting.{told_report}
use Rattle.world_state.specs.Telling.{LogsAreKept}
use Rattle.world_state.specs.declared.simulation.Simulation.{Simulation}
use Rattle.world_state.proofs.RangeLemmas.{report-ranges, few-of}
use Rattle.world_state.proofs.WorldLemmas.{all-timely}
use Rattle.world_state.specs.declared.mote.Mote.{Mote}
use Rattle.world_run_laws.specs.Coming.{code_world}
use Rattle.world_runs.specs.Counting.{IsCounted, IsCountedBehind, AreCounted}
use Rattle.world_runs.proofs.CountingLemmas.{all-behind, all-few, run-summary}
use Rattle.world_runs.proofs.EndingLemmas.{end-still, ends-whole-of, ended-ranges, forgotten-hand}
use Rattle.world_runs.proofs.counting.sum_ending.Goals as goal

pub see_stores-requires : goal.see_stores-requires
see_stores-requires c =
    let w = code_world c.args.desc.now c.args.world.now c.args.programs.now in
    let mid : Simulation = record { radio = c.args.sim.radio; motes = c.forget_all.new.motes; records = c.args.sim.records } in
    let b = end-still w Whole c.args.events c.args.sim mid c.in_ok-forget_all.ensures refl c.requires.ends in
    let count = b.count in
    all-timely c.args.desc.now c.args.world.now c.args.programs.now b.moments (record { event = c.args.events + 1; time = c.args.world.now.until }) mid.motes.items b.come b.nodes b.each (omega (arith, count)) refl

pub count_stores-requires-clause-count : goal.count_stores-requires-clause-count
count_stores-requires-clause-count c =
    let w = code_world c.args.desc.now c.args.world.now c.args.programs.now in
    let at : Stamp = record { event = c.args.events + 1; time = c.args.world.now.until } in
    let mid : Simulation = record { radio = c.args.sim.radio; motes = c.forget_all.new.motes; records = c.args.sim.records } in
    let new : Simulation = record { radio = c.args.sim.radio; motes = c.see_stores.new.motes; records = c.args.sim.records } in
    let b = end-still w Whole c.args.events c.args.sim mid c.in_ok-forget_all.ensures refl c.requires.ends in
    let count = c.requires.counted.nodes.count in
    let forgot = c.in_ok-forget_all.ensures.count in
    let shown = c.in_ok-see_stores.ensures.count in
    let motes : length c.as_slice-2.result.now ≡ length c.see_stores.new.motes.items = ap (λ (ms : List Mote). length ms) c.as_slice-2.ensures.value in
    omega (arith, count, forgot, shown, motes)

pub count_stores-requires-clause-few : goal.count_stores-requires-clause-few
count_stores-requires-clause-few c =
    all-few (length c.args.desc.now.handlers.items) c.args.tally c.args.sim c.forget_all.new.motes.items c.in_ok-forget_all.ensures c.requires.counted

pub returns : goal.returns
returns c =
    let d = c.args.desc.now in
    let script = c.args.world.now in
    let ps = c.args.programs.now in
    let events = c.args.events in
    let n = length d.handlers.items in
    let w = code_world d script ps in
    let at : Stamp = record { event = events + 1; time = script.until } in
    let mid : Simulation = record { radio = c.args.sim.radio; motes = c.forget_all.new.motes; records = c.args.sim.records } in
    let new : Simulation = record { radio = c.args.sim.radio; motes = c.see_stores.new.motes; records = c.args.sim.records } in
    let f = c.in_ok-forget_all.ensures in
    let shows = c.in_ok-see_stores.ensures in
    let b = end-still w Whole events c.args.sim mid f refl c.requires.ends in
    let count = b.count in
    let next : events + 1 ≡ suc (length b.moments) = omega (arith, count) in
    let kept = subst LogsAreKept c.as_slice.ensures.value c.logs_are_kept.ensures in
    let e = ends-whole-of d script ps events at mid new b (ap (λ (k : ℕ). record { event = k; time = script.until }) next) shows refl kept (forgotten-hand c.args.sim.motes.items mid.motes.items f) in
    let behind = all-behind n c.args.tally w b.moments at c.args.sim mid new f shows e.shows refl c.requires.counted in
    let nodes = subst (AreCounted (IsCounted n) c.count_stores.new.tallies.items) c.as_slice-2.ensures.value
    (c.count_stores.ensures.counted n (subst (AreCounted (IsCountedBehind n) c.args.tally.nodes.items) (sym c.as_slice-2.ensures.value) behind)) in
    let t : RunTally = record { nodes = c.count_stores.new.tallies; air = c.args.tally.air } in
    let ranges = report-ranges new events true (ended-ranges at c.args.sim mid new f shows refl refl c.requires.ranges) (few-of events c.requires.few) in
    let long = b.nodes in
    let more = shows.count in
    let high = c.requires.right.world.nodes_high in
    run-summary d (IsReportOfWorld d script ps) t new events true c.summary.result (record { nodes = nodes; air = c.requires.counted.air }) (record { nodes = c.count_stores.ensures.small; air = c.requires.small.air })
    (omega (arith, long, more, high)) (inl (c.reports_keep_the_promise.ensures d script ps Whole (told_report new events true) c.requires.right e.whole ranges)) c.summary.ensures
