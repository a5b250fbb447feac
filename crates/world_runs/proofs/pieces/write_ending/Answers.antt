use Rattle.std.proofs.Common.{◌≡◌, ◌<◌, ℕ, suc, ◌+◌, List, length, Ok, Err, refl, sym, ap, subst, arith, All, true}
use Rattle.mate_files.specs.Sink.{Puts}
use Rattle.mate_journal.specs.NodeScript.{Whole}
use Rattle.report_writer.specs.declared.pass.Pass.{Pass}
use Rattle.world_state.specs.declared.mote.Mote.{Mote}
use Rattle.world_laws.specs.EventText.{store_lines}
use Rattle.world_state.specs.Reporting.{mote_logs}
use Rattle.world_state.specs.Telling.{LogsAreKept}
use Rattle.world_state.specs.declared.simulation.Simulation.{Simulation}
use Rattle.world_run_laws.specs.Coming.{code_world}
use Rattle.world_state.proofs.RangeLemmas.{report-ranges, few-of}
use Rattle.world_state.proofs.WorldLemmas.{all-timely}
use Rattle.report_writer.specs.Writing.{PutsLastLine}
use Rattle.world_runs.specs.Recording.{AreStoresBefore, AreStoresRecorded}
use Rattle.world_runs.specs.Writing.{EndsSo, report_of}
use Rattle.world_runs.proofs.HandLemmas.{still-written}
use Rattle.world_runs.proofs.RecordingLemmas.{forgotten-logs, recorded-as, recorded-still, stores-before, stored-recorded}
use Rattle.world_runs.proofs.WritingLemmas.{memory-ends}
use Rattle.world_runs.proofs.EndingLemmas.{end-still, ended-ranges, forgotten-hand, ends-whole-of, ends-whole, stores-fail}
use Rattle.world_runs.proofs.pieces.write_ending.Goals as goal

pub returns-in_default-clause-writes : goal.returns-in_default-clause-writes
returns-in_default-clause-writes g c =
    subst (λ (p : Pass). EndsSo c.args.desc.now (code_world c.args.desc.now c.args.world.now c.args.programs.now) c.args.sim (g.S.Sink.written c.args.out.now) (g.S.Sink.faults c.args.out.now) (g.S.Sink.written c.args.out.now) (g.S.Sink.faults c.args.out.now) p c.args.records.now) (sym c.stopped_at.ensures)
    (let b = c.requires.ends in
    let count = b.count in
    λ out0 f0 written. memory-ends c.args.desc.now c.args.world.now c.args.programs.now b.moments c.args.sim c.args.events b.come b.air b.nodes b.each (sym count) b.kept c.requires.ranges (few-of c.args.events c.requires.few) c.args.records.now c.requires.recorded _ _ out0 f0 written)

pub see_stores-requires : goal.see_stores-requires
see_stores-requires g c =
    let w = code_world c.args.desc.now c.args.world.now c.args.programs.now in
    let mid : Simulation = (record { radio = c.args.sim.radio; motes = c.forget_all.new.motes; records = c.args.sim.records }) in
    let b = end-still w Whole c.args.events c.args.sim mid c.in-Ok.ensures refl c.requires.ends in
    let count = b.count in
    all-timely c.args.desc.now c.args.world.now c.args.programs.now b.moments (record { event = c.args.events + 1; time = c.args.world.now.until }) mid.motes.items b.come b.nodes b.each (omega (arith, count)) refl

pub returns-in_default-see_stores-clause-writes : goal.returns-in_default-see_stores-clause-writes
returns-in_default-see_stores-clause-writes g c =
    subst (λ (p : Pass). EndsSo c.args.desc.now (code_world c.args.desc.now c.args.world.now c.args.programs.now) c.args.sim (g.S.Sink.written c.args.out.now) (g.S.Sink.faults c.args.out.now) (g.S.Sink.written c.args.out.now) (g.S.Sink.faults c.args.out.now) p c.args.records.now) (sym c.stopped_at-in_default-see_stores.ensures)
    (let b = c.requires.ends in
    let count = b.count in
    λ out0 f0 written. memory-ends c.args.desc.now c.args.world.now c.args.programs.now b.moments c.args.sim c.args.events b.come b.air b.nodes b.each (sym count) b.kept c.requires.ranges (few-of c.args.events c.requires.few) c.args.records.now c.requires.recorded _ _ out0 f0 written)

pub record_stores-requires-clause-few : goal.record_stores-requires-clause-few
record_stores-requires-clause-few g c =
    let w = code_world c.args.desc.now c.args.world.now c.args.programs.now in
    let mid : Simulation = (record { radio = c.args.sim.radio; motes = c.forget_all.new.motes; records = c.args.sim.records }) in
    let b = end-still w Whole c.args.events c.args.sim mid c.in-Ok.ensures refl c.requires.ends in
    let count = b.count in
    let nodes = b.nodes in
    let more = c.in-Ok-see_stores.ensures.count in
    let few = c.requires.right.world.nodes_high in
    let long = ap (λ (ms : List Mote). length ms) c.as_slice-2.ensures.value in
    omega (arith, nodes, more, few, long)

pub record_stores-requires-clause-before : goal.record_stores-requires-clause-before
record_stores-requires-clause-before g c =
    let w = code_world c.args.desc.now c.args.world.now c.args.programs.now in
    let mid : Simulation = (record { radio = c.args.sim.radio; motes = c.forget_all.new.motes; records = c.args.sim.records }) in
    let b = end-still w Whole c.args.events c.args.sim mid c.in-Ok.ensures refl c.requires.ends in
    let count = b.count in
    let new : Simulation = (record { radio = c.args.sim.radio; motes = c.see_stores.new.motes; records = c.args.sim.records }) in
    let next : c.args.events + 1 ≡ suc (length b.moments) = omega (arith, count) in
    let kept = subst LogsAreKept c.as_slice.ensures.value c.logs_are_kept.ensures in
    let e = ends-whole-of c.args.desc.now c.args.world.now c.args.programs.now c.args.events (record { event = c.args.events + 1; time = c.args.world.now.until }) mid new b
    (ap (λ (n : ℕ). record { event = n; time = c.args.world.now.until }) next) c.in-Ok-see_stores.ensures refl kept (forgotten-hand c.args.sim.motes.items mid.motes.items c.in-Ok.ensures) in
    subst (AreStoresBefore c.args.records.now) (sym c.as_slice-2.ensures.value)
    (stores-before c.args.records.now w b.moments (record { event = c.args.events + 1; time = c.args.world.now.until }) c.args.sim.motes.items mid new c.in-Ok.ensures c.in-Ok-see_stores.ensures e.shows
    (recorded-as c.args.records.now c.args.sim mid (forgotten-logs c.args.sim.motes.items mid.motes.items c.in-Ok.ensures) refl c.requires.recorded))

pub returns-in_default-record_stores-clause-writes : goal.returns-in_default-record_stores-clause-writes
returns-in_default-record_stores-clause-writes g c =
    subst (λ (p : Pass). EndsSo c.args.desc.now (code_world c.args.desc.now c.args.world.now c.args.programs.now) c.args.sim (g.S.Sink.written c.args.out.now) (g.S.Sink.faults c.args.out.now) (g.S.Sink.written c.args.out.now) (g.S.Sink.faults c.args.out.now) p c.record_stores.new.records) (sym c.stopped_at-in_default-record_stores.ensures)
    (let b = c.requires.ends in
    let count = b.count in
    λ out0 f0 written. memory-ends c.args.desc.now c.args.world.now c.args.programs.now b.moments c.args.sim c.args.events b.come b.air b.nodes b.each (sym count) b.kept c.requires.ranges (few-of c.args.events c.requires.few) c.record_stores.new.records (recorded-still c.args.records.now c.record_stores.new.records c.args.sim c.in_default-record_stores.ensures.recorded c.requires.recorded) _ _ out0 f0 written)

pub write_stores-requires-clause-some : goal.write_stores-requires-clause-some
write_stores-requires-clause-some g c =
    let w = code_world c.args.desc.now c.args.world.now c.args.programs.now in
    let mid : Simulation = (record { radio = c.args.sim.radio; motes = c.forget_all.new.motes; records = c.args.sim.records }) in
    let b = end-still w Whole c.args.events c.args.sim mid c.in-Ok.ensures refl c.requires.ends in
    let count = b.count in
    let new : Simulation = (record { radio = c.args.sim.radio; motes = c.see_stores.new.motes; records = c.args.sim.records }) in
    let next : c.args.events + 1 ≡ suc (length b.moments) = omega (arith, count) in
    let kept = subst LogsAreKept c.as_slice.ensures.value c.logs_are_kept.ensures in
    let e = ends-whole-of c.args.desc.now c.args.world.now c.args.programs.now c.args.events (record { event = c.args.events + 1; time = c.args.world.now.until }) mid new b
    (ap (λ (n : ℕ). record { event = n; time = c.args.world.now.until }) next) c.in-Ok-see_stores.ensures refl kept (forgotten-hand c.args.sim.motes.items mid.motes.items c.in-Ok.ensures) in
    subst (λ (ms : List Mote). All (λ (m : Mote). m.node.gone.entries < length m.node.log.entries) ms) (sym c.as_slice-3.ensures.value) e.some

pub returns-in-Err-clause-writes : goal.returns-in-Err-clause-writes
returns-in-Err-clause-writes g c =
    let w = code_world c.args.desc.now c.args.world.now c.args.programs.now in
    let mid : Simulation = (record { radio = c.args.sim.radio; motes = c.forget_all.new.motes; records = c.args.sim.records }) in
    let b = end-still w Whole c.args.events c.args.sim mid c.in-Ok.ensures refl c.requires.ends in
    let count = b.count in
    let new : Simulation = (record { radio = c.args.sim.radio; motes = c.see_stores.new.motes; records = c.args.sim.records }) in
    let next : c.args.events + 1 ≡ suc (length b.moments) = omega (arith, count) in
    let kept = subst LogsAreKept c.as_slice.ensures.value c.logs_are_kept.ensures in
    let e = ends-whole-of c.args.desc.now c.args.world.now c.args.programs.now c.args.events (record { event = c.args.events + 1; time = c.args.world.now.until }) mid new b
    (ap (λ (n : ℕ). record { event = n; time = c.args.world.now.until }) next) c.in-Ok-see_stores.ensures refl kept (forgotten-hand c.args.sim.motes.items mid.motes.items c.in-Ok.ensures) in
    let recorded = stored-recorded c.args.records.now c.record_stores.new.records c.args.sim new refl c.requires.recorded
    (subst (AreStoresRecorded c.args.records.now c.record_stores.new.records) c.as_slice-2.ensures.value c.in-Ok-record_stores.ensures.recorded) in
    λ out0 f0 written.
    stores-fail w c.args.desc.now (c.text_grows_by_events.ensures.stores w) b.moments mid new c.args.events b.air refl (sym count) e.shows e.whole
    (report-ranges new c.args.events true (ended-ranges (record { event = c.args.events + 1; time = c.args.world.now.until }) c.args.sim mid new c.in-Ok.ensures c.in-Ok-see_stores.ensures refl refl c.requires.ranges) (few-of c.args.events c.requires.few)) c.record_stores.new.records recorded c.in-Err.fault c.stopped.result _ _ _ _ out0 f0 (still-written c.args.desc.now c.args.sim mid (forgotten-logs c.args.sim.motes.items mid.motes.items c.in-Ok.ensures) refl out0 f0 _ _ written)
    (subst (λ (ms : List Mote). Puts {T = Unit {0}} (g.S.Sink.written c.args.out.now) (g.S.Sink.faults c.args.out.now) (g.S.Sink.written c.write_stores.new.out) (g.S.Sink.faults c.write_stores.new.out) (Err c.in-Err.fault) (store_lines c.args.desc.now 0 (mote_logs ms))) c.as_slice-3.ensures.value c.in-Err.ensures) c.stopped.ensures

pub returns-clause-writes : goal.returns-clause-writes
returns-clause-writes g c =
    let w = code_world c.args.desc.now c.args.world.now c.args.programs.now in
    let mid : Simulation = (record { radio = c.args.sim.radio; motes = c.forget_all.new.motes; records = c.args.sim.records }) in
    let b = end-still w Whole c.args.events c.args.sim mid c.in-Ok.ensures refl c.requires.ends in
    let count = b.count in
    let new : Simulation = (record { radio = c.args.sim.radio; motes = c.see_stores.new.motes; records = c.args.sim.records }) in
    let next : c.args.events + 1 ≡ suc (length b.moments) = omega (arith, count) in
    let kept = subst LogsAreKept c.as_slice.ensures.value c.logs_are_kept.ensures in
    let e = ends-whole-of c.args.desc.now c.args.world.now c.args.programs.now c.args.events (record { event = c.args.events + 1; time = c.args.world.now.until }) mid new b
    (ap (λ (n : ℕ). record { event = n; time = c.args.world.now.until }) next) c.in-Ok-see_stores.ensures refl kept (forgotten-hand c.args.sim.motes.items mid.motes.items c.in-Ok.ensures) in
    let recorded = stored-recorded c.args.records.now c.record_stores.new.records c.args.sim new refl c.requires.recorded
    (subst (AreStoresRecorded c.args.records.now c.record_stores.new.records) c.as_slice-2.ensures.value c.in-Ok-record_stores.ensures.recorded) in
    let last = subst (λ (ms : List Mote). PutsLastLine (report_of ms c.args.sim.radio.air c.args.events true) (g.S.Sink.written c.write_stores.new.out) (g.S.Sink.faults c.write_stores.new.out) (g.S.Sink.written c.end_with-pass.new.out) (g.S.Sink.faults c.end_with-pass.new.out) c.end_with-pass.result)
    c.as_slice-4.ensures.value (c.end_with-pass.ensures c.args.sim.radio.air (sym c.aired-happened.ensures)) in
    λ out0 f0 written.
    ends-whole w c.args.desc.now (c.text_grows_by_events.ensures.stores w) b.moments mid new c.args.events b.air refl (sym count) e.shows e.whole
    (report-ranges new c.args.events true (ended-ranges (record { event = c.args.events + 1; time = c.args.world.now.until }) c.args.sim mid new c.in-Ok.ensures c.in-Ok-see_stores.ensures refl refl c.requires.ranges) (few-of c.args.events c.requires.few)) c.end_with-pass.result c.record_stores.new.records recorded _ _ _ _ _ _ out0 f0 (still-written c.args.desc.now c.args.sim mid (forgotten-logs c.args.sim.motes.items mid.motes.items c.in-Ok.ensures) refl out0 f0 _ _ written)
    (subst (λ (ms : List Mote). Puts {T = Unit {0}} (g.S.Sink.written c.args.out.now) (g.S.Sink.faults c.args.out.now) (g.S.Sink.written c.write_stores.new.out) (g.S.Sink.faults c.write_stores.new.out) (Ok tt) (store_lines c.args.desc.now 0 (mote_logs ms))) c.as_slice-3.ensures.value c.in_default-write_stores.ensures) last

pub end_with-pass-requires : goal.end_with-pass-requires
end_with-pass-requires g c =
    let w = code_world c.args.desc.now c.args.world.now c.args.programs.now in
    let mid : Simulation = (record { radio = c.args.sim.radio; motes = c.forget_all.new.motes; records = c.args.sim.records }) in
    let b = end-still w Whole c.args.events c.args.sim mid c.in-Ok.ensures refl c.requires.ends in
    let count = b.count in
    let nodes = b.nodes in
    let more = c.in-Ok-see_stores.ensures.count in
    let few = c.requires.right.world.nodes_high in
    let long = ap (λ (ms : List Mote). length ms) c.as_slice-4.ensures.value in
    omega (arith, nodes, more, few, long)

pub returns-in-Err-clause-later : goal.returns-in-Err-clause-later
returns-in-Err-clause-later g c = c.in-Err.ensures.later

pub returns-clause-later : goal.returns-clause-later
returns-clause-later g c = let a = c.in_default-write_stores.ensures.later in let b = (c.end_with-pass.ensures c.args.sim.radio.air (sym c.aired-happened.ensures)).puts.later in omega (arith, a, b)
