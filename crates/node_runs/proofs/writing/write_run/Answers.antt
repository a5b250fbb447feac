use Rattle.std.proofs.Common.{◌≡◌, ◌≤◌, ◌+◌, ℕ, suc, true, false, length, take, sym, ◌∙◌, ap, subst, arith, refl}
use Rattle.std.specs.Prelude.{◌++◌, flat_map}
use Rattle.std.proofs.lemmas.Bool.{leb-false, leb-true}
use Rattle.vm_shape.specs.declared.description.Description.{Description}
use Rattle.mate_journal.specs.NodeScript.{Whole, Full, Cut}
use Rattle.mate_journal.specs.Tidy.{below}
use Rattle.mate_journal.specs.declared.entry.Stamped.{Stamped}
use Rattle.mate_journal.specs.declared.report.TheConstants.{RECORDS_MAX}
use Rattle.node_programs.specs.Right.{AreRightPrograms}
use Rattle.mate_journal.specs.OpenLog.{Gone}
use Rattle.report_writer.specs.Text.{lines, event_lines}
use Rattle.node_runs.specs.Running.{IsReportOf, report_with}
use Rattle.node_runs.specs.Writing.{PassWrites}
use Rattle.report_writer.specs.declared.pass.Pass.{Pass}
use Rattle.report_writer.proofs.WritingLemmas.{written-nothing, written-more, written-as, ended-whole, ended-full}
use Rattle.node_runs.proofs.KeptLemmas.{stays-first, stays-then, stays-back}
use Rattle.node_runs.proofs.RunLemmas.{HasRun-new, HasRun-same, HasRun-step, timely-at, timely-next, few-entries, few-events, run-whole, run-full, run-cut, reported, keeps-by, ok-room, right-step, few-contexts}
use Rattle.node_runs.proofs.WrittenLemmas.{one, lines-none, lines-room, lines-last, event-written, stops-within, stops-before, last-put}
use Rattle.node_runs.proofs.writing.write_run.Goals as goal

pub loop-step-init : goal.loop-step-init
loop-step-init g c =
    let fresh = c.requires.fresh in
    record {
      run = HasRun-new c.args.desc.now c.args.programs.now c.args.node.now fresh.description fresh.empty fresh.pace fresh.whole;
      count = refl;
      written = written-as (lines c.args.desc.now (one c.args.node.now.log)) written-nothing (lines-none c.args.desc.now c.args.node.now.log fresh.empty.entries);
      gone = stays-first c.args.written c.args.node.now.gone;
    }

pub returns-then-is_full-clause-gives : goal.returns-then-is_full-clause-gives
returns-then-is_full-clause-gives g c =
    let i = c.loop-step.invariant in
    let d = c.args.desc.now in
    let below = c.loop-step-test.true in
    let run = run-full d c.args.programs.now c.steps-list.result.now c.loop-step.step-index c.loop-step.events c.loop-step.node i.run c.loop-step-test.true i.count
    (leb-true RECORDS_MAX (length c.loop-step.node.log.entries) (sym c.is_full.ensures.full ∙ c.if-is_full.true)) in
    let keeps = keeps-by d c.loop-step.node i.run.description c.is_full.ensures.keeps in
    let timely = timely-at d c.args.programs.now c.steps-list.result.now c.loop-step.step-index c.loop-step.events c.loop-step.node i.run (omega (arith, below)) i.count in
    let l = c.loop-step.node.log in
    let report = reported d c.args.steps.now c.args.programs.now Full c.steps-list.result.now c.loop-step.node c.loop-step.events c.steps-list.ensures c.requires.programs i.run.description c.is_full.ensures.keeps run i.run.ranges.ranges
    (few-events d c.args.programs.now c.steps-list.result.now c.loop-step.step-index c.loop-step.events c.loop-step.node i.run (omega (arith, below)) i.count) _ refl in
    let put = c.write_last.ensures in
    last-put d c.args.steps.now c.args.programs.now (g.S.Sink.written c.args.out.now) (g.S.Sink.written c.write_last.new.out) (g.S.Sink.faults c.args.out.now) (g.S.Sink.faults c.write_last.new.out) l c.loop-step.events false put.put
    c.write_last.result put.is
    (ended-full d (IsReportOf d c.args.steps.now c.args.programs.now) (g.S.Sink.written c.args.out.now) (g.S.Sink.written c.loop-step.out) (g.S.Sink.written c.write_last.new.out) (g.S.Sink.faults c.args.out.now)
    (g.S.Sink.faults c.loop-step.out) (g.S.Sink.faults c.write_last.new.out) (report_with l c.loop-step.events false) (event_lines d (one l) c.loop-step.events) i.written report
    (lines-last d l c.loop-step.events keeps timely) put.put put.puts)

-- memory was refused before a step
pub returns-then-is_err-clause-gives : goal.returns-then-is_err-clause-gives
returns-then-is_err-clause-gives g c =
    let i = c.loop-step.invariant in
    let d = c.args.desc.now in
    let ps = c.args.programs.now in
    let list = c.steps-list.result.now in
    let mid = c.make_room.new.self in
    let below = c.loop-step-test.true in
    let mid_run = HasRun-same d ps (take c.loop-step.step-index list) c.loop-step.node mid c.make_room.ensures.same.description c.make_room.ensures.same.log c.make_room.ensures.pace c.make_room.ensures.ranges i.run in
    let within : c.loop-step.step-index ≤ length list = omega (arith, below) in
    let keeps = keeps-by d mid mid_run.description c.no_room.ensures.keeps in
    let written = written-as (lines d (one mid.log)) i.written (lines-room d mid.log c.loop-step.node.log c.make_room.ensures.same.log) in
    let report = reported d c.args.steps.now ps Cut list mid c.loop-step.events c.steps-list.ensures c.requires.programs mid_run.description c.no_room.ensures.keeps
    (run-cut d ps list c.loop-step.step-index c.loop-step.events mid mid_run within i.count) mid_run.ranges.ranges (few-events d ps list c.loop-step.step-index c.loop-step.events mid mid_run within i.count) (report_with mid.log c.loop-step.events false) refl in
    let P : Pass → Type 0 = λ x. PassWrites d c.args.steps.now ps (g.S.Sink.written c.args.out.now) (g.S.Sink.written c.loop-step.out) (g.S.Sink.faults c.args.out.now) (g.S.Sink.faults c.loop-step.out) mid.log x in
    subst P (sym c.no_room.ensures.is)
    (stops-before d c.args.steps.now ps (g.S.Sink.written c.args.out.now) (g.S.Sink.written c.loop-step.out) (g.S.Sink.faults c.args.out.now) (g.S.Sink.faults c.loop-step.out) mid.log c.loop-step.events report
    (lines-last d mid.log c.loop-step.events keeps (timely-at d ps list c.loop-step.step-index c.loop-step.events mid mid_run within i.count)) written)

pub make-requires-clause-ready : goal.make-requires-clause-ready
make-requires-clause-ready g c =
    let i = c.loop-step.invariant in
    let same = c.make_room.ensures.same in
    let run = HasRun-same c.args.desc.now c.args.programs.now (take c.loop-step.step-index c.steps-list.result.now) c.loop-step.node c.make_room.new.self same.description same.log c.make_room.ensures.pace c.make_room.ensures.ranges i.run in
    let below = c.loop-step-test.true in
    let few = leb-false RECORDS_MAX (length c.loop-step.node.log.entries) (sym c.is_full.ensures.full ∙ c.if-is_full.false) in
    let entries = ap (λ es. length {A = Stamped} es) same.log.entries in
    record {
      timely = timely-next c.args.desc.now c.args.programs.now c.steps-list.result.now c.loop-step.step-index c.loop-step.events c.make_room.new.self run (omega (arith, below)) i.count;
      few = omega (arith, few, entries);
      room = ok-room c.make_room.result _ (sym c.is_err.ensures.value ∙ c.if-is_err.false) c.make_room.ensures.room;
    }

pub make-requires-clause-right : goal.make-requires-clause-right
make-requires-clause-right g c =
    right-step c.args.desc.now c.make_room.new.self.description c.args.steps.now c.args.programs.now c.steps-list.result.now c.loop-step.step-index c.step-item.result c.requires.programs c.steps-list.ensures c.loop-step-test.true c.step-item.is
    (c.make_room.ensures.same.description ∙ c.loop-step.invariant.run.description)

pub make-requires-clause-contexts : goal.make-requires-clause-contexts
make-requires-clause-contexts g c =
    few-contexts c.args.desc.now c.make_room.new.self.description c.contexts-contexts.result c.contexts-contexts.ensures.value c.contexts-contexts.ensures.high (c.make_room.ensures.same.description ∙ c.loop-step.invariant.run.description)

pub make-requires-clause-programs : goal.make-requires-clause-programs
make-requires-clause-programs g c =
    subst (λ (d : Description). AreRightPrograms d c.args.programs.now) (sym (c.make_room.ensures.same.description ∙ c.loop-step.invariant.run.description)) c.requires.programs.programs

pub write_new-requires : goal.write_new-requires
write_new-requires g c =
    let position = c.next_position-from.ensures.position in
    let gone = ap (λ (x : Gone). x.entries) c.make.ensures.tells.gone in
    let count = c.make.ensures.tells.grows.count in
    omega (arith, position, gone, count)

-- the sink failed within an event's lines
pub returns-in-Err-clause-gives : goal.returns-in-Err-clause-gives
returns-in-Err-clause-gives g c =
    let i = c.loop-step.invariant in
    let d = c.args.desc.now in
    let ps = c.args.programs.now in
    let list = c.steps-list.result.now in
    let mid = c.make_room.new.self in
    let new = c.make.new.self in
    let same = c.make_room.ensures.same in
    let below = c.loop-step-test.true in
    let count = i.count in
    let position = c.next_position-from.ensures.position in
    let gone = ap (λ (x : Gone). x.entries) c.make.ensures.tells.gone in
    let few = leb-false RECORDS_MAX (length c.loop-step.node.log.entries) (sym c.is_full.ensures.full ∙ c.if-is_full.false) in
    let entries = ap (λ es. length {A = Stamped} es) same.log.entries in
    let mid_run = HasRun-same d ps (take c.loop-step.step-index list) c.loop-step.node mid same.description same.log c.make_room.ensures.pace c.make_room.ensures.ranges i.run in
    let new_run = HasRun-step d ps list c.loop-step.step-index c.loop-step.events c.step-item.result mid new mid_run c.loop-step-test.true count c.step-item.is (omega (arith, few, entries)) c.make.ensures.tells c.make.ensures.ranges c.make.ensures.stamp in
    let written = event-written d ps list c.loop-step.step-index c.loop-step.events (c.make.new.self.gone.entries + c.next_position-from.result) mid new _ mid_run (omega (arith, below)) count (keeps-by d mid mid_run.description c.next_position-from.ensures.keeps)
    (keeps-by d new new_run.description c.write_new.ensures.keeps) c.make.ensures.tells (omega (arith, position, gone)) in
    let before = written-as (lines d (one mid.log)) i.written (lines-room d mid.log c.loop-step.node.log same.log) in
    let report = reported d c.args.steps.now ps Cut list new (c.loop-step.events + 1) c.steps-list.ensures c.requires.programs new_run.description c.write_new.ensures.keeps
    (run-cut d ps list (c.loop-step.step-index + 1) (c.loop-step.events + 1) new new_run (omega (arith, below)) (omega (arith, count))) new_run.ranges.ranges
    (few-events d ps list (c.loop-step.step-index + 1) (c.loop-step.events + 1) new new_run (omega (arith, below)) (omega (arith, count))) (report_with new.log (c.loop-step.events + 1) false) refl in
    stops-within d c.args.steps.now ps (g.S.Sink.written c.args.out.now) (g.S.Sink.written c.loop-step.out) (g.S.Sink.written c.write_new.new.out) (g.S.Sink.faults c.args.out.now) (g.S.Sink.faults c.loop-step.out)
    (g.S.Sink.faults c.write_new.new.out) Cut mid.log new.log (c.loop-step.events + 1) (c.loop-step.events + 1) _ report refl written.0 written.1 before c.in-Err.fault c.stopped.result c.in-Err.ensures.writes c.stopped.ensures

pub loop-step-preserved : goal.loop-step-preserved
loop-step-preserved g c =
    let i = c.loop-step.invariant in
    let d = c.args.desc.now in
    let ps = c.args.programs.now in
    let list = c.steps-list.result.now in
    let mid = c.make_room.new.self in
    let new = c.make.new.self in
    let same = c.make_room.ensures.same in
    let below = c.loop-step-test.true in
    let count = i.count in
    let position = c.next_position-from.ensures.position in
    let gone = ap (λ (x : Gone). x.entries) c.make.ensures.tells.gone in
    let few = leb-false RECORDS_MAX (length c.loop-step.node.log.entries) (sym c.is_full.ensures.full ∙ c.if-is_full.false) in
    let entries = ap (λ es. length {A = Stamped} es) same.log.entries in
    let mid_run = HasRun-same d ps (take c.loop-step.step-index list) c.loop-step.node mid same.description same.log c.make_room.ensures.pace c.make_room.ensures.ranges i.run in
    let new_run = HasRun-step d ps list c.loop-step.step-index c.loop-step.events c.step-item.result mid new mid_run c.loop-step-test.true count c.step-item.is (omega (arith, few, entries)) c.make.ensures.tells c.make.ensures.ranges c.make.ensures.stamp in
    let written = event-written d ps list c.loop-step.step-index c.loop-step.events (c.make.new.self.gone.entries + c.next_position-from.result) mid new _ mid_run (omega (arith, below)) count (keeps-by d mid mid_run.description c.next_position-from.ensures.keeps)
    (keeps-by d new new_run.description c.write_new.ensures.keeps) c.make.ensures.tells (omega (arith, position, gone)) in
    let before = written-as (lines d (one mid.log)) i.written (lines-room d mid.log c.loop-step.node.log same.log) in
    record {
      run = new_run;
      count = omega (arith, count);
      written = written-more _ (lines d (one new.log)) before c.in_default.ensures.writes written.0;
      gone = stays-then c.args.written c.args.node.now.gone c.loop-step.node.gone c.make_room.new.self.gone c.make.new.self.gone i.gone c.make_room.ensures.gone c.make.ensures.tells.gone;
    }

-- memory was refused before the store is shown
pub returns-then-is_err-2-clause-gives : goal.returns-then-is_err-2-clause-gives
returns-then-is_err-2-clause-gives g c =
    let i = c.loop-step.invariant in
    let d = c.args.desc.now in
    let ps = c.args.programs.now in
    let list = c.steps-list.result.now in
    let mid = c.reserve.new.self in
    let mid_run = HasRun-same d ps (take c.loop-step.step-index list) c.loop-step.node mid c.reserve.ensures.same.description c.reserve.ensures.same.log c.reserve.ensures.pace c.reserve.ensures.ranges i.run in
    let keeps = keeps-by d mid mid_run.description c.no_room-then-is_err-2.ensures.keeps in
    let written = written-as (lines d (one mid.log)) i.written (lines-room d mid.log c.loop-step.node.log c.reserve.ensures.same.log) in
    let report = reported d c.args.steps.now ps Cut list mid c.loop-step.events c.steps-list.ensures c.requires.programs mid_run.description c.no_room-then-is_err-2.ensures.keeps
    (run-cut d ps list c.loop-step.step-index c.loop-step.events mid mid_run c.loop-step.auto.step-index-end i.count) mid_run.ranges.ranges
    (few-events d ps list c.loop-step.step-index c.loop-step.events mid mid_run c.loop-step.auto.step-index-end i.count) (report_with mid.log c.loop-step.events false) refl in
    let P : Pass → Type 0 = λ x. PassWrites d c.args.steps.now ps (g.S.Sink.written c.args.out.now) (g.S.Sink.written c.loop-step.out) (g.S.Sink.faults c.args.out.now) (g.S.Sink.faults c.loop-step.out) mid.log x in
    subst P (sym c.no_room-then-is_err-2.ensures.is)
    (stops-before d c.args.steps.now ps (g.S.Sink.written c.args.out.now) (g.S.Sink.written c.loop-step.out) (g.S.Sink.faults c.args.out.now) (g.S.Sink.faults c.loop-step.out) mid.log c.loop-step.events report
    (lines-last d mid.log c.loop-step.events keeps (timely-at d ps list c.loop-step.step-index c.loop-step.events mid mid_run c.loop-step.auto.step-index-end i.count)) written)

pub seen-requires-clause-timely : goal.seen-requires-clause-timely
seen-requires-clause-timely g c =
    let i = c.loop-step.invariant in
    let run = HasRun-same c.args.desc.now c.args.programs.now (take c.loop-step.step-index c.steps-list.result.now) c.loop-step.node c.reserve.new.self c.reserve.ensures.same.description c.reserve.ensures.same.log c.reserve.ensures.pace c.reserve.ensures.ranges i.run in
    timely-next c.args.desc.now c.args.programs.now c.steps-list.result.now c.loop-step.step-index c.loop-step.events c.reserve.new.self run c.loop-step.auto.step-index-end i.count

pub seen-requires-clause-few : goal.seen-requires-clause-few
seen-requires-clause-few g c =
    let i = c.loop-step.invariant in
    let run = HasRun-same c.args.desc.now c.args.programs.now (take c.loop-step.step-index c.steps-list.result.now) c.loop-step.node c.reserve.new.self c.reserve.ensures.same.description c.reserve.ensures.same.log c.reserve.ensures.pace c.reserve.ensures.ranges i.run in
    few-entries c.args.desc.now c.args.programs.now (take c.loop-step.step-index c.steps-list.result.now) c.reserve.new.self run c.next_position-from-2.ensures.keeps

pub seen-requires-clause-room : goal.seen-requires-clause-room
seen-requires-clause-room g c = ok-room c.reserve.result _ (sym c.is_err-2.ensures.value ∙ c.if-is_err-2.false) c.reserve.ensures.room

pub write_new-requires-2 : goal.write_new-requires-2
write_new-requires-2 g c =
    let position = c.next_position-from-2.ensures.position in
    let gone = ap (λ (x : Gone). x.entries) c.seen.ensures.tells.gone in
    let count = c.seen.ensures.tells.grows.count in
    omega (arith, position, gone, count)

-- the sink failed within the lines of the stores that are shown at the end
pub returns-in-Err-write_new-clause-gives : goal.returns-in-Err-write_new-clause-gives
returns-in-Err-write_new-clause-gives g c =
    let i = c.loop-step.invariant in
    let d = c.args.desc.now in
    let ps = c.args.programs.now in
    let list = c.steps-list.result.now in
    let mid = c.reserve.new.self in
    let new = c.seen.new.self in
    let same = c.reserve.ensures.same in
    let past = c.loop-step-test.false in
    let position = c.next_position-from-2.ensures.position in
    let gone = ap (λ (x : Gone). x.entries) c.seen.ensures.tells.gone in
    let entries = ap (λ es. length {A = Stamped} es) same.log.entries in
    let mid_run = HasRun-same d ps (take c.loop-step.step-index list) c.loop-step.node mid same.description same.log c.reserve.ensures.pace c.reserve.ensures.ranges i.run in
    let is = c.seen.ensures.tells.description ∙ mid_run.description in
    let written = event-written d ps list c.loop-step.step-index c.loop-step.events (c.seen.new.self.gone.entries + c.next_position-from-2.result) mid new _ mid_run c.loop-step.auto.step-index-end i.count (keeps-by d mid mid_run.description c.next_position-from-2.ensures.keeps)
    (keeps-by d new is c.write_new-2.ensures.keeps) c.seen.ensures.tells (omega (arith, position, gone)) in
    let before = written-as (lines d (one mid.log)) i.written (lines-room d mid.log c.loop-step.node.log same.log) in
    let run = run-whole d ps list c.loop-step.step-index c.loop-step.events mid new mid_run c.loop-step.auto.step-index-end (omega (arith, past)) i.count c.seen.ensures.tells in
    let report = reported d c.args.steps.now ps Whole list new c.loop-step.events c.steps-list.ensures c.requires.programs is c.write_new-2.ensures.keeps run (c.seen.ensures.ranges mid_run.ranges).ranges
    (few-events d ps list c.loop-step.step-index c.loop-step.events mid mid_run c.loop-step.auto.step-index-end i.count) (report_with new.log c.loop-step.events true) refl in
    let last : suc c.loop-step.events ≡ c.loop-step.events + 1 = omega arith in
    stops-within d c.args.steps.now ps (g.S.Sink.written c.args.out.now) (g.S.Sink.written c.loop-step.out) (g.S.Sink.written c.write_new-2.new.out) (g.S.Sink.faults c.args.out.now) (g.S.Sink.faults c.loop-step.out)
    (g.S.Sink.faults c.write_new-2.new.out) Whole mid.log new.log c.loop-step.events (c.loop-step.events + 1) _ report last written.0 written.1 before c.in-Err-write_new.fault c.stopped-in-Err-write_new.result
    c.in-Err-write_new.ensures.writes c.stopped-in-Err-write_new.ensures

-- all was made, and the last line is owed
pub returns-clause-gives : goal.returns-clause-gives
returns-clause-gives g c =
    let i = c.loop-step.invariant in
    let d = c.args.desc.now in
    let ps = c.args.programs.now in
    let list = c.steps-list.result.now in
    let mid = c.reserve.new.self in
    let new = c.seen.new.self in
    let same = c.reserve.ensures.same in
    let past = c.loop-step-test.false in
    let position = c.next_position-from-2.ensures.position in
    let gone = ap (λ (x : Gone). x.entries) c.seen.ensures.tells.gone in
    let entries = ap (λ es. length {A = Stamped} es) same.log.entries in
    let mid_run = HasRun-same d ps (take c.loop-step.step-index list) c.loop-step.node mid same.description same.log c.reserve.ensures.pace c.reserve.ensures.ranges i.run in
    let is = c.seen.ensures.tells.description ∙ mid_run.description in
    let keeps = keeps-by d new is c.write_new-2.ensures.keeps in
    let written = event-written d ps list c.loop-step.step-index c.loop-step.events (c.seen.new.self.gone.entries + c.next_position-from-2.result) mid new _ mid_run c.loop-step.auto.step-index-end i.count (keeps-by d mid mid_run.description c.next_position-from-2.ensures.keeps)
    keeps c.seen.ensures.tells (omega (arith, position, gone)) in
    let before = written-as (lines d (one mid.log)) i.written (lines-room d mid.log c.loop-step.node.log same.log) in
    let all = written-more _ (lines d (one new.log)) before c.in_default-write_new.ensures.writes written.0 in
    let run = run-whole d ps list c.loop-step.step-index c.loop-step.events mid new mid_run c.loop-step.auto.step-index-end (omega (arith, past)) i.count c.seen.ensures.tells in
    let report = reported d c.args.steps.now ps Whole list new c.loop-step.events c.steps-list.ensures c.requires.programs is c.write_new-2.ensures.keeps run (c.seen.ensures.ranges mid_run.ranges).ranges
    (few-events d ps list c.loop-step.step-index c.loop-step.events mid mid_run c.loop-step.auto.step-index-end i.count) (report_with new.log c.loop-step.events true) refl in
    let last : suc c.loop-step.events ≡ c.loop-step.events + 1 = omega arith in
    let put = c.write_last-2.ensures in
    let covers = subst (λ (n : ℕ). lines d (one new.log) ≡ flat_map (event_lines d (one new.log)) (below n) ++ event_lines d (one new.log) n) (sym last) (lines-last d new.log (c.loop-step.events + 1) keeps c.seen.ensures.tells.grows.timely) in
    last-put d c.args.steps.now ps (g.S.Sink.written c.args.out.now) (g.S.Sink.written c.write_last-2.new.out) (g.S.Sink.faults c.args.out.now) (g.S.Sink.faults c.write_last-2.new.out) new.log c.loop-step.events true put.put
    c.write_last-2.result put.is
    (ended-whole d (IsReportOf d c.args.steps.now ps) (g.S.Sink.written c.args.out.now) (g.S.Sink.written c.write_new-2.new.out) (g.S.Sink.written c.write_last-2.new.out) (g.S.Sink.faults c.args.out.now)
    (g.S.Sink.faults c.write_new-2.new.out) (g.S.Sink.faults c.write_last-2.new.out) (report_with new.log c.loop-step.events true) (event_lines d (one new.log) (suc c.loop-step.events)) all report covers put.put put.puts)

-- ---- the sink's faults, and what is gone

pub returns-then-is_full-clause-later : goal.returns-then-is_full-clause-later
returns-then-is_full-clause-later g c = let later = c.loop-step.invariant.written.later in let rose = c.write_last.ensures.puts.later in omega (arith, later, rose)

pub returns-then-is_full-clause-gone : goal.returns-then-is_full-clause-gone
returns-then-is_full-clause-gone g c = c.loop-step.invariant.gone

pub make_room-requires : goal.make_room-requires
make_room-requires g c =
    let few = leb-false RECORDS_MAX (length c.loop-step.node.log.entries) (sym c.is_full.ensures.full ∙ c.if-is_full.false) in
    omega (arith, few)

pub returns-then-is_err-clause-later : goal.returns-then-is_err-clause-later
returns-then-is_err-clause-later g c = c.loop-step.invariant.written.later

pub returns-then-is_err-clause-gone : goal.returns-then-is_err-clause-gone
returns-then-is_err-clause-gone g c =
    stays-then c.args.written c.args.node.now.gone c.loop-step.node.gone c.make_room.new.self.gone c.make_room.new.self.gone c.loop-step.invariant.gone c.make_room.ensures.gone refl

pub returns-in-Err-clause-later : goal.returns-in-Err-clause-later
returns-in-Err-clause-later g c = let later = c.loop-step.invariant.written.later in let rose = c.in-Err.ensures.writes.later in omega (arith, later, rose)

pub returns-in-Err-clause-gone : goal.returns-in-Err-clause-gone
returns-in-Err-clause-gone g c =
    stays-then c.args.written c.args.node.now.gone c.loop-step.node.gone c.make_room.new.self.gone c.make.new.self.gone c.loop-step.invariant.gone c.make_room.ensures.gone c.make.ensures.tells.gone

pub returns-then-is_err-2-clause-later : goal.returns-then-is_err-2-clause-later
returns-then-is_err-2-clause-later g c = c.loop-step.invariant.written.later

pub returns-then-is_err-2-clause-gone : goal.returns-then-is_err-2-clause-gone
returns-then-is_err-2-clause-gone g c =
    stays-back c.args.written c.args.node.now.gone c.loop-step.node.gone c.reserve.new.self.gone c.loop-step.invariant.gone c.reserve.ensures.same.gone

pub returns-in-Err-write_new-clause-later : goal.returns-in-Err-write_new-clause-later
returns-in-Err-write_new-clause-later g c = let later = c.loop-step.invariant.written.later in let rose = c.in-Err-write_new.ensures.writes.later in omega (arith, later, rose)

pub returns-in-Err-write_new-clause-gone : goal.returns-in-Err-write_new-clause-gone
returns-in-Err-write_new-clause-gone g c =
    stays-back c.args.written c.args.node.now.gone c.loop-step.node.gone c.seen.new.self.gone c.loop-step.invariant.gone (c.seen.ensures.tells.gone ∙ c.reserve.ensures.same.gone)

pub returns-clause-later : goal.returns-clause-later
returns-clause-later g c =
    let later = c.loop-step.invariant.written.later in
    let wrote = c.in_default-write_new.ensures.writes.later in
    let rose = c.write_last-2.ensures.puts.later in
    omega (arith, later, wrote, rose)

pub returns-clause-gone : goal.returns-clause-gone
returns-clause-gone g c =
    stays-back c.args.written c.args.node.now.gone c.loop-step.node.gone c.seen.new.self.gone c.loop-step.invariant.gone (c.seen.ensures.tells.gone ∙ c.reserve.ensures.same.gone)
