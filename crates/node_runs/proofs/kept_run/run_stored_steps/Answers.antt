use Rattle.std.proofs.Common.{length, take, refl, sym, ◌∙◌, ap, subst, arith}
use Rattle.std.proofs.lemmas.Bool.{leb-false, leb-true}
use Rattle.vm_shape.specs.declared.description.Description.{Description}
use Rattle.mate_journal.specs.NodeScript.{Whole, Full}
use Rattle.mate_journal.specs.declared.entry.Stamped.{Stamped}
use Rattle.mate_journal.specs.declared.report.TheConstants.{RECORDS_MAX}
use Rattle.node_programs.specs.Right.{AreRightPrograms}
use Rattle.node_runs.proofs.RunLemmas.{HasRun-new, HasRun-same, HasRun-step, timely-next, few-entries, few-events, run-whole, run-full, reported, right-step, few-contexts}
use Rattle.node_runs.proofs.kept_run.run_stored_steps.Goals as goal

pub loop-step-init : goal.loop-step-init
loop-step-init c =
    let fresh = c.in_ok-node.ensures in
    record {
      run = HasRun-new c.args.desc.now c.args.programs.now c.in_ok-node.node fresh.description fresh.empty fresh.pace fresh.whole;
      count = refl;
      gone = fresh.whole;
      one = c.in_ok-logs.ensures.count;
    }

pub report_of-requires-clause-one : goal.report_of-requires-clause-one
report_of-requires-clause-one c = c.loop-step.invariant.one

pub report_of-requires-clause-all : goal.report_of-requires-clause-all
report_of-requires-clause-all c = c.loop-step.invariant.gone

pub returns-then-is_full : goal.returns-then-is_full
returns-then-is_full c =
    let i = c.loop-step.invariant in
    let below = c.loop-step-test.true in
    reported c.args.desc.now c.args.steps.now c.args.programs.now Full c.steps-list.result.now c.loop-step.node c.loop-step.events c.steps-list.ensures c.requires i.run.description c.report_of.ensures.keeps
    (run-full c.args.desc.now c.args.programs.now c.steps-list.result.now c.loop-step.step-index c.loop-step.events c.loop-step.node i.run c.loop-step-test.true i.count
    (leb-true RECORDS_MAX (length c.loop-step.node.log.entries) (sym c.is_full.ensures.full ∙ c.if-is_full.true)))
    i.run.ranges.ranges (few-events c.args.desc.now c.args.programs.now c.steps-list.result.now c.loop-step.step-index c.loop-step.events c.loop-step.node i.run (omega (arith, below)) i.count) c.report_of.result c.report_of.ensures.is

pub make-requires-clause-ready : goal.make-requires-clause-ready
make-requires-clause-ready c =
    let i = c.loop-step.invariant in
    let same = c.in_ok-reserve.ensures.same in
    let run = HasRun-same c.args.desc.now c.args.programs.now (take c.loop-step.step-index c.steps-list.result.now) c.loop-step.node c.reserve.new.self same.description same.log c.in_ok-reserve.ensures.pace c.in_ok-reserve.ensures.ranges i.run in
    let below = c.loop-step-test.true in
    let few = leb-false RECORDS_MAX (length c.loop-step.node.log.entries) (sym c.is_full.ensures.full ∙ c.if-is_full.false) in
    let entries = ap (λ es. length {A = Stamped} es) same.log.entries in
    record {
      timely = timely-next c.args.desc.now c.args.programs.now c.steps-list.result.now c.loop-step.step-index c.loop-step.events c.reserve.new.self run (omega (arith, below)) i.count;
      few = omega (arith, few, entries);
      room = c.in_ok-reserve.ensures.room;
    }

pub make-requires-clause-right : goal.make-requires-clause-right
make-requires-clause-right c =
    right-step c.args.desc.now c.reserve.new.self.description c.args.steps.now c.args.programs.now c.steps-list.result.now c.loop-step.step-index c.step-item.result c.requires c.steps-list.ensures c.loop-step-test.true c.step-item.is
    (c.in_ok-reserve.ensures.same.description ∙ c.loop-step.invariant.run.description)

pub make-requires-clause-contexts : goal.make-requires-clause-contexts
make-requires-clause-contexts c =
    few-contexts c.args.desc.now c.reserve.new.self.description c.contexts-contexts.result c.contexts-contexts.ensures.value c.contexts-contexts.ensures.high
    (c.in_ok-reserve.ensures.same.description ∙ c.loop-step.invariant.run.description)

pub make-requires-clause-programs : goal.make-requires-clause-programs
make-requires-clause-programs c =
    subst (λ (d : Description). AreRightPrograms d c.args.programs.now) (sym (c.in_ok-reserve.ensures.same.description ∙ c.loop-step.invariant.run.description)) c.requires.programs

pub loop-step-preserved : goal.loop-step-preserved
loop-step-preserved c =
    let i = c.loop-step.invariant in
    let same = c.in_ok-reserve.ensures.same in
    let run = HasRun-same c.args.desc.now c.args.programs.now (take c.loop-step.step-index c.steps-list.result.now) c.loop-step.node c.reserve.new.self same.description same.log c.in_ok-reserve.ensures.pace c.in_ok-reserve.ensures.ranges i.run in
    let few = leb-false RECORDS_MAX (length c.loop-step.node.log.entries) (sym c.is_full.ensures.full ∙ c.if-is_full.false) in
    let entries = ap (λ es. length {A = Stamped} es) same.log.entries in
    let count = i.count in
    record {
      run = HasRun-step c.args.desc.now c.args.programs.now c.steps-list.result.now c.loop-step.step-index c.loop-step.events c.step-item.result c.reserve.new.self c.make.new.self run c.loop-step-test.true count
          c.step-item.is (omega (arith, few, entries)) c.make.ensures.tells c.make.ensures.ranges c.make.ensures.stamp;
      count = omega (arith, count);
      gone = c.make.ensures.tells.gone ∙ c.in_ok-reserve.ensures.same.gone ∙ i.gone;
      one = i.one;
    }

pub seen-requires-clause-timely : goal.seen-requires-clause-timely
seen-requires-clause-timely c =
    let i = c.loop-step.invariant in
    let run = HasRun-same c.args.desc.now c.args.programs.now (take c.loop-step.step-index c.steps-list.result.now) c.loop-step.node c.reserve-2.new.self c.in_ok-reserve-2.ensures.same.description c.in_ok-reserve-2.ensures.same.log c.in_ok-reserve-2.ensures.pace c.in_ok-reserve-2.ensures.ranges i.run in
    timely-next c.args.desc.now c.args.programs.now c.steps-list.result.now c.loop-step.step-index c.loop-step.events c.reserve-2.new.self run c.loop-step.auto.step-index-end i.count

pub seen-requires-clause-few : goal.seen-requires-clause-few
seen-requires-clause-few c =
    let i = c.loop-step.invariant in
    let run = HasRun-same c.args.desc.now c.args.programs.now (take c.loop-step.step-index c.steps-list.result.now) c.loop-step.node c.reserve-2.new.self c.in_ok-reserve-2.ensures.same.description c.in_ok-reserve-2.ensures.same.log c.in_ok-reserve-2.ensures.pace c.in_ok-reserve-2.ensures.ranges i.run in
    few-entries c.args.desc.now c.args.programs.now (take c.loop-step.step-index c.steps-list.result.now) c.reserve-2.new.self run c.told-told.ensures.keeps

pub seen-requires-clause-room : goal.seen-requires-clause-room
seen-requires-clause-room c = c.in_ok-reserve-2.ensures.room

pub report_of-requires-2-clause-one : goal.report_of-requires-2-clause-one
report_of-requires-2-clause-one c = c.loop-step.invariant.one

pub report_of-requires-2-clause-all : goal.report_of-requires-2-clause-all
report_of-requires-2-clause-all c = c.seen.ensures.tells.gone ∙ c.in_ok-reserve-2.ensures.same.gone ∙ c.loop-step.invariant.gone

pub returns : goal.returns
returns c =
    let i = c.loop-step.invariant in
    let same = c.in_ok-reserve-2.ensures.same in
    let run = HasRun-same c.args.desc.now c.args.programs.now (take c.loop-step.step-index c.steps-list.result.now) c.loop-step.node c.reserve-2.new.self same.description same.log c.in_ok-reserve-2.ensures.pace c.in_ok-reserve-2.ensures.ranges i.run in
    let past = c.loop-step-test.false in
    reported c.args.desc.now c.args.steps.now c.args.programs.now Whole c.steps-list.result.now c.seen.new.self c.loop-step.events c.steps-list.ensures c.requires (c.seen.ensures.tells.description ∙ run.description)
    c.report_of-2.ensures.keeps
    (run-whole c.args.desc.now c.args.programs.now c.steps-list.result.now c.loop-step.step-index c.loop-step.events c.reserve-2.new.self c.seen.new.self run c.loop-step.auto.step-index-end (omega (arith, past)) i.count c.seen.ensures.tells)
    (c.seen.ensures.ranges run.ranges).ranges (few-events c.args.desc.now c.args.programs.now c.steps-list.result.now c.loop-step.step-index c.loop-step.events c.reserve-2.new.self run c.loop-step.auto.step-index-end i.count) c.report_of-2.result c.report_of-2.ensures.is
