use Rattle.std.proofs.Common.{◌^◌, length, take, refl, sym, ◌∙◌, ap, subst, arith, inl, inr, true, false}
use Rattle.std.proofs.lemmas.Bool.{leb-false, leb-true}
use Rattle.vm_shape.specs.declared.description.Description.{Description}
use Rattle.mate_journal.specs.NodeScript.{Whole, Full}
use Rattle.mate_journal.specs.declared.entry.Stamped.{Stamped}
use Rattle.mate_journal.specs.declared.report.TheConstants.{RECORDS_MAX}
use Rattle.node_programs.specs.Right.{AreRightPrograms}
use Rattle.report_writer.specs.Runs.{IsRunSummary}
use Rattle.report_writer.specs.Tally.{IsLogTally}
use Rattle.report_writer.proofs.TallyLemmas.{tally-few}
use Rattle.node_runs.specs.Counting.{Sums}
use Rattle.node_runs.specs.Running.{IsReportOf, report_with}
use Rattle.node_runs.proofs.CountingLemmas.{tally-fresh, tally-before, tally-most, if_ok}
use Rattle.node_runs.proofs.RunLemmas.{HasRun-new, HasRun-same, HasRun-step, timely-next, few-entries, few-events, run-whole, run-full, reported, right-step, few-contexts}
use Rattle.node_runs.proofs.counting.sum_steps.Goals as goal

pub loop-step-init : goal.loop-step-init
loop-step-init c =
    let fresh = c.in_ok-node.ensures in
    record {
      run = HasRun-new c.args.desc.now c.args.programs.now c.in_ok-node.node fresh.description fresh.empty fresh.pace fresh.whole;
      count = refl;
      tallies = tally-fresh (length c.args.desc.now.handlers.items) c.in_ok-tally.tally c.in_ok-node.node fresh.whole
          (subst (λ n. IsLogTally n c.in_ok-tally.tally _) c.len.ensures.value c.in_ok-tally.ensures);
    }

pub summary_of-requires : goal.summary_of-requires
summary_of-requires c =
    let i = c.loop-step.invariant in
    let few = few-entries c.args.desc.now c.args.programs.now (take c.loop-step.step-index c.steps-list.result.now) c.loop-step.node i.run c.is_full.ensures.keeps in
    tally-most (length c.args.desc.now.handlers.items) c.loop-step.node.gone.entries (2 ^ 56) c.loop-step.tally c.loop-step.node.log.entries i.tallies (omega (arith, few))

pub returns-then-is_full : goal.returns-then-is_full
returns-then-is_full c =
    let i = c.loop-step.invariant in
    let d = c.args.desc.now in
    let ps = c.args.programs.now in
    let list = c.steps-list.result.now in
    let v = c.loop-step.node in
    let below = c.loop-step-test.true in
    let r = report_with v.log c.loop-step.events false in
    let is = reported d c.args.steps.now ps Full list v c.loop-step.events c.steps-list.ensures c.requires i.run.description c.is_full.ensures.keeps
    (run-full d ps list c.loop-step.step-index c.loop-step.events v i.run c.loop-step-test.true i.count
    (leb-true RECORDS_MAX (length v.log.entries) (sym c.is_full.ensures.full ∙ c.if-is_full.true)))
    i.run.ranges.ranges (few-events d ps list c.loop-step.step-index c.loop-step.events v i.run (omega (arith, below)) i.count) r refl in
    if_ok c.summary_of.result (Sums v c.loop-step.tally c.loop-step.events false) (IsRunSummary d (IsReportOf d c.args.steps.now ps))
    (λ s sums. record { small = sums.small; report = r; ended = inr is; of = sums.of d i.tallies }) c.summary_of.ensures

pub count-requires-clause-few : goal.count-requires-clause-few
count-requires-clause-few c =
    let few = leb-false RECORDS_MAX (length c.loop-step.node.log.entries) (sym c.is_full.ensures.full ∙ c.if-is_full.false) in
    omega (arith, few)

pub count-requires-clause-up : goal.count-requires-clause-up
count-requires-clause-up c =
    let few = leb-false RECORDS_MAX (length c.loop-step.node.log.entries) (sym c.is_full.ensures.full ∙ c.if-is_full.false) in
    tally-most (length c.args.desc.now.handlers.items) c.loop-step.node.gone.entries (2 ^ 56) c.loop-step.tally c.loop-step.node.log.entries c.loop-step.invariant.tallies (omega (arith, few))

pub make-requires-clause-ready : goal.make-requires-clause-ready
make-requires-clause-ready c =
    let i = c.loop-step.invariant in
    let same = c.in_ok-count.ensures.same in
    let run = HasRun-same c.args.desc.now c.args.programs.now (take c.loop-step.step-index c.steps-list.result.now) c.loop-step.node c.count.new.self same.description same.log c.in_ok-count.ensures.pace c.in_ok-count.ensures.ranges i.run in
    let below = c.loop-step-test.true in
    let few = leb-false RECORDS_MAX (length c.loop-step.node.log.entries) (sym c.is_full.ensures.full ∙ c.if-is_full.false) in
    let entries = ap (λ es. length {A = Stamped} es) same.log.entries in
    record {
      timely = timely-next c.args.desc.now c.args.programs.now c.steps-list.result.now c.loop-step.step-index c.loop-step.events c.count.new.self run (omega (arith, below)) i.count;
      few = omega (arith, few, entries);
      room = c.in_ok-count.ensures.room;
    }

pub make-requires-clause-right : goal.make-requires-clause-right
make-requires-clause-right c =
    right-step c.args.desc.now c.count.new.self.description c.args.steps.now c.args.programs.now c.steps-list.result.now c.loop-step.step-index c.step-item.result c.requires c.steps-list.ensures c.loop-step-test.true c.step-item.is
    (c.in_ok-count.ensures.same.description ∙ c.loop-step.invariant.run.description)

pub make-requires-clause-contexts : goal.make-requires-clause-contexts
make-requires-clause-contexts c =
    few-contexts c.args.desc.now c.count.new.self.description c.contexts-contexts.result c.contexts-contexts.ensures.value c.contexts-contexts.ensures.high
    (c.in_ok-count.ensures.same.description ∙ c.loop-step.invariant.run.description)

pub make-requires-clause-programs : goal.make-requires-clause-programs
make-requires-clause-programs c =
    subst (λ (d : Description). AreRightPrograms d c.args.programs.now) (sym (c.in_ok-count.ensures.same.description ∙ c.loop-step.invariant.run.description)) c.requires.programs

pub loop-step-preserved : goal.loop-step-preserved
loop-step-preserved c =
    let i = c.loop-step.invariant in
    let same = c.in_ok-count.ensures.same in
    let run = HasRun-same c.args.desc.now c.args.programs.now (take c.loop-step.step-index c.steps-list.result.now) c.loop-step.node c.count.new.self same.description same.log c.in_ok-count.ensures.pace c.in_ok-count.ensures.ranges i.run in
    let few = leb-false RECORDS_MAX (length c.loop-step.node.log.entries) (sym c.is_full.ensures.full ∙ c.if-is_full.false) in
    let entries = ap (λ es. length {A = Stamped} es) same.log.entries in
    let count = i.count in
    let n = length c.args.desc.now.handlers.items in
    record {
      run = HasRun-step c.args.desc.now c.args.programs.now c.steps-list.result.now c.loop-step.step-index c.loop-step.events c.step-item.result c.count.new.self c.make.new.self run c.loop-step-test.true count
          c.step-item.is (omega (arith, few, entries)) c.make.ensures.tells c.make.ensures.ranges c.make.ensures.stamp;
      count = omega (arith, count);
      tallies = tally-before n c.count.new.tally c.loop-step.node c.count.new.self c.make.new.self same c.make.ensures.goes_on c.make.ensures.tells.gone (c.in_ok-count.ensures.tallies n i.tallies);
    }

pub count-requires-2-clause-few : goal.count-requires-2-clause-few
count-requires-2-clause-few c =
    few-entries c.args.desc.now c.args.programs.now (take c.loop-step.step-index c.steps-list.result.now) c.loop-step.node c.loop-step.invariant.run c.told-told.ensures.keeps

pub count-requires-2-clause-up : goal.count-requires-2-clause-up
count-requires-2-clause-up c =
    let few = few-entries c.args.desc.now c.args.programs.now (take c.loop-step.step-index c.steps-list.result.now) c.loop-step.node c.loop-step.invariant.run c.told-told.ensures.keeps in
    tally-most (length c.args.desc.now.handlers.items) c.loop-step.node.gone.entries (2 ^ 56) c.loop-step.tally c.loop-step.node.log.entries c.loop-step.invariant.tallies (omega (arith, few))

pub seen-requires-clause-timely : goal.seen-requires-clause-timely
seen-requires-clause-timely c =
    let i = c.loop-step.invariant in
    let same = c.in_ok-count-2.ensures.same in
    let run = HasRun-same c.args.desc.now c.args.programs.now (take c.loop-step.step-index c.steps-list.result.now) c.loop-step.node c.count-2.new.self same.description same.log c.in_ok-count-2.ensures.pace c.in_ok-count-2.ensures.ranges i.run in
    timely-next c.args.desc.now c.args.programs.now c.steps-list.result.now c.loop-step.step-index c.loop-step.events c.count-2.new.self run c.loop-step.auto.step-index-end i.count

pub seen-requires-clause-few : goal.seen-requires-clause-few
seen-requires-clause-few c =
    let few = few-entries c.args.desc.now c.args.programs.now (take c.loop-step.step-index c.steps-list.result.now) c.loop-step.node c.loop-step.invariant.run c.told-told.ensures.keeps in
    let entries = ap (λ es. length {A = Stamped} es) c.in_ok-count-2.ensures.same.log.entries in
    omega (arith, few, entries)

pub seen-requires-clause-room : goal.seen-requires-clause-room
seen-requires-clause-room c = c.in_ok-count-2.ensures.room

pub summary_of-requires-2 : goal.summary_of-requires-2
summary_of-requires-2 c =
    let n = length c.args.desc.now.handlers.items in
    let few = few-entries c.args.desc.now c.args.programs.now (take c.loop-step.step-index c.steps-list.result.now) c.loop-step.node c.loop-step.invariant.run c.told-told.ensures.keeps in
    tally-few n (2 ^ 56) c.count-2.new.tally c.loop-step.node.log.entries (c.in_ok-count-2.ensures.tallies n c.loop-step.invariant.tallies) (omega (arith, few))

pub returns : goal.returns
returns c =
    let i = c.loop-step.invariant in
    let d = c.args.desc.now in
    let ps = c.args.programs.now in
    let list = c.steps-list.result.now in
    let same = c.in_ok-count-2.ensures.same in
    let run = HasRun-same d ps (take c.loop-step.step-index list) c.loop-step.node c.count-2.new.self same.description same.log c.in_ok-count-2.ensures.pace c.in_ok-count-2.ensures.ranges i.run in
    let past = c.loop-step-test.false in
    let v = c.seen.new.self in
    let r = report_with v.log c.loop-step.events true in
    let is = reported d c.args.steps.now ps Whole list v c.loop-step.events c.steps-list.ensures c.requires (c.seen.ensures.tells.description ∙ run.description) c.told-all.ensures.keeps
    (run-whole d ps list c.loop-step.step-index c.loop-step.events c.count-2.new.self v run c.loop-step.auto.step-index-end (omega (arith, past)) i.count c.seen.ensures.tells)
    (c.seen.ensures.ranges run.ranges).ranges (few-events d ps list c.loop-step.step-index c.loop-step.events c.count-2.new.self run c.loop-step.auto.step-index-end i.count) r refl in
    let n = length d.handlers.items in
    let counted = tally-before n c.count-2.new.tally c.loop-step.node c.count-2.new.self v same c.seen.ensures.goes_on c.seen.ensures.tells.gone (c.in_ok-count-2.ensures.tallies n i.tallies) in
    if_ok c.summary_of-2.result (Sums v c.count-2.new.tally c.loop-step.events true) (IsRunSummary d (IsReportOf d c.args.steps.now ps))
    (λ s sums. record { small = sums.small; report = r; ended = inl is; of = sums.of d counted }) c.summary_of-2.ensures
