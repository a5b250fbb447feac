use Rattle.std.proofs.Common.{◌∙◌, ap, arith}
use Rattle.std.specs.Prelude.{count_by, ◌+◌, List}
use Rattle.std.proofs.lemmas.List.{take_all}
use Rattle.mate_journal.specs.declared.entry.Stamped.{Stamped}
use Rattle.report_writer.specs.Brief.{is_entry}
use Rattle.report_writer.specs.Tally.{entries_counted}
use Rattle.report_writer.proofs.TallyLemmas.{one-entry}
use Rattle.report_writer.proofs.EntryCountLemmas.{counted-start, counted-next}
use Rattle.report_writer.proofs.counts.add_entries.Goals as goal

pub loop-stamped-init : goal.loop-stamped-init
loop-stamped-init c = λ k. counted-start (λ (e : Stamped). is_entry k e.entry) c.args.entries.now (entries_counted k c.args.counts.now)

pub add-requires : goal.add-requires
add-requires c = λ k. omega (arith, (c.loop-stamped.invariant k).most, c.requires k)

pub loop-stamped-preserved : goal.loop-stamped-preserved
loop-stamped-preserved c = λ k.
    let a = c.add.ensures in
    counted-next (λ (e : Stamped). is_entry k e.entry) c.args.entries.now c.loop-stamped.stamped-index (entries_counted k c.args.counts.now) (entries_counted k c.loop-stamped.counts) (entries_counted k c.add.new.self) c.stamped-item.result
    c.loop-stamped-test.true c.stamped-item.is (one-entry k c.loop-stamped.counts c.add.new.self c.stamped-item.result.entry a.posts a.drops a.halts a.faults a.installs) (c.loop-stamped.invariant k)

pub returns : goal.returns
returns c = λ k.
    (c.loop-stamped.invariant k).value
    ∙ ap (λ (es : List Stamped). entries_counted k c.args.counts.now + count_by (λ (e : Stamped). is_entry k e.entry) es) (take_all c.loop-stamped.stamped-index c.args.entries.now c.loop-stamped-test.false)
