use Rattle.std.proofs.Common.{◌+◌, ◌≤◌, ◌^◌, List, length, ◌∙◌, ap, arith}
use Rattle.std.specs.Prelude.{count_by}
use Rattle.std.proofs.lemmas.List.{take_all}
use Rattle.mate_journal.specs.declared.entry.Stamped.{Stamped}
use Rattle.report_writer.specs.Brief.{is_entry, entries_of}
use Rattle.report_writer.specs.Tally.{entries_counted}
use Rattle.report_writer.proofs.TallyLemmas.{no-entries}
use Rattle.report_writer.proofs.EntryCountLemmas.{entries-next, entries-most}
use Rattle.report_writer.proofs.counts.entry_counts.Goals as goal

pub loop-log-init : goal.loop-log-init
loop-log-init c = record { value = λ k. no-entries k; fits = λ k. omega (arith, no-entries k) }

pub add_entries-requires : goal.add_entries-requires
add_entries-requires c = λ k. let fits = c.loop-log.invariant.fits k in omega (arith, fits)

pub loop-log-preserved : goal.loop-log-preserved
loop-log-preserved c =
    let log = c.log-item.result in
    let i = c.loop-log.log-index in
    let size : length log.entries ≤ 2 ^ 57 = let long = c.entries.type_inv.1 in omega (arith, ap length c.entries.ensures, long) in
    let inv = c.loop-log.invariant in record {
      value = λ k.
          let adds = c.add_entries.ensures k ∙ ap (λ (es : List Stamped). entries_counted k c.loop-log.counts + count_by (λ (e : Stamped). is_entry k e.entry) es) c.entries.ensures in
          entries-next k c.args.logs.now i log (entries_counted k c.loop-log.counts) (entries_counted k c.add_entries.new.counts) c.loop-log-test.true c.log-item.is (inv.value k) adds;
      fits = λ k.
          let adds = c.add_entries.ensures k ∙ ap (λ (es : List Stamped). entries_counted k c.loop-log.counts + count_by (λ (e : Stamped). is_entry k e.entry) es) c.entries.ensures in
          entries-most k log i (entries_counted k c.loop-log.counts) (entries_counted k c.add_entries.new.counts) size (inv.fits k) adds;
    }

pub returns : goal.returns
returns c = λ k. c.loop-log.invariant.value k ∙ ap (entries_of k) (take_all c.loop-log.log-index c.args.logs.now c.loop-log-test.false)
