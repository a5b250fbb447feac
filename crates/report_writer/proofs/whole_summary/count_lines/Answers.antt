use Rattle.std.proofs.Common.{◌^◌, List, ◌≤◌, [], length, ap, sym, subst, ◌∙◌, arith}
use Rattle.mate_files.proofs.PenLemmas.{Prints-by}
use Rattle.mate_journal.specs.Log.{Log}
use Rattle.report_writer.specs.Brief.{entries_of, air_of}
use Rattle.report_writer.proofs.TallyLemmas.{air-few}
use Rattle.report_writer.proofs.PrintLemmas.{same-counts}
use Rattle.report_writer.proofs.whole_summary.count_lines.Goals as goal

pub returns : goal.returns
returns g c =
    let nodes = c.nodes-nodes.ensures in
    let air = c.air.ensures in
    let aired = c.add_all.ensures.tallies [] c.new-air.ensures in
    Prints-by
    (same-counts c.args.report.now _ _ _ c.entry_counts-counts.result c.add_all.new.self (ap length nodes) c.events.ensures c.count_records.ensures
    (λ k. c.entry_counts-counts.ensures k ∙ ap (entries_of k) nodes) (λ k. aired.counts k ∙ ap (air_of k) air))
    c.text_of_counts.ensures

pub entry_counts-counts-requires : goal.entry_counts-counts-requires
entry_counts-counts-requires g c = subst (λ (ls : List Log). length ls ≤ 64) (sym c.nodes-nodes.ensures) c.requires

pub add_all-requires : goal.add_all-requires
add_all-requires g c = air-few (2 ^ 63) c.new-air.result [] c.new-air.ensures (omega arith)

pub count_records-requires : goal.count_records-requires
count_records-requires g c = c.requires
