use Rattle.std.proofs.Common.{sym, subst, arith}
use Rattle.mate_files.proofs.PenLemmas.{Prints-by}
use Rattle.report_writer.specs.Summary.{AreSmall}
use Rattle.report_writer.proofs.SummaryLemmas.{same-counts}
use Rattle.report_writer.proofs.summary.Summary.count_lines.Goals as goal

pub returns : goal.returns
returns g c =
    let is = c.as_slice-nodes.ensures.value in
    Prints-by
    (same-counts c.args.self.now c.as_slice-nodes.result.now _ _ _ _ _ _ is c.entries.ensures.value c.entries_of.ensures c.entries_of-2.ensures c.entries_of-3.ensures
    c.entries_of-4.ensures c.entries_of-5.ensures)
    c.text_of_counts.ensures

pub entries-requires : goal.entries-requires
entries-requires g c = subst AreSmall (sym c.as_slice-nodes.ensures.value) c.requires.nodes

pub entries_of-requires : goal.entries_of-requires
entries_of-requires g c = subst AreSmall (sym c.as_slice-nodes.ensures.value) c.requires.nodes

pub entries_of-requires-2 : goal.entries_of-requires-2
entries_of-requires-2 g c = subst AreSmall (sym c.as_slice-nodes.ensures.value) c.requires.nodes

pub entries_of-requires-3 : goal.entries_of-requires-3
entries_of-requires-3 g c = subst AreSmall (sym c.as_slice-nodes.ensures.value) c.requires.nodes

pub entries_of-requires-4 : goal.entries_of-requires-4
entries_of-requires-4 g c = subst AreSmall (sym c.as_slice-nodes.ensures.value) c.requires.nodes

pub entries_of-requires-5 : goal.entries_of-requires-5
entries_of-requires-5 g c = subst AreSmall (sym c.as_slice-nodes.ensures.value) c.requires.nodes

pub overflow_add-records : goal.overflow_add-records
overflow_add-records g c = omega (arith, c.requires.air, c.entries.ensures.fits)
