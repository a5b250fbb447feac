use Rattle.std.proofs.Common.{◌++◌, List, append-nil, [], take, ap, sym, arith}
use Rattle.std.proofs.lemmas.List.{take_all}
use Rattle.mate_journal.specs.declared.entry.Stamped.{Stamped}
use Rattle.report_writer.specs.Brief.{is_entry}
use Rattle.report_writer.proofs.TallyLemmas.{tally-same, tally-next, one_if-most}
use Rattle.report_writer.proofs.tally.LogTally.add_all.Goals as goal

pub loop-stamped-init : goal.loop-stamped-init
loop-stamped-init c = record {
  tallies = λ n front is. tally-same n c.args.self.now front (front ++ []) (sym (append-nil front)) is;
  entries = omega arith;
  counts = λ k. omega arith;
}

pub add-requires : goal.add-requires
add-requires c = record {
  entries = omega (arith, c.loop-stamped.invariant.entries, c.requires.entries);
  counts = λ k. omega (arith, c.loop-stamped.invariant.counts k, c.requires.counts k);
}

pub loop-stamped-preserved : goal.loop-stamped-preserved
loop-stamped-preserved c =
    let i = c.loop-stamped.stamped-index in
    let item = c.stamped-item.result in
    let inv = c.loop-stamped.invariant in
    let a = c.add.ensures in record {
      tallies = λ n front is. tally-next n c.loop-stamped.self c.add.new.self front c.args.entries.now i item c.loop-stamped-test.true c.stamped-item.is a (inv.tallies n front is);
      entries = omega (arith, inv.entries, a.entries);
      counts = λ k. omega (arith, inv.counts k, a.counts k, one_if-most (is_entry k item.entry));
    }

pub returns-clause-tallies : goal.returns-clause-tallies
returns-clause-tallies c = λ n front is.
    let all = take_all c.loop-stamped.stamped-index c.args.entries.now c.loop-stamped-test.false in
    tally-same n c.loop-stamped.self (front ++ take c.loop-stamped.stamped-index c.args.entries.now) (front ++ c.args.entries.now) (ap (λ (es : List Stamped). front ++ es) all) (c.loop-stamped.invariant.tallies n front is)

pub returns-clause-up : goal.returns-clause-up
returns-clause-up c = λ n up. record {
  entries = omega (arith, c.loop-stamped.invariant.entries, up.entries);
  counts = λ k. omega (arith, c.loop-stamped.invariant.counts k, up.counts k);
}
