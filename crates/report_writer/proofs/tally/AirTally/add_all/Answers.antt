use Rattle.std.proofs.Common.{◌++◌, List, append-nil, [], take, ap, sym, arith}
use Rattle.std.proofs.lemmas.List.{take_all}
use Rattle.mate_journal.specs.declared.air.Aired.{Aired}
use Rattle.report_writer.specs.Brief.{is_air}
use Rattle.report_writer.proofs.TallyLemmas.{air-same, air-next, one_if-most}
use Rattle.report_writer.proofs.tally.AirTally.add_all.Goals as goal

pub loop-aired-init : goal.loop-aired-init
loop-aired-init c = record {
  tallies = λ front is. air-same c.args.self.now front (front ++ []) (sym (append-nil front)) is;
  records = omega arith;
  counts = λ k. omega arith;
}

pub add-requires : goal.add-requires
add-requires c = record {
  records = omega (arith, c.loop-aired.invariant.records, c.requires.records);
  counts = λ k. omega (arith, c.loop-aired.invariant.counts k, c.requires.counts k);
}

pub loop-aired-preserved : goal.loop-aired-preserved
loop-aired-preserved c =
    let i = c.loop-aired.aired-index in
    let item = c.aired-item.result in
    let inv = c.loop-aired.invariant in
    let a = c.add.ensures in record {
      tallies = λ front is. air-next c.loop-aired.self c.add.new.self front c.args.air.now i item c.loop-aired-test.true c.aired-item.is a (inv.tallies front is);
      records = omega (arith, inv.records, a.records);
      counts = λ k. omega (arith, inv.counts k, a.counts k, one_if-most (is_air k item.air));
    }

pub returns-clause-tallies : goal.returns-clause-tallies
returns-clause-tallies c = λ front is.
    let all = take_all c.loop-aired.aired-index c.args.air.now c.loop-aired-test.false in
    air-same c.loop-aired.self (front ++ take c.loop-aired.aired-index c.args.air.now) (front ++ c.args.air.now) (ap (λ (xs : List Aired). front ++ xs) all) (c.loop-aired.invariant.tallies front is)

pub returns-clause-up : goal.returns-clause-up
returns-clause-up c = λ n up. record {
  records = omega (arith, c.loop-aired.invariant.records, up.records);
  counts = λ k. omega (arith, c.loop-aired.invariant.counts k, up.counts k);
}
