use Rattle.std.proofs.Common.{refl}
use Rattle.report_writer.proofs.TallyLemmas.{one-entry}
use Rattle.report_writer.proofs.tally.LogTally.add.Goals as goal

pub add-requires : goal.add-requires
add-requires c = c.requires.counts

pub returns : goal.returns
returns c =
    let a = c.add.ensures in record {
      entries = refl;
      counts = λ k. one-entry k c.args.self.now.counts c.add.new.self c.args.entry.now a.posts a.drops a.halts a.faults a.installs;
      notes = c.note.ensures;
    }
