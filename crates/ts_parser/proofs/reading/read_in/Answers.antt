use Rattle.std.proofs.Common.{Err, refl, sym, subst}
use Rattle.ts_trees.specs.Cut.{cut_in}
use Rattle.ts_parser.specs.Reading.{ReadsIn}
use Rattle.ts_parser.proofs.ReadingLemmas.{fails_by}
use Rattle.ts_parser.proofs.reading.read_in.Goals as goal

pub returns-in-Err : goal.returns-in-Err
returns-in-Err c =
    subst (λ f. ReadsIn c.args.dialect c.args.bytes.now (Err f)) (sym c.source_fault.ensures)
    (fails_by c.args.dialect c.args.bytes.now (cut_in c.args.dialect c.args.bytes.now) c.in-Err.fault refl c.in-Err.ensures)
