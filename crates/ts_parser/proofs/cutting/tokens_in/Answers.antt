use Rattle.std.proofs.Common.{Err, sym, subst}
use Rattle.ts_parser.specs.Cutting.{SourceCuts}
use Rattle.ts_parser.proofs.ReadingLemmas.{told_so}
use Rattle.ts_parser.proofs.cutting.tokens_in.Goals as goal

pub returns-in-Err : goal.returns-in-Err
returns-in-Err c =
    subst (λ f. SourceCuts c.args.dialect c.args.bytes.now (Err f)) (sym c.source_fault.ensures) (told_so c.args.dialect c.args.bytes.now c.in-Err.fault c.in-Err.ensures)
