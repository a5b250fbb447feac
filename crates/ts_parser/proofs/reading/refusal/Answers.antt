use Rattle.std.proofs.Common.{Err, sym, subst}
use Rattle.ts_lexer.specs.Scanner.{due}
use Rattle.ts_parser.specs.Reading.{ReadsIn}
use Rattle.ts_parser.proofs.ReadingLemmas.{refused_by, fails_by}
use Rattle.ts_parser.proofs.reading.refusal.Goals as goal

pub returns-in-Ok : goal.returns-in-Ok
returns-in-Ok c = refused_by c.args.dialect c.args.bytes.now c.args.scanner c.args.fault c.requires.due c.requires.stays c.in-Ok.ensures

pub returns-in-Err : goal.returns-in-Err
returns-in-Err c =
    subst (λ f. ReadsIn c.args.dialect c.args.bytes.now (Err f)) (sym c.source_fault.ensures)
    (fails_by c.args.dialect c.args.bytes.now (due c.args.scanner) c.in-Err.first c.requires.due c.in-Err.ensures)
