use Rattle.std.proofs.Common.{Err, sym, subst, ◌∙◌}
use Rattle.ts_lexer.specs.Scanner.{due}
use Rattle.ts_parser.specs.Reading.{ReadsIn, cuts}
use Rattle.ts_parser.proofs.ReadingLemmas.{fails_by}
use Rattle.ts_parser.proofs.reading.whole.Goals as goal

pub returns-in-Ok : goal.returns-in-Ok
returns-in-Ok c = cuts c.in-Ok.tokens (sym c.requires.due ∙ c.in-Ok.ensures) c.parse_in.ensures

pub returns-in-Err : goal.returns-in-Err
returns-in-Err c =
    subst (λ f. ReadsIn c.args.dialect c.args.bytes.now (Err f)) (sym c.source_fault.ensures)
    (fails_by c.args.dialect c.args.bytes.now (due c.args.scanner) c.in-Err.fault c.requires.due c.in-Err.ensures)
