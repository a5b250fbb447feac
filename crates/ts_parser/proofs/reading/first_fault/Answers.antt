use Rattle.std.proofs.Common.{Err, sym, subst}
use Rattle.ts_parser.specs.Verdict.{AnswersIn}
use Rattle.ts_parser.proofs.ReadingLemmas.{stays}
use Rattle.ts_parser.proofs.reading.first_fault.Goals as goal

pub returns : goal.returns
returns c =
    stays c.args.dialect c.args.scanner.now.tokens 4294967295 c.in-Err.fault
    (subst (λ ts. AnswersIn c.args.dialect ts 4294967295 (Err c.in-Err.fault)) c.tokens.ensures c.in-Err.ensures) (sym c.if-is_at_end.ensures)
