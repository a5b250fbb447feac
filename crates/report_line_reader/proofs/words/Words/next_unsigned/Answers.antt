use Rattle.std.proofs.Common.{arith}
use Rattle.report_line_reader.proofs.NumeralLemmas.{numeral_last, numeral_more}
use Rattle.report_line_reader.proofs.words.Words.next_unsigned.Goals as goal

pub returns-then-numeral-bytes-clause-value : goal.returns-then-numeral-bytes-clause-value
returns-then-numeral-bytes-clause-value c =
    (numeral_last c.self.inside.over c.self.inside.rest.now c.args.self.now c.in-Some.numeral c.self.view_is c.if-self.false c.in-Some.ensures (omega arith)).0

pub returns-then-numeral-bytes-clause-left : goal.returns-then-numeral-bytes-clause-left
returns-then-numeral-bytes-clause-left c =
    (numeral_last c.self.inside.over c.self.inside.rest.now c.args.self.now c.in-Some.numeral c.self.view_is c.if-self.false c.in-Some.ensures (omega arith)).1

pub returns-clause-value : goal.returns-clause-value
returns-clause-value c =
    (numeral_more c.self.inside.over c.self.inside.rest.now _ c.args.self.now c.in-Some.numeral c.self.view_is c.if-self.false c.in-Some.ensures (omega arith)
    c.split_at.ensures.back).0

pub returns-clause-left : goal.returns-clause-left
returns-clause-left c =
    (numeral_more c.self.inside.over c.self.inside.rest.now _ c.args.self.now c.in-Some.numeral c.self.view_is c.if-self.false c.in-Some.ensures (omega arith)
    c.split_at.ensures.back).1
