use Rattle.std.proofs.Common.{arith}
use Rattle.report_line_reader.proofs.WordsLemmas.{taken, taken_last}
use Rattle.report_line_reader.proofs.words.Words.next.Goals as goal

pub returns-then-length-bytes-clause-value : goal.returns-then-length-bytes-clause-value
returns-then-length-bytes-clause-value c =
    (taken_last c.self.inside.over c.self.inside.rest.now c.args.self.now c.word_len-length.result c.self.view_is c.if-self.false c.word_len-length.ensures.value (omega arith)).0

pub returns-then-length-bytes-clause-left : goal.returns-then-length-bytes-clause-left
returns-then-length-bytes-clause-left c =
    (taken_last c.self.inside.over c.self.inside.rest.now c.args.self.now c.word_len-length.result c.self.view_is c.if-self.false c.word_len-length.ensures.value (omega arith)).1

pub returns-clause-value : goal.returns-clause-value
returns-clause-value c =
    (taken c.self.inside.over c.self.inside.rest.now _ c.args.self.now c.word_len-length.result c.self.view_is c.if-self.false c.word_len-length.ensures.value (omega arith)
    c.split_at.ensures.back).0

pub returns-clause-left : goal.returns-clause-left
returns-clause-left c =
    (taken c.self.inside.over c.self.inside.rest.now _ c.args.self.now c.word_len-length.result c.self.view_is c.if-self.false c.word_len-length.ensures.value (omega arith)
    c.split_at.ensures.back).1
