use Rattle.std.proofs.Common.{sym, ◌∙◌}
use Rattle.report_line_reader.specs.LightLine.{bulky_line}
use Rattle.report_text.proofs.PartLemmas.{read_short, read_next, takes_no}
use Rattle.report_text.proofs.parts.Parts.take.Goals as goal

pub returns-then-not-admits_next : goal.returns-then-not-admits_next
returns-then-not-admits_next c = λ d ls h sound.
    takes_no d ls (bulky_line c.args.bulk.now c.args.line) c.args.self.now c.args.self.now c.bad_line.result c.bad_line.ensures h (sym c.admits_next.ensures ∙ c.if-not-admits_next.true)

pub add-requires-clause-short : goal.add-requires-clause-short
add-requires-clause-short c = let r = c.requires.read in read_short r.0 r.1 c.args.self.now r.2 c.requires.few

pub returns : goal.returns
returns c = λ d ls h sound. read_next d ls (bulky_line c.args.bulk.now c.args.line) c.args.self.now c.add.new.self h sound (sym c.admits_next.ensures ∙ c.if-not-admits_next.false) c.in_ok-add.ensures
