use Rattle.std.proofs.Common.{sym, ◌∙◌}
use Rattle.report_line_reader.proofs.NumberLemmas.{spelled-unsigned_of, none-unsigned_of}
use Rattle.report_line_reader.proofs.numbers.unsigned.Goals as goal

pub returns-then-not-has_plain_lead : goal.returns-then-not-has_plain_lead
returns-then-not-has_plain_lead c = none-unsigned_of c.args.word.now (sym c.has_plain_lead.ensures ∙ c.if-not-has_plain_lead.true)

pub returns : goal.returns
returns c = c.spelled.ensures ∙ spelled-unsigned_of c.args.word.now (sym c.has_plain_lead.ensures ∙ c.if-not-has_plain_lead.false)
