use Rattle.script_steps.specs.Lines.{split_words}
use Rattle.script_steps.proofs.LeadingLemmas.{number-taken}
use Rattle.script_steps.proofs.words.Words.number.Goals as goal

pub returns-in-Some-clause-value : goal.returns-in-Some-clause-value
returns-in-Some-clause-value c = number-taken c.args.low c.args.high c.args.outside (split_words c.args.self.now) (split_words c.short_number.new.self) c.in-Some.number c.in_range.result c.in-Some.ensures c.in_range.ensures.value
