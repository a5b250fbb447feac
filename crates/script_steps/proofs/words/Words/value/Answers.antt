use Rattle.script_steps.specs.Lines.{split_words}
use Rattle.script_steps.proofs.LeadingLemmas.{value-taken}
use Rattle.script_steps.proofs.words.Words.value.Goals as goal

pub returns-in-Some : goal.returns-in-Some
returns-in-Some c = value-taken (split_words c.args.self.now) (split_words c.short_number.new.self) c.in-Some.number c.small_value.result c.in-Some.ensures c.small_value.ensures
