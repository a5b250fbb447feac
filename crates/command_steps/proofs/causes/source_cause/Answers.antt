use Rattle.std.proofs.Common.{subst}
use Rattle.command_steps.specs.Answers.{IsRefused}
use Rattle.command_steps.specs.declared.refusal.SourceRefusal.{SourceRefusal}
use Rattle.command_steps.proofs.causes.source_cause.Goals as goal

pub returns-in-Spelling : goal.returns-in-Spelling
returns-in-Spelling c = λ d bytes refused. c.spelling_cause.ensures d bytes (subst (λ (r : SourceRefusal). IsRefused d bytes r) c.in-Spelling.is refused)

pub returns-in-Meaning : goal.returns-in-Meaning
returns-in-Meaning c = λ d bytes refused. c.meaning_cause.ensures d bytes (subst (λ (r : SourceRefusal). IsRefused d bytes r) c.in-Meaning.is refused)
