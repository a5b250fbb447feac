use Rattle.command_refusals.proofs.spelling_cause.SpellingCause.print.Goals as goal

pub returns-in-Unexpected : goal.returns-in-Unexpected
returns-in-Unexpected g c = rw c.in-Unexpected.is c.print_numbered-in-Unexpected.ensures
