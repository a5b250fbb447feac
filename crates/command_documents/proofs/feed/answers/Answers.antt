use Rattle.std.proofs.Common.{ℕ, List, Ok, Err, refl, subst}
use Rattle.command_steps.specs.Steps.{goes_on}
use Rattle.command_documents.proofs.OwedLemmas.{owed-stops}
use Rattle.command_documents.specs.Feed.{whole_stream}
use Rattle.command_documents.proofs.feed.answers.Goals as goal

pub returns-in_err-whole_stream-clause-does : goal.returns-in_err-whole_stream-clause-does
returns-in_err-whole_stream-clause-does c =
    owed-stops c.in_err-whole_stream.field-0.0 c.from_residual.result
    (subst (λ (bytes : List ℕ). whole_stream bytes (Err c.in_err-whole_stream.field-0.0)) c.as_slice.ensures.value c.in_err-whole_stream.ensures)
    c.from_residual.ensures.1

pub returns-clause-does : goal.returns-clause-does
returns-clause-does c =
    goes_on tt (subst (λ (bytes : List ℕ). whole_stream bytes (Ok tt)) c.as_slice.ensures.value c.in_ok-whole_stream.ensures) refl
