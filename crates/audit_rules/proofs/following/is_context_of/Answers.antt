use Rattle.std.proofs.Common.{◌∙◌}
use Rattle.mate_journal.specs.Described.{machine_of}
use Rattle.audit_rules.proofs.RollTests.{context_in}
use Rattle.audit_rules.proofs.following.is_context_of.Goals as goal

pub returns-then-first-place : goal.returns-then-first-place
returns-then-first-place c =
    λ meaning.
    context_in (machine_of c.args.desc.now meaning) c.args.handler c.args.context c.from-first.result c.from-place.result c.from-count.result
    (c.from-first.ensures ∙ c.first_context.ensures) c.from-place.ensures (c.from-count.ensures ∙ c.contexts_of.ensures meaning) c.if-first-place.true
