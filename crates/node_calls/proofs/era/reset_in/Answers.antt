-- The store and the reset are told.
use Rattle.std.proofs.Common.{ap, ◌∙◌}
use Rattle.node_state.specs.declared.parts.Parts.{Parts}
use Rattle.node_calls.proofs.EraLemmas.{RestsAgain-resets}
use Rattle.node_calls.proofs.era.reset_in.Goals as goal

pub returns-clause-again : goal.returns-clause-again
returns-clause-again c =
    RestsAgain-resets c.args.description.now c.args.parts.now c.seen_in.new.parts c.clear.new.parts c.tell.new.log c.args.at c.seen_in.ensures.tells c.clear.ensures c.tell.ensures.pushed c.tell.ensures.spare

pub returns-clause-handlers : goal.returns-clause-handlers
returns-clause-handlers c = ap (λ (s : Parts). s.handlers) c.clear.ensures.same ∙ c.seen_in.ensures.handlers
