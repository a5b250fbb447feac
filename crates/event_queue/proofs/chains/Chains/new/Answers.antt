use Rattle.event_queue.proofs.LinkLemmas.{none_seen}
use Rattle.event_queue.proofs.chains.Chains.new.Goals as goal

pub returns-clause-empty : goal.returns-clause-empty
returns-clause-empty c = rw (c.in_ok-heads.ensures.items_if_clones_equal (λ y e. e)) (λ s. none_seen c.new.result.items c.args.lists s)
