use Rattle.callers_node.proofs.NodeLemmas.{held_back}
use Rattle.callers_node.proofs.locks.who_is_queued_is_held_back.Goals as goal

pub returns : goal.returns
returns c = held_back c.post-answer.new.self.description c.post-answer.new.self.log c.kept-kept.ensures.keeps
