use Rattle.event_queue.proofs.LinkLemmas.{moves}
use Rattle.event_queue.proofs.chains.Chains.move_first.Goals as goal

pub returns : goal.returns
returns c = moves c.self.inside.next.items c.self.inside.heads.items _ _ _ _ _ _ _ c.self.view_is c.requires.apart c.unlink-place.ensures c.append.ensures
