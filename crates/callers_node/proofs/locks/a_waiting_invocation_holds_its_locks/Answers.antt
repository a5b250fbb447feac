use Rattle.callers_node.proofs.NodeLemmas.{side_by_side}
use Rattle.callers_node.proofs.locks.a_waiting_invocation_holds_its_locks.Goals as goal

pub returns : goal.returns
returns c =
    side_by_side c.step-ran.new.self.description c.step-ran.new.self.log c.kept-kept.ensures.keeps c.runs_no_conflicting_ones_side_by_side.ensures
