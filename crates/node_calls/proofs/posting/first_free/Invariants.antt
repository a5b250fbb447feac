use Rattle.node_calls.proofs.PostingLemmas.{AreTakenUp}
use Rattle.node_calls.proofs.posting.first_free.Given as goal

abbrev pub invariant-loop-place : goal.invariant-loop-place
invariant-loop-place l = AreTakenUp l.contexts l.first l.place
