-- What a node with its whole log keeps.
use Rattle.std.specs.Prelude.{◌≡◌}
use Rattle.node_open.specs.View.{HasPlaces}
use Rattle.node_core.specs.declared.node.Node.TheInside.{Inside}
use Rattle.mate_journal.specs.OpenLog.{nothing_gone}

-- nothing of its log is gone, and it has places for programs of its own
pub record IsWholeNode (n : Inside) : Type 0 where
  pub whole : n.node.gone ≡ nothing_gone
  pub places : HasPlaces n.node
