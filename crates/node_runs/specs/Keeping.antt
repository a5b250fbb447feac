-- A new node of a run, and whether what it recorded is kept.
use Rattle.std.specs.Prelude.{◌≡◌, ⊤}
use Rattle.vm_shape.specs.declared.description.Description.{Description}
use Rattle.mate_journal.specs.Log.{IsEmpty}
use Rattle.mate_journal.specs.Pace.{no_pace}
use Rattle.mate_journal.specs.OpenLog.{Gone, nothing_gone}
use Rattle.node_open.specs.View.{NodeView, HasPace, HasPlaces}
use Rattle.node_runs.specs.declared.heap_node.HeapNode.TheInside.{Inside}
use Rattle.node_runs.specs.declared.heap_node.Written.{Written}
use Rattle.node_runs.specs.declared.heap_node.Written.TheVariants.{Kept, Forgotten}

-- a node on which nothing happened
pub record IsNewNode (d : Description) (v : NodeView) : Type 0 where
  pub description : v.description ≡ d
  pub empty : IsEmpty v.log
  pub pace : HasPace v no_pace
  pub whole : v.gone ≡ nothing_gone

-- a node of a run has places for programs of its own
pub record KeepsPlaces (n : Inside) : Type 0 where
  pub places : HasPlaces n.node.value

-- no more is gone than was, if what is written is kept
abbrev pub StaysAsToldTo : Written → Gone → Gone → Type 0
StaysAsToldTo Kept old new = new ≡ old
StaysAsToldTo Forgotten old new = ⊤
