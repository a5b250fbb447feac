-- The parts of a node at its start.
use Rattle.std.specs.Prelude.{◌≡◌}
use Rattle.vm_shape.specs.declared.description.Description.{Description}
use Rattle.mate_journal.specs.Log.{IsEmpty}
use Rattle.mate_journal.specs.OpenLog.{nothing_gone}
use Rattle.node_state.specs.At.{AreIdle}
use Rattle.node_state.specs.Starting.{Rests}
use Rattle.node_state.specs.declared.parts.Parts.{Parts}

-- they rest, and nothing was recorded
pub record AreNewParts (d : Description) (s : Parts) : Type 0 where
  pub rests : Rests d s
  pub empty : IsEmpty s.log.all
  pub gone : s.log.gone ≡ nothing_gone
  pub idle : AreIdle s.contexts
