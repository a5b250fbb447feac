-- What the nodes and the radio of a world recorded is in the ranges of its types.
use Rattle.std.specs.Prelude.{◌≤◌, List, length, All}
use Rattle.mate_journal.specs.Ranges.{HasAiredRanges}
use Rattle.journal_laws.specs.InRange.{IsInRange}
use Rattle.world_state.specs.declared.mote.Mote.{Mote}
use Rattle.world_state.specs.declared.simulation.Simulation.{Simulation}

-- what a node recorded
abbrev pub IsMoteInRange : Mote → Type 0
IsMoteInRange m = IsInRange m.node.log m.node.gone

-- what each of them recorded
abbrev pub AreMotesInRange : List Mote → Type 0
AreMotesInRange motes = All IsMoteInRange motes

-- that, and what happened on the air; and no more is gone than there was
pub record AreInRange (s : Simulation) : Type 0 where
  pub motes : AreMotesInRange s.motes.items
  pub air : All HasAiredRanges s.radio.air
  pub gone : s.radio.gone ≤ length s.radio.air
