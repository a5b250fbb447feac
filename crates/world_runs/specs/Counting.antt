-- The run of a world that is counted as its events end.
use Rattle.std.specs.Prelude.{◌≡◌, ◌≢◌, ◌+◌, ◌*◌, ◌^◌, ℕ, List, length, take, slice_get, Some, All}
use Rattle.report_writer.specs.Tally.{IsLogTally, IsAirTally, IsUpTo, IsAirTallyUpTo}
use Rattle.report_writer.specs.declared.summary.RunTally.{RunTally}
use Rattle.report_writer.specs.declared.tally.LogTally.{LogTally}
use Rattle.world_rules.specs.World.{World}
use Rattle.world_state.specs.declared.mote.Mote.{Mote}
use Rattle.world_state.specs.Ranging.{AreInRange}
use Rattle.world_state.specs.Running.{StandsAfter}
use Rattle.world_state.specs.Telling.{LogsAreKept}
use Rattle.world_state.specs.declared.simulation.Simulation.{Simulation}

-- all that the node recorded was counted, for n handlers; or all but what it has at hand
abbrev pub IsCounted : ℕ → LogTally → Mote → Type 0
IsCounted n t m = IsLogTally n t m.node.log.entries

abbrev pub IsCountedBehind : ℕ → LogTally → Mote → Type 0
IsCountedBehind n t m = IsLogTally n t (take m.node.gone.entries m.node.log.entries)

-- what the node has at hand was counted
pub record CountsHand (old new : LogTally) (m : Mote) : Type 0 where
  pub tallies : (n : ℕ) → IsCountedBehind n old m → IsCounted n new m
  pub up : (n : ℕ) → IsUpTo n old → IsUpTo (n + 2 ^ 57) new

-- so it is of each node
pub record AreCounted (Is : LogTally → Mote → Type 0) (ts : List LogTally) (motes : List Mote) : Type 0 where
  pub count : length ts ≡ length motes
  pub each : (k : ℕ) (t : LogTally) (m : Mote) → slice_get ts k ≡ Some t → slice_get motes k ≡ Some m → Is t m

-- all that is at hand was counted
pub record IsTallied (n : ℕ) (t : RunTally) (s : Simulation) : Type 0 where
  pub nodes : AreCounted (IsCounted n) t.nodes.items s.motes.items
  pub air : IsAirTally t.air s.radio.air

-- all but what this node and the radio have at hand
pub record IsTalliedBefore (n : ℕ) (t : RunTally) (s : Simulation) (node : ℕ) : Type 0 where
  pub count : length t.nodes.items ≡ length s.motes.items
  pub own : (a : LogTally) (m : Mote) → slice_get t.nodes.items node ≡ Some a → slice_get s.motes.items node ≡ Some m
      → IsCountedBehind n a m
  pub others : (k : ℕ) (a : LogTally) (m : Mote) → k ≢ node → slice_get t.nodes.items k ≡ Some a → slice_get s.motes.items k ≡ Some m
      → IsCounted n a m
  pub air : IsAirTally t.air (take s.radio.gone s.radio.air)

-- 64 bits count their sum
pub record IsSmallTally (t : RunTally) : Type 0 where
  pub nodes : All (IsUpTo (3 * 2 ^ 56)) t.nodes.items
  pub air : IsAirTallyUpTo (3 * 2 ^ 56) t.air

-- so it is when what this node and the radio have at hand is counted, too
pub record MayCount (t : RunTally) (node : ℕ) : Type 0 where
  pub small : IsSmallTally t
  pub own : (a : LogTally) → slice_get t.nodes.items node ≡ Some a → IsUpTo (2 ^ 56) a
  pub air : IsAirTallyUpTo (2 ^ 56) t.air

-- a world before its first event, whose start was counted
pub record StartsCounted (n : ℕ) (w : World) (s : Simulation) (t : RunTally) : Type 0 where
  pub stands : StandsAfter w 0 s
  pub kept : LogsAreKept s.motes.items
  pub ranges : AreInRange s
  pub counted : IsTallied n t s
  pub small : IsSmallTally t
