-- The nodes of a world before its first event.
use Rattle.std.specs.Prelude.{◌≡◌, ℕ, ◌<◌, List, [], length, map, slice_get, IsSomeAnd, All}
use Rattle.std.specs.List.{flat_map, range_with_len}
use Rattle.mate_journal.specs.declared.air.Air.TheVariants as air
use Rattle.mate_journal.specs.Log.{IsEmpty}
use Rattle.mate_journal.specs.OpenLog.{nothing_gone}
use Rattle.mate_journal.specs.declared.air.Aired.{Aired}
use Rattle.radio_sim.specs.Radio.{Ether}
use Rattle.world_rules.specs.World.{World}
use Rattle.world_rules.specs.State.{first_of}
use Rattle.world_air.specs.Air.{aired_at, timed_events}
use Rattle.world_air.specs.Changes.{AddsToAir}
use Rattle.world_air.specs.Starting.{beginning}
use Rattle.world_state.specs.StandingAfter.{IsMoteAfter}
use Rattle.world_state.specs.declared.mote.Mote.{Mote}

-- the first interval of a node
abbrev pub first_air : World → ℕ → Aired
first_air w node = aired_at beginning node (air.Interval w.description.trickle.imin)

-- the first nodes began: each has its interval recorded and its first events due
pub record HaveBegun (w : World) (n : ℕ) (old new : Ether) (motes : List Mote) : Type 0 where
  pub adds : AddsToAir old new (map (first_air w) (range_with_len 0 n)) (timed_events w (flat_map (first_of w) (range_with_len 0 n)))
  pub count : length motes ≡ n
  pub each : (k : ℕ) → k < n → IsSomeAnd (slice_get motes k) (IsMoteAfter w [] k)
  pub whole : All (λ (m : Mote). m.node.gone ≡ nothing_gone) motes
  pub empty : All (λ (m : Mote). IsEmpty m.node.log) motes
