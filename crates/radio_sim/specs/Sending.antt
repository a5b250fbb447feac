-- The record of a packet that is sent, and the links of all nodes before the first one.
use Rattle.std.specs.Prelude.{◌≡◌, ℕ, ◌<◌, List, [], ◌++◌, slice_index_or}
use Rattle.arrayvec.specs.ArrayVec.{ArrayVec}
use Rattle.mate_journal.specs.declared.air.Air.TheVariants as air
use Rattle.mate_journal.specs.declared.air.Aired.{Aired}
use Rattle.script_steps.specs.declared.world.Link.{Link}
use Rattle.radio_sim.specs.declared.radio.TheConstants.{NODES}
use Rattle.radio_sim.specs.declared.wire.Wire.{Wire}
use Rattle.radio_sim.specs.declared.wire.Sending.{Sending}
use Rattle.radio_sim.specs.Wires.{leaving}

abbrev pub sent_record : Sending → ArrayVec ℕ → Aired
sent_record s bytes = record { stamp = s.at; node = s.node; air = air.Sent s.number bytes }

-- something was recorded after the old records
pub record IsFurther (old new : List Aired) : Type 0 where
  pub rest : List Aired
  pub is : new ≡ old ++ rest

-- each node has the links that leave it, before their first packet
abbrev pub AreLeaving : ℕ → List Link → List (List Wire) → Type 0
AreLeaving random links wires = (node : ℕ) → node < NODES → slice_index_or wires node [] ≡ leaving random 0 node 0 links
