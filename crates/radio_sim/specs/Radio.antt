-- The radio of a world: what waits, what happened on the air, and the links with their words; a transmission.
use Rattle.std.specs.Prelude.{◌≡◌, ℕ, ◌+◌, ◌<◌, ◌≤◌, ◌==◌, List, [], ◌∷◌, ◌++◌, length, map, count_by, slice_index_or, slice_set}
use Rattle.arrayvec.specs.ArrayVec.{ArrayVec}
use Rattle.event_queue.specs.Agenda.{Agenda, scheduled_all}
use Rattle.mate_journal.specs.declared.air.Aired.{Aired}
use Rattle.script_steps.specs.declared.world.World.{World}
use Rattle.vm_shape.specs.declared.description.Description.{Description}
use Rattle.radio_sim.specs.declared.radio.TheConstants.{NODES}
use Rattle.radio_sim.specs.declared.shared_event.SharedEvent.{SharedEvent}
use Rattle.radio_sim.specs.declared.waiting.Waiting.{Waiting}
use Rattle.radio_sim.specs.declared.wire.Wire.{Wire}
use Rattle.radio_sim.specs.declared.wire.Sending.{Sending}
use Rattle.radio_sim.specs.Waiting.{IsOnTime}
use Rattle.radio_sim.specs.Wires.{leaving, turned_wire, losts, delivered}
use Rattle.radio_sim.specs.Sending.{sent_record}

-- what waits, what happened on the air, how much of that is gone, how many packets were sent, how long each is on its way in ms, and the
-- links that leave each node
pub record Ether : Type 0 where
  pub agenda : Agenda SharedEvent
  pub air : List Aired
  pub gone : ℕ
  pub sent : ℕ
  pub delay : ℕ
  pub wires : List (List Wire)

-- the links that leave a node
abbrev pub wires_of : Ether → ℕ → List Wire
wires_of e node = slice_index_or e.wires node []

-- a transmission: its record is first, then those of its losses; each link goes on to its next word
abbrev pub transmitted : Ether → Sending → ArrayVec ℕ → Ether
transmitted e s bytes = record {
  agenda = scheduled_all e.agenda (s.at.time + e.delay) (delivered s bytes (wires_of e s.node));
  air = e.air ++ sent_record s bytes ∷ [] ++ losts s (wires_of e s.node);
  gone = e.gone;
  sent = e.sent + 1;
  delay = e.delay;
  wires = slice_set e.wires s.node (map turned_wire (wires_of e s.node));
}

-- how many packets a node sent
abbrev pub packets : ℕ → List ℕ → ℕ
packets node senders = count_by (λ s. s == node) senders

-- the radio of a world in which these nodes sent, in order: over a link, packet number n of its node, from 0, is decided by
-- word number n of the link's stream
pub record IsEtherOf (w : World) (senders : List ℕ) (e : Ether) : Type 0 where
  pub sent : e.sent ≡ length senders
  pub wires : (node : ℕ) → node < NODES → wires_of e node ≡ leaving w.random (packets node senders) node 0 w.links

-- nothing waits and nothing was sent
pub record StartsRadio (w : World) (d : Description) (e : Ether) : Type 0 where
  pub agenda : e.agenda ≡ record { until = w.until; now = 0; items = [] }
  pub air : e.air ≡ []
  pub gone : e.gone ≡ 0
  pub delay : e.delay ≡ d.radio.delay
  pub stands : IsEtherOf w [] e

-- what the radio keeps, with the records that are gone and those that are at hand
pub record IsRightRadio (queue : Agenda Waiting) (came : ℕ) (past : List Aired) (gone : ℕ) (airs : List Aired) (sent delay : ℕ)
    (wires : List (List Wire)) : Type 0 where
  pub now_is : came ≡ queue.now
  pub ahead : IsOnTime queue
  pub gone_is : gone ≡ length past
  pub gone_few : gone < 4000000000
  pub counted : sent ≤ length (past ++ airs)
  pub near : delay ≤ 10000
  pub nodes : length wires ≡ NODES
