-- What an event changes on a radio, apart from packets.
use Rattle.std.specs.Prelude.{◌≡◌, ℕ, ◌<◌, Bool, true, not, ◌&&◌, ◌==◌, if◌then◌else◌, List, [], ◌∷◌, Option, Some, None}
use Rattle.std.specs.List.{filter}
use Rattle.mate_num.specs.Lists.{Each}
use Rattle.mate_journal.specs.declared.air.Air.{Air}
use Rattle.mate_journal.specs.declared.air.Air.TheVariants as air
use Rattle.mate_journal.specs.declared.air.Aired.{Aired}
use Rattle.event_queue.specs.declared.queue.Timed.{Timed}
use Rattle.event_queue.specs.Agenda.{due_at, is_other}
use Rattle.radio_sim.specs.Events.{group_of}
use Rattle.radio_sim.specs.declared.shared_event.SharedEvent.{SharedEvent}
use Rattle.radio_sim.specs.declared.shared_event.SharedEvent.TheVariants as radio
use Rattle.radio_sim.specs.Radio.{Ether}
use Rattle.world_air.specs.Air.{EtherGrows}
use Rattle.world_air.specs.declared.changes.Ends.{Ends}

-- more is recorded and scheduled, and nothing is sent
pub record AddsToAir (old new : Ether) (airs : List Aired) (items : List (Timed SharedEvent)) : Type 0 where
  pub grows : EtherGrows old new airs items
  pub sent : new.sent ≡ old.sent
  pub wires : new.wires ≡ old.wires
  pub delay : new.delay ≡ old.delay

-- the interval that begins, if one does
abbrev pub if_begins : Option ℕ → List Air
if_begins None = []
if_begins (Some length) = air.Interval length ∷ []

-- the items that are left if those of a group are cancelled, or nothing is
abbrev pub left_items : Bool → ℕ → List (Timed SharedEvent) → List (Timed SharedEvent)
left_items ends g xs = if ends then filter (is_other group_of g) xs else xs

-- the event doesn't end
abbrev pub stays : ℕ → Ends → SharedEvent → Bool
stays node ends (radio.Planned line) = true
stays node ends (radio.Period k h) = true
stays node ends (radio.Fire k) = not (ends.interval && k == node)
stays node ends (radio.Expire k) = not (ends.interval && k == node)
stays node ends (radio.Pump k) = not (ends.pump && k == node)
stays node ends (radio.Due k c inv value) = not (ends.answers && k == node)
stays node ends (radio.Deliver link number bytes) = true

-- the numbers of nodes are in their type's range
abbrev pub IsNear : SharedEvent → Type 0
IsNear (radio.Planned line) = Unit {0}
IsNear (radio.Period k h) = Unit {0}
IsNear (radio.Fire k) = k < 256
IsNear (radio.Expire k) = k < 256
IsNear (radio.Pump k) = k < 256
IsNear (radio.Due k c inv value) = k < 256
IsNear (radio.Deliver link number bytes) = Unit {0}

abbrev pub AreNear : List SharedEvent → Type 0
AreNear = Each IsNear

-- what ends is no more due, and nothing else changes
pub record CancelsAll (node : ℕ) (ends : Ends) (old new : Ether) : Type 0 where
  pub due : (t : ℕ) → AreNear (due_at t old.agenda.items) → due_at t new.agenda.items ≡ filter (stays node ends) (due_at t old.agenda.items)
  pub air : new.air ≡ old.air
  pub gone : new.gone ≡ old.gone
  pub until : new.agenda.until ≡ old.agenda.until
  pub now : new.agenda.now ≡ old.agenda.now
  pub sent : new.sent ≡ old.sent
  pub wires : new.wires ≡ old.wires
  pub delay : new.delay ≡ old.delay
