-- The events of a radio: how they are kept, and which are cancelled together.
use Rattle.std.specs.Prelude.{ℕ, ◌+◌, Option, Some, None}
use Rattle.std.specs.Option.{option_map}
use Rattle.radio_sim.specs.declared.event.Event.{Event}
use Rattle.radio_sim.specs.declared.event.Event.TheVariants as event
use Rattle.radio_sim.specs.declared.shared_event.SharedEvent.{SharedEvent}
use Rattle.radio_sim.specs.declared.shared_event.SharedEvent.TheVariants as kept
use Rattle.radio_sim.specs.declared.event.Cancel.{Cancel}
use Rattle.radio_sim.specs.declared.event.Cancel.TheVariants as cancel

-- the event, as it is kept
abbrev pub shared : Event → SharedEvent
shared (event.Planned line) = kept.Planned line
shared (event.Period node handler) = kept.Period node handler
shared (event.Fire node) = kept.Fire node
shared (event.Expire node) = kept.Expire node
shared (event.Pump node) = kept.Pump node
shared (event.Due node ctx inv value) = kept.Due node ctx inv value
shared (event.Deliver link number bytes) = kept.Deliver link number bytes

-- the cancel that takes an event
abbrev pub cancelled_by : SharedEvent → Option Cancel
cancelled_by (kept.Planned line) = None
cancelled_by (kept.Period node handler) = None
cancelled_by (kept.Fire node) = Some (cancel.Timer node)
cancelled_by (kept.Expire node) = Some (cancel.Timer node)
cancelled_by (kept.Pump node) = Some (cancel.Pump node)
cancelled_by (kept.Due node ctx inv value) = Some (cancel.Answers node)
cancelled_by (kept.Deliver link number bytes) = None

-- each cancel has its own number
abbrev pub cancel_number : Cancel → ℕ
cancel_number (cancel.Timer node) = node
cancel_number (cancel.Pump node) = 256 + node
cancel_number (cancel.Answers node) = 512 + node

abbrev pub group_of : SharedEvent → Option ℕ
group_of e = option_map cancel_number (cancelled_by e)
