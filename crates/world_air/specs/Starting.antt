-- What is due and recorded before a world's first event.
use Rattle.std.specs.Prelude.{ℕ, suc, ◌+◌, List, [], ◌∷◌, ◌++◌}
use Rattle.mate_num.specs.declared.call.Stamp.{Stamp}
use Rattle.mate_num.specs.declared.id.HandlerId.{HandlerId}
use Rattle.vm_shape.specs.declared.description.Description.{Description}
use Rattle.vm_shape.specs.declared.handler.Handler.{Handler}
use Rattle.vm_shape.specs.declared.handler.HandlerKind.{HandlerKind}
use Rattle.vm_shape.specs.declared.handler.HandlerKind.TheVariants as kind
use Rattle.script_steps.specs.declared.world.Planned.{Planned}
use Rattle.event_queue.specs.declared.queue.Timed.{Timed}
use Rattle.radio_sim.specs.declared.shared_event.SharedEvent.{SharedEvent}
use Rattle.radio_sim.specs.declared.shared_event.SharedEvent.TheVariants as radio
use Rattle.trickle_timer.specs.Timer.{Timer}

-- the stamp of what is before the first event
abbrev pub beginning : Stamp
beginning = record { event = 0; time = 0 }

-- ---- what is due at first, as items of the radio's agenda

-- the lines of a script, from this number on
abbrev pub planned_items : ℕ → List Planned → List (Timed SharedEvent)
planned_items i [] = []
planned_items i (p ∷ ps) = record { time = p.time; item = radio.Planned i } ∷ planned_items (suc i) ps

-- the first period of a handler, if it is a timer's
abbrev pub period_item : ℕ → HandlerId → HandlerKind → List (Timed SharedEvent)
period_item node h kind.Plain = []
period_item node h (kind.Timer period) = record { time = period; item = radio.Period node h } ∷ []
period_item node h kind.Receive = []
period_item node h kind.Once = []

-- those of handlers, from this number on
abbrev pub first_periods : ℕ → ℕ → List Handler → List (Timed SharedEvent)
first_periods node i [] = []
first_periods node i (h ∷ hs) = period_item node (record { 0 = i }) h.kind ++ first_periods node (suc i) hs

-- the point and the end of a node's first interval, and its first periods
abbrev pub first_items : Description → ℕ → Timer → List (Timed SharedEvent)
first_items d node t =
    record { time = t.running.point; item = radio.Fire node }
    ∷ record { time = t.running.begin + t.running.length; item = radio.Expire node } ∷ [] ++ first_periods node 0 d.handlers.items
