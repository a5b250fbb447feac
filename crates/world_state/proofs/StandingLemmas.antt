-- What is due on the radio by the rules, and what the radio stands for.
use Rattle.std.proofs.Common.{◌≡◌, ℕ, Bool, true, false, List, [], ◌∷◌, map, refl, ◌∙◌, ap}
use Rattle.std.specs.Prelude.{◌==◌, if◌then◌else◌, slice_index_or, Some, None}
use Rattle.std.specs.List.{cons_option}
use Rattle.mate_journal.specs.declared.air.Aired.{Aired}
use Rattle.event_queue.specs.declared.queue.Timed.{Timed}
use Rattle.event_queue.specs.Agenda.{due_at}
use Rattle.radio_sim.specs.declared.shared_event.SharedEvent.{SharedEvent}
use Rattle.radio_sim.specs.declared.wire.Wire.{Wire}
use Rattle.radio_sim.specs.Radio.{Ether}
use Rattle.world_rules.specs.World.{World}
use Rattle.world_rules.specs.State.{Scheduled, of_time}
use Rattle.world_air.specs.Air.{radio_event, timed_events, IsAirOf}
use Rattle.world_air.specs.Changes.{AddsToAir}

-- what comes at a time, of what is scheduled
pub due-timed : (w : World) (t : ℕ) (xs : List Scheduled) → due_at t (timed_events w xs) ≡ map (radio_event w) (of_time t xs)
due-timed w t [] = refl
due-timed w t (x ∷ xs) = by (x.time == t) (due-timed w t xs) where
  by : (b : Bool) → due_at t (timed_events w xs) ≡ map (radio_event w) (of_time t xs)
      → cons_option (if b then Some (radio_event w x.cause) else None) (due_at t (timed_events w xs)) ≡ map (radio_event w) (cons_option (if b then Some x.cause else None) (of_time t xs))
  by true rest = ap (λ (es : List SharedEvent). radio_event w x.cause ∷ es) rest
  by false rest = rest

-- it stands for the same senders where nothing is sent
pub stands-same : (w : World) (senders : List ℕ) (old new : Ether) → new.sent ≡ old.sent → new.wires ≡ old.wires → new.delay ≡ old.delay → IsAirOf w senders old → IsAirOf w senders new
stands-same w senders old new sent wires delay is = record {
  stands = record {
    sent = sent ∙ is.stands.sent;
    wires = λ node low. ap (λ (vs : List (List Wire)). slice_index_or vs node []) wires ∙ is.stands.wires node low;
  };
  delay = delay ∙ is.delay;
}

pub stands-added : (w : World) (senders : List ℕ) (old new : Ether) (airs : List Aired) (items : List (Timed SharedEvent)) → AddsToAir old new airs items → IsAirOf w senders old → IsAirOf w senders new
stands-added w senders old new airs items a is = stands-same w senders old new a.sent a.wires a.delay is
