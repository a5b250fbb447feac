-- What the air has of one call, one interval and one pump.
use Rattle.std.proofs.Common.{◌≡◌, ◌<◌, ℕ, true, false, List, [], ◌∷◌, refl, ◌∙◌, subst, arith}
use Rattle.std.specs.Prelude.{ℤ}
use Rattle.std.specs.List.{filter}
use Rattle.std.proofs.lemmas.List.{append-nil}
use Rattle.std.proofs.lemmas.Bool.{eq-eqb, ne_eqb}
use Rattle.arrayvec.specs.ArrayVec.{ArrayVec}
use Rattle.mate_num.specs.declared.id.FunId.{FunId}
use Rattle.mate_num.specs.declared.call.Stamp.{Stamp}
use Rattle.vm_shape.specs.declared.function.FunKind.TheVariants as kind
use Rattle.mate_journal.specs.Journal.{Asked}
use Rattle.packet_codec.specs.declared.packet.Packet.{Packet}
use Rattle.event_queue.specs.Agenda.{due_at}
use Rattle.radio_sim.specs.Radio.{Ether}
use Rattle.radio_sim.specs.declared.shared_event.SharedEvent.TheVariants as event
use Rattle.world_rules.specs.World.{World, called_kind}
use Rattle.world_rules.specs.State.{messages}
use Rattle.world_air.specs.Air.{SendsAll}
use Rattle.world_air.specs.Changes.{stays}

no_message : (w : World) (n : ℕ) (f : FunId) (args : ArrayVec ℤ) → called_kind w f ≡ kind.Sense → messages w (Asked n f args ∷ []) ≡ []
no_message w n f args e = rw e refl

pub nothing_sent : (w : World) (node : ℕ) (at : Stamp) (senders : List ℕ) (n : ℕ) (f : FunId) (args : ArrayVec ℤ) (old new : Ether) → called_kind w f ≡ kind.Sense
    → SendsAll w node at senders (messages w (Asked n f args ∷ [])) old new → new.air ≡ old.air
nothing_sent w node at senders n f args old new e sends =
    let none : SendsAll w node at senders [] old new = subst (λ (ps : List Packet). SendsAll w node at senders ps old new) (no_message w n f args e) sends in
    none.grows.air ∙ append-nil old.air

pub point_first : (node point end_ : ℕ) → point < end_
    → due_at point (record { time = point; item = event.Fire node } ∷ record { time = end_; item = event.Expire node } ∷ []) ≡ event.Fire node ∷ []
point_first node point end_ later = rw (eq-eqb point point refl, ne_eqb end_ point (λ same. omega (arith, later, same))) refl

pub pump_gone : (node : ℕ) → filter (stays node (record { interval = false; pump = true; answers = false })) (event.Pump node ∷ []) ≡ []
pump_gone node = rw (eq-eqb node node refl) refl
