-- An event on one node, by the rules of a world: how a mote agrees with the node, what an event may be, and
-- what its own part leaves.
use Rattle.std.specs.Prelude.{◌≡◌, ℕ, zero, suc, ◌+◌, ◌<◌, Bool, true, false, not, ◌&&◌, List, [], ◌∷◌, ◌++◌, length, slice_get}
use Rattle.mate_num.specs.declared.bounds.TheConstants.{CONTEXTS_MAX}
use Rattle.mate_num.specs.declared.id.HandlerId.{HandlerId}
use Rattle.mate_num.specs.declared.call.Stamp.{Stamp}
use Rattle.mate_journal.specs.Machine.{HeldProgram}
use Rattle.mate_journal.specs.Pace.{Pace}
use Rattle.mate_journal.specs.declared.program.Program.{Program}
use Rattle.node_open.specs.View.{NodeView, HasPace, Tells}
use Rattle.node_open.specs.Calls.{Pacing}
use Rattle.trickle_timer.specs.Timer.{Timer}
use Rattle.capsule_exchange.specs.Happenings.{Happening, IsOpen}
use Rattle.capsule_exchange.specs.Knowledge.{Knowledge, knowledge}
use Rattle.packet_codec.specs.declared.packet.Packet.{Packet}
use Rattle.packet_codec.specs.declared.packet.Packet.TheVariants.{Vector, Status, Fragment, App}
use Rattle.vm_shape.specs.declared.description.Description.{Description}
use Rattle.script_steps.specs.declared.world.World.{World as Script}
use Rattle.radio_sim.specs.declared.shared_event.SharedEvent.{SharedEvent}
use Rattle.radio_sim.specs.declared.shared_event.SharedEvent.TheVariants as radio
use Rattle.world_rules.specs.Cause.{Cause}
use Rattle.world_rules.specs.World.{World, handlers, handler_id, is_receiver}
use Rattle.world_rules.specs.Effect.{Node, NodeEffect, Installing, node_effect, resets}
use Rattle.world_rules.specs.Run.{DeedMakes}
use Rattle.world_rules.specs.State.{timer_after, still_pumps}
use Rattle.world_air.specs.Calls.{AreCallsOf}
use Rattle.world_run_laws.specs.Coming.{code_world, IsTaken}
use Rattle.world_state.specs.declared.effect.Effect.{Effect}
use Rattle.world_state.specs.declared.mote.Mote.{Mote}
use Rattle.world_state.specs.Standing.{IsMoteOf, IsEffectBy, IsEffectOf}

-- ---- what an event finds

-- an event of the radio names a line of the script, a handler or a context of the machine, or a link; an interval ends at its end
abbrev pub IsFitEvent : Description → Script → Timer → ℕ → SharedEvent → Type 0
IsFitEvent d script t time (radio.Planned line) = line < length script.events
IsFitEvent d script t time (radio.Period node h) = h.0 < length d.handlers.items
IsFitEvent d script t time (radio.Fire node) = Unit {0}
IsFitEvent d script t time (radio.Expire node) = time ≡ t.running.begin + t.running.length
IsFitEvent d script t time (radio.Pump node) = Unit {0}
IsFitEvent d script t time (radio.Due node c inv value) = c.0 < CONTEXTS_MAX
IsFitEvent d script t time (radio.Deliver link number bytes) = link < length script.links

-- nothing complete waits in the exchange to be installed
pub record IsOpenExchange (k : Knowledge) : Type 0 where
  pub handlers : ℕ
  pub happened : List Happening
  pub known : k ≡ knowledge handlers happened
  pub is_open : IsOpen handlers happened

-- ---- what its own part leaves

-- the node records what the event's deed makes, and its timer, its exchange and its pump are those after the event
pub record Handled (w : World) (k : ℕ) (n : Node) (c : Cause) (at : Stamp) (old new : Mote) (r : Effect) : Type 0 where
  pub tells : Tells old.node new.node at (Pacing (DeedMakes w.machine (node_effect w n c).deed n.reading))
  pub timer : new.timer ≡ timer_after n (node_effect w n c) at.time
  pub exchange : new.exchange ≡ knowledge (handlers w) ((node_effect w n c).happened ++ n.exchange)
  pub pumps : new.pumps ≡ still_pumps c (node_effect w n c) n
  pub calls : AreCallsOf w k n.called new.calls
  pub effect : IsEffectOf n c w r

-- ---- by the rules' effect, whatever the node is that the mote agrees with

-- the program that the effect installs, if it installs one, is taken
abbrev pub TakesProgram : World → Node → NodeEffect → Type 0
TakesProgram w n e = (p : HeldProgram) → e.deed ≡ Installing p → IsTaken w n p

-- the mote does what the effect says, and no pump that was due came
pub record DoesEffect (w : World) (n : Node) (e : NodeEffect) (at : Stamp) (old new : Mote) (r : Effect) : Type 0 where
  pub tells : Tells old.node new.node at (Pacing (DeedMakes w.machine e.deed n.reading))
  pub timer : new.timer ≡ timer_after n e at.time
  pub exchange : new.exchange ≡ knowledge (handlers w) (e.happened ++ n.exchange)
  pub pumps : new.pumps ≡ (n.pumps && not (resets e.deed))
  pub calls : new.calls ≡ old.calls
  pub effect : IsEffectBy n e r

abbrev pub DoesBy : Stamp → (World → Node → NodeEffect) → Mote → Mote → Effect → Type 0
DoesBy at effect old new r =
    (d : Description) (script : Script) (ps : List Program) (k : ℕ) (n : Node) → IsMoteOf (code_world d script ps) k n old
    → TakesProgram (code_world d script ps) n (effect (code_world d script ps) n)
    → DoesEffect (code_world d script ps) n (effect (code_world d script ps) n) at old new r

-- the node has a pace
pub record IsPaced (v : NodeView) : Type 0 where
  pub pace : Pace
  pub has : HasPace v pace

-- the packet is a fragment of this version
abbrev pub IsFragmentOf : ℕ → Packet → Type 0
IsFragmentOf told (Vector versions) = ⊥
IsFragmentOf told (Status g version missing) = ⊥
IsFragmentOf told (Fragment g version index count large bytes) = version ≡ told
IsFragmentOf told (App payload) = ⊥

-- ---- the handlers that messages go to

abbrev pub if_receives : Bool → ℕ → List HandlerId
if_receives false h = []
if_receives true h = handler_id h ∷ []

-- those of the first n handlers
abbrev pub receivers_below : Description → ℕ → List HandlerId
receivers_below d zero = []
receivers_below d (suc n) = receivers_below d n ++ if_receives (is_receiver (slice_get d.handlers.items n)) n
