-- Which event answers an invocation.
use Rattle.std.proofs.Common.{◌≡◌, ℕ, List, sym, inl, inr, ◌⊎◌}
use Rattle.std.specs.Prelude.{Option, Some, None, ℤ, slice_get}
use Rattle.std.specs.Option.{option_map_or}
use Rattle.std.proofs.lemmas.Bool.Decides.{eqb_tells}
use Rattle.mate_num.specs.declared.id.ContextId.{ContextId}
use Rattle.mate_num.specs.declared.id.HandlerId.{HandlerId}
use Rattle.packet_codec.specs.declared.packet.Packet.{Packet}
use Rattle.packet_codec.specs.declared.packet.Packet.TheVariants.{Vector, Status, Fragment, App}
use Rattle.trickle_timer.specs.Intervals as trickle
use Rattle.trickle_timer.specs.declared.timer.Fire.{Fire}
use Rattle.trickle_timer.specs.declared.timer.Fire.TheVariants as fire
use Rattle.capsule_exchange.specs.Happenings.{Happening, completed_by, next_slot}
use Rattle.world_rules.specs.Cause.{Cause}
use Rattle.world_rules.specs.Cause as event
use Rattle.world_rules.specs.World.{World, PlannedLine, Want, Inject, Post, Show, ResetNode, Noise, handlers}
use Rattle.world_rules.specs.Effect.{Node, Deed, no_effect, node_effect, of_line, of_packet, of_fragment, of_point, of_slot}
use Rattle.world_run_laws.proofs.Waits.{AnswersOther}

-- the event is the answer to an invocation, or answers none
abbrev pub Unanswered : Cause → Deed → ℕ → Type 0
Unanswered cause d n = AnswersOther d n ⊎ ((k : ℕ) × (c : ContextId) × (value : ℤ) × (cause ≡ event.Due k c n value))

by-line : (i n : ℕ) (x : Want) → Unanswered (event.Planned i) (of_line x).deed n
by-line i n (Inject p) = inl tt
by-line i n _ = inl tt

by-planned : (i n : ℕ) (o : Option PlannedLine) → Unanswered (event.Planned i) (option_map_or (λ (l : PlannedLine). of_line l.what) o no_effect).deed n
by-planned i n None = inl tt
by-planned i n (Some l) = by-line i n l.what

by-point : (w : World) (x : Node) (k n : ℕ) (o : Fire) → Unanswered (event.Fire k) (of_point w x o).deed n
by-point w x k n fire.Send = inl tt
by-point w x k n fire.Keep = inl tt

by-slot : (hs : List Happening) (k n : ℕ) (o : Option ℕ) → Unanswered (event.Pump k) (of_slot hs o).deed n
by-slot hs k n None = inl tt
by-slot hs k n (Some slot) = inl tt

by-fragment : (cause : Cause) (packet : Packet) (hs : List Happening) (n : ℕ) (o : Option HandlerId) → Unanswered cause (of_fragment packet hs o).deed n
by-fragment cause packet hs n None = inl tt
by-fragment cause packet hs n (Some h) = inl tt

by-packet : (w : World) (cause : Cause) (hs : List Happening) (n : ℕ) (packet : Packet) → Unanswered cause (of_packet w hs packet).deed n
by-packet w cause hs n (Fragment g version index count large bytes) =
    by-fragment cause (Fragment g version index count large bytes) hs n (completed_by (Fragment g version index count large bytes) hs)
by-packet w cause hs n _ = inl tt

pub answers-cause : (w : World) (x : Node) (n : ℕ) (c : Cause) → Unanswered c (node_effect w x c).deed n
answers-cause w x n (event.Planned line) = by-planned line n (slice_get w.plan line)
answers-cause w x n (event.Period k h) = inl tt
answers-cause w x n (event.Fire k) = by-point w x k n (trickle.at_point x.timer.set x.timer.running w.suppress)
answers-cause w x n (event.Expire k) = inl tt
answers-cause w x n (event.Pump k) = by-slot x.exchange k n (next_slot (handlers w) x.exchange)
answers-cause w x n (event.Due k c inv value) = elim (eqb_tells n inv) [ inl same ↦ inr (k, c, value, λ i. event.Due k c (sym same.1 i) value) | inr other ↦ inl other.1 ]
answers-cause w x n (event.Deliver link number packet) = by-packet w (event.Deliver link number packet) x.exchange n packet
