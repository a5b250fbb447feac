-- What an event adds to what happened to its node's exchange.
use Rattle.std.proofs.Common.{◌≡◌, ℕ, List, [], ◌∷◌, refl, sym, ◌∙◌, ap, inl, inr, ◌⊎◌}
use Rattle.std.specs.Prelude.{Option, Some, None, slice_get}
use Rattle.std.specs.Option.{option_map_or}
use Rattle.mate_num.specs.declared.id.HandlerId.{HandlerId}
use Rattle.mate_journal.specs.Machine.{HeldProgram}
use Rattle.packet_codec.specs.declared.packet.Packet.{Packet}
use Rattle.packet_codec.specs.declared.packet.Packet.TheVariants.{Vector, Status, Fragment, App}
use Rattle.trickle_timer.specs.Intervals as trickle
use Rattle.trickle_timer.specs.declared.timer.Fire.{Fire}
use Rattle.trickle_timer.specs.declared.timer.Fire.TheVariants as fire
use Rattle.capsule_exchange.specs.Happenings.{Happening, Hears, Sends, Installs, Forgets, completed_by, next_slot}
use Rattle.world_rules.specs.Cause.{Cause}
use Rattle.world_rules.specs.Cause as event
use Rattle.world_rules.specs.World.{World, PlannedLine, Want, Inject, Post, Show, ResetNode, Noise, handlers}
use Rattle.world_rules.specs.Effect.{Node, NodeEffect, Installing, Resetting, no_effect, node_effect, of_line, collected, of_packet, of_fragment, of_point, of_slot}

abbrev installs : HeldProgram → Happening
installs p = Installs p.handler.0 p.version p.image.items

-- an injected program, a packet, a packet that completes a program, a reset, the pump, or nothing
pub data Happens (w : World) (before : List Happening) (c : Cause) (e : NodeEffect) : Type 0 where
  nothing : e.happened ≡ [] → Happens w before c e
  injected : (x : ℕ) (p : HeldProgram) → c ≡ event.Planned x → e.happened ≡ installs p ∷ [] → e.deed ≡ Installing p → Happens w before c e
  heard : (j number : ℕ) (packet : Packet) → c ≡ event.Deliver j number packet → e.happened ≡ Hears packet ∷ [] → completed_by packet before ≡ None → Happens w before c e
  completed : (j number : ℕ) (packet : Packet) (p : HeldProgram) → c ≡ event.Deliver j number packet → e.happened ≡ installs p ∷ Hears packet ∷ [] → e.deed ≡ Installing p
      → completed_by packet before ≡ Some p.handler → p ≡ collected p.handler (Hears packet ∷ before) → Happens w before c e
  forgot : e.happened ≡ Forgets ∷ [] → e.deed ≡ Resetting → Happens w before c e
  sent : (k slot : ℕ) → c ≡ event.Pump k → e.happened ≡ Sends slot ∷ [] → next_slot (handlers w) before ≡ Some slot → Happens w before c e

line : (w : World) (before : List Happening) (i : ℕ) (x : Want) → Happens w before (event.Planned i) (of_line x)
line w before i (Inject p) = injected i p refl refl refl
line w before i ResetNode = forgot refl refl
line w before i _ = nothing refl

planned : (w : World) (before : List Happening) (i : ℕ) (o : Option PlannedLine) → Happens w before (event.Planned i) (option_map_or (λ (l : PlannedLine). of_line l.what) o no_effect)
planned w before i None = nothing refl
planned w before i (Some l) = line w before i l.what

fragment : (w : World) (before : List Happening) (j number : ℕ) (packet : Packet) (o : Option HandlerId) → completed_by packet before ≡ o → Happens w before (event.Deliver j number packet) (of_fragment packet before o)
fragment w before j number packet None is = heard j number packet refl refl is
fragment w before j number packet (Some h) is = completed j number packet (collected h (Hears packet ∷ before)) refl refl refl is refl

packet_heard : (w : World) (before : List Happening) (j number : ℕ) (packet : Packet) → Happens w before (event.Deliver j number packet) (of_packet w before packet)
packet_heard w before j number (Vector versions) = heard j number (Vector versions) refl refl refl
packet_heard w before j number (Status g version missing) = heard j number (Status g version missing) refl refl refl
packet_heard w before j number (Fragment g version index count large bytes) =
    fragment w before j number (Fragment g version index count large bytes) (completed_by (Fragment g version index count large bytes) before) refl
packet_heard w before j number (App payload) = heard j number (App payload) refl refl refl

-- what is recorded first makes no difference
with_first : (w : World) (before : List Happening) (c : Cause) (e : NodeEffect) (first : _) → Happens w before c e → Happens w before c (record e { first = first })
with_first w before c e first (nothing is) = nothing is
with_first w before c e first (injected x p cause is deed) = injected x p cause is deed
with_first w before c e first (heard j number packet cause is by) = heard j number packet cause is by
with_first w before c e first (completed j number packet p cause is deed by same) = completed j number packet p cause is deed by same
with_first w before c e first (forgot is deed) = forgot is deed
with_first w before c e first (sent k slot cause is next) = sent k slot cause is next

point : (w : World) (n : Node) (c : Cause) (o : Fire) → Happens w n.exchange c (of_point w n o)
point w n c fire.Send = nothing refl
point w n c fire.Keep = nothing refl

pumped : (w : World) (before : List Happening) (k : ℕ) (o : Option ℕ) → next_slot (handlers w) before ≡ o → Happens w before (event.Pump k) (of_slot before o)
pumped w before k None is = nothing refl
pumped w before k (Some slot) is = sent k slot refl refl is

pub happens : (w : World) (n : Node) (c : Cause) → Happens w n.exchange c (node_effect w n c)
happens w n (event.Planned x) = planned w n.exchange x (slice_get w.plan x)
happens w n (event.Fire node) = point w n (event.Fire node) (trickle.at_point n.timer.set n.timer.running w.suppress)
happens w n (event.Pump node) = pumped w n.exchange node (next_slot (handlers w) n.exchange) refl
happens w n (event.Deliver link number packet) =
    with_first w n.exchange (event.Deliver link number packet) (of_packet w n.exchange packet) _ (packet_heard w n.exchange link number packet)
happens w n _ = nothing refl

-- ---- what installs

-- an injected program, or a completed one
abbrev pub Installer : Cause → List Happening → HeldProgram → Type 0
Installer c before p = ((x : ℕ) × (c ≡ event.Planned x)) ⊎ ((j : ℕ) × (number : ℕ) × (packet : Packet) × (c ≡ event.Deliver j number packet) × (completed_by packet before ≡ Some p.handler) × (p ≡ collected p.handler (Hears packet ∷ before)))

installer-line : (before : List Happening) (i : ℕ) (x : Want) (p : HeldProgram) → (of_line x).deed ≡ Installing p → Installer (event.Planned i) before p
installer-line before i x p is = inl (i, refl)

installer-fragment : (before : List Happening) (j number : ℕ) (packet : Packet) (o : Option HandlerId) (p : HeldProgram) → completed_by packet before ≡ o → (of_fragment packet before o).deed ≡ Installing p
    → Installer (event.Deliver j number packet) before p
installer-fragment before j number packet None p is deed = cc
installer-fragment before j number packet (Some h) p is deed =
    let same : collected h (Hears packet ∷ before) ≡ p = cc in
    inr (j, number, packet, refl, is ∙ ap (λ (x : HeldProgram). Some x.handler) same, sym same ∙ ap (λ (x : HeldProgram). collected x.handler (Hears packet ∷ before)) same)

installer-packet : (w : World) (before : List Happening) (j number : ℕ) (packet : Packet) (p : HeldProgram) → (of_packet w before packet).deed ≡ Installing p → Installer (event.Deliver j number packet) before p
installer-packet w before j number (Fragment g version index count large bytes) p is =
    installer-fragment before j number (Fragment g version index count large bytes) (completed_by (Fragment g version index count large bytes) before) p refl is
installer-packet w before j number _ p is = cc

point-deed : (w : World) (n : Node) (o : Fire) (p : HeldProgram) → (of_point w n o).deed ≡ Installing p → ⊥
point-deed w n fire.Send p is = cc
point-deed w n fire.Keep p is = cc

slot-deed : (before : List Happening) (o : Option ℕ) (p : HeldProgram) → (of_slot before o).deed ≡ Installing p → ⊥
slot-deed before None p is = cc
slot-deed before (Some slot) p is = cc

pub installer : (w : World) (n : Node) (c : Cause) (p : HeldProgram) → (node_effect w n c).deed ≡ Installing p → Installer c n.exchange p
installer w n (event.Planned x) p is = inl (x, refl)
installer w n (event.Fire node) p is = absurd (point-deed w n (trickle.at_point n.timer.set n.timer.running w.suppress) p is)
installer w n (event.Pump node) p is = absurd (slot-deed n.exchange (next_slot (handlers w) n.exchange) p is)
installer w n (event.Deliver link number packet) p is = installer-packet w n.exchange link number packet p is
installer w n _ p is = cc
