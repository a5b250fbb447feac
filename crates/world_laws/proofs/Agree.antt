-- The journal and the exchange agree on what is held.
use Rattle.std.proofs.Common.{◌≡◌, ◌≢◌, ◌+◌, ℕ, true, false, List, [], ◌∷◌, ◌++◌, Option, Some, None, refl, sym, ◌∙◌, ap, subst, inl, inr}
use Rattle.std.specs.Prelude.{slice_get, ◌==◌, if◌then◌else◌, ℤ}
use Rattle.std.specs.Option.{option_map_or}
use Rattle.std.proofs.lemmas.Bool.Decides.{eqb_tells}
use Rattle.arrayvec.specs.ArrayVec.{ArrayVec}
use Rattle.mate_num.specs.declared.id.HandlerId.{HandlerId}
use Rattle.mate_num.proofs.ListLemmas.{each-append}
use Rattle.mate_journal.specs.Machine.{Machine, HeldProgram}
use Rattle.mate_journal.specs.Journal.{JournalEntry, Installed, Seen, NodeState, next_state, state_after_entries, held}
use Rattle.mate_journal.specs.Pace.{Pace, paced_all}
use Rattle.mate_journal.specs.Turns.{Settles}
use Rattle.mate_journal.proofs.JournalLemmas.{heard_told-append}
use Rattle.journal_laws.proofs.Settling.{settles-of_turns}
use Rattle.journal_laws.proofs.Plain.{IsPlain, ArePlain, turns-plain, occasion-plain, installs-plain, NoneInstall, plains-none, same-installed}
use Rattle.packet_codec.specs.declared.packet.Packet.{Packet}
use Rattle.packet_codec.specs.declared.packet.Packet.TheVariants.{Fragment}
use Rattle.trickle_timer.specs.Intervals as trickle
use Rattle.trickle_timer.specs.declared.timer.Fire.{Fire}
use Rattle.trickle_timer.specs.declared.timer.Fire.TheVariants as fire
use Rattle.capsule_exchange.specs.Happenings.{Happening, held_version, completed_by, next_slot}
use Rattle.world_rules.specs.Cause.{Cause}
use Rattle.world_rules.specs.Cause as event
use Rattle.world_rules.specs.World.{World, PlannedLine, Want, Inject, handlers}
use Rattle.world_rules.specs.Effect.{Node, NodeEffect, Deed, Nothing, Installing, Posting, Answering, Showing, Resetting, no_effect, node_effect, of_line, of_packet, of_fragment, of_point, of_slot, event_node}
use Rattle.world_rules.specs.State.{node_at, effect_at, state}
use Rattle.world_rules.specs.Run.{FirstThen, Occasions, DeedMakes}
use Rattle.world_laws.specs.Held.{HeldAgrees}
use Rattle.world_laws.proofs.Points.{nodes-here, nodes-other}

-- ---- what an event installs

pub occasions-plain : (m : Machine) (payload : ArrayVec ℤ) (hs : List HandlerId) (r : NodeState) (p : Pace) (told : List JournalEntry) → Occasions m payload hs r p told → ArePlain told
occasions-plain m payload [] r p told is = subst ArePlain (sym is) tt
occasions-plain m payload (h ∷ hs) r p told both = subst ArePlain (sym both.made)
    (each-append IsPlain both.front both.rest (occasion-plain m r h payload both.front both.by_first) (occasions-plain m payload hs (state_after_entries m r both.front) (paced_all p both.front) both.rest both.by_second))

pub settles-none : (m : Machine) (r : NodeState) (p : Pace) (told : List JournalEntry) (q : Pace) → Settles m r p told q → NoneInstall told
settles-none m r p told q is = plains-none told (turns-plain told (settles-of_turns m r p told q is))

-- behind its entry an install makes an occasion at most
pub installs-rest : (m : Machine) (r : NodeState) (q : Pace) (p : HeldProgram) (told : List JournalEntry) → (is : DeedMakes m (Installing p) r q told) → NoneInstall is.rest
installs-rest m r q p told is = plains-none is.rest (installs-plain m r q p told is)

-- what a deed but an install makes installs nothing
abbrev MakesNone : Deed → List JournalEntry → Type 0
MakesNone (Installing p) told = Unit {0}
MakesNone _ told = NoneInstall told

pub deed-none : (m : Machine) (r : NodeState) (q : Pace) (d : Deed) (told : List JournalEntry) → DeedMakes m d r q told → MakesNone d told
deed-none m r q Nothing told is = subst NoneInstall (sym is) tt
deed-none m r q (Posting hs payload) told is = plains-none told (occasions-plain m payload hs r q told is)
deed-none m r q (Answering inv value) told is = subst NoneInstall (sym is) (tt, tt)
deed-none m r q Showing told is = subst NoneInstall (sym is.made) (tt, tt)
deed-none m r q Resetting told is = subst NoneInstall (sym is.made) (tt, (tt, tt))
deed-none m r q (Installing p) told is = tt

-- what a deed's entries and its node's settling do to what is installed
abbrev After : Deed → (HandlerId → Option HeldProgram) → HandlerId → Option HeldProgram
After (Installing p) f h = if h.0 == p.handler.0 then Some p else f h
After _ f h = f h

deed-after : (m : Machine) (r : NodeState) (q : Pace) (d : Deed) (told : List JournalEntry) (h : HandlerId) → DeedMakes m d r q told → (state_after_entries m r told).installed h ≡ After d r.installed h
deed-after m r q (Installing p) told h is = subst (λ (xs : List JournalEntry). (state_after_entries m r xs).installed h ≡ (if h.0 == p.handler.0 then Some p else r.installed h)) (sym is.made)
    (ap (λ (f : HandlerId → Option HeldProgram). f h) (same-installed m (next_state m (next_state m r (Seen is.seen)) (Installed p)) is.rest (installs-rest m r q p told is)))
deed-after m r q d told h is = ap (λ (f : HandlerId → Option HeldProgram). f h) (same-installed m r told (deed-none m r q d told is))

event-after : (m : Machine) (r : NodeState) (q : Pace) (d : Deed) (told : List JournalEntry) (after : Pace) (h : HandlerId) → FirstThen m (DeedMakes m d) (λ s p xs. Settles m s p xs after) r q told → (state_after_entries m r told).installed h ≡ After d r.installed h
event-after m r q d told after h both =
    subst (λ (xs : List JournalEntry). (state_after_entries m r xs).installed h ≡ After d r.installed h) (sym both.made)
    (ap (λ (s : NodeState). s.installed h) (heard_told-append m r both.front both.rest)
    ∙ ap (λ (f : HandlerId → Option HeldProgram). f h) (same-installed m (state_after_entries m r both.front) both.rest (settles-none m (state_after_entries m r both.front) (paced_all q both.front) both.rest after both.by_second))
    ∙ deed-after m r q d both.front h both.by_first)

-- ---- what a deed does to the exchange's version

abbrev pub HeldAfter : Deed → ℕ → ℕ → ℕ
HeldAfter (Installing p) h old = if p.handler.0 == h then p.version else old
HeldAfter _ h old = old

abbrev Moves : ℕ → List Happening → NodeEffect → Type 0
Moves h hs e = held_version h (e.happened ++ hs) ≡ HeldAfter e.deed h (held_version h hs)

moves-line : (h : ℕ) (hs : List Happening) (x : Want) → Moves h hs (of_line x)
moves-line h hs (Inject p) = refl
moves-line h hs _ = refl

moves-planned : (h : ℕ) (hs : List Happening) (o : Option PlannedLine) → Moves h hs (option_map_or (λ (l : PlannedLine). of_line l.what) o no_effect)
moves-planned h hs None = refl
moves-planned h hs (Some l) = moves-line h hs l.what

moves-fragment : (h : ℕ) (hs : List Happening) (packet : Packet) (o : Option HandlerId) → Moves h hs (of_fragment packet hs o)
moves-fragment h hs packet None = refl
moves-fragment h hs packet (Some g) = refl

moves-packet : (w : World) (h : ℕ) (hs : List Happening) (packet : Packet) → Moves h hs (of_packet w hs packet)
moves-packet w h hs (Fragment g version index count large bytes) = moves-fragment h hs (Fragment g version index count large bytes) (completed_by (Fragment g version index count large bytes) hs)
moves-packet w h hs _ = refl

moves-point : (w : World) (h : ℕ) (n : Node) (o : Fire) → Moves h n.exchange (of_point w n o)
moves-point w h n fire.Send = refl
moves-point w h n fire.Keep = refl

moves-slot : (h : ℕ) (hs : List Happening) (o : Option ℕ) → Moves h hs (of_slot hs o)
moves-slot h hs None = refl
moves-slot h hs (Some slot) = refl

pub moves : (w : World) (h : ℕ) (n : Node) (c : Cause) → Moves h n.exchange (node_effect w n c)
moves w h n (event.Planned line) = moves-planned h n.exchange (slice_get w.plan line)
moves w h n (event.Fire k) = moves-point w h n (trickle.at_point n.timer.set n.timer.running w.suppress)
moves w h n (event.Pump k) = moves-slot h n.exchange (next_slot (handlers w) n.exchange)
moves w h n (event.Deliver link number packet) = moves-packet w h n.exchange packet
moves w h n _ = refl

-- ---- both

-- the version of what is held, 0 where nothing is
abbrev pub held-of : Option HeldProgram → ℕ
held-of installed = option_map_or (λ p. p.version) installed 0

both-move : (d : Deed) (f : HandlerId → Option HeldProgram) (h old : ℕ) → held-of (f (record { 0 = h })) ≡ old → held-of (After d f (record { 0 = h })) ≡ HeldAfter d h old
both-move (Installing p) f h old is = elim (eqb_tells p.handler.0 h) [
  | inl same ↦ rw (same.0, turned same.1) refl
  | inr other ↦ rw (other.0, apart_turned other.1) is
] where
  turned : p.handler.0 ≡ h → (h == p.handler.0) ≡ true
  turned e = elim (eqb_tells h p.handler.0) [ inl a ↦ a.0 | inr b ↦ absurd (b.1 (sym e)) ]

  apart_turned : p.handler.0 ≢ h → (h == p.handler.0) ≡ false
  apart_turned e = elim (eqb_tells h p.handler.0) [ inl a ↦ absurd (e (sym a.1)) | inr b ↦ b.0 ]
both-move _ f h old is = is

pub held-is : (r : NodeState) (h : HandlerId) → held r h ≡ held-of (r.installed h)
held-is r h = refl

pub held_agrees : (w : World) → HeldAgrees w
held_agrees w k h [] come = refl
held_agrees w k h (m ∷ before) come = elim (eqb_tells k (event_node w m.cause)) [
  | inr other ↦ subst (λ (n : Node). held n.reading (record { 0 = h }) ≡ held_version h n.exchange) (sym (nodes-other w (state w before) m k other.1)) (held_agrees w k h before come.0)
  | inl same ↦ subst (λ (i : ℕ). held ((state w (m ∷ before)).nodes i).reading (record { 0 = h }) ≡ held_version h ((state w (m ∷ before)).nodes i).exchange) (sym same.1)
      (subst (λ (n : Node). held n.reading (record { 0 = h }) ≡ held_version h n.exchange) (sym (nodes-here w (state w before) m)) (here (held_agrees w (event_node w m.cause) h before come.0)))
] where
  n : Node
  n = node_at w (state w before) m

  e : NodeEffect
  e = effect_at w (state w before) m

  here : held (node_at w (state w before) m).reading (record { 0 = h }) ≡ held_version h (node_at w (state w before) m).exchange
      → held (state_after_entries w.machine (node_at w (state w before) m).reading m.told) (record { 0 = h }) ≡ held_version h ((effect_at w (state w before) m).happened ++ (node_at w (state w before) m).exchange)
  here old =
      held-is (state_after_entries w.machine (node_at w (state w before) m).reading m.told) (record { 0 = h })
      ∙ ap held-of (event-after w.machine (node_at w (state w before) m).reading (node_at w (state w before) m).pace (effect_at w (state w before) m).deed m.told m.pace (record { 0 = h }) come.1.makes)
      ∙ both-move (effect_at w (state w before) m).deed (node_at w (state w before) m).reading.installed h (held_version h (node_at w (state w before) m).exchange) (sym (held-is (node_at w (state w before) m).reading (record { 0 = h })) ∙ old)
      ∙ sym (moves w h (node_at w (state w before) m) m.cause)
