-- Why a node sends a packet, what its exchange looks back over, and what an install comes from.
use Rattle.std.proofs.Common.{◌≡◌, ℕ, Bool, true, false, List, [], ◌∷◌, ◌++◌, Option, Some, None, refl, sym, ◌∙◌, ap, subst, inl, inr}
use Rattle.std.specs.Prelude.{◌==◌, if◌then◌else◌, slice_get}
use Rattle.std.specs.Option.{option_map_or}
use Rattle.std.proofs.lemmas.Bool.Decides.{eqb_tells}
use Rattle.mate_num.specs.declared.id.HandlerId.{HandlerId}
use Rattle.mate_journal.specs.Machine.{HeldProgram}
use Rattle.mate_journal.specs.Journal.{JournalEntry, Posted, Dropped, Started, Asked, Answered, Ended, Installed, Reset, Seen, Void}
use Rattle.packet_codec.specs.declared.packet.Packet.{Packet}
use Rattle.packet_codec.specs.declared.packet.Packet.TheVariants.{Vector, Status, Fragment, App}
use Rattle.trickle_timer.specs.Intervals as trickle
use Rattle.trickle_timer.specs.declared.timer.Fire.{Fire}
use Rattle.trickle_timer.specs.declared.timer.Fire.TheVariants as fire
use Rattle.capsule_exchange.specs.Happenings.{Happening, asks_after, completed_by, next_slot}
use Rattle.world_rules.specs.Cause.{Cause}
use Rattle.world_rules.specs.Cause as event
use Rattle.world_rules.specs.World.{World, PlannedLine, Want, Inject, Post, Show, ResetNode, Noise, handlers, called_kind}
use Rattle.world_rules.specs.Effect.{Node, Installing, no_effect, node_effect, of_line, of_packet, of_fragment, of_point, of_slot, event_node}
use Rattle.world_rules.specs.State.{Moment, WorldState, node_at, effect_at, messages, message_in, is_send_kind, packets_of, state}
use Rattle.world_laws.specs.Packets.{SendsFor, TellsVersions, AsksFor, OwesFragment, IsMessage, PacketsHaveReasons, exchange_happenings, ExchangesStand, InstallsBy, ByLine, ByRadio, InstallsHaveReasons}
use Rattle.mate_num.specs.Lists.{Among}
use Rattle.mate_num.proofs.ListLemmas.{among-append}
use Rattle.world_laws.proofs.Happens.{installer}
use Rattle.world_laws.proofs.Origins.{among-get, place-of}
use Rattle.world_laws.proofs.Points.{among-filter_map, nodes-here, nodes-other}

-- ---- packets

at-line : (w : World) (s : WorldState) (m : Moment) (p : Packet) (x : Want) → Among p (of_line x).sends → SendsFor w s m p
at-line w s m p (Inject q) a = absurd a
at-line w s m p _ a = absurd a

at-planned : (w : World) (s : WorldState) (m : Moment) (p : Packet) (o : Option PlannedLine) → Among p (option_map_or (λ (l : PlannedLine). of_line l.what) o no_effect).sends → SendsFor w s m p
at-planned w s m p None a = absurd a
at-planned w s m p (Some l) a = at-line w s m p l.what a

at-point : (w : World) (s : WorldState) (m : Moment) (p : Packet) (node : ℕ) (o : Fire) → m.cause ≡ event.Fire node
    → trickle.at_point (node_at w s m).timer.set (node_at w s m).timer.running w.suppress ≡ o → Among p (of_point w (node_at w s m) o).sends → SendsFor w s m p
at-point w s m p node fire.Send is decides (inl e) = TellsVersions node is decides (sym e)
at-point w s m p node fire.Send is decides (inr a) = absurd a
at-point w s m p node fire.Keep is decides a = absurd a

at-slot : (w : World) (s : WorldState) (m : Moment) (p : Packet) (node : ℕ) (o : Option ℕ) → m.cause ≡ event.Pump node → next_slot (handlers w) (node_at w s m).exchange ≡ o
    → Among p (of_slot (node_at w s m).exchange o).sends → SendsFor w s m p
at-slot w s m p node None is next a = absurd a
at-slot w s m p node (Some slot) is next (inl e) = OwesFragment node slot is next (sym e)
at-slot w s m p node (Some slot) is next (inr a) = absurd a

none-by-fragment : (packet : Packet) (before : List Happening) (o : Option HandlerId) (p : Packet) → Among p (of_fragment packet before o).sends → ⊥
none-by-fragment packet before None p a = a
none-by-fragment packet before (Some h) p a = a

at-packet : (w : World) (s : WorldState) (m : Moment) (p : Packet) (link number : ℕ) (packet : Packet) → m.cause ≡ event.Deliver link number packet
    → Among p (of_packet w (node_at w s m).exchange packet).sends → SendsFor w s m p
at-packet w s m p link number (Vector versions) is a =
    let found = place-of (asks_after (handlers w) (Vector versions) (node_at w s m).exchange) p a in AsksFor link number found.0 (Vector versions) is found.1
at-packet w s m p link number (Status g version missing) is a = absurd a
at-packet w s m p link number (Fragment g version index count large bytes) is a =
    absurd (none-by-fragment (Fragment g version index count large bytes) (node_at w s m).exchange (completed_by (Fragment g version index count large bytes) (node_at w s m).exchange) p a)
at-packet w s m p link number (App payload) is a = absurd a

sends-for : (w : World) (s : WorldState) (m : Moment) (p : Packet) (c : Cause) → m.cause ≡ c → Among p (node_effect w (node_at w s m) c).sends → SendsFor w s m p
sends-for w s m p (event.Planned line) is a = at-planned w s m p (slice_get w.plan line) a
sends-for w s m p (event.Fire node) is a = at-point w s m p node (trickle.at_point (node_at w s m).timer.set (node_at w s m).timer.running w.suppress) is refl a
sends-for w s m p (event.Pump node) is a = at-slot w s m p node (next_slot (handlers w) (node_at w s m).exchange) is refl a
sends-for w s m p (event.Deliver link number packet) is a = at-packet w s m p link number packet is a
sends-for w s m p _ is a = absurd a

pub split-at : {X : Type 0} (x : X) (xs : List X) → Among x xs → (front : List X) × (rest : List X) × (xs ≡ front ++ x ∷ rest)
split-at x [] a = absurd a
split-at {X} x (y ∷ ys) (inl e) = ([], ys, ap (λ (z : X). z ∷ ys) e)
split-at {X} x (y ∷ ys) (inr a) = let s = split-at x ys a in (y ∷ s.0, s.1, ap (λ (zs : List X). y ∷ zs) s.2)

message-for : (w : World) (s : WorldState) (m : Moment) (p : Packet) (t : JournalEntry) → message_in w t ≡ Some p → Among t m.told → SendsFor w s m p
message-for w s m p (Asked n f args) is a = by (is_send_kind (called_kind w f)) refl is (split-at (Asked n f args) m.told a) where
  by : (b : Bool) → is_send_kind (called_kind w f) ≡ b → (if b then Some (App args) else None) ≡ Some p → (front : List JournalEntry) × (rest : List JournalEntry) × (m.told ≡ front ++ Asked n f args ∷ rest) → SendsFor w s m p
  by true sends given at_place = IsMessage at_place.0 at_place.1 n f args at_place.2 sends (let same : p ≡ App args = cc in same)
  by false sends given at_place = cc
message-for w s m p _ is a = cc

pub packets_have_reasons : (w : World) → PacketsHaveReasons w
packets_have_reasons w s m i p is = elim (among-append p (effect_at w s m).sends (messages w m.told) (among-get (packets_of w s m) i p is)) [
  | inl sends ↦ sends-for w s m p m.cause refl sends
  | inr told ↦ let found = among-filter_map (message_in w) p m.told told in message-for w s m p found.0 found.2 found.1
]

-- ---- the exchange

pub exchanges_stand : (w : World) → ExchangesStand w
exchanges_stand w k [] = refl
exchanges_stand w k (m ∷ before) = elim (eqb_tells k (event_node w m.cause)) [
  | inl same ↦ ap (λ (j : ℕ). ((state w (m ∷ before)).nodes j).exchange) same.1 ∙ ap (λ (n : Node). n.exchange) (nodes-here w (state w before) m)
      ∙ ap (λ (hs : List Happening). (effect_at w (state w before) m).happened ++ hs) (exchanges_stand w (event_node w m.cause) before)
      ∙ ap (λ (j : ℕ). (effect_at w (state w before) m).happened ++ exchange_happenings w j before) (sym same.1)
      ∙ sym (if-so same.0)
  | inr other ↦ ap (λ (n : Node). n.exchange) (nodes-other w (state w before) m k other.1) ∙ exchanges_stand w k before ∙ sym (if-not other.0)
] where
  if-so : (k == event_node w m.cause) ≡ true → exchange_happenings w k (m ∷ before) ≡ (effect_at w (state w before) m).happened ++ exchange_happenings w k before
  if-so is = rw is refl

  if-not : (k == event_node w m.cause) ≡ false → exchange_happenings w k (m ∷ before) ≡ exchange_happenings w k before
  if-not is = rw is refl

-- ---- installs

pub installs_have_reasons : (w : World) → InstallsHaveReasons w
installs_have_reasons w s m p deed = elim (installer w (node_at w s m) m.cause p deed) [
  | inl line ↦ by_line line.0 line.1 (slice_get w.plan line.0) refl (ap (λ (c : Cause). (node_effect w (node_at w s m) c).deed) (sym line.1) ∙ deed)
  | inr radio ↦ ByRadio radio.0 radio.1 radio.2 radio.3 radio.4 radio.5
] where
  wanted : (i : ℕ) (l : PlannedLine) (x : Want) → m.cause ≡ event.Planned i → slice_get w.plan i ≡ Some l → l.what ≡ x → (of_line x).deed ≡ Installing p → InstallsBy w (node_at w s m) m p
  wanted i l (Inject q) is stands what installs = ByLine i l is stands (what ∙ (let same : q ≡ p = cc in ap (λ (r : HeldProgram). Inject r) same))
  wanted i l (Post h payload) is stands what installs = cc
  wanted i l Show is stands what installs = cc
  wanted i l ResetNode is stands what installs = cc
  wanted i l (Noise bytes) is stands what installs = cc

  by_line : (i : ℕ) → m.cause ≡ event.Planned i → (o : Option PlannedLine) → slice_get w.plan i ≡ o → (node_effect w (node_at w s m) (event.Planned i)).deed ≡ Installing p → InstallsBy w (node_at w s m) m p
  by_line i is None stands installs = absurd (none_installs (subst (λ (q : Option PlannedLine). (option_map_or (λ (l : PlannedLine). of_line l.what) q no_effect).deed ≡ Installing p) stands installs)) where
    none_installs : no_effect.deed ≡ Installing p → ⊥
    none_installs e = cc
  by_line i is (Some l) stands installs = wanted i l l.what is stands refl (subst (λ (q : Option PlannedLine). (option_map_or (λ (l : PlannedLine). of_line l.what) q no_effect).deed ≡ Installing p) stands installs)
