-- Nothing newer than a version is about, and of the version only fragments of its image.
use Rattle.std.proofs.Common.{◌≡◌, ◌≢◌, ◌≤◌, ℕ, suc, ◌+◌, ◌/◌, Bool, true, false, List, [], ◌∷◌, ◌++◌, map, length, Option, Some, None, refl, sym, ◌∙◌, ap, subst, arith, inl, inr}
use Rattle.std.specs.Prelude.{ℤ, nat_lt, slice_index, slice_get, ◌==◌, if◌then◌else◌}
use Rattle.std.specs.List.{filter, range_with_len}
use Rattle.std.specs.Option.{option_map_or}
use Rattle.std.proofs.lemmas.Bool.Decides.{eqb_tells}
use Rattle.arrayvec.specs.ArrayVec.{ArrayVec}
use Rattle.mate_num.specs.declared.id.HandlerId.{HandlerId}
use Rattle.capsule_codec.specs.Fragments.{count_of}
use Rattle.mate_journal.specs.Machine.{HeldProgram}
use Rattle.mate_journal.specs.Journal.{JournalEntry, Asked}
use Rattle.packet_codec.specs.declared.packet.Packet.{Packet}
use Rattle.packet_codec.specs.declared.packet.Packet.TheVariants.{Vector, Status, Fragment, App}
use Rattle.trickle_timer.specs.Intervals as trickle
use Rattle.trickle_timer.specs.declared.timer.Fire.{Fire}
use Rattle.trickle_timer.specs.declared.timer.Fire.TheVariants as fire
use Rattle.capsule_exchange.specs.Happenings.{Happening, Hears, Installs, held_version, held_image, held_versions, heard_since, complete_version, completed_by, ask_for, next_slot, fragment_for}
use Rattle.mate_journal.specs.Pace.{no_pace}
use Rattle.world_rules.specs.Cause.{Cause}
use Rattle.world_rules.specs.Cause as event
use Rattle.world_rules.specs.World.{World, PlannedLine, Want, Inject, handlers}
use Rattle.world_rules.specs.Effect.{Node, NodeEffect, Installing, no_effect, node_effect, of_line, of_packet, of_fragment, of_point, of_slot, event_node}
use Rattle.world_rules.specs.State.{Moment, WorldState, Scheduled, Sending, of_interval, numbered_sendings, messages, message_in, is_send_kind, packets_of, node_at, effect_at, node_after, after_moment, start_node, lines_from, first_of, world_start, state}
use Rattle.world_rules.specs.Run.{MayCome, HaveCome}
use Rattle.world_laws.specs.Newest.{Version, IsWorldVersion, IsNewest}
use Rattle.mate_num.specs.Lists.{Among}
use Rattle.mate_num.proofs.ListLemmas.{each-push, among-append, among-flat_map}
use Rattle.world_laws.proofs.OfTime.{among-un_of_time, apart}
use Rattle.world_laws.proofs.Due.{at, due-from, kind, Source, period, interval, delivery, pump, answer, source}
use Rattle.world_laws.proofs.Points.{nodes-here, nodes-other, among-next, among-filter_map, line-kind, period-kind}
use Rattle.world_laws.proofs.Happens.{Happens, nothing, injected, heard, completed, forgot, sent, happens}
use Rattle.world_laws.proofs.Collect.{IsTame, AreTame, complete-stays, complete-other, at-range}

-- ---- one node

pub record IsTameNode (v : Version) (hs : List Happening) : Type 0 where
  pub held : held_version v.handler hs ≤ v.version
  pub image : held_version v.handler hs ≡ v.version → held_image v.handler hs ≡ v.image
  pub heard_tame : AreTame v (heard_since v.handler hs)
  pub none_waits : complete_version v.handler hs ≡ 0

-- an install keeps to the version
abbrev pub KeepsTo : Version → HeldProgram → Type 0
KeepsTo v p = p.handler.0 ≡ v.handler → (p.version ≤ v.version) × (p.version ≡ v.version → p.image.items ≡ v.image)

either_zero : (b : Bool) (z : ℕ) → (if b then z else z) ≡ z
either_zero true z = refl
either_zero false z = refl

-- after an install of the handler all is new
node-installs-own : (v : Version) (g version : ℕ) (image : List ℕ) (hs : List Happening) → g ≡ v.handler → (version ≤ v.version) × (version ≡ v.version → image ≡ v.image)
    → IsTameNode v (Installs g version image ∷ hs)
node-installs-own v g version image hs same keeps = by (g == v.handler) refl own where
  own : (g == v.handler) ≡ true
  own = elim (eqb_tells g v.handler) [ inl e ↦ e.0 | inr other ↦ absurd (other.1 same) ]

  by : (b : Bool) → (g == v.handler) ≡ b → b ≡ true → IsTameNode v (Installs g version image ∷ hs)
  by false is clash = cc
  by true is own = record {
    held = rw is keeps.0;
    image = rw is keeps.1;
    heard_tame = rw is tt;
    none_waits = rw is refl;
  }

node-installs-other : (v : Version) (g version : ℕ) (image : List ℕ) (hs : List Happening) → g ≢ v.handler
    → held_version v.handler hs ≤ v.version → (held_version v.handler hs ≡ v.version → held_image v.handler hs ≡ v.image) → AreTame v (heard_since v.handler hs) → complete_version v.handler hs ≡ 0
    → IsTameNode v (Installs g version image ∷ hs)
node-installs-other v g version image hs other held image_is tame none = elim (eqb_tells g v.handler) [
  | inl e ↦ absurd (other e.1)
  | inr e ↦ record { held = rw e.0 held; image = rw e.0 image_is; heard_tame = rw e.0 tame; none_waits = rw e.0 none }
]

pub node-step : (w : World) (v : Version) (hs : List Happening) (c : Cause) (e : NodeEffect) → Happens w hs c e → ((j number : ℕ) (p : Packet) → c ≡ event.Deliver j number p → IsTame v p)
    → ((p : HeldProgram) → e.deed ≡ Installing p → KeepsTo v p) → IsTameNode v hs → IsTameNode v (e.happened ++ hs)
node-step w v hs c e how tame keeps old = by how where
  Goal : List Happening → Type 0
  Goal new = IsTameNode v (new ++ hs)

  hears : (p : Packet) → IsTame v p → completed_by p hs ≡ None → IsTameNode v (Hears p ∷ hs)
  hears p one none = record {
    held = old.held;
    image = old.image;
    heard_tame = each-push (IsTame v) (heard_since v.handler hs) p old.heard_tame one;
    none_waits = complete-stays v.handler p hs none old.none_waits;
  }

  by : Happens w hs c e → IsTameNode v (e.happened ++ hs)
  by (nothing is) = subst Goal (sym is) old
  by (injected x p from is deed) = subst Goal (sym is) (elim (eqb_tells p.handler.0 v.handler) [
    | inl same ↦ node-installs-own v p.handler.0 p.version p.image.items hs same.1 (keeps p deed same.1)
    | inr other ↦ node-installs-other v p.handler.0 p.version p.image.items hs other.1 old.held old.image old.heard_tame old.none_waits
  ])
  by (heard j number packet cause is none) = subst Goal (sym is) (hears packet (tame j number packet cause) none)
  by (completed j number packet p cause is deed complete same) = subst Goal (sym is) (elim (eqb_tells p.handler.0 v.handler) [
    | inl own ↦ node-installs-own v p.handler.0 p.version p.image.items (Hears packet ∷ hs) own.1 (keeps p deed own.1)
    | inr other ↦ node-installs-other v p.handler.0 p.version p.image.items (Hears packet ∷ hs) other.1 old.held old.image
        (each-push (IsTame v) (heard_since v.handler hs) packet old.heard_tame (tame j number packet cause)) (complete-other v.handler packet hs p.handler complete other.1 old.none_waits)
  ])
  by (forgot is deed) = subst Goal (sym is) (record { held = old.held; image = old.image; heard_tame = tt; none_waits = refl })
  by (sent k slot cause is next) = subst Goal (sym is) (record { held = old.held; image = old.image; heard_tame = old.heard_tame; none_waits = old.none_waits })

-- ---- what a node sends

abbrev EachTame : Version → List Packet → Type 0
EachTame v ps = (p : Packet) → Among p ps → IsTame v p

none-tame : (v : Version) → EachTame v []
none-tame v p a = absurd a

one-tame : (v : Version) (q : Packet) → IsTame v q → EachTame v (q ∷ [])
one-tame v q tame p (inl e) = subst (λ (x : Packet). IsTame v x) e tame
one-tame v q tame p (inr a) = absurd a

vector-tame : (w : World) (v : Version) (hs : List Happening) → IsWorldVersion w v → IsTameNode v hs → IsTame v (Vector (record { items = held_versions (handlers w) hs }))
vector-tame w v hs right old = let value : slice_index (held_versions (handlers w) hs) v.handler ≡ held_version v.handler hs = at-range (λ (h : ℕ). held_version h hs) 0 0 (handlers w) v.handler right.handler ∙ ap (λ (h : ℕ). held_version h hs) (let e : 0 + v.handler ≡ v.handler = omega arith in e) in
    omega (arith, value, old.held)

fragment-tame : (v : Version) (hs : List Happening) (slot : ℕ) → IsTameNode v hs → IsTame v (fragment_for hs slot)
fragment-tame v hs slot old same =
    let least : held_version (slot / 22) hs ≤ v.version = subst (λ (h : ℕ). held_version h hs ≤ v.version) (sym same) old.held in (
      least,
      λ is.
          let image : held_image (slot / 22) hs ≡ v.image = subst (λ (h : ℕ). held_image h hs ≡ v.image) (sym same) (old.image (subst (λ (h : ℕ). held_version h hs ≡ v.version) same is)) in
          (ap count_of image, ap (λ (bytes : List ℕ). nat_lt 528 (length bytes)) image),
    )

asks-tame : (v : Version) (hs : List Happening) (hds : List ℕ) → EachTame v (map (ask_for hs) hds)
asks-tame v hs [] p a = absurd a
asks-tame v hs (h ∷ hds) p (inl e) = subst (λ (x : Packet). IsTame v x) e tt
asks-tame v hs (h ∷ hds) p (inr a) = asks-tame v hs hds p a

sends-of-line : (v : Version) (x : Want) → EachTame v (of_line x).sends
sends-of-line v (Inject p) = none-tame v
sends-of-line v _ = none-tame v

sends-planned : (v : Version) (o : Option PlannedLine) → EachTame v (option_map_or (λ (l : PlannedLine). of_line l.what) o no_effect).sends
sends-planned v None = none-tame v
sends-planned v (Some l) = sends-of-line v l.what

sends-fragment : (v : Version) (packet : Packet) (hs : List Happening) (o : Option HandlerId) → EachTame v (of_fragment packet hs o).sends
sends-fragment v packet hs None = none-tame v
sends-fragment v packet hs (Some h) = none-tame v

sends-packet : (w : World) (v : Version) (hs : List Happening) (packet : Packet) → EachTame v (of_packet w hs packet).sends
sends-packet w v hs (Vector versions) = asks-tame v (Hears (Vector versions) ∷ hs) (filter (λ h. nat_lt (held_version h hs) (slice_index versions.items h)) (range_with_len 0 (handlers w)))
sends-packet w v hs (Status g version missing) = none-tame v
sends-packet w v hs (Fragment g version index count large bytes) = sends-fragment v (Fragment g version index count large bytes) hs (completed_by (Fragment g version index count large bytes) hs)
sends-packet w v hs (App payload) = none-tame v

sends-point : (w : World) (v : Version) (n : Node) (o : Fire) → IsWorldVersion w v → IsTameNode v n.exchange → EachTame v (of_point w n o).sends
sends-point w v n fire.Send right old = one-tame v _ (vector-tame w v n.exchange right old)
sends-point w v n fire.Keep right old = none-tame v

sends-slot : (v : Version) (hs : List Happening) (o : Option ℕ) → IsTameNode v hs → EachTame v (of_slot hs o).sends
sends-slot v hs None old = none-tame v
sends-slot v hs (Some slot) old = one-tame v _ (fragment-tame v hs slot old)

sends-tame : (w : World) (v : Version) (n : Node) (c : Cause) → IsWorldVersion w v → IsTameNode v n.exchange → EachTame v (node_effect w n c).sends
sends-tame w v n (event.Planned line) right old = sends-planned v (slice_get w.plan line)
sends-tame w v n (event.Fire node) right old = sends-point w v n (trickle.at_point n.timer.set n.timer.running w.suppress) right old
sends-tame w v n (event.Pump node) right old = sends-slot v n.exchange (next_slot (handlers w) n.exchange) old
sends-tame w v n (event.Deliver link number packet) right old = sends-packet w v n.exchange packet
sends-tame w v n _ right old = none-tame v

-- what an entry sends is a message
pub message-app : (w : World) (t : JournalEntry) (p : Packet) → message_in w t ≡ Some p → (args : ArrayVec ℤ) × (App args ≡ p)
message-app w (Asked n f args) p is = by (is_send_kind _) is where
  by : (b : Bool) → (if b then Some (App args) else None) ≡ Some p → (args : ArrayVec ℤ) × (App args ≡ p)
  by true given = let same : App args ≡ p = cc in (args, same)
  by false given = cc
message-app w _ p is = cc

pub numbered-among : (y : Sending) (number before : ℕ) (ps : List Packet) → Among y (numbered_sendings number before ps) → Among y.packet ps
numbered-among y number before [] a = absurd a
numbered-among y number before (p ∷ ps) (inl e) = inl (ap (λ (x : Sending). x.packet) e)
numbered-among y number before (p ∷ ps) (inr a) = inr (numbered-among y (suc number) (suc before) ps a)

packets-tame : (w : World) (v : Version) (s : WorldState) (m : Moment) → IsWorldVersion w v → IsTameNode v (node_at w s m).exchange → EachTame v (packets_of w s m)
packets-tame w v s m right old p a = elim (among-append p (effect_at w s m).sends (messages w m.told) a) [
  | inl sends ↦ sends-tame w v (node_at w s m) m.cause right old p sends
  | inr told ↦ let found = among-filter_map (message_in w) p m.told told in let message = message-app w found.0 p found.2 in subst (λ (x : Packet). IsTame v x) message.1 tt
]

-- ---- the world

pub record IsTameWorld (w : World) (v : Version) (s : WorldState) : Type 0 where
  pub nodes : (k : ℕ) → IsTameNode v (s.nodes k).exchange
  pub air : (t j number : ℕ) (p : Packet) → Among (event.Deliver j number p) (s.due t) → IsTame v p

abbrev pub delivered-packet : Cause → Packet
delivered-packet (event.Deliver link number packet) = packet
delivered-packet _ = App (record { items = [] })

pub of_interval-none : (w : World) (s : WorldState) (m : Moment) (t j number : ℕ) (p : Packet) (i : ℕ) (timer : _) → Among (at t (event.Deliver j number p)) (of_interval i timer) → ⊥
of_interval-none w s m t j number p i timer (inl e) = apart 2 6 refl (ap (λ (x : Scheduled). kind x.cause) e)
of_interval-none w s m t j number p i timer (inr (inl e)) = apart 3 6 refl (ap (λ (x : Scheduled). kind x.cause) e)
of_interval-none w s m t j number p i timer (inr (inr a)) = a

new-tame : (w : World) (v : Version) (s : WorldState) (m : Moment) (t j number : ℕ) (p : Packet) → IsWorldVersion w v → IsTameNode v (node_at w s m).exchange → Source w s m (at t (event.Deliver j number p)) → IsTame v p
new-tame w v s m t j number p right old (period is later) = absurd (apart 6 1 refl is)
new-tame w v s m t j number p right old (interval l is a) = absurd (of_interval-none w s m t j number p (event_node w m.cause) (node_after w (node_at w s m) m).timer a)
new-tame w v s m t j number p right old (delivery sending link among leaves kept is) =
    let same : sending.packet ≡ p = sym (ap (λ (x : Scheduled). delivered-packet x.cause) is) in
    subst (λ (x : Packet). IsTame v x) same (packets-tame w v s m right old sending.packet (numbered-among sending _ _ (packets_of w s m) among))
new-tame w v s m t j number p right old (pump is) = absurd (apart 6 4 refl (ap (λ (x : Scheduled). kind x.cause) is))
new-tame w v s m t j number p right old (answer is later call) = absurd (apart 6 5 refl is)

pub world-step : (w : World) (v : Version) (s : WorldState) (m : Moment) → IsWorldVersion w v → MayCome w s m → ((p : HeldProgram) → (effect_at w s m).deed ≡ Installing p → KeepsTo v p) → IsTameWorld w v s
    → IsTameWorld w v (after_moment w s m)
world-step w v s m right may keeps old = record {
  nodes = λ k. elim (eqb_tells k (event_node w m.cause)) [
    | inl same ↦ subst (λ (i : ℕ). IsTameNode v ((after_moment w s m).nodes i).exchange) (sym same.1) (subst (λ (n : Node). IsTameNode v n.exchange) (sym (nodes-here w s m)) here)
    | inr other ↦ subst (λ (n : Node). IsTameNode v n.exchange) (sym (nodes-other w s m k other.1)) (old.nodes k)
  ];
  air = λ t j number p a. elim (due-from w s m t (event.Deliver j number p) a) [
    | inl was ↦ old.air t j number p was.0
    | inr new ↦ new-tame w v s m t j number p right (old.nodes (event_node w m.cause)) (source w s m (at t (event.Deliver j number p)) new)
  ];
} where
  here : IsTameNode v ((effect_at w s m).happened ++ (node_at w s m).exchange)
  here = node-step w v (node_at w s m).exchange m.cause (effect_at w s m) (happens w (node_at w s m) m.cause)
      (λ j number p is. old.air m.time j number p (subst (λ (c : Cause). Among c (s.due m.time)) is (among-next s m.time m.cause may.next))) keeps (old.nodes (event_node w m.cause))

start-air : (w : World) (v : Version) (t j number : ℕ) (p : Packet) → Among (event.Deliver j number p) ((world_start w).due t) → IsTame v p
start-air w v t j number p a = elim (among-append (at t (event.Deliver j number p)) (lines_from 0 w.plan) _ (among-un_of_time t (event.Deliver j number p) _ a)) [
  | inl line ↦ absurd (apart 6 0 refl (line-kind (at t (event.Deliver j number p)) 0 w.plan line))
  | inr b ↦ let node = among-flat_map (first_of w) (at t (event.Deliver j number p)) (range_with_len 0 w.nodes) b in
      elim (among-append (at t (event.Deliver j number p)) (of_interval node.0 (start_node w node.0).timer) _ node.2) [
        | inl c ↦ absurd (of_interval-none w (world_start w) (record { time = 0; cause = event.Pump 0; told = []; pace = no_pace }) t j number p node.0 (start_node w node.0).timer c)
        | inr d ↦ absurd (apart 6 1 refl (period-kind w (at t (event.Deliver j number p)) node.0 d))
      ]
]

pub run-tame : (w : World) (v : Version) (ms : List Moment) → IsWorldVersion w v → HaveCome w ms → IsNewest w v ms → IsTameWorld w v (state w ms)
run-tame w v [] right come newest = record {
  nodes = λ k. record { held = omega arith; image = λ is. (let low = right.low in absurd (omega (arith, is, low))); heard_tame = tt; none_waits = refl };
  air = λ t j number p a. start-air w v t j number p a;
}
run-tame w v (m ∷ before) right come newest = world-step w v (state w before) m right come.1 newest.1 (run-tame w v before right come.0 newest.0)
