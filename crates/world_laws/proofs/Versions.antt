-- Each install is of a program that a line injected before.
use Rattle.std.proofs.Common.{◌≡◌, ◌<◌, ◌≤◌, ℕ, Bool, true, false, cond, List, [], ◌∷◌, ◌++◌, map, Option, Some, None, refl, sym, ◌∙◌, ap, subst, arith, inl, inr}
use Rattle.std.specs.Prelude.{is_some, nat_lt, slice_index, slice_get, if◌then◌else◌, unwrap_or}
use Rattle.std.specs.List.{filter, find, range_with_len}
use Rattle.std.specs.Option.{option_map_or, option_or}
use Rattle.std.proofs.lemmas.Bool.{ltb-true}
use Rattle.std.proofs.lemmas.Bool.Decides.{eqb_tells}
use Rattle.mate_num.specs.declared.id.HandlerId.{HandlerId}
use Rattle.arrayvec.specs.ArrayVec.{ArrayVec}
use Rattle.mate_journal.specs.Machine.{HeldProgram}
use Rattle.packet_codec.specs.declared.packet.Packet.{Packet}
use Rattle.packet_codec.specs.declared.packet.Packet.TheVariants.{Vector, Status, Fragment, App}
use Rattle.trickle_timer.specs.Intervals as trickle
use Rattle.trickle_timer.specs.declared.timer.Fire.{Fire}
use Rattle.trickle_timer.specs.declared.timer.Fire.TheVariants as fire
use Rattle.capsule_exchange.specs.Happenings.{Happening, Hears, Installs, held_version, held_image, heard_since, target_version, collected_image, complete_version, completed_by, ask_for, is_marked_slot, next_slot, next_place, last_sent, slots_from}
use Rattle.mate_journal.specs.Pace.{no_pace}
use Rattle.world_rules.specs.Cause.{Cause}
use Rattle.world_rules.specs.Cause as event
use Rattle.world_rules.specs.World.{World, PlannedLine, Want, Inject, handlers}
use Rattle.world_rules.specs.Effect.{Node, Installing, no_effect, node_effect, of_line, of_packet, of_fragment, of_point, of_slot, collected, event_node}
use Rattle.world_rules.specs.State.{Moment, WorldState, Scheduled, of_interval, messages, message_in, packets_of, node_at, effect_at, node_after, start_node, lines_from, first_of, world_start, state}
use Rattle.world_rules.specs.Run.{MayCome, HaveCome}
use Rattle.world_laws.specs.Versions.{WasInjected, IsOneImage, InstallsInjected}
use Rattle.mate_num.specs.Lists.{Among}
use Rattle.mate_num.proofs.ListLemmas.{each-push, each-weaker, among-append, among-flat_map}
use Rattle.world_laws.proofs.OfTime.{among-un_of_time, apart}
use Rattle.world_laws.proofs.Due.{at, due-from, kind, Source, period, interval, delivery, pump, answer, source}
use Rattle.world_laws.proofs.Points.{nodes-here, nodes-other, among-next, among-filter_map, line-kind, period-kind}
use Rattle.world_laws.proofs.Happens.{Happens, nothing, injected, heard, completed, forgot, sent, happens, Installer, installer}
use Rattle.world_laws.proofs.Tame.{message-app, of_interval-none, delivered-packet, numbered-among}
use Rattle.world_laws.proofs.Injected.{IsOfInjected, AreOfInjected, HoldsInjected, later-injected, collected-injected, sent-injected}

-- ---- one node

pub record IsInjectedNode (w : World) (ms : List Moment) (hs : List Happening) : Type 0 where
  pub holds : (h : ℕ) → HoldsInjected w ms hs h
  pub heard_of : (h : ℕ) → AreOfInjected w ms (heard_since h hs)

later-packet : (w : World) (m : Moment) (ms : List Moment) (p : Packet) → IsOfInjected w ms p → IsOfInjected w (m ∷ ms) p
later-packet w m ms (Fragment g version index count large bytes) of = (of.0, later-injected w m ms g.0 version of.0 of.1, of.2, of.3, of.4)
later-packet w m ms _ of = tt

later-node : (w : World) (m : Moment) (ms : List Moment) (hs : List Happening) → IsInjectedNode w ms hs → IsInjectedNode w (m ∷ ms) hs
later-node w m ms hs old = record {
  holds = λ h. elim (old.holds h) [ inl none ↦ inl none | inr was ↦ inr (later-injected w m ms h (held_version h hs) (held_image h hs) was) ];
  heard_of = λ h. each-weaker (IsOfInjected w ms) (IsOfInjected w (m ∷ ms)) (later-packet w m ms) (heard_since h hs) (old.heard_of h);
}

pub node-hears : (w : World) (ms : List Moment) (hs : List Happening) (p : Packet) → IsInjectedNode w ms hs → IsOfInjected w ms p → IsInjectedNode w ms (Hears p ∷ hs)
node-hears w ms hs p old one = record { holds = old.holds; heard_of = λ h. each-push (IsOfInjected w ms) (heard_since h hs) p (old.heard_of h) one }

node-installs : (w : World) (ms : List Moment) (hs : List Happening) (g version : ℕ) (image : List ℕ) → IsInjectedNode w ms hs → WasInjected w ms g version image → IsInjectedNode w ms (Installs g version image ∷ hs)
node-installs w ms hs g version image old was = record { holds = λ h. held h; heard_of = λ h. heard_by h } where
  held : (h : ℕ) → HoldsInjected w ms (Installs g version image ∷ hs) h
  held h = elim (eqb_tells g h) [
    | inl own ↦ rw own.0 (inr (subst (λ (n : ℕ). WasInjected w ms n version image) own.1 was))
    | inr other ↦ rw other.0 (old.holds h)
  ]

  heard_by : (h : ℕ) → AreOfInjected w ms (heard_since h (Installs g version image ∷ hs))
  heard_by h = elim (eqb_tells g h) [ inl own ↦ rw own.0 tt | inr other ↦ rw other.0 (old.heard_of h) ]

-- what became complete was collected
completed-some : (p : Packet) (hs : List Happening) (g : HandlerId) → completed_by p hs ≡ Some g → (made : ArrayVec ℕ) × (collected_image g.0 (Hears p ∷ hs) ≡ Some made)
completed-some (Fragment k version index count large bytes) hs g by_g = own (nat_lt (complete_version k.0 hs) (complete_version k.0 (Hears (Fragment k version index count large bytes) ∷ hs))) refl by_g where
  found : (o : Option (ArrayVec ℕ)) (t : ℕ) → collected_image k.0 (Hears (Fragment k version index count large bytes) ∷ hs) ≡ o → 1 ≤ (if is_some o then t else 0)
      → (made : ArrayVec ℕ) × (collected_image k.0 (Hears (Fragment k version index count large bytes) ∷ hs) ≡ Some made)
  found None t is some = absurd (omega (arith, some))
  found (Some made) t is some = (made, is)

  own : (b : Bool) → nat_lt (complete_version k.0 hs) (complete_version k.0 (Hears (Fragment k version index count large bytes) ∷ hs)) ≡ b → (if b then Some k else None) ≡ Some g
      → (made : ArrayVec ℕ) × (collected_image g.0 (Hears (Fragment k version index count large bytes) ∷ hs) ≡ Some made)
  own false more given = cc
  own true more given =
      let same : k ≡ g = cc in
      let over : complete_version k.0 hs < complete_version k.0 (Hears (Fragment k version index count large bytes) ∷ hs) = ltb-true _ _ more in
      subst (λ (x : HandlerId). (made : ArrayVec ℕ) × (collected_image x.0 (Hears (Fragment k version index count large bytes) ∷ hs) ≡ Some made)) same
      (found (collected_image k.0 (Hears (Fragment k version index count large bytes) ∷ hs)) (target_version k.0 (Hears (Fragment k version index count large bytes) ∷ hs)) refl (omega (arith, over)))
completed-some _ hs g by_g = cc

-- a completed program was injected
pub completed-injected : (w : World) (ms : List Moment) (hs : List Happening) (packet : Packet) (p : HeldProgram) → IsOneImage w → IsInjectedNode w ms (Hears packet ∷ hs) → completed_by packet hs ≡ Some p.handler
    → p ≡ collected p.handler (Hears packet ∷ hs) → WasInjected w ms p.handler.0 p.version p.image.items
completed-injected w ms hs packet p one node complete is =
    let some = completed-some packet hs p.handler complete in
    let was : WasInjected w ms p.handler.0 (target_version p.handler.0 (Hears packet ∷ hs)) some.0.items = collected-injected w ms p.handler.0 (Hears packet ∷ hs) some.0 one (node.heard_of p.handler.0) some.1 in
    let version : target_version p.handler.0 (Hears packet ∷ hs) ≡ p.version = sym (ap (λ (q : HeldProgram). q.version) is) in
    let image : some.0.items ≡ p.image.items = sym (ap (λ (q : HeldProgram). q.image.items) is ∙ ap (λ (o : Option (ArrayVec ℕ)). (unwrap_or o (record { items = [] })).items) some.1) in
    subst (λ (n : ℕ). WasInjected w ms p.handler.0 n p.image.items) version (subst (λ (xs : List ℕ). WasInjected w ms p.handler.0 (target_version p.handler.0 (Hears packet ∷ hs)) xs) image was)

-- ---- a line that injects

line-injects : (x : Want) (p : HeldProgram) → (of_line x).deed ≡ Installing p → x ≡ Inject p
line-injects (Inject q) p is = let same : q ≡ p = cc in ap Inject same
line-injects _ p is = cc

pub option-injects : (o : Option PlannedLine) (p : HeldProgram) → (option_map_or (λ (l : PlannedLine). of_line l.what) o no_effect).deed ≡ Installing p → (l : PlannedLine) × (o ≡ Some l) × (l.what ≡ Inject p)
option-injects None p is = cc
option-injects (Some l) p is = (l, refl, line-injects l.what p is)

line-injected : (w : World) (n : Node) (m : Moment) (ms : List Moment) (x : ℕ) (p : HeldProgram) → m.cause ≡ event.Planned x → (node_effect w n m.cause).deed ≡ Installing p → WasInjected w (m ∷ ms) p.handler.0 p.version p.image.items
line-injected w n m ms x p is deed = record {
  newer = [];
  moment = m;
  older = ms;
  split = refl;
  place = x;
  cause = is;
  program = p;
  injects = option-injects (slice_get w.plan x) p (subst (λ (c : Cause). (node_effect w n c).deed ≡ Installing p) is deed);
  handler = refl;
  version_is = refl;
  image_is = refl;
}

-- ---- the world

pub record IsInjectedWorld (w : World) (ms : List Moment) (s : WorldState) : Type 0 where
  pub nodes : (k : ℕ) → IsInjectedNode w ms (s.nodes k).exchange
  pub air : (t j number : ℕ) (p : Packet) → Among (event.Deliver j number p) (s.due t) → IsOfInjected w ms p

node-step : (w : World) (m : Moment) (ms : List Moment) (n : Node) → IsOneImage w → Happens w n.exchange m.cause (node_effect w n m.cause) → ((j number : ℕ) (p : Packet) → m.cause ≡ event.Deliver j number p → IsOfInjected w ms p)
    → IsInjectedNode w ms n.exchange → IsInjectedNode w (m ∷ ms) ((node_effect w n m.cause).happened ++ n.exchange)
node-step w m ms n one how got old = by how where
  hs : List Happening
  hs = n.exchange

  now : IsInjectedNode w (m ∷ ms) n.exchange
  now = later-node w m ms n.exchange old

  Goal : List Happening → Type 0
  Goal new = IsInjectedNode w (m ∷ ms) (new ++ n.exchange)

  by : Happens w n.exchange m.cause (node_effect w n m.cause) → IsInjectedNode w (m ∷ ms) ((node_effect w n m.cause).happened ++ n.exchange)
  by (nothing is) = subst Goal (sym is) now
  by (injected x p cause is deed) = subst Goal (sym is) (node-installs w (m ∷ ms) n.exchange p.handler.0 p.version p.image.items now (line-injected w n m ms x p cause deed))
  by (heard j number packet cause is none) = subst Goal (sym is) (node-hears w (m ∷ ms) n.exchange packet now (later-packet w m ms packet (got j number packet cause)))
  by (completed j number packet p cause is deed complete same) =
      let heard_it : IsInjectedNode w (m ∷ ms) (Hears packet ∷ n.exchange) = node-hears w (m ∷ ms) n.exchange packet now (later-packet w m ms packet (got j number packet cause)) in
      subst Goal (sym is) (node-installs w (m ∷ ms) (Hears packet ∷ n.exchange) p.handler.0 p.version p.image.items heard_it (completed-injected w (m ∷ ms) n.exchange packet p one heard_it complete same))
  by (forgot is deed) = subst Goal (sym is) (record { holds = now.holds; heard_of = λ h. tt })
  by (sent k slot cause is next) = subst Goal (sym is) (record { holds = now.holds; heard_of = now.heard_of })

-- ---- what is sent

find-passes : (p : ℕ → Bool) (xs : List ℕ) (z : ℕ) → find p xs ≡ Some z → p z ≡ true
find-passes p [] z is = cc
find-passes p (x ∷ xs) z is = by (p x) refl (λ found. find-passes p xs z found) is where
  by : (b : Bool) → p x ≡ b → (find p xs ≡ Some z → p z ≡ true) → cond b (Some x) (find p xs) ≡ Some z → p z ≡ true
  by true passes rest found = let same : x ≡ z = cc in ap p (sym same) ∙ passes
  by false fails rest found = rest found

next-marked : (n : ℕ) (hs : List Happening) (z : ℕ) → next_slot n hs ≡ Some z → is_marked_slot hs z ≡ true
next-marked n hs z is = by (find (is_marked_slot hs) (slots_from n (next_place (last_sent hs)))) refl is where
  by : (o : Option ℕ) → find (is_marked_slot hs) (slots_from n (next_place (last_sent hs))) ≡ o → option_or o (find (is_marked_slot hs) (slots_from n 0)) ≡ Some z → is_marked_slot hs z ≡ true
  by None none found = find-passes (is_marked_slot hs) (slots_from n 0) z found
  by (Some k) first found = find-passes (is_marked_slot hs) (slots_from n (next_place (last_sent hs))) z (first ∙ found)

abbrev EachOf : World → List Moment → List Packet → Type 0
EachOf w ms ps = (p : Packet) → Among p ps → IsOfInjected w ms p

none-of : (w : World) (ms : List Moment) → EachOf w ms []
none-of w ms p a = absurd a

one-of : (w : World) (ms : List Moment) (q : Packet) → IsOfInjected w ms q → EachOf w ms (q ∷ [])
one-of w ms q of p (inl e) = subst (λ (x : Packet). IsOfInjected w ms x) e of
one-of w ms q of p (inr a) = absurd a

asks-of : (w : World) (ms : List Moment) (hs : List Happening) (hds : List ℕ) → EachOf w ms (map (ask_for hs) hds)
asks-of w ms hs [] p a = absurd a
asks-of w ms hs (h ∷ hds) p (inl e) = subst (λ (x : Packet). IsOfInjected w ms x) e tt
asks-of w ms hs (h ∷ hds) p (inr a) = asks-of w ms hs hds p a

line-sends : (w : World) (ms : List Moment) (x : Want) → EachOf w ms (of_line x).sends
line-sends w ms (Inject p) = none-of w ms
line-sends w ms _ = none-of w ms

planned-sends : (w : World) (ms : List Moment) (o : Option PlannedLine) → EachOf w ms (option_map_or (λ (l : PlannedLine). of_line l.what) o no_effect).sends
planned-sends w ms None = none-of w ms
planned-sends w ms (Some l) = line-sends w ms l.what

fragment-sends : (w : World) (ms : List Moment) (packet : Packet) (hs : List Happening) (o : Option HandlerId) → EachOf w ms (of_fragment packet hs o).sends
fragment-sends w ms packet hs None = none-of w ms
fragment-sends w ms packet hs (Some h) = none-of w ms

packet-sends : (w : World) (ms : List Moment) (hs : List Happening) (packet : Packet) → EachOf w ms (of_packet w hs packet).sends
packet-sends w ms hs (Vector versions) = asks-of w ms (Hears (Vector versions) ∷ hs) (filter (λ h. nat_lt (held_version h hs) (slice_index versions.items h)) (range_with_len 0 (handlers w)))
packet-sends w ms hs (Status g version missing) = none-of w ms
packet-sends w ms hs (Fragment g version index count large bytes) = fragment-sends w ms (Fragment g version index count large bytes) hs (completed_by (Fragment g version index count large bytes) hs)
packet-sends w ms hs (App payload) = none-of w ms

point-sends : (w : World) (ms : List Moment) (n : Node) (o : Fire) → EachOf w ms (of_point w n o).sends
point-sends w ms n fire.Send = one-of w ms _ tt
point-sends w ms n fire.Keep = none-of w ms

slot-sends : (w : World) (ms : List Moment) (hs : List Happening) (o : Option ℕ) → next_slot (handlers w) hs ≡ o → IsInjectedNode w ms hs → EachOf w ms (of_slot hs o).sends
slot-sends w ms hs None is node = none-of w ms
slot-sends w ms hs (Some slot) is node = one-of w ms _ (sent-injected w ms hs slot node.holds (next-marked (handlers w) hs slot is))

effect-sends : (w : World) (ms : List Moment) (n : Node) (c : Cause) → IsInjectedNode w ms n.exchange → EachOf w ms (node_effect w n c).sends
effect-sends w ms n (event.Planned line) node = planned-sends w ms (slice_get w.plan line)
effect-sends w ms n (event.Fire k) node = point-sends w ms n (trickle.at_point n.timer.set n.timer.running w.suppress)
effect-sends w ms n (event.Pump k) node = slot-sends w ms n.exchange (next_slot (handlers w) n.exchange) refl node
effect-sends w ms n (event.Deliver link number packet) node = packet-sends w ms n.exchange packet
effect-sends w ms n _ node = none-of w ms

packets-of : (w : World) (ms : List Moment) (s : WorldState) (m : Moment) → IsInjectedNode w ms (node_at w s m).exchange → EachOf w ms (packets_of w s m)
packets-of w ms s m node p a = elim (among-append p (effect_at w s m).sends (messages w m.told) a) [
  | inl sends ↦ effect-sends w ms (node_at w s m) m.cause node p sends
  | inr told ↦ let found = among-filter_map (message_in w) p m.told told in let message = message-app w found.0 p found.2 in subst (λ (x : Packet). IsOfInjected w ms x) message.1 tt
]

new-of : (w : World) (ms : List Moment) (s : WorldState) (m : Moment) (t j number : ℕ) (p : Packet) → IsInjectedNode w ms (node_at w s m).exchange → Source w s m (at t (event.Deliver j number p)) → IsOfInjected w ms p
new-of w ms s m t j number p node (period is later) = absurd (apart 6 1 refl is)
new-of w ms s m t j number p node (interval l is a) = absurd (of_interval-none w s m t j number p (event_node w m.cause) (node_after w (node_at w s m) m).timer a)
new-of w ms s m t j number p node (delivery sending link among leaves kept is) =
    let same : sending.packet ≡ p = sym (ap (λ (x : Scheduled). delivered-packet x.cause) is) in
    subst (λ (x : Packet). IsOfInjected w ms x) same (packets-of w ms s m node sending.packet (numbered-among sending _ _ (packets_of w s m) among))
new-of w ms s m t j number p node (pump is) = absurd (apart 6 4 refl (ap (λ (x : Scheduled). kind x.cause) is))
new-of w ms s m t j number p node (answer is later call) = absurd (apart 6 5 refl is)

world-step : (w : World) (m : Moment) (before : List Moment) → IsOneImage w → MayCome w (state w before) m → IsInjectedWorld w before (state w before) → IsInjectedWorld w (m ∷ before) (state w (m ∷ before))
world-step w m before one may old = record {
  nodes = λ k. elim (eqb_tells k (event_node w m.cause)) [
    | inl same ↦ subst (λ (i : ℕ). IsInjectedNode w (m ∷ before) ((state w (m ∷ before)).nodes i).exchange) (sym same.1)
        (subst (λ (n : Node). IsInjectedNode w (m ∷ before) n.exchange) (sym (nodes-here w (state w before) m)) here)
    | inr other ↦ subst (λ (n : Node). IsInjectedNode w (m ∷ before) n.exchange) (sym (nodes-other w (state w before) m k other.1)) (later-node w m before ((state w before).nodes k).exchange (old.nodes k))
  ];
  air = λ t j number p a. later-packet w m before p (elim (due-from w (state w before) m t (event.Deliver j number p) a) [
    | inl was ↦ old.air t j number p was.0
    | inr new ↦ new-of w before (state w before) m t j number p (old.nodes (event_node w m.cause)) (source w (state w before) m (at t (event.Deliver j number p)) new)
  ]);
} where
  here : IsInjectedNode w (m ∷ before) ((effect_at w (state w before) m).happened ++ (node_at w (state w before) m).exchange)
  here = node-step w m before (node_at w (state w before) m) one (happens w (node_at w (state w before) m) m.cause)
      (λ j number p is. old.air m.time j number p (subst (λ (c : Cause). Among c ((state w before).due m.time)) is (among-next (state w before) m.time m.cause may.next))) (old.nodes (event_node w m.cause))

start-of : (w : World) (t j number : ℕ) (p : Packet) → Among (event.Deliver j number p) ((world_start w).due t) → IsOfInjected w [] p
start-of w t j number p a = elim (among-append (at t (event.Deliver j number p)) (lines_from 0 w.plan) _ (among-un_of_time t (event.Deliver j number p) _ a)) [
  | inl line ↦ absurd (apart 6 0 refl (line-kind (at t (event.Deliver j number p)) 0 w.plan line))
  | inr b ↦ let node = among-flat_map (first_of w) (at t (event.Deliver j number p)) (range_with_len 0 w.nodes) b in
      elim (among-append (at t (event.Deliver j number p)) (of_interval node.0 (start_node w node.0).timer) _ node.2) [
        | inl c ↦ absurd (of_interval-none w (world_start w) (record { time = 0; cause = event.Pump 0; told = []; pace = no_pace }) t j number p node.0 (start_node w node.0).timer c)
        | inr d ↦ absurd (apart 6 1 refl (period-kind w (at t (event.Deliver j number p)) node.0 d))
      ]
]

pub run-injected : (w : World) (ms : List Moment) → IsOneImage w → HaveCome w ms → IsInjectedWorld w ms (state w ms)
run-injected w [] one come = record { nodes = λ k. record { holds = λ h. inl (refl, refl); heard_of = λ h. tt }; air = λ t j number p a. start-of w t j number p a }
run-injected w (m ∷ before) one come = world-step w m before one come.1 (run-injected w before one come.0)

-- ---- each install

pub installs_injected : (w : World) → IsOneImage w → InstallsInjected w
installs_injected w one m before p come deed = by (installer w (node_at w (state w before) m) m.cause p deed) where
  world : IsInjectedWorld w before (state w before)
  world = run-injected w before one come.0

  by : Installer m.cause (node_at w (state w before) m).exchange p → WasInjected w (m ∷ before) p.handler.0 p.version p.image.items
  by (inl line) = line-injected w (node_at w (state w before) m) m before line.0 p line.1 deed
  by (inr got) =
      let of : IsOfInjected w before got.2 = world.air m.time got.0 got.1 got.2 (subst (λ (c : Cause). Among c ((state w before).due m.time)) got.3 (among-next (state w before) m.time m.cause come.1.next)) in
      let node : IsInjectedNode w before (Hears got.2 ∷ (node_at w (state w before) m).exchange) = node-hears w before (node_at w (state w before) m).exchange got.2 (world.nodes (event_node w m.cause)) of in
      later-injected w m before p.handler.0 p.version p.image.items (completed-injected w before (node_at w (state w before) m).exchange got.2 p one node got.4 got.5)
