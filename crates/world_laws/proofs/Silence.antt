-- What a node that keeps silent has heard, and from whom.
use Rattle.std.proofs.Common.{◌≡◌, ◌<◌, ◌≤◌, ℕ, min, map, Bool, true, false, List, [], ◌∷◌, ◌++◌, refl, sym, ◌∙◌, ap, subst, arith, inl, inr, ◌⊎◌}
use Rattle.std.specs.Prelude.{Option, Some, None, nat_lt, nat_le, bytes_eq, ◌&&◌, if◌then◌else◌, slice_get, slice_index}
use Rattle.std.specs.Option.{option_map_or}
use Rattle.std.specs.List.{filter, range_with_len}
use Rattle.std.proofs.lemmas.Bool.{leb-true, lt-ltb}
use Rattle.std.proofs.lemmas.Bool.Decides.{eqb_tells}
use Rattle.std.proofs.lemmas.Slice.Eq.{bytes_eq-Decides}
use Rattle.arrayvec.specs.ArrayVec.{ArrayVec}
use Rattle.vm_shape.specs.declared.settings.TrickleSet.{TrickleSet}
use Rattle.mate_num.specs.declared.id.HandlerId.{HandlerId}
use Rattle.packet_codec.specs.declared.packet.Packet.{Packet}
use Rattle.packet_codec.specs.declared.packet.Packet.TheVariants.{Vector, Status, Fragment, App}
use Rattle.trickle_timer.specs.Intervals as trickle
use Rattle.trickle_timer.specs.Timer.{begun_timer, packet_event}
use Rattle.trickle_timer.specs.declared.timer.Fire.{Fire}
use Rattle.trickle_timer.specs.declared.timer.Fire.TheVariants as fire
use Rattle.capsule_exchange.specs.Happenings.{Happening, Hears, held_version, held_versions, ask_for, asks_after, completed_by, next_slot}
use Rattle.world_rules.specs.Cause.{Cause}
use Rattle.world_rules.specs.Cause as event
use Rattle.world_rules.specs.World.{World, PlannedLine, Want, Inject, handlers, links_from}
use Rattle.world_rules.specs.Effect.{Node, NodeEffect, no_effect, node_effect, of_line, of_packet, of_fragment, of_point, of_slot, event_node}
use Rattle.world_rules.specs.State.{Moment, WorldState, messages, node_at, effect_at, packets_of, node_after, timer_after, state}
use Rattle.world_rules.specs.Run.{HaveCome}
use Rattle.world_laws.specs.Times.{IsRightSet}
use Rattle.world_laws.specs.Silence.{HeardItsOwn, CountedIsHeard, SilentHeardTheirOwn, WasToldBy, VectorsComeFromHolders, HearersAsk}
use Rattle.mate_num.specs.Lists.{Among}
use Rattle.mate_num.proofs.ListLemmas.{among-filter, among-left}
use Rattle.world_laws.specs.Arrivals.{sent_by, WasSent}
use Rattle.world_laws.specs.Packets.{SendsFor, TellsVersions, AsksFor, OwesFragment, IsMessage}
use Rattle.world_laws.proofs.Points.{nodes-here, nodes-other, run-timed, among-range}
use Rattle.world_laws.proofs.Origins.{among-get, place-of, arrivals_were_sent}
use Rattle.world_laws.proofs.Packets.{packets_have_reasons}
use Rattle.world_laws.proofs.Tame.{numbered-among}
use Rattle.world_laws.proofs.Hop.{among-map}

-- ---- which event is counted

-- a Vector that names what the node holds
abbrev IsOwn : World → List Happening → Cause → Type 0
IsOwn w hs c = (link number : ℕ) × (versions : ArrayVec ℕ) × (c ≡ event.Deliver link number (Vector versions)) × (versions.items ≡ held_versions (handlers w) hs)

counted-line : (w : World) (hs : List Happening) (c : Cause) (x : Want) → (of_line x).timer ≡ Some trickle.Consistent → IsOwn w hs c
counted-line w hs c (Inject p) is = cc
counted-line w hs c _ is = cc

counted-planned : (w : World) (hs : List Happening) (c : Cause) (o : Option PlannedLine) → (option_map_or (λ (l : PlannedLine). of_line l.what) o no_effect).timer ≡ Some trickle.Consistent → IsOwn w hs c
counted-planned w hs c None is = cc
counted-planned w hs c (Some l) is = counted-line w hs c l.what is

counted-fragment : (w : World) (hs : List Happening) (c : Cause) (packet : Packet) (o : Option HandlerId) → (of_fragment packet hs o).timer ≡ Some trickle.Consistent → IsOwn w hs c
counted-fragment w hs c packet None is = cc
counted-fragment w hs c packet (Some h) is = cc

counted-vector : (w : World) (hs : List Happening) (link number : ℕ) (versions : ArrayVec ℕ) → Some (packet_event (bytes_eq versions.items (held_versions (handlers w) hs))) ≡ Some trickle.Consistent → IsOwn w hs (event.Deliver link number (Vector versions))
counted-vector w hs link number versions is = by (bytes_eq versions.items (held_versions (handlers w) hs)) refl is where
  by : (b : Bool) → bytes_eq versions.items (held_versions (handlers w) hs) ≡ b → Some (packet_event b) ≡ Some trickle.Consistent → IsOwn w hs (event.Deliver link number (Vector versions))
  by true same given = (link, number, versions, refl, (bytes_eq-Decides versions.items (held_versions (handlers w) hs)).0 same)
  by false other given = cc

counted-packet : (w : World) (hs : List Happening) (link number : ℕ) (packet : Packet) → (of_packet w hs packet).timer ≡ Some trickle.Consistent → IsOwn w hs (event.Deliver link number packet)
counted-packet w hs link number (Vector versions) is = counted-vector w hs link number versions is
counted-packet w hs link number (Status g version missing) is = cc
counted-packet w hs link number (Fragment g version index count large bytes) is =
    counted-fragment w hs (event.Deliver link number (Fragment g version index count large bytes)) (Fragment g version index count large bytes) (completed_by (Fragment g version index count large bytes) hs) is
counted-packet w hs link number (App payload) is = cc

counted-point : (w : World) (hs : List Happening) (c : Cause) (n : Node) (o : Fire) → (of_point w n o).timer ≡ Some trickle.Consistent → IsOwn w hs c
counted-point w hs c n fire.Send is = cc
counted-point w hs c n fire.Keep is = cc

counted-slot : (w : World) (hs : List Happening) (c : Cause) (o : Option ℕ) → (of_slot hs o).timer ≡ Some trickle.Consistent → IsOwn w hs c
counted-slot w hs c None is = cc
counted-slot w hs c (Some slot) is = cc

counted : (w : World) (n : Node) (c : Cause) → (node_effect w n c).timer ≡ Some trickle.Consistent → IsOwn w n.exchange c
counted w n (event.Planned line) is = counted-planned w n.exchange (event.Planned line) (slice_get w.plan line) is
counted w n (event.Fire node) is = counted-point w n.exchange (event.Fire node) n (trickle.at_point n.timer.set n.timer.running w.suppress) is
counted w n (event.Pump node) is = counted-slot w n.exchange (event.Pump node) (next_slot (handlers w) n.exchange) is
counted w n (event.Deliver link number packet) is = counted-packet w n.exchange link number packet is
counted w n (event.Period node h) is = cc
counted w n (event.Expire node) is = cc
counted w n (event.Due node c inv value) is = cc

-- ---- what the count is after an event

-- the event is counted; or packets were counted in the running interval before
abbrev Counts : Node → NodeEffect → ℕ → Type 0
Counts n e time = (e.timer ≡ Some trickle.Consistent) ⊎ ((1 ≤ n.timer.running.heard) × ((timer_after n e time).running.begin ≡ n.timer.running.begin))

counts : (n : Node) (e : NodeEffect) (time : ℕ) → 1 ≤ (timer_after n e time).running.heard → Counts n e time
counts n e time some = by e.timer some where
  short : (t : trickle.TimerEvent) (b : Bool)
      → 1 ≤ (option_map_or (λ length. begun_timer n.timer.set n.timer.words length time) (if b then Some n.timer.set.imin else None) (record n.timer { running = record n.timer.running { heard = min n.timer.running.heard 65535 } })).running.heard
      → (1 ≤ n.timer.running.heard)
      × ((option_map_or (λ length. begun_timer n.timer.set n.timer.words length time) (if b then Some n.timer.set.imin else None) (record n.timer { running = record n.timer.running { heard = min n.timer.running.heard 65535 } })).running.begin ≡ n.timer.running.begin)
  short t true low = absurd (omega (arith, low))
  short t false low = (omega (arith, low), refl)

  by : (o : Option trickle.TimerEvent) → 1 ≤ (timer_after n (record e { timer = o }) time).running.heard → Counts n (record e { timer = o }) time
  by None low = inr (low, refl)
  by (Some trickle.Consistent) low = inl refl
  by (Some trickle.Inconsistent) low = inr (short trickle.Inconsistent (nat_lt n.timer.set.imin n.timer.running.length) low)
  by (Some trickle.Reset) low = inr (short trickle.Reset (nat_lt n.timer.set.imin n.timer.running.length) low)
  by (Some trickle.Again) low = absurd (omega (arith, low))
  by (Some trickle.Expired) low = absurd (omega (arith, low))

-- ---- along a run

heard-before : (w : World) (m : Moment) (ms : List Moment) (k since : ℕ) → HeardItsOwn w ms k since → HeardItsOwn w (m ∷ ms) k since
heard-before w m ms k since found = record {
  newer = m ∷ found.newer;
  moment = found.moment;
  older = found.older;
  split = ap (λ (xs : List Moment). m ∷ xs) found.split;
  link = found.link;
  number = found.number;
  versions = found.versions;
  cause = found.cause;
  to = found.to;
  own = found.own;
  since_then = found.since_then;
}

pub counted_is_heard : (w : World) → IsRightSet w.description.trickle → CountedIsHeard w
counted_is_heard w set [] k below come some = absurd (omega (arith, some))
counted_is_heard w set (m ∷ before) k below come some = elim (eqb_tells k (event_node w m.cause)) [
  | inr other ↦ (let same : ((state w (m ∷ before)).nodes k) ≡ ((state w before).nodes k) = nodes-other w (state w before) m k other.1 in
      subst (λ (n : Node). HeardItsOwn w (m ∷ before) k n.timer.running.begin) (sym same)
      (heard-before w m before k ((state w before).nodes k).timer.running.begin (counted_is_heard w set before k below come.0 (subst (λ (n : Node). 1 ≤ n.timer.running.heard) same some))))
  | inl same ↦ here same.1 (λ low. counted_is_heard w set before k below come.0 low)
] where
  here : k ≡ event_node w m.cause → (1 ≤ ((state w before).nodes k).timer.running.heard → HeardItsOwn w before k ((state w before).nodes k).timer.running.begin)
      → HeardItsOwn w (m ∷ before) k ((state w (m ∷ before)).nodes k).timer.running.begin
  here same rest = by (counts n (effect_at w (state w before) m) m.time (subst (λ (x : Node). 1 ≤ x.timer.running.heard) now some)) where
    n : Node
    n = node_at w (state w before) m

    now : (state w (m ∷ before)).nodes k ≡ node_after w (node_at w (state w before) m) m
    now = ap (λ (i : ℕ). (state w (m ∷ before)).nodes i) same ∙ nodes-here w (state w before) m

    old : (state w before).nodes k ≡ node_at w (state w before) m
    old = ap (λ (i : ℕ). (state w before).nodes i) same

    begun : ((state w (m ∷ before)).nodes k).timer.running.begin ≤ m.time
    begun = (run-timed w k (m ∷ before) set below come).0.begun_before

    by : Counts (node_at w (state w before) m) (effect_at w (state w before) m) m.time → HeardItsOwn w (m ∷ before) k ((state w (m ∷ before)).nodes k).timer.running.begin
    by (inl own) =
        let found = counted w (node_at w (state w before) m) m.cause own in
        record {
          newer = [];
          moment = m;
          older = before;
          split = refl;
          link = found.0;
          number = found.1;
          versions = found.2;
          cause = found.3;
          to = sym (same ∙ ap (event_node w) found.3);
          own = found.4 ∙ ap (λ (x : Node). held_versions (handlers w) x.exchange) (sym old);
          since_then = begun;
        }
    by (inr was) = subst (λ (t : ℕ). HeardItsOwn w (m ∷ before) k t) (ap (λ (x : Node). x.timer.running.begin) old ∙ sym was.1 ∙ sym (ap (λ (x : Node). x.timer.running.begin) now))
        (heard-before w m before k ((state w before).nodes k).timer.running.begin
        (rest (subst (λ (x : Node). 1 ≤ x.timer.running.heard) (sym old) was.0)))

pub silent_heard_their_own : (w : World) → IsRightSet w.description.trickle → SilentHeardTheirOwn w
silent_heard_their_own w set ms k below come low keeps = counted_is_heard w set ms k below come (by w.suppress (nat_le ((state w ms).nodes k).timer.set.k ((state w ms).nodes k).timer.running.heard) refl keeps) where
  set_is : ((state w ms).nodes k).timer.set ≡ w.description.trickle
  set_is = (run-timed w k ms set below come).0.set

  by : (a b : Bool) → nat_le ((state w ms).nodes k).timer.set.k ((state w ms).nodes k).timer.running.heard ≡ b → (if a && b then fire.Keep else fire.Send) ≡ fire.Keep → 1 ≤ ((state w ms).nodes k).timer.running.heard
  by true true is given =
      let most : ((state w ms).nodes k).timer.set.k ≤ ((state w ms).nodes k).timer.running.heard = leb-true _ _ is in
      let constant : ((state w ms).nodes k).timer.set.k ≡ w.description.trickle.k = ap (λ (t : TrickleSet). t.k) set_is in
      omega (arith, most, constant, low)
  by true false is given = cc
  by false b is given = cc

-- ---- from whom

abbrev is_told : Packet → Bool
is_told (Vector versions) = true
is_told _ = false

abbrev told_items : Packet → List ℕ
told_items (Vector versions) = versions.items
told_items _ = []

-- what is asked for is no Vector
no-vector : (hs : List Happening) (hds : List ℕ) (versions : ArrayVec ℕ) → Among (Vector versions) (map (ask_for hs) hds) → ⊥
no-vector hs [] versions a = a
no-vector hs (h ∷ hds) versions (inl e) = let clash : false ≡ true = ap is_told e in cc
no-vector hs (h ∷ hds) versions (inr a) = no-vector hs hds versions a

asks-no-vector : (n : ℕ) (heard : Packet) (hs : List Happening) (versions : ArrayVec ℕ) → Among (Vector versions) (asks_after n heard hs) → ⊥
asks-no-vector n (Vector told) hs versions a = no-vector (Hears (Vector told) ∷ hs) (filter (λ h. nat_lt (held_version h hs) (slice_index told.items h)) (range_with_len 0 n)) versions a
asks-no-vector n (Status g version missing) hs versions a = a
asks-no-vector n (Fragment g version index count large bytes) hs versions a = a
asks-no-vector n (App payload) hs versions a = a

pub vectors_come_from_holders : (w : World) → VectorsComeFromHolders w
vectors_come_from_holders w before x link number versions come cause = by (arrivals_were_sent w before x link number (Vector versions) come cause) where
  by : WasSent w before x.time link number (Vector versions) → WasToldBy w before x.time link versions
  by was = reason (packets_have_reasons w (state w was.older) was.moment place.0 (Vector versions) place.1) where
    place : (i : ℕ) × (slice_get (packets_of w (state w was.older) was.moment) i ≡ Some (Vector versions))
    place = place-of (packets_of w (state w was.older) was.moment) (Vector versions)
        (numbered-among (record { number = number; before = was.before; packet = Vector versions }) _ _ (packets_of w (state w was.older) was.moment)
        (among-get (sent_by w (state w was.older) was.moment) was.place (record { number = number; before = was.before; packet = Vector versions }) was.sent))

    here : (node : ℕ) → was.moment.cause ≡ event.Fire node → node_at w (state w was.older) was.moment ≡ (state w was.older).nodes node
    here node is = ap (λ (c : Cause). (state w was.older).nodes (event_node w c)) is

    reason : SendsFor w (state w was.older) was.moment (Vector versions) → WasToldBy w before x.time link versions
    reason (TellsVersions node is sends told) = record {
      newer = was.newer;
      moment = was.moment;
      older = was.older;
      split = was.split;
      holder = node;
      cause = is;
      sends = subst (λ (n : Node). trickle.at_point n.timer.set n.timer.running w.suppress ≡ fire.Send) (here node is) sends;
      leaves_there = subst (λ (c : Cause). Among link (links_from w (event_node w c))) is (among-get (links_from w (event_node w was.moment.cause)) was.link link was.leaves_there);
      own = ap told_items told ∙ ap (λ (n : Node). held_versions (handlers w) n.exchange) (here node is);
      in_time = was.in_time;
    }
    reason (AsksFor from n i heard is asked) = absurd (asks-no-vector (handlers w) heard (node_at w (state w was.older) was.moment).exchange versions
        (among-get (asks_after (handlers w) heard (node_at w (state w was.older) was.moment).exchange) i (Vector versions) asked))
    reason (OwesFragment node slot is next told) = let clash : true ≡ false = ap is_told told in cc
    reason (IsMessage front rest n f args told send is) = let clash : true ≡ false = ap is_told is in cc

pub hearers_ask : (w : World) → HearersAsk w
hearers_ask w s x link number h versions cause low less =
    among-left asked (effect_at w s x).sends (messages w x.told)
    (subst (λ (c : Cause). Among asked (node_effect w (node_at w s x) c).sends) (sym cause)
    (among-map (ask_for (Hears (Vector versions) ∷ (node_at w s x).exchange)) h (filter (λ g. nat_lt (held_version g (node_at w s x).exchange) (slice_index versions.items g)) (range_with_len 0 (handlers w)))
    (among-filter (λ g. nat_lt (held_version g (node_at w s x).exchange) (slice_index versions.items g)) h (range_with_len 0 (handlers w)) (lt-ltb _ _ less) (among-range 0 (handlers w) h (omega arith) (omega (arith, low)))))) where
      asked : Packet
      asked = ask_for (Hears (Vector versions) ∷ (node_at w s x).exchange) h
