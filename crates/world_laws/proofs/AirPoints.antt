-- Each point has a Keep or a Vector.
use Rattle.std.proofs.Common.{◌≡◌, ℕ, suc, Bool, true, false, cond, List, [], ◌∷◌, ◌++◌, map, length, Option, Some, None, refl, sym, ◌∙◌, ap, inl, inr}
use Rattle.std.specs.Prelude.{slice_get, slice_index, nat_lt, ◌==◌, if◌then◌else◌, count_by}
use Rattle.std.specs.List.{filter, filter_map, flat_map, cons_option, range_with_len}
use Rattle.std.specs.Option.{option_map_or}
use Rattle.std.proofs.lemmas.List.{append-nil}
use Rattle.std.proofs.lemmas.List.Elements.{filter_map-append, filter-append}
use Rattle.std.proofs.lemmas.Bool.Decides.{eqb_tells}
use Rattle.mate_num.specs.declared.call.Stamp.{Stamp}
use Rattle.mate_num.specs.declared.id.HandlerId.{HandlerId}
use Rattle.mate_journal.specs.Journal.{JournalEntry, Posted, Dropped, Started, Asked, Answered, Ended, Installed, Reset, Seen, Void}
use Rattle.mate_journal.specs.declared.air.Air.TheVariants as air
use Rattle.mate_journal.specs.declared.air.Aired.{Aired}
use Rattle.packet_codec.specs.Bytes.{packet_bytes}
use Rattle.packet_codec.specs.declared.packet.Packet.{Packet}
use Rattle.packet_codec.specs.declared.packet.Packet.TheVariants.{Vector, Status, Fragment, App}
use Rattle.trickle_timer.specs.Intervals as trickle
use Rattle.trickle_timer.specs.declared.timer.Fire.{Fire}
use Rattle.trickle_timer.specs.declared.timer.Fire.TheVariants as fire
use Rattle.capsule_exchange.specs.Happenings.{Happening, Hears, held_version, ask_for, completed_by, next_slot}
use Rattle.world_rules.specs.Cause.{Cause}
use Rattle.world_rules.specs.Cause as event
use Rattle.world_rules.specs.World.{World, PlannedLine, Want, Inject, Post, Show, ResetNode, Noise, handlers, receiver, called_kind}
use Rattle.world_rules.specs.Effect.{Node, no_effect, node_effect, of_line, of_packet, of_fragment, of_point, of_slot, begun_length, event_node}
use Rattle.world_rules.specs.State.{Moment, WorldState, numbered_sendings, sendings, packets_of, messages, is_send_kind, node_at, effect_at, air_made, state}
use Rattle.world_rules.specs.Run.{stamp_of, airs}
use Rattle.world_laws.specs.Transmissions.{Transmission, losing_links}
use Rattle.world_laws.specs.TimerRecords.{PointDone, sent_as_vector, done_then, point_told, point_of, points_of, PointsAreTold}
use Rattle.world_laws.proofs.Records.{stamped, interval_air, sendings_air, parts}
use Rattle.world_laws.proofs.Sent.{told_as, decided, sendings-decided}

-- ---- which packets are Vectors

abbrev is_vector : Packet → Bool
is_vector (Vector versions) = true
is_vector _ = false

vector-bytes : (vm : ℕ) (p : Packet) → sent_as_vector (packet_bytes vm p) ≡ (if is_vector p then Some fire.Send else None)
vector-bytes vm (Vector versions) = refl
vector-bytes vm (Status g version missing) = refl
vector-bytes vm (Fragment g version index count true bytes) = refl
vector-bytes vm (Fragment g version index count false bytes) = refl
vector-bytes vm (App payload) = refl

-- what is told of these packets
abbrev vectors_sent : ℕ → List Packet → List PointDone
vectors_sent time ps = map (λ (p : Packet). record { time = time; does = fire.Send }) (filter is_vector ps)

abbrev told_if : Bool → List PointDone → List PointDone
told_if b xs = if b then xs else []

losses-none : (w : World) (k : ℕ) (x : Transmission) (js : List ℕ) (rest : List Aired) → filter_map (point_told k) (map (λ j. stamped x.at x.node (air.Lost x.number (receiver w j))) js ++ rest) ≡ filter_map (point_told k) rest
losses-none w k x [] rest = refl
losses-none w k x (j ∷ js) rest = by (x.node == k) (losses-none w k x js rest) where
  by : (b : Bool) → filter_map (point_told k) (map (λ j. stamped x.at x.node (air.Lost x.number (receiver w j))) js ++ rest) ≡ filter_map (point_told k) rest
      → cons_option (if b then None else None) (filter_map (point_told k) (map (λ j. stamped x.at x.node (air.Lost x.number (receiver w j))) js ++ rest)) ≡ filter_map (point_told k) rest
  by true is = is
  by false is = is

one-sent : (time : ℕ) (b v : Bool) (p : Packet) (ps : List Packet) (rest : List PointDone) → rest ≡ told_if b (vectors_sent time ps) → is_vector p ≡ v
    → cons_option (if b then done_then time (if v then Some fire.Send else None) else None) rest ≡ told_if b (map (λ (q : Packet). record { time = time; does = fire.Send }) (cond v (p ∷ filter is_vector ps) (filter is_vector ps)))
one-sent time true true p ps rest is v = ap (λ (xs : List PointDone). record { time = time; does = fire.Send } ∷ xs) is
one-sent time true false p ps rest is v = is
one-sent time false true p ps rest is v = is
one-sent time false false p ps rest is v = is

sent-told : (w : World) (k : ℕ) (at : Stamp) (node number before : ℕ) (ps : List Packet)
    → filter_map (point_told k) (flat_map (decided w) (map (told_as w at node) (numbered_sendings number before ps))) ≡ told_if (node == k) (vectors_sent at.time ps)
sent-told w k at node number before [] = by (node == k) where
  by : (b : Bool) → ◌≡◌ {A = List PointDone} [] (told_if b [])
  by true = refl
  by false = refl
sent-told w k at node number before (p ∷ ps) =
    let x : Transmission = told_as w at node (record { number = number; before = before; packet = p }) in
    let later : List Transmission = map (told_as w at node) (numbered_sendings (suc number) (suc before) ps) in
    ap (λ (xs : List PointDone). cons_option (if node == k then done_then at.time (sent_as_vector (packet_bytes w.description.vm_id p)) else None) xs) (losses-none w k x (losing_links w x) (flat_map (decided w) later) ∙ sent-told w k at node (suc number) (suc before) ps)
    ∙ ap (λ (o : Option Fire). cons_option (if node == k then done_then at.time o else None) (told_if (node == k) (vectors_sent at.time ps))) (vector-bytes w.description.vm_id p)
    ∙ one-sent at.time (node == k) (is_vector p) p ps (told_if (node == k) (vectors_sent at.time ps)) refl refl

-- ---- which packets an event sends

messages-none : (w : World) (told : List JournalEntry) → filter is_vector (messages w told) ≡ []
messages-none w [] = refl
messages-none w (Asked n f args ∷ told) = by (is_send_kind (called_kind w f)) (messages-none w told) where
  by : (b : Bool) → filter is_vector (messages w told) ≡ [] → filter is_vector (cons_option (if b then Some (App args) else None) (messages w told)) ≡ []
  by true none = none
  by false none = none
messages-none w (_ ∷ told) = messages-none w told

asks-none : (hs : List Happening) (ks : List ℕ) → filter is_vector (map (ask_for hs) ks) ≡ []
asks-none hs [] = refl
asks-none hs (k ∷ ks) = asks-none hs ks

-- ---- what an event tells of its point

none-told : (b : Bool) → told_if b [] ≡ []
none-told true = refl
none-told false = refl

-- a record of neither
none-said : (at : Stamp) (b : Bool) → ◌≡◌ {A = List PointDone} (cons_option (if b then done_then at.time None else None) []) []
none-said at true = refl
none-said at false = refl

line-point : (k : ℕ) (at : Stamp) (node : ℕ) (x : Want) → filter_map (point_told k) (map (stamped at node) (of_line x).first) ++ told_if (node == k) (vectors_sent at.time (of_line x).sends) ≡ []
line-point k at node (Noise bytes) = ap (λ (xs : List PointDone). xs ++ told_if (node == k) []) (none-said at (node == k)) ∙ none-told (node == k)
line-point k at node _ = none-told (node == k)

planned-point : (k : ℕ) (at : Stamp) (node : ℕ) (o : Option PlannedLine)
    → filter_map (point_told k) (map (stamped at node) (option_map_or (λ (l : PlannedLine). of_line l.what) o no_effect).first) ++ told_if (node == k) (vectors_sent at.time (option_map_or (λ (l : PlannedLine). of_line l.what) o no_effect).sends) ≡ []
planned-point k at node None = none-told (node == k)
planned-point k at node (Some l) = line-point k at node l.what

fire-point : (w : World) (n : Node) (k : ℕ) (at : Stamp) (node : ℕ) (o : Fire)
    → filter_map (point_told k) (map (stamped at node) (of_point w n o).first) ++ told_if (node == k) (vectors_sent at.time (of_point w n o).sends) ≡ (if node == k then record { time = at.time; does = o } ∷ [] else [])
fire-point w n k at node fire.Send = refl
fire-point w n k at node fire.Keep = by (node == k) where
  by : (b : Bool) → cons_option (if b then done_then at.time (Some fire.Keep) else None) [] ++ told_if b [] ≡ (if b then record { time = at.time; does = fire.Keep } ∷ [] else [])
  by true = refl
  by false = refl

slot-point : (hs : List Happening) (k : ℕ) (at : Stamp) (node : ℕ) (o : Option ℕ)
    → filter_map (point_told k) (map (stamped at node) (of_slot hs o).first) ++ told_if (node == k) (vectors_sent at.time (of_slot hs o).sends) ≡ []
slot-point hs k at node None = none-told (node == k)
slot-point hs k at node (Some slot) = none-told (node == k)

fragment-sends : (packet : Packet) (before : List Happening) (o : Option HandlerId) → filter is_vector (of_fragment packet before o).sends ≡ []
fragment-sends packet before None = refl
fragment-sends packet before (Some h) = refl

packet-sends : (w : World) (before : List Happening) (packet : Packet) → filter is_vector (of_packet w before packet).sends ≡ []
packet-sends w before (Vector versions) = asks-none (Hears (Vector versions) ∷ before) (filter (λ h. nat_lt (held_version h before) (slice_index versions.items h)) (range_with_len 0 (handlers w)))
packet-sends w before (Status g version missing) = refl
packet-sends w before (Fragment g version index count large bytes) = fragment-sends (Fragment g version index count large bytes) before (completed_by (Fragment g version index count large bytes) before)
packet-sends w before (App payload) = refl

event-point : (w : World) (n : Node) (k : ℕ) (at : Stamp) (c : Cause)
    → filter_map (point_told k) (map (stamped at (event_node w c)) (node_effect w n c).first) ++ told_if (event_node w c == k) (vectors_sent at.time (node_effect w n c).sends) ≡ point_of w k n at.time c
event-point w n k at (event.Planned line) = planned-point k at (event_node w (event.Planned line)) (slice_get w.plan line)
event-point w n k at (event.Period node h) = none-told (node == k)
event-point w n k at (event.Fire node) = fire-point w n k at node (trickle.at_point n.timer.set n.timer.running w.suppress)
event-point w n k at (event.Expire node) = none-told (node == k)
event-point w n k at (event.Pump node) = slot-point n.exchange k at node (next_slot (handlers w) n.exchange)
event-point w n k at (event.Due node c inv value) = none-told (node == k)
event-point w n k at (event.Deliver link number packet) =
    ap (λ (xs : List PointDone). xs ++ told_if (receiver w link == k) (vectors_sent at.time (of_packet w n.exchange packet).sends)) (none-said at (receiver w link == k))
    ∙ ap (λ (ps : List Packet). told_if (receiver w link == k) (map (λ (p : Packet). record { time = at.time; does = fire.Send }) ps)) (packet-sends w n.exchange packet)
    ∙ none-told (receiver w link == k)

interval-point : (k : ℕ) (at : Stamp) (node : ℕ) (o : Option ℕ) → filter_map (point_told k) (map (stamped at node) (interval_air o)) ≡ []
interval-point k at node None = refl
interval-point k at node (Some l) = none-said at (node == k)

event-tells : (w : World) (m : Moment) (before : List Moment) (k : ℕ)
    → filter_map (point_told k) (map (stamped (stamp_of m before) (event_node w m.cause)) (air_made w (state w before) m)) ≡ point_of w k (node_at w (state w before) m) m.time m.cause
event-tells w m before k =
    let s : WorldState = state w before in
    let at : Stamp = stamp_of m before in
    let node : ℕ = event_node w m.cause in
    let first : List Aired = map (stamped at node) (effect_at w s m).first in
    let begins : List Aired = map (stamped at node) (interval_air (begun_length (node_at w s m) (effect_at w s m))) in
    let sends : List Aired = map (stamped at node) (sendings_air w s m) in
    let own : List Packet = (effect_at w s m).sends in
    ap (filter_map (point_told k)) (parts w s m at node)
    ∙ filter_map-append (point_told k) (first ++ begins) sends
    ∙ ap (λ (xs : List PointDone). xs ++ filter_map (point_told k) sends)
    (filter_map-append (point_told k) first begins
    ∙ ap (λ (xs : List PointDone). filter_map (point_told k) first ++ xs) (interval-point k at node (begun_length (node_at w s m) (effect_at w s m)))
    ∙ append-nil (filter_map (point_told k) first))
    ∙ ap (λ (xs : List PointDone). filter_map (point_told k) first ++ xs)
    (ap (filter_map (point_told k)) (sendings-decided w at node (sendings w s node (packets_of w s m)))
    ∙ sent-told w k at node (suc (length s.senders)) (count_by (λ j. j == node) s.senders) (packets_of w s m)
    ∙ ap (λ (ps : List Packet). told_if (node == k) (map (λ (p : Packet). record { time = at.time; does = fire.Send }) ps))
    (filter-append is_vector own (messages w m.told) ∙ ap (λ (ps : List Packet). filter is_vector own ++ ps) (messages-none w m.told) ∙ append-nil (filter is_vector own)))
    ∙ event-point w (node_at w s m) k at m.cause

-- ---- along a run

start-points : (w : World) (k : ℕ) (js : List ℕ) → filter_map (point_told k) (map (λ j. stamped (record { event = 0; time = 0 }) j (air.Interval w.description.trickle.imin)) js) ≡ []
start-points w k [] = refl
start-points w k (j ∷ js) = by (j == k) (start-points w k js) where
  by : (b : Bool) → filter_map (point_told k) (map (λ j. stamped (record { event = 0; time = 0 }) j (air.Interval w.description.trickle.imin)) js) ≡ []
      → cons_option (if b then None else None) (filter_map (point_told k) (map (λ j. stamped (record { event = 0; time = 0 }) j (air.Interval w.description.trickle.imin)) js)) ≡ []
  by true none = none
  by false none = none

-- a point is of its own node
own-point : (w : World) (k : ℕ) (nodes : ℕ → Node) (time : ℕ) (c : Cause) → point_of w k (nodes (event_node w c)) time c ≡ point_of w k (nodes k) time c
own-point w k nodes time (event.Fire node) = elim (eqb_tells node k) [
  | inl same ↦ ap (λ (i : ℕ). point_of w k (nodes i) time (event.Fire node)) same.1
  | inr other ↦ ap (λ (b : Bool). if b then record { time = time; does = trickle.at_point (nodes node).timer.set (nodes node).timer.running w.suppress } ∷ [] else []) other.0
      ∙ sym (ap (λ (b : Bool). if b then record { time = time; does = trickle.at_point (nodes k).timer.set (nodes k).timer.running w.suppress } ∷ [] else []) other.0)
]
own-point w k nodes time _ = refl

pub points_are_told : (w : World) → PointsAreTold w
points_are_told w [] k = start-points w k (range_with_len 0 w.nodes)
points_are_told w (m ∷ before) k =
    filter_map-append (point_told k) (airs w before) (map (stamped (stamp_of m before) (event_node w m.cause)) (air_made w (state w before) m))
    ∙ ap (λ (xs : List PointDone). xs ++ filter_map (point_told k) (map (stamped (stamp_of m before) (event_node w m.cause)) (air_made w (state w before) m))) (points_are_told w before k)
    ∙ ap (λ (xs : List PointDone). points_of w k before ++ xs) (event-tells w m before k ∙ own-point w k (state w before).nodes m.time m.cause)
