-- Packets and their losses on the air.
use Rattle.std.proofs.Common.{◌≡◌, ℕ, zero, suc, ◌+◌, Bool, true, false, cond, not, ◌&&◌, ◌||◌, List, [], ◌∷◌, ◌++◌, map, length, refl, sym, ◌∙◌, ap, arith, inl, inr, append_assoc, length-append}
use Rattle.std.specs.Prelude.{◌==◌, if◌then◌else◌, count_by}
use Rattle.std.specs.List.{filter, flat_map, fold, range_with_len}
use Rattle.std.proofs.lemmas.List.{map-append, append-nil, length-map}
use Rattle.std.proofs.lemmas.List.Elements.{filter-append}
use Rattle.std.proofs.lemmas.List.Sums.{fold-append, sum_by-append}
use Rattle.std.proofs.lemmas.Grind.{flat_map-append}
use Rattle.std.proofs.lemmas.Bool.Decides.{eqb_tells}
use Rattle.arrayvec.specs.ArrayVec.{ArrayVec}
use Rattle.mate_num.specs.declared.call.Stamp.{Stamp}
use Rattle.mate_journal.specs.declared.air.Air.{Air}
use Rattle.mate_journal.specs.declared.air.Air.TheVariants as air
use Rattle.mate_journal.specs.declared.air.Aired.{Aired}
use Rattle.packet_codec.specs.declared.packet.Packet.{Packet}
use Rattle.world_rules.specs.World.{World, receiver, links_from}
use Rattle.world_rules.specs.Effect.{begun_length, event_node}
use Rattle.world_rules.specs.State.{Moment, WorldState, Sending, numbered_sendings, sendings, sent_bytes, is_lost, air_of_sending, air_made, packets_of, node_at, effect_at, state}
use Rattle.world_rules.specs.Run.{stamp_of, airs}
use Rattle.world_laws.specs.Transmissions.{Transmission, sent_by_node, with_record, transmissions, loses_on, losing_links, record_sent, records_lost}
use Rattle.world_laws.specs.PacketRecords.{PacketsAreNumbered, is_lost_air, is_sent_air, is_of_sending, PacketsAreDecided, losses_follow, LossesFollowDirectly, EventsSendTheirs}
use Rattle.world_laws.proofs.Records.{stamped, interval_air, sendings_air, parts, IsHead, no_head, one_head, head-is, interval-head}

-- ---- what is read of one event

-- what is sent, as the records tell of it
abbrev pub told_as : World → Stamp → ℕ → Sending → Transmission
told_as w at node x = record { at = at; node = node; number = x.number; bytes = sent_bytes w x.packet; before = x.before }

quiet-air : (xs : List Transmission) (at : Stamp) (node : ℕ) (a : Air) → is_sent_air a ≡ false → with_record xs (stamped at node a) ≡ xs
quiet-air xs at node (air.Sent number bytes) is = cc
quiet-air xs at node _ is = refl

quiet-head : (xs : List Transmission) (at : Stamp) (node : ℕ) (records : List Air) → IsHead records → fold with_record xs (map (stamped at node) records) ≡ xs
quiet-head xs at node records (no_head is) = ap (λ (rs : List Air). fold with_record xs (map (stamped at node) rs)) is
quiet-head xs at node records (one_head a sent lost is) = ap (λ (rs : List Air). fold with_record xs (map (stamped at node) rs)) is ∙ quiet-air xs at node a sent

-- the losses of a packet over some links
abbrev losses_over : World → Sending → List ℕ → List Air
losses_over w x js = flat_map (λ j. if is_lost w x j then air.Lost x.number (receiver w j) ∷ [] else []) js

quiet-losses : (w : World) (xs : List Transmission) (at : Stamp) (node : ℕ) (x : Sending) (js : List ℕ) → fold with_record xs (map (stamped at node) (losses_over w x js)) ≡ xs
quiet-losses w xs at node x [] = refl
quiet-losses w xs at node x (j ∷ js) = by (is_lost w x j) (quiet-losses w xs at node x js) where
  by : (b : Bool) → fold with_record xs (map (stamped at node) (losses_over w x js)) ≡ xs → fold with_record xs (map (stamped at node) ((if b then air.Lost x.number (receiver w j) ∷ [] else []) ++ losses_over w x js)) ≡ xs
  by true rest = rest
  by false rest = rest

read-sending : (w : World) (xs : List Transmission) (at : Stamp) (node : ℕ) (x : Sending) → sent_by_node node xs ≡ x.before
    → fold with_record xs (map (stamped at node) (air_of_sending w node x)) ≡ xs ++ told_as w at node x ∷ []
read-sending w xs at node x before =
    quiet-losses w (xs ++ record { at = at; node = node; number = x.number; bytes = sent_bytes w x.packet; before = sent_by_node node xs } ∷ []) at node x (links_from w node)
    ∙ ap (λ (n : ℕ). xs ++ record { at = at; node = node; number = x.number; bytes = sent_bytes w x.packet; before = n } ∷ []) before

-- one more of the node
sent-more : (xs : List Transmission) (y : Transmission) (node : ℕ) → y.node ≡ node → sent_by_node node (xs ++ y ∷ []) ≡ suc (sent_by_node node xs)
sent-more xs y node is =
    ap (λ (ks : List ℕ). count_by (λ k. k == node) ks) (map-append (λ (x : Transmission). x.node) xs (y ∷ []))
    ∙ sum_by-append (λ (k : ℕ). cond (k == node) 1 0) (map (λ (x : Transmission). x.node) xs) (y.node ∷ [])
    ∙ one (y.node == node) (elim (eqb_tells y.node node) [ inl same ↦ same.0 | inr other ↦ absurd (other.1 is) ]) where
      one : (b : Bool) → b ≡ true → sent_by_node node xs + (0 + cond b 1 0) ≡ suc (sent_by_node node xs)
      one true e = omega arith
      one false e = cc

pub read-sendings : (w : World) (xs : List Transmission) (at : Stamp) (node number before : ℕ) (ps : List Packet) → sent_by_node node xs ≡ before
    → fold with_record xs (map (stamped at node) (flat_map (air_of_sending w node) (numbered_sendings number before ps))) ≡ xs ++ map (told_as w at node) (numbered_sendings number before ps)
read-sendings w xs at node number before [] is = sym (append-nil xs)
read-sendings w xs at node number before (p ∷ ps) is =
    let x : Sending = record { number = number; before = before; packet = p } in
    let rest : List Air = flat_map (air_of_sending w node) (numbered_sendings (suc number) (suc before) ps) in
    let now : List Transmission = xs ++ told_as w at node x ∷ [] in
    ap (fold with_record xs) (map-append (stamped at node) (air_of_sending w node x) rest)
    ∙ fold-append with_record xs (map (stamped at node) (air_of_sending w node x)) (map (stamped at node) rest)
    ∙ ap (λ (ys : List Transmission). fold with_record ys (map (stamped at node) rest)) (read-sending w xs at node x is)
    ∙ read-sendings w now at node (suc number) (suc before) ps (sent-more xs (told_as w at node x) node refl ∙ ap suc is)
    ∙ append_assoc xs (told_as w at node x ∷ []) (map (told_as w at node) (numbered_sendings (suc number) (suc before) ps))

-- ---- what is read of a run

-- what an event sends, as its records tell of it
abbrev pub told_by : World → Moment → List Moment → List Transmission
told_by w m before = map (told_as w (stamp_of m before) (event_node w m.cause)) (sendings w (state w before) (event_node w m.cause) (packets_of w (state w before) m))

read-event : (w : World) (m : Moment) (before : List Moment) → map (λ (x : Transmission). x.node) (transmissions (airs w before)) ≡ (state w before).senders
    → transmissions (airs w (m ∷ before)) ≡ transmissions (airs w before) ++ told_by w m before
read-event w m before senders =
    let s : WorldState = state w before in
    let at : Stamp = stamp_of m before in
    let node : ℕ = event_node w m.cause in
    let xs : List Transmission = transmissions (airs w before) in
    let first : List Aired = map (stamped at node) (effect_at w s m).first in
    let begins : List Aired = map (stamped at node) (interval_air (begun_length (node_at w s m) (effect_at w s m))) in
    let sends : List Aired = map (stamped at node) (sendings_air w s m) in
    fold-append with_record [] (airs w before) (map (stamped at node) (air_made w s m))
    ∙ ap (fold with_record xs) (parts w s m at node)
    ∙ fold-append with_record xs (first ++ begins) sends
    ∙ ap (λ (ys : List Transmission). fold with_record ys sends)
    (fold-append with_record xs first begins
    ∙ ap (λ (ys : List Transmission). fold with_record ys begins) (quiet-head xs at node (effect_at w s m).first (head-is w (node_at w s m) m.cause))
    ∙ quiet-head xs at node (interval_air (begun_length (node_at w s m) (effect_at w s m))) (interval-head (begun_length (node_at w s m) (effect_at w s m))))
    ∙ read-sendings w xs at node (suc (length s.senders)) (count_by (λ k. k == node) s.senders) (packets_of w s m) (ap (λ (ks : List ℕ). count_by (λ k. k == node) ks) senders)

nodes-told : (w : World) (at : Stamp) (node number before : ℕ) (ps : List Packet) → map (λ (x : Transmission). x.node) (map (told_as w at node) (numbered_sendings number before ps)) ≡ map (λ (p : Packet). node) ps
nodes-told w at node number before [] = refl
nodes-told w at node number before (p ∷ ps) = ap (λ (ks : List ℕ). node ∷ ks) (nodes-told w at node (suc number) (suc before) ps)

start-quiet : (w : World) (ks : List ℕ) (xs : List Transmission) → fold with_record xs (map (λ k. stamped (record { event = 0; time = 0 }) k (air.Interval w.description.trickle.imin)) ks) ≡ xs
start-quiet w [] xs = refl
start-quiet w (k ∷ ks) xs = start-quiet w ks xs

-- the packets' nodes are the senders
pub senders-told : (w : World) (ms : List Moment) → map (λ (x : Transmission). x.node) (transmissions (airs w ms)) ≡ (state w ms).senders
senders-told w [] = ap (map (λ (x : Transmission). x.node)) (start-quiet w (range_with_len 0 w.nodes) [])
senders-told w (m ∷ before) =
    let s : WorldState = state w before in
    let node : ℕ = event_node w m.cause in
    ap (map (λ (x : Transmission). x.node)) (read-event w m before (senders-told w before))
    ∙ map-append (λ (x : Transmission). x.node) (transmissions (airs w before)) (told_by w m before)
    ∙ ap (λ (ks : List ℕ). ks ++ map (λ (x : Transmission). x.node) (told_by w m before)) (senders-told w before)
    ∙ ap (λ (ks : List ℕ). s.senders ++ ks) (nodes-told w (stamp_of m before) node (suc (length s.senders)) (count_by (λ k. k == node) s.senders) (packets_of w s m))

pub transmissions-event : (w : World) (m : Moment) (before : List Moment) → transmissions (airs w (m ∷ before)) ≡ transmissions (airs w before) ++ told_by w m before
transmissions-event w m before = read-event w m before (senders-told w before)

pub transmissions-start : (w : World) → transmissions (airs w []) ≡ []
transmissions-start w = start-quiet w (range_with_len 0 w.nodes) []

-- ---- numbers

range-append : (a n k : ℕ) → range_with_len a (n + k) ≡ range_with_len a n ++ range_with_len (a + n) k
range-append a zero k =
    let none : zero + k ≡ k = omega arith in
    let same : a ≡ a + zero = omega arith in
    ap (range_with_len a) none ∙ ap (λ (b : ℕ). range_with_len b k) same
range-append a (suc n) k =
    let more : suc n + k ≡ suc (n + k) = omega arith in
    let on : a + 1 + n ≡ a + suc n = omega arith in
    ap (range_with_len a) more ∙ ap (λ (xs : List ℕ). a ∷ xs) (range-append (a + 1) n k ∙ ap (λ (b : ℕ). range_with_len (a + 1) n ++ range_with_len b k) on)

numbers-told : (w : World) (at : Stamp) (node number before : ℕ) (ps : List Packet) → map (λ (x : Transmission). x.number) (map (told_as w at node) (numbered_sendings number before ps)) ≡ range_with_len number (length ps)
numbers-told w at node number before [] = refl
numbers-told w at node number before (p ∷ ps) = ap (λ (ks : List ℕ). number ∷ ks) (numbers-told w at node (suc number) (suc before) ps ∙ ap (λ (n : ℕ). range_with_len n (length ps)) (let e : suc number ≡ number + 1 = omega arith in e))

length-sendings : (number before : ℕ) (ps : List Packet) → length (numbered_sendings number before ps) ≡ length ps
length-sendings number before [] = refl
length-sendings number before (p ∷ ps) = ap suc (length-sendings (suc number) (suc before) ps)

pub packets_are_numbered : (w : World) → PacketsAreNumbered w
packets_are_numbered w [] = ap (λ (xs : List Transmission). map (λ (x : Transmission). x.number) xs) (transmissions-start w) ∙ ap (λ (xs : List Transmission). range_with_len 1 (length xs)) (sym (transmissions-start w))
packets_are_numbered w (m ∷ before) =
    let s : WorldState = state w before in
    let node : ℕ = event_node w m.cause in
    let xs : List Transmission = transmissions (airs w before) in
    let new : List Transmission = told_by w m before in
    let count : length s.senders ≡ length xs = ap (λ (ks : List ℕ). length ks) (sym (senders-told w before)) ∙ length-map xs (λ (x : Transmission). x.node) in
    let long : length new ≡ length (packets_of w s m) = length-map (sendings w s node (packets_of w s m)) (told_as w (stamp_of m before) node) ∙ length-sendings (suc (length s.senders)) (count_by (λ k. k == node) s.senders) (packets_of w s m) in
    let all : length (xs ++ new) ≡ length xs + length (packets_of w s m) = length-append xs new ∙ ap (λ (n : ℕ). length xs + n) long in
    ap (map (λ (x : Transmission). x.number)) (transmissions-event w m before)
    ∙ map-append (λ (x : Transmission). x.number) xs new
    ∙ ap (λ (ks : List ℕ). ks ++ map (λ (x : Transmission). x.number) new) (packets_are_numbered w before)
    ∙ ap (λ (ks : List ℕ). range_with_len 1 (length xs) ++ ks) (numbers-told w (stamp_of m before) node (suc (length s.senders)) (count_by (λ k. k == node) s.senders) (packets_of w s m)
    ∙ ap (λ (n : ℕ). range_with_len n (length (packets_of w s m))) (let e : suc (length s.senders) ≡ 1 + length xs = omega (arith, count) in e))
    ∙ sym (range-append 1 (length xs) (length (packets_of w s m)))
    ∙ ap (range_with_len 1) (sym all)
    ∙ ap (λ (ys : List Transmission). range_with_len 1 (length ys)) (sym (transmissions-event w m before))

bytes-told : (w : World) (at : Stamp) (node number before : ℕ) (ps : List Packet) → map (λ (x : Transmission). x.bytes) (map (told_as w at node) (numbered_sendings number before ps)) ≡ map (sent_bytes w) ps
bytes-told w at node number before [] = refl
bytes-told w at node number before (p ∷ ps) = ap (λ (bs : List (ArrayVec ℕ)). sent_bytes w p ∷ bs) (bytes-told w at node (suc number) (suc before) ps)

pub events_send_theirs : (w : World) → EventsSendTheirs w
events_send_theirs w m before =
    let s : WorldState = state w before in
    let node : ℕ = event_node w m.cause in
    ap (map (λ (x : Transmission). x.bytes)) (transmissions-event w m before)
    ∙ map-append (λ (x : Transmission). x.bytes) (transmissions (airs w before)) (told_by w m before)
    ∙ ap (λ (bs : List (ArrayVec ℕ)). map (λ (x : Transmission). x.bytes) (transmissions (airs w before)) ++ bs)
    (bytes-told w (stamp_of m before) node (suc (length s.senders)) (count_by (λ k. k == node) s.senders) (packets_of w s m))

-- ---- losses

-- a packet's record with its losses is what the rules leave of it
losses-are : (w : World) (at : Stamp) (node : ℕ) (x : Sending) (js : List ℕ)
    → map (stamped at node) (losses_over w x js) ≡ map (λ j. stamped at node (air.Lost x.number (receiver w j))) (filter (loses_on w (told_as w at node x)) js)
losses-are w at node x [] = refl
losses-are w at node x (j ∷ js) = by (is_lost w x j) (losses-are w at node x js) where
  by : (b : Bool) → map (stamped at node) (losses_over w x js) ≡ map (λ j. stamped at node (air.Lost x.number (receiver w j))) (filter (loses_on w (told_as w at node x)) js)
      → map (stamped at node) ((if b then air.Lost x.number (receiver w j) ∷ [] else []) ++ losses_over w x js)
      ≡ map (λ j. stamped at node (air.Lost x.number (receiver w j))) (cond b (j ∷ filter (loses_on w (told_as w at node x)) js) (filter (loses_on w (told_as w at node x)) js))
  by true rest = ap (λ (rs : List Aired). stamped at node (air.Lost x.number (receiver w j)) ∷ rs) rest
  by false rest = rest

-- a packet with its losses
abbrev pub decided : World → Transmission → List Aired
decided w x = record_sent x ∷ records_lost w x

pub sendings-decided : (w : World) (at : Stamp) (node : ℕ) (xs : List Sending) → map (stamped at node) (flat_map (air_of_sending w node) xs) ≡ flat_map (decided w) (map (told_as w at node) xs)
sendings-decided w at node [] = refl
sendings-decided w at node (x ∷ xs) =
    map-append (stamped at node) (air_of_sending w node x) (flat_map (air_of_sending w node) xs)
    ∙ ap (λ (rs : List Aired). (stamped at node (air.Sent x.number (sent_bytes w x.packet)) ∷ rs) ++ map (stamped at node) (flat_map (air_of_sending w node) xs)) (losses-are w at node x (links_from w node))
    ∙ ap (λ (rs : List Aired). decided w (told_as w at node x) ++ rs) (sendings-decided w at node xs)

of-sending : (at : Stamp) (node : ℕ) (a : Air) → is_sent_air a ≡ false → is_lost_air a ≡ false → filter is_of_sending (stamped at node a ∷ []) ≡ []
of-sending at node (air.Sent number bytes) sent lost = cc
of-sending at node (air.Lost number to) sent lost = cc
of-sending at node _ sent lost = refl

head-filtered : (at : Stamp) (node : ℕ) (records : List Air) → IsHead records → filter is_of_sending (map (stamped at node) records) ≡ []
head-filtered at node records (no_head is) = ap (λ (rs : List Air). filter is_of_sending (map (stamped at node) rs)) is
head-filtered at node records (one_head a sent lost is) = ap (λ (rs : List Air). filter is_of_sending (map (stamped at node) rs)) is ∙ of-sending at node a sent lost

losses-filtered : (w : World) (x : Transmission) (js : List ℕ) (rest : List Aired)
    → filter is_of_sending (map (λ j. stamped x.at x.node (air.Lost x.number (receiver w j))) js ++ rest) ≡ map (λ j. stamped x.at x.node (air.Lost x.number (receiver w j))) js ++ filter is_of_sending rest
losses-filtered w x [] rest = refl
losses-filtered w x (j ∷ js) rest = ap (λ (rs : List Aired). stamped x.at x.node (air.Lost x.number (receiver w j)) ∷ rs) (losses-filtered w x js rest)

decided-filtered : (w : World) (xs : List Transmission) → filter is_of_sending (flat_map (decided w) xs) ≡ flat_map (decided w) xs
decided-filtered w [] = refl
decided-filtered w (x ∷ xs) =
    ap (λ (rs : List Aired). record_sent x ∷ rs) (losses-filtered w x (losing_links w x) (flat_map (decided w) xs)
    ∙ ap (λ (rs : List Aired). records_lost w x ++ rs) (decided-filtered w xs))

start-filtered : (w : World) (ks : List ℕ) → filter is_of_sending (map (λ k. stamped (record { event = 0; time = 0 }) k (air.Interval w.description.trickle.imin)) ks) ≡ []
start-filtered w [] = refl
start-filtered w (k ∷ ks) = start-filtered w ks

pub packets_are_decided : (w : World) → PacketsAreDecided w
packets_are_decided w [] = start-filtered w (range_with_len 0 w.nodes) ∙ ap (flat_map (decided w)) (sym (transmissions-start w))
packets_are_decided w (m ∷ before) =
    let s : WorldState = state w before in
    let at : Stamp = stamp_of m before in
    let node : ℕ = event_node w m.cause in
    let first : List Aired = map (stamped at node) (effect_at w s m).first in
    let begins : List Aired = map (stamped at node) (interval_air (begun_length (node_at w s m) (effect_at w s m))) in
    let sends : List Aired = map (stamped at node) (sendings_air w s m) in
    filter-append is_of_sending (airs w before) (map (stamped at node) (air_made w s m))
    ∙ ap (λ (rs : List Aired). rs ++ filter is_of_sending (map (stamped at node) (air_made w s m))) (packets_are_decided w before)
    ∙ ap (λ (rs : List Aired). flat_map (decided w) (transmissions (airs w before)) ++ rs)
    (ap (filter is_of_sending) (parts w s m at node)
    ∙ filter-append is_of_sending (first ++ begins) sends
    ∙ ap (λ (rs : List Aired). rs ++ filter is_of_sending sends)
    (filter-append is_of_sending first begins
    ∙ ap (λ (rs : List Aired). rs ++ filter is_of_sending begins) (head-filtered at node (effect_at w s m).first (head-is w (node_at w s m) m.cause))
    ∙ head-filtered at node (interval_air (begun_length (node_at w s m) (effect_at w s m))) (interval-head (begun_length (node_at w s m) (effect_at w s m))))
    ∙ ap (filter is_of_sending) (sendings-decided w at node (sendings w s node (packets_of w s m)))
    ∙ decided-filtered w (told_by w m before))
    ∙ sym (flat_map-append (decided w) (transmissions (airs w before)) (told_by w m before))
    ∙ ap (flat_map (decided w)) (sym (transmissions-event w m before))

-- ---- directly

follows-when : (b : Bool) (rs : List Aired) → losses_follow false rs ≡ true → losses_follow b rs ≡ true
follows-when true [] h = refl
follows-when true (r ∷ rs) h = by (is_lost_air r.air) h where
  by : (l : Bool) → (not l || false) && losses_follow (is_of_sending r) rs ≡ true → (not l || true) && losses_follow (is_of_sending r) rs ≡ true
  by true e = cc
  by false e = e
follows-when false rs h = h

follows-append : (b : Bool) (rs ts : List Aired) → losses_follow b rs ≡ true → losses_follow false ts ≡ true → losses_follow b (rs ++ ts) ≡ true
follows-append b [] ts h g = follows-when b ts g
follows-append b (r ∷ rs) ts h g = by (not (is_lost_air r.air) || b) (λ e. follows-append (is_of_sending r) rs ts e g) h where
  by : (c : Bool) → (losses_follow (is_of_sending r) rs ≡ true → losses_follow (is_of_sending r) (rs ++ ts) ≡ true) → c && losses_follow (is_of_sending r) rs ≡ true → c && losses_follow (is_of_sending r) (rs ++ ts) ≡ true
  by true rest e = rest e
  by false rest e = cc

head-follows : (at : Stamp) (node : ℕ) (records : List Air) → IsHead records → losses_follow false (map (stamped at node) records) ≡ true
head-follows at node records (no_head is) = ap (λ (rs : List Air). losses_follow false (map (stamped at node) rs)) is
head-follows at node records (one_head a sent lost is) = ap (λ (rs : List Air). losses_follow false (map (stamped at node) rs)) is ∙ ap (λ (l : Bool). (not l || false) && true) lost

losses-follow : (w : World) (x : Transmission) (js : List ℕ) → losses_follow true (map (λ j. stamped x.at x.node (air.Lost x.number (receiver w j))) js) ≡ true
losses-follow w x [] = refl
losses-follow w x (j ∷ js) = losses-follow w x js

decided-follow : (w : World) (xs : List Transmission) → losses_follow false (flat_map (decided w) xs) ≡ true
decided-follow w [] = refl
decided-follow w (x ∷ xs) = follows-append true (records_lost w x) (flat_map (decided w) xs) (losses-follow w x (losing_links w x)) (decided-follow w xs)

start-follows : (w : World) (ks : List ℕ) → losses_follow false (map (λ k. stamped (record { event = 0; time = 0 }) k (air.Interval w.description.trickle.imin)) ks) ≡ true
start-follows w [] = refl
start-follows w (k ∷ ks) = start-follows w ks

pub losses_follow_directly : (w : World) → LossesFollowDirectly w
losses_follow_directly w ms = all ms where
  all : (ms : List Moment) → losses_follow false (airs w ms) ≡ true
  all [] = start-follows w (range_with_len 0 w.nodes)
  all (m ∷ before) =
      let s : WorldState = state w before in
      let at : Stamp = stamp_of m before in
      let node : ℕ = event_node w m.cause in
      let first : List Aired = map (stamped at node) (effect_at w s m).first in
      let begins : List Aired = map (stamped at node) (interval_air (begun_length (node_at w s m) (effect_at w s m))) in
      let sends : List Aired = map (stamped at node) (sendings_air w s m) in
      follows-append false (airs w before) (map (stamped at node) (air_made w s m)) (all before)
      (ap (losses_follow false) (parts w s m at node)
      ∙ follows-append false (first ++ begins) sends
      (follows-append false first begins (head-follows at node (effect_at w s m).first (head-is w (node_at w s m) m.cause))
      (head-follows at node (interval_air (begun_length (node_at w s m) (effect_at w s m))) (interval-head (begun_length (node_at w s m) (effect_at w s m)))))
      (ap (losses_follow false) (sendings-decided w at node (sendings w s node (packets_of w s m))) ∙ decided-follow w (told_by w m before)))
