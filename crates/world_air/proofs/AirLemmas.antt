-- Packets that a node sends one after the other, as the rules say.
use Rattle.std.proofs.Common.{◌≡◌, ℕ, zero, suc, ◌+◌, ◌*◌, ◌<◌, ◌≤◌, Bool, true, false, cond, List, [], ◌∷◌, ◌++◌, length, map, refl, sym, ◌∙◌, ap, subst, arith, inl, inr, append_assoc, append-nil, length-append, get_or, set, take, eq-eqb}
use Rattle.std.specs.Prelude.{◌==◌, count_by, nat_le, if◌then◌else◌, Option, Some, None}
use Rattle.std.specs.List.{cons_option}
use Rattle.std.proofs.lemmas.Bool.{cases_eq}
use Rattle.std.proofs.lemmas.List.{length-map, map-append}
use Rattle.std.proofs.Math.Nat.{add-mul, mul-le-mul_right}
use Rattle.std.proofs.lemmas.List.Concat.{flat_map-append}
use Rattle.std.proofs.lemmas.List.Elements.{filter_map-append}
use Rattle.std.proofs.lemmas.List.Sums.{sum_by_push}
use Rattle.std.specs.Prelude.{ℤ, slice_get}
use Rattle.std.specs.Option.{option_map_or, option_to_list}
use Rattle.std.proofs.lemmas.List.{take_more}
use Rattle.arrayvec.specs.ArrayVec.{ArrayVec}
use Rattle.mate_num.specs.declared.id.FunId.{FunId}
use Rattle.mate_journal.specs.Log.{Log}
use Rattle.mate_journal.specs.Journal.{JournalEntry, journal_entry}
use Rattle.mate_journal.specs.declared.entry.Stamped.{Stamped}
use Rattle.packet_codec.specs.declared.packet.Packet.TheVariants.{App}
use Rattle.vm_shape.specs.declared.description.Description.{Description}
use Rattle.vm_shape.specs.declared.function.Function.{Function}
use Rattle.vm_shape.specs.declared.function.FunKind.{FunKind}
use Rattle.vm_shape.specs.declared.function.FunKind.TheVariants as kind
use Rattle.mate_num.specs.declared.call.Stamp.{Stamp}
use Rattle.mate_journal.specs.declared.air.Air.{Air}
use Rattle.mate_journal.specs.declared.air.Air.TheVariants as air
use Rattle.mate_journal.specs.declared.air.Aired.{Aired}
use Rattle.event_queue.specs.declared.queue.Timed.{Timed}
use Rattle.event_queue.specs.Agenda.{Agenda, item_at, due_at, inserted, scheduled, scheduled_all, AddsAll}
use Rattle.packet_codec.specs.declared.packet.Packet.{Packet}
use Rattle.radio_sim.specs.declared.shared_event.SharedEvent.{SharedEvent}
use Rattle.radio_sim.specs.declared.wire.Wire.{Wire}
use Rattle.radio_sim.specs.declared.wire.Sending.{Sending as Transmission}
use Rattle.radio_sim.specs.Wires.{leaving, turned_wire, losts, delivered, lost_on}
use Rattle.radio_sim.specs.Sending.{sent_record}
use Rattle.radio_sim.specs.Radio.{Ether, wires_of, transmitted, IsEtherOf}
use Rattle.world_rules.specs.World.{World, called_kind}
use Rattle.world_rules.specs.State.{Scheduled, Sending, sent_bytes, numbered_sendings, air_of_sending, deliveries, is_send_kind, message_in, messages}
use Rattle.world_air.specs.Air.{timed_event, timed_events, aired_at, air_script, IsAirOf, EtherGrows, IsFitPacket, AreFitPackets, sendings_next, air_of_all, deliveries_of_all, SendsAll, air_room, IsSteady}
use Rattle.world_air.proofs.WalkLemmas.{losts-are, delivered-are, due-own, due-elsewhere}

-- ---- growth

pub grows-nothing : (e : Ether) → EtherGrows e e [] []
grows-nothing e = record { air = sym (append-nil e.air); gone = refl; due = λ t le. sym (append-nil (due_at t e.agenda.items)); until = refl; now = refl }

pub grows-both : (old mid new : Ether) (fs bs : List Aired) (xs ys : List (Timed SharedEvent)) → EtherGrows old mid fs xs → EtherGrows mid new bs ys → EtherGrows old new (fs ++ bs) (xs ++ ys)
grows-both old mid new fs bs xs ys a b = record {
  air = b.air ∙ ap (λ (rs : List Aired). rs ++ bs) a.air ∙ append_assoc old.air fs bs;
  gone = b.gone ∙ a.gone;
  due = λ t le.
      b.due t (subst (λ (u : ℕ). t ≤ u) (sym a.until) le) ∙ ap (λ (es : List SharedEvent). es ++ due_at t ys) (a.due t le) ∙ append_assoc (due_at t old.agenda.items) (due_at t xs) (due_at t ys)
      ∙ ap (λ (es : List SharedEvent). due_at t old.agenda.items ++ es) (sym (filter_map-append (item_at t) xs ys));
  until = b.until ∙ a.until;
  now = b.now ∙ a.now;
}

-- ---- sendings of several packets

pub numbered-append : (number before : ℕ) (ps qs : List Packet) → numbered_sendings number before (ps ++ qs) ≡ numbered_sendings number before ps ++ numbered_sendings (number + length ps) (before + length ps) qs
numbered-append number before [] qs =
    ap (λ (n : ℕ). numbered_sendings n before qs) (let e : number ≡ number + 0 = omega arith in e) ∙ ap (λ (n : ℕ). numbered_sendings (number + 0) n qs) (let e : before ≡ before + 0 = omega arith in e)
numbered-append number before (p ∷ ps) qs =
    ap (λ (xs : List Sending). record { number = number; before = before; packet = p } ∷ xs)
    (numbered-append (suc number) (suc before) ps qs
    ∙ ap (λ (n : ℕ). numbered_sendings (suc number) (suc before) ps ++ numbered_sendings n (suc before + length ps) qs) (let e : suc number + length ps ≡ number + suc (length ps) = omega arith in e)
    ∙ ap (λ (n : ℕ). numbered_sendings (suc number) (suc before) ps ++ numbered_sendings (number + suc (length ps)) n qs) (let e : suc before + length ps ≡ before + suc (length ps) = omega arith in e))

count-own : (node : ℕ) (senders : List ℕ) (ps : List Packet) → count_by (λ k. k == node) (senders ++ map (λ (p : Packet). node) ps) ≡ count_by (λ k. k == node) senders + length ps
count-own node senders [] = ap (count_by (λ k. k == node)) (append-nil senders) ∙ omega arith
count-own node senders (p ∷ ps) =
    ap (count_by (λ k. k == node)) (sym (append_assoc senders (node ∷ []) (map (λ (p : Packet). node) ps)))
    ∙ count-own node (senders ++ node ∷ []) ps
    ∙ ap (λ (n : ℕ). n + length ps) (sum_by_push (λ k. cond (k == node) 1 0) senders node ∙ ap (λ (b : Bool). count_by (λ k. k == node) senders + cond b 1 0) (eq-eqb node node refl))
    ∙ omega arith

next-append : (node : ℕ) (senders : List ℕ) (ps qs : List Packet) → sendings_next node senders (ps ++ qs) ≡ sendings_next node senders ps ++ sendings_next node (senders ++ map (λ (p : Packet). node) ps) qs
next-append node senders ps qs =
    let long : length (senders ++ map (λ (p : Packet). node) ps) ≡ length senders + length ps = length-append senders (map (λ (p : Packet). node) ps) ∙ ap (λ (n : ℕ). length senders + n) (length-map ps (λ (p : Packet). node)) in
    numbered-append (suc (length senders)) (count_by (λ k. k == node) senders) ps qs
    ∙ ap (λ (n : ℕ). sendings_next node senders ps ++ numbered_sendings n (count_by (λ k. k == node) senders + length ps) qs) (let e : suc (length senders) + length ps ≡ suc (length (senders ++ map (λ (p : Packet). node) ps)) = omega (arith, long) in e)
    ∙ ap (λ (n : ℕ). sendings_next node senders ps ++ numbered_sendings (suc (length (senders ++ map (λ (p : Packet). node) ps))) n qs) (sym (count-own node senders ps))

fit-append : (w : World) (ps qs : List Packet) → AreFitPackets w ps → AreFitPackets w qs → AreFitPackets w (ps ++ qs)
fit-append w [] qs a b = b
fit-append w (p ∷ ps) qs a b = (a.0, fit-append w ps qs a.1 b)

pub sends-nothing : (w : World) (node : ℕ) (at : Stamp) (senders : List ℕ) (e : Ether) → IsAirOf w senders e → SendsAll w node at senders [] e e
sends-nothing w node at senders e is = record {
  grows = grows-nothing e;
  stands = subst (λ (ss : List ℕ). IsAirOf w ss e) (sym (append-nil senders)) is;
  fit = tt;
}

pub sends-both : (w : World) (node : ℕ) (at : Stamp) (senders : List ℕ) (ps qs : List Packet) (old mid new : Ether) → SendsAll w node at senders ps old mid
    → SendsAll w node at (senders ++ map (λ (p : Packet). node) ps) qs mid new → SendsAll w node at senders (ps ++ qs) old new
sends-both w node at senders ps qs old mid new a b =
    let xs : List Sending = sendings_next node senders ps in
    let ys : List Sending = sendings_next node (senders ++ map (λ (p : Packet). node) ps) qs in
    let all : sendings_next node senders (ps ++ qs) ≡ xs ++ ys = next-append node senders ps qs in
    let airs : map (aired_at at node) (air_of_all w node (xs ++ ys)) ≡ map (aired_at at node) (air_of_all w node xs) ++ map (aired_at at node) (air_of_all w node ys) =
    ap (map (aired_at at node)) (flat_map-append (air_of_sending w node) xs ys) ∙ map-append (aired_at at node) (air_of_all w node xs) (air_of_all w node ys) in
    let items : timed_events w (deliveries_of_all w node at.time (xs ++ ys)) ≡ timed_events w (deliveries_of_all w node at.time xs) ++ timed_events w (deliveries_of_all w node at.time ys) =
    ap (timed_events w) (flat_map-append (deliveries w node at.time) xs ys) ∙ map-append (timed_event w) (deliveries_of_all w node at.time xs) (deliveries_of_all w node at.time ys) in
    let G : List Aired → List (Timed SharedEvent) → Type 0 = λ rs es. EtherGrows old new rs es in
    let both : G (map (aired_at at node) (air_of_all w node (xs ++ ys))) (timed_events w (deliveries_of_all w node at.time (xs ++ ys))) =
    subst (λ (rs : List Aired). G rs (timed_events w (deliveries_of_all w node at.time (xs ++ ys)))) (sym airs)
    (subst (λ (es : List (Timed SharedEvent)). G (map (aired_at at node) (air_of_all w node xs) ++ map (aired_at at node) (air_of_all w node ys)) es) (sym items) (grows-both old mid new _ _ _ _ a.grows b.grows)) in
    record {
      grows = subst (λ (zs : List Sending). G (map (aired_at at node) (air_of_all w node zs)) (timed_events w (deliveries_of_all w node at.time zs))) (sym all) both;
      stands = subst (λ (ss : List ℕ). IsAirOf w ss new) (append_assoc senders (map (λ (p : Packet). node) ps) (map (λ (p : Packet). node) qs) ∙ ap (λ (ns : List ℕ). senders ++ ns) (sym (map-append (λ (p : Packet). node) ps qs))) b.stands;
      fit = fit-append w ps qs a.fit b.fit;
    }

-- ---- one transmission

-- what comes at a time behind an addition at one time
pub adds-due : (old new : Agenda SharedEvent) (at : ℕ) (es : List SharedEvent) → AddsAll old at es new → (t : ℕ) → t ≤ old.until
    → due_at t new.items ≡ due_at t old.items ++ due_at t (map (λ (e : SharedEvent). let y : Timed SharedEvent = record { time = at; item = e } in y) es)
adds-due old new at es adds t le = elim (cases_eq t at) [
  | inl same ↦
      ap (λ (u : ℕ). due_at u new.items) same ∙ adds.last (subst (λ (u : ℕ). u ≤ old.until) same le)
      ∙ ap (λ (xs : List SharedEvent). due_at at old.items ++ xs) (sym (due-own at es))
      ∙ ap (λ (u : ℕ). due_at u old.items ++ due_at u (map (λ (e : SharedEvent). let y : Timed SharedEvent = record { time = at; item = e } in y) es)) (sym same)
  | inr other ↦
      adds.others t other ∙ sym (append-nil (due_at t old.items)) ∙ ap (λ (xs : List SharedEvent). due_at t old.items ++ xs) (sym (due-elsewhere at t es (λ same. other (sym same))))
]

pub scheduled-same : (q : Agenda SharedEvent) (t : ℕ) (x : SharedEvent) → ((scheduled q t x).until ≡ q.until) × ((scheduled q t x).now ≡ q.now)
scheduled-same q t x = by (nat_le t q.until) where
  by : (b : Bool) → (let r : Agenda SharedEvent = if b then record q { items = inserted (record { time = t; item = x }) q.items } else q in (r.until ≡ q.until) × (r.now ≡ q.now))
  by true = (refl, refl)
  by false = (refl, refl)

all-same : (q : Agenda SharedEvent) (t : ℕ) (xs : List SharedEvent) → ((scheduled_all q t xs).until ≡ q.until) × ((scheduled_all q t xs).now ≡ q.now)
all-same q t [] = (refl, refl)
all-same q t (x ∷ xs) = let rest = all-same (scheduled q t x) t xs in let one = scheduled-same q t x in (rest.0 ∙ one.0, rest.1 ∙ one.1)

-- ---- one transmission

pub sends-one : (w : World) (node : ℕ) (at : Stamp) (senders : List ℕ) (packet : Packet) (bytes : ArrayVec ℕ) (old new : Ether) → node < 256 → IsAirOf w senders old → IsFitPacket w packet → bytes ≡ sent_bytes w packet
    → new ≡ transmitted old (record { at = at; node = node; number = old.sent + 1 }) bytes
    → AddsAll old.agenda (at.time + old.delay) (delivered (record { at = at; node = node; number = old.sent + 1 }) bytes (wires_of old node)) new.agenda
    → IsEtherOf (air_script w) (senders ++ node ∷ []) new → SendsAll w node at senders (packet ∷ []) old new
sends-one w node at senders packet bytes old new low stood fit bytes_are is adds stands = record {
  grows = record {
    air =
        ap (λ (e : Ether). e.air) same
        ∙ append_assoc old.air (sent ∷ []) (losts s (wires_of old node))
        ∙ ap (λ (vs : List Wire). old.air ++ (sent ∷ losts s vs)) (stood.stands.wires node low)
        ∙ ap (λ (ls : List Aired). old.air ++ (sent ∷ ls)) (losts-are w node at x)
        ∙ ap (λ (rs : List Air). old.air ++ map (aired_at at node) rs) (sym (append-nil (air_of_sending w node x)));
    gone = ap (λ (e : Ether). e.gone) same;
    due = λ t le.
        adds-due old.agenda new.agenda (at.time + w.description.radio.delay) (delivered s (sent_bytes w packet) (leaving w.random x.before node 0 w.links)) adding t le
        ∙ ap (λ (es : List (Timed SharedEvent)). due_at t old.agenda.items ++ due_at t es) (delivered-are w node at x)
        ∙ ap (λ (ds : List Scheduled). due_at t old.agenda.items ++ due_at t (timed_events w ds)) (sym (append-nil (deliveries w node at.time x)));
    until = ap (λ (e : Ether). e.agenda.until) same ∙ (all-same old.agenda (at.time + old.delay) (delivered s (sent_bytes w packet) (wires_of old node))).0;
    now = ap (λ (e : Ether). e.agenda.now) same ∙ (all-same old.agenda (at.time + old.delay) (delivered s (sent_bytes w packet) (wires_of old node))).1;
  };
  stands = record { stands = stands; delay = ap (λ (e : Ether). e.delay) same ∙ stood.delay };
  fit = (fit, tt);
} where
  x : Sending
  x = record { number = suc (length senders); before = count_by (λ k. k == node) senders; packet = packet }

  s : Transmission
  s = record { at = at; node = node; number = suc (length senders) }

  sent : Aired
  sent = record { stamp = at; node = node; air = air.Sent (suc (length senders)) (sent_bytes w packet) }

  number_is : old.sent + 1 ≡ suc (length senders)
  number_is = let e = stood.stands.sent in omega (arith, e)

  same : new ≡ transmitted old (record { at = at; node = node; number = suc (length senders) }) (sent_bytes w packet)
  same =
      is ∙ ap (λ (n : ℕ). transmitted old (record { at = at; node = node; number = n }) bytes) number_is
      ∙ ap (transmitted old (record { at = at; node = node; number = suc (length senders) })) bytes_are

  adding : AddsAll old.agenda (at.time + w.description.radio.delay) (delivered (record { at = at; node = node; number = suc (length senders) }) (sent_bytes w packet) (leaving w.random (count_by (λ k. k == node) senders) node 0 w.links)) new.agenda
  adding =
      subst (λ (d : ℕ). AddsAll old.agenda (at.time + d) (delivered (record { at = at; node = node; number = suc (length senders) }) (sent_bytes w packet) (leaving w.random (count_by (λ k. k == node) senders) node 0 w.links)) new.agenda) stood.delay
      (subst (λ (vs : List Wire). AddsAll old.agenda (at.time + old.delay) (delivered (record { at = at; node = node; number = suc (length senders) }) (sent_bytes w packet) vs) new.agenda) (stood.stands.wires node low)
      (subst (λ (bs : ArrayVec ℕ). AddsAll old.agenda (at.time + old.delay) (delivered (record { at = at; node = node; number = suc (length senders) }) bs (wires_of old node)) new.agenda) bytes_are
      (subst (λ (n : ℕ). AddsAll old.agenda (at.time + old.delay) (delivered (record { at = at; node = node; number = n }) bytes (wires_of old node)) new.agenda) number_is adds)))

-- ---- room

losts-few : (s : Transmission) (ws : List Wire) → length (losts s ws) ≤ length ws
losts-few s [] = omega arith
losts-few s (v ∷ ws) = by (lost_on s v) (losts-few s ws) where
  by : (o : Option Aired) → length (losts s ws) ≤ length ws → length (cons_option o (losts s ws)) ≤ suc (length ws)
  by None h = omega (arith, h)
  by (Some a) h = omega (arith, h)

pub steady-none : (node : ℕ) (e : Ether) → IsSteady node 0 e e
steady-none node e = record { now = refl; air = omega arith; wires = refl }

wires-long : (ws : List (List Wire)) (node : ℕ) → length (get_or (set ws node (map turned_wire (get_or ws node []))) node []) ≡ length (get_or ws node [])
wires-long [] node = refl
wires-long (v ∷ ws) zero = length-map v turned_wire
wires-long (v ∷ ws) (suc n) = wires-long ws n

pub steady-one : (s : Transmission) (bytes : ArrayVec ℕ) (old new : Ether) → new ≡ transmitted old s bytes → IsSteady s.node 1 old new
steady-one s bytes old new is =
    let few = losts-few s (wires_of old s.node) in
    let air_long : length new.air ≡ length old.air + 1 + length (losts s (wires_of old s.node)) =
    ap (λ (e : Ether). length e.air) is ∙ length-append (old.air ++ sent_record s bytes ∷ []) (losts s (wires_of old s.node)) ∙ ap (λ (n : ℕ). n + length (losts s (wires_of old s.node))) (length-append old.air (sent_record s bytes ∷ [])) in
    record {
      now = ap (λ (e : Ether). e.agenda.now) is ∙ (all-same old.agenda (s.at.time + old.delay) (delivered s bytes (wires_of old s.node))).1;
      air = omega (arith, air_long, few);
      wires = ap (λ (e : Ether). length (wires_of e s.node)) is ∙ wires-long old.wires s.node;
    }

pub steady-both : (node n m : ℕ) (old mid new : Ether) → IsSteady node n old mid → IsSteady node m mid new → IsSteady node (n + m) old new
steady-both node n m old mid new a b =
    let first = a.air in
    let later = subst (λ (k : ℕ). length new.air ≤ length mid.air + m * (1 + k)) a.wires b.air in
    let split : (n + m) * (1 + length (wires_of old node)) ≡ n * (1 + length (wires_of old node)) + m * (1 + length (wires_of old node)) = add-mul n m (1 + length (wires_of old node)) in
    record { now = b.now ∙ a.now; air = omega (arith, first, later, split); wires = b.wires ∙ a.wires }

pub steady-less : (node n m : ℕ) (old new : Ether) → n ≤ m → IsSteady node n old new → IsSteady node m old new
steady-less node n m old new le a =
    let grown : n * (1 + length (wires_of old node)) ≤ m * (1 + length (wires_of old node)) = mul-le-mul_right (1 + length (wires_of old node)) le in
    let h = a.air in
    record { now = a.now; air = omega (arith, h, grown); wires = a.wires }

-- room for one more of n
pub room-one : (node n i : ℕ) (old mid : Ether) → IsSteady node i old mid → i < n → air_room old node n < 4000000000 → length mid.air < 4000000000
room-one node n i old mid a less few =
    let grown : i * (1 + length (wires_of old node)) ≤ n * (1 + length (wires_of old node)) = mul-le-mul_right (1 + length (wires_of old node)) (let e : i ≤ n = omega (arith, less) in e) in
    let h = a.air in
    omega (arith, h, grown, few)

-- ---- lists of packets, one by one

pub packets-more : (ps : List Packet) (i : ℕ) (p : Packet) → i < length ps → p ≡ get_or ps i p → take i ps ++ p ∷ [] ≡ take (i + 1) ps
packets-more ps i p below is = ap (λ (q : Packet). take i ps ++ q ∷ []) is ∙ sym (take_more ps i p below)

-- the messages of one more entry
pub messages-more : (w : World) (l : Log) (es : List Stamped) (i : ℕ) (e : Stamped) → i < length es → e ≡ get_or es i e
    → messages w (map (λ (x : Stamped). journal_entry l x.entry) (take i es)) ++ option_to_list (message_in w (journal_entry l e.entry)) ≡ messages w (map (λ (x : Stamped). journal_entry l x.entry) (take (i + 1) es))
messages-more w l es i e below is =
    let t : Stamped → JournalEntry = λ x. journal_entry l x.entry in
    let one : option_to_list (message_in w (journal_entry l e.entry)) ≡ messages w (journal_entry l e.entry ∷ []) = single (message_in w (journal_entry l e.entry)) in
    ap (λ (ps : List Packet). messages w (map (λ (x : Stamped). journal_entry l x.entry) (take i es)) ++ ps) one
    ∙ sym (filter_map-append (message_in w) (map (λ (x : Stamped). journal_entry l x.entry) (take i es)) (journal_entry l e.entry ∷ []))
    ∙ ap (messages w) (sym (map-append (λ (x : Stamped). journal_entry l x.entry) (take i es) (e ∷ [])))
    ∙ ap (λ (xs : List Stamped). messages w (map (λ (x : Stamped). journal_entry l x.entry) xs)) (ap (λ (q : Stamped). take i es ++ q ∷ []) is ∙ sym (take_more es i e below)) where
      single : (o : Option Packet) → option_to_list o ≡ cons_option o []
      single None = refl
      single (Some p) = refl

-- ---- the message of a call

pub message-none : (w : World) (f : FunId) (args : ArrayVec ℤ) (k : FunKind) → called_kind w f ≡ k → is_send_kind k ≡ false → None ≡ (if is_send_kind (called_kind w f) then Some (App args) else None)
message-none w f args k is silent = let P : Bool → Option Packet = λ b. if b then Some (App args) else None in ap P (sym (ap is_send_kind is ∙ silent))

pub message-sent : (w : World) (f : FunId) (args : ArrayVec ℤ) → called_kind w f ≡ kind.Send → Some (App args) ≡ (if is_send_kind (called_kind w f) then Some (App args) else None)
message-sent w f args is = let P : Bool → Option Packet = λ b. if b then Some (App args) else None in ap P (sym (ap is_send_kind is))

pub kind-of : (w : World) (d : Description) (f : FunId) → w.description ≡ d → called_kind w f ≡ option_map_or (λ (x : Function). x.kind) (slice_get d.functions.items f.0) kind.Id
kind-of w d f same = ap (λ (e : Description). option_map_or (λ (x : Function). x.kind) (slice_get e.functions.items f.0) kind.Id) same
