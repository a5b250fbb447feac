-- The text of a tidy report is that of its lines, which fit one after another.
use Rattle.std.proofs.Common.{◌≡◌, ℕ, zero, suc, ◌+◌, ◌<◌, ◌≤◌, ◌==◌, Bool, true, false, List, [], ◌∷◌, ◌++◌, length, map, get_or, Option, Some, refl, sym, ap, subst, ◌∙◌, arith, inl, inr, append-nil}
use Rattle.std.specs.Prelude.{All, AllPairs, flat_map, IsTrue, is_some, codes, slice_get}
use Rattle.std.proofs.lemmas.Grind.{flat_map-append}
use Rattle.std.proofs.lemmas.List.Elements.{All-nil, All-cons, All-head, All-tail, All-append, All-map, All-filter, All-same, filter_passes}
use Rattle.std.proofs.lemmas.Bool.{eqb-true}
use Rattle.arrayvec.specs.ArrayVec.{ArrayVec}
use Rattle.vm_shape.specs.declared.description.Description.{Description}
use Rattle.mate_num.specs.declared.store.Store.{Store}
use Rattle.mate_journal.specs.Log.{Log}
use Rattle.mate_journal.specs.Entries.{HasEntryRanges, IsEntryInRange}
use Rattle.mate_journal.specs.Ranges.{HasStampedRanges, HasLogRanges, HasReportRanges}
use Rattle.mate_journal.specs.Tidy.{image_named, store_named, names_in, below, IsStoreOf, EventsRise, entry_event, NumbersInOrder, HasFullImages}
use Rattle.mate_journal.specs.declared.air.Air.{Air}
use Rattle.mate_journal.specs.declared.air.Air.TheVariants as air
use Rattle.mate_journal.specs.declared.air.Aired.{Aired}
use Rattle.mate_journal.specs.declared.entry.Entry.{Entry}
use Rattle.mate_journal.specs.declared.entry.Entry.TheVariants as entry
use Rattle.mate_journal.specs.declared.entry.Stamped.{Stamped}
use Rattle.mate_journal.specs.declared.report.Report.{Report}
use Rattle.report_writer.specs.Words.{entry_words, stamp_words, seen_words, image_text, image_word, word, number, handler_name}
use Rattle.report_writer.specs.Text.{air_line, entry_line, entry_lines, event_lines}
use Rattle.report_writer.specs.Progress.{air_event, at_event}
use Rattle.report_writer.specs.Pieces.{IsNamed}
use Rattle.report_writer.specs.Tidy.{IsTidy, IsAirInRange, AirNodesRise, Mark, marks, log_marks, IsNoEarlier, AreOfOneNode, IsLastSeen}
use Rattle.report_writer.proofs.EventLemmas.{All-of_map, All-of_flat_map, All-front, All-back}
use Rattle.report_line_reader.specs.declared.line.Line.{Line}
use Rattle.report_line_reader.specs.Told as reader
use Rattle.report_text.specs.Fits.{is_on_air, is_shown, line_mark, line_marks, StandsBehind, IsSound, AreFitting}
use Rattle.report_text.specs.Reads.{text_of_lines}
use Rattle.report_text.specs.Written.{told_by_entry, line_of_entry, line_of_aired, node_lines, lines_at}
use Rattle.report_text.proofs.OrderLemmas.{last_marks}

-- ---- what an entry names is there

below-all : (n : ℕ) → All (λ (i : ℕ). i < n) (below n)
below-all zero = All-nil (λ (i : ℕ). i < 0)
below-all (suc n) =
    All-append (λ (i : ℕ). i < suc n) (below n) (n ∷ []) (λ k x q. (let b = below-all n k x q in omega (arith, b)))
    (All-cons (λ (i : ℕ). i < suc n) n [] (omega arith) (All-nil (λ (i : ℕ). i < suc n)))

Named : ℕ → Option ℕ → Type 0
Named n o = All (λ (i : ℕ). i < n) (Rattle.std.specs.Prelude.option_to_list o)

named-each : (named : Entry → Option ℕ) (es : List Stamped) (n : ℕ) → names_in named es ≡ below n → All (λ (e : Stamped). All (λ (i : ℕ). i < n) (Rattle.std.specs.Prelude.option_to_list (named e.entry))) es
named-each named es n h =
    All-of_flat_map (λ (i : ℕ). i < n) (λ (e : Stamped). Rattle.std.specs.Prelude.option_to_list (named e.entry)) es (All-same (λ (i : ℕ). i < n) (names_in named es) (below n) h (below-all n))

named-of : (l : Log) (x : Entry) → All (λ (i : ℕ). i < length l.images) (Rattle.std.specs.Prelude.option_to_list (image_named x))
    → All (λ (i : ℕ). i < length l.stores) (Rattle.std.specs.Prelude.option_to_list (store_named x)) → IsNamed l x
named-of l (entry.Install h version image) i s = All-head (λ (k : ℕ). k < length l.images) image [] i
named-of l (entry.Seen store) i s = All-head (λ (k : ℕ). k < length l.stores) store [] s
named-of l _ i s = tt

named-log : (l : Log) → NumbersInOrder l → All (λ (e : Stamped). IsNamed l e.entry) l.entries
named-log l n = λ k x q. named-of l (get_or l.entries k x).entry (named-each image_named l.entries (length l.images) n.images k x q) (named-each store_named l.entries (length l.stores) n.stores k x q)

-- ---- the text, line by line

get-some : {A : Type 0} (xs : List A) (i : ℕ) (d : A) → i < length xs → slice_get xs i ≡ Some (get_or xs i d)
get-some [] i d h = absurd (omega (arith, h))
get-some (x ∷ xs) zero d h = refl
get-some (x ∷ xs) (suc i) d h = get-some xs i d (omega (arith, h))

told-text : (d : Description) (l : Log) (x : Entry) → IsNamed l x → entry_words d l x ≡ reader.told_words d (told_by_entry l x)
told-text d l (entry.Install h version image) n =
    ap (λ (o : Option (ArrayVec ℕ)). codes " install" ++ word (handler_name d h) ++ number version ++ word (image_word (image_text o))) (get-some l.images image (record { items = [] }) n)
told-text d l (entry.Seen store) n =
    ap (λ (o : Option Store). codes " seen" ++ seen_words d o) (get-some l.stores store (record { shared = record { items = [] }; buffers = record { items = [] } }) n)
told-text d l _ x = refl

entries-text : (d : Description) (l : Log) (node : ℕ) (es : List Stamped) → All (λ (e : Stamped). IsNamed l e.entry) es → flat_map (entry_line d l node) es ≡ text_of_lines d (map (line_of_entry l node) es)
entries-text d l node [] h = refl
entries-text d l node (e ∷ es) h =
    ap (λ (w : List ℕ). (stamp_words e.stamp node ++ w ++ codes "\n") ++ flat_map (entry_line d l node) es) (told-text d l e.entry (All-head (λ (x : Stamped). IsNamed l x.entry) e es h))
    ∙ ap (λ (w : List ℕ). reader.line_text d (line_of_entry l node e) ++ w) (entries-text d l node es (All-tail (λ (x : Stamped). IsNamed l x.entry) e es h))

nodes-text : (d : Description) (event node : ℕ) (ls : List Log) → All NumbersInOrder ls → entry_lines d event node ls ≡ text_of_lines d (node_lines event node ls)
nodes-text d event node [] h = refl
nodes-text d event node (l ∷ ls) h =
    let own = at_event entry_event event l.entries in
    ap (λ (w : List ℕ). w ++ entry_lines d event (suc node) ls)
    (entries-text d l node own (All-filter (λ (e : Stamped). entry_event e == event) (λ (e : Stamped). IsNamed l e.entry) l.entries (named-log l (All-head NumbersInOrder l ls h))))
    ∙ ap (λ (w : List ℕ). text_of_lines d (map (line_of_entry l node) own) ++ w) (nodes-text d event (suc node) ls (All-tail NumbersInOrder l ls h))
    ∙ sym (flat_map-append (reader.line_text d) (map (line_of_entry l node) own) (node_lines event (suc node) ls))

air-text : (d : Description) (xs : List Aired) → flat_map air_line xs ≡ text_of_lines d (map line_of_aired xs)
air-text d [] = refl
air-text d (x ∷ xs) = ap (λ (w : List ℕ). air_line x ++ w) (air-text d xs)

event-text : (d : Description) (r : Report) (event : ℕ) → All NumbersInOrder r.nodes → event_lines d r event ≡ text_of_lines d (lines_at r event)
event-text d r event h =
    let here = at_event air_event event r.air in
    ap (λ (w : List ℕ). w ++ entry_lines d event 0 r.nodes) (air-text d here)
    ∙ ap (λ (w : List ℕ). text_of_lines d (map line_of_aired here) ++ w) (nodes-text d event 0 r.nodes h)
    ∙ sym (flat_map-append (reader.line_text d) (map line_of_aired here) (node_lines event 0 r.nodes))

pub events-text : (d : Description) (r : Report) (events : List ℕ) → All NumbersInOrder r.nodes → flat_map (event_lines d r) events ≡ text_of_lines d (flat_map (lines_at r) events)
events-text d r [] h = refl
events-text d r (event ∷ events) h =
    ap (λ (w : List ℕ). w ++ flat_map (event_lines d r) events) (event-text d r event h)
    ∙ ap (λ (w : List ℕ). text_of_lines d (lines_at r event) ++ w) (events-text d r events h)
    ∙ sym (flat_map-append (reader.line_text d) (lines_at r event) (flat_map (lines_at r) events))

-- ---- each line is sound

right-air : (n : ℕ) (a : Air) → n ≤ 64 → IsAirInRange n a → reader.IsRightAir a
right-air n (air.Interval length) h r = tt
right-air n air.Keep h r = tt
right-air n (air.Sent k bytes) h r = r
right-air n (air.Lost k to) h r = omega (arith, h, r)
right-air n (air.Got k from) h r = omega (arith, h, r)
right-air n (air.Noise bytes) h r = r

right-told : (d : Description) (l : Log) (x : Entry) → IsEntryInRange d x → IsNamed l x → HasFullImages l → All (IsStoreOf d) l.stores → reader.IsRightTold d (told_by_entry l x)
right-told d l (entry.Install h version image) r n full stores = (r, full.full image (record { items = [] }) n)
right-told d l (entry.Seen store) r n full stores = stores store (record { shared = record { items = [] }; buffers = record { items = [] } }) n
right-told d l (entry.Post n h c payload) r x full stores = r
right-told d l (entry.Dropped h cause) r x full stores = r
right-told d l (entry.Ask n f args) r x full stores = r
right-told d l _ r x full stores = tt

told-ranges : (l : Log) (x : Entry) → IsNamed l x → HasLogRanges l → HasEntryRanges x → reader.HasToldRanges (told_by_entry l x)
told-ranges l (entry.Install h version image) n log own = let r = log.images image (record { items = [] }) n in (own, r.0, r.1)
told-ranges l (entry.Seen store) n log own = log.stores store (record { shared = record { items = [] }; buffers = record { items = [] } }) n
told-ranges l (entry.Dropped h cause) n log own = tt
told-ranges l entry.Reset n log own = tt
told-ranges l _ n log own = own

line-sound : (d : Description) (l : Log) (node : ℕ) (e : Stamped) → node < 64 → IsEntryInRange d e.entry → IsNamed l e.entry → HasFullImages l → All (IsStoreOf d) l.stores → HasLogRanges l → HasStampedRanges e
    → IsSound d (line_of_entry l node e)
line-sound d l node e low r n full stores log own = record {
  right = record { node = low; told = right-told d l e.entry r n full stores };
  ranges = record { event = own.stamp.event; time = own.stamp.time; told = told-ranges l e.entry n log own.entry };
}

-- ---- what holds of each record's line

map-all : {A : Type 0} (P : Line → Type 0) (f : A → Line) (xs : List A) → All (λ (x : A). P (f x)) xs → All P (map f xs)
map-all P f xs h = All-map P f xs h

abbrev OnLog : (Line → Type 0) → ℕ → Log → Type 0
OnLog P node l = All (λ (e : Stamped). P (line_of_entry l node e)) l.entries

nodes-all : (P : Line → Type 0) (event node : ℕ) (ls : List Log) → ((i : ℕ) (d : Log) → i < length ls → OnLog P (node + i) (get_or ls i d)) → All P (node_lines event node ls)
nodes-all P event node [] h = All-nil P
nodes-all P event node (l ∷ ls) h =
    let z : node + 0 ≡ node = omega arith in
    let own : OnLog P node l = subst (λ (k : ℕ). OnLog P k l) z (h 0 l (omega arith)) in
    All-append P (map (line_of_entry l node) (at_event entry_event event l.entries)) (node_lines event (suc node) ls)
    (All-map P (line_of_entry l node) (at_event entry_event event l.entries) (All-filter (λ (e : Stamped). entry_event e == event) (λ (e : Stamped). P (line_of_entry l node e)) l.entries own))
    (nodes-all P event (suc node) ls (λ i d q. (let n : node + suc i ≡ suc node + i = omega arith in subst (λ (k : ℕ). OnLog P k (get_or ls i d)) n (h (suc i) d (omega (arith, q))))))

event-all : (P : Line → Type 0) (r : Report) (event : ℕ) → All (λ (a : Aired). P (line_of_aired a)) r.air → ((i : ℕ) (d : Log) → i < length r.nodes → OnLog P i (get_or r.nodes i d)) → All P (lines_at r event)
event-all P r event on_air h =
    All-append P (map line_of_aired (at_event air_event event r.air)) (node_lines event 0 r.nodes)
    (All-map P line_of_aired (at_event air_event event r.air) (All-filter (λ (a : Aired). air_event a == event) (λ (a : Aired). P (line_of_aired a)) r.air on_air))
    (nodes-all P event 0 r.nodes (λ i d q. (let n : i ≡ 0 + i = omega arith in subst (λ (k : ℕ). OnLog P k (get_or r.nodes i d)) n (h i d q))))

pub lines-all : (P : Line → Type 0) (r : Report) (events : List ℕ) → All (λ (a : Aired). P (line_of_aired a)) r.air → ((i : ℕ) (d : Log) → i < length r.nodes → OnLog P i (get_or r.nodes i d)) → All P (flat_map (lines_at r) events)
lines-all P r [] on_air h = All-nil P
lines-all P r (event ∷ events) on_air h = All-append P (lines_at r event) (flat_map (lines_at r) events) (event-all P r event on_air h) (lines-all P r events on_air h)

pub lines-sound : (d : Description) (r : Report) (events : List ℕ) → IsTidy d r → HasReportRanges r → All (IsSound d) (flat_map (lines_at r) events)
lines-sound d r events t ranges =
    let high = t.nodes_high in
    lines-all (IsSound d) r events
    (λ k x q.
    (let a = get_or r.air k x in
    let in_range = t.air_in_range k x q in
    let low = in_range.0 in
    let h = ranges.air k x q in
    record {
      right = record { node = omega (arith, low, high); told = right-air (length r.nodes) a.air high in_range.1 };
      ranges = record { event = h.stamp.event; time = h.stamp.time; told = h.air };
    }))
    (λ i x q k e p.
    (let l = get_or r.nodes i x in
    let log = t.logs i x q in
    line-sound d l i (get_or l.entries k e) (omega (arith, q, high)) (log.in_range k e p) (named-log l log.numbered k e p) (t.images i x q) log.lengths (ranges.nodes i x q) ((ranges.nodes i x q).entries k e p)))

-- ---- the marks of the lines are those of the records

shown-seen : (l : Log) (x : Entry) → is_some (store_named x) ≡ is_shown (told_by_entry l x)
shown-seen l (entry.Post n h c payload) = refl
shown-seen l _ = refl

abbrev stamped_mark : ℕ → Stamped → Mark
stamped_mark node e = record { stamp = e.stamp; node = node; is_seen = is_some (store_named e.entry) }

marks-each : (P : Mark → Type 0) (node : ℕ) (ls : List Log) → All P (log_marks node ls) → (i : ℕ) (d : Log) → i < length ls → All (λ (e : Stamped). P (stamped_mark (node + i) e)) (get_or ls i d).entries
marks-each P node [] h i d q = absurd (omega (arith, q))
marks-each P node (l ∷ ls) h zero d q =
    let z : node ≡ node + 0 = omega arith in
    let own = All-of_map P (stamped_mark node) l.entries (All-front P (map (stamped_mark node) l.entries) (log_marks (suc node) ls) h) in
    subst (λ (k : ℕ). All (λ (e : Stamped). P (stamped_mark k e)) l.entries) z own
marks-each P node (l ∷ ls) h (suc i) d q =
    let n : suc node + i ≡ node + suc i = omega arith in
    let more = marks-each P (suc node) ls (All-back P (map (stamped_mark node) l.entries) (log_marks (suc node) ls) h) i d (omega (arith, q)) in
    subst (λ (k : ℕ). All (λ (e : Stamped). P (stamped_mark k e)) (get_or ls i d).entries) n more

abbrev aired_mark : Aired → Mark
aired_mark a = record { stamp = a.stamp; node = a.node; is_seen = false }

lines-marked : (P : Mark → Type 0) (r : Report) (events : List ℕ) → All P (marks r) → All (λ (l : Line). P (line_mark l)) (flat_map (lines_at r) events)
lines-marked P r events h =
    lines-all (λ (l : Line). P (line_mark l)) r events
    (All-of_map P aired_mark r.air (All-front P (map aired_mark r.air) (log_marks 0 r.nodes) h))
    (λ i x q k e p.
    (let l = get_or r.nodes i x in
    let z : 0 + i ≡ i = omega arith in
    let m = marks-each P 0 r.nodes (All-back P (map aired_mark r.air) (log_marks 0 r.nodes) h) i x q k e p in
    let s = get_or l.entries k e in
    let at : P (stamped_mark i s) = subst (λ (n : ℕ). P (stamped_mark n s)) z m in
    subst (λ (b : Bool). P (record { stamp = s.stamp; node = i; is_seen = b })) (shown-seen l s.entry) at))

last-lines : (r : Report) (events : List ℕ) (event : ℕ) → IsLastSeen (marks r) event → IsLastSeen (line_marks (flat_map (lines_at r) events)) event
last-lines r events event h =
    last_marks (flat_map (lines_at r) events) event (lines-marked (λ (m : Mark). (m.stamp.event ≤ event) × (m.stamp.event ≡ event → IsTrue m.is_seen)) r events h)

one-lines : (r : Report) (events : List ℕ) (a b : Mark) → AreOfOneNode (marks r) a b → AreOfOneNode (line_marks (flat_map (lines_at r) events)) a b
one-lines r events a b h = λ e. elim (h e) [
  | inl same ↦ inl same
  | inr rest ↦ elim rest [ inl zero_event ↦ inr (inl zero_event) | inr last ↦ inr (inr (last-lines r events a.stamp.event last)) ]
]

-- ---- the order of the lines

Sorted : List Line → Type 0
Sorted [] = Unit {0}
Sorted (l ∷ ls) = All (StandsBehind l) ls × Sorted ls

pairs-cons : (l : Line) (ls : List Line) → All (StandsBehind l) ls → AllPairs StandsBehind ls → (i j : ℕ) (d : Line) → i < j → j < length (l ∷ ls) → StandsBehind (get_or (l ∷ ls) i d) (get_or (l ∷ ls) j d)
pairs-cons l ls a b zero zero d p q = absurd (omega (arith, p))
pairs-cons l ls a b zero (suc j) d p q = a j d (omega (arith, q))
pairs-cons l ls a b (suc i) zero d p q = absurd (omega (arith, p))
pairs-cons l ls a b (suc i) (suc j) d p q = b i j d (omega (arith, p)) (omega (arith, q))

pairs-of : (ls : List Line) → Sorted ls → AllPairs StandsBehind ls
unfolding Sorted
pairs-of [] s = λ i j d p q. absurd (omega (arith, q))
pairs-of (l ∷ ls) s = pairs-cons l ls s.0 (pairs-of ls s.1)

sorted-append : (xs ys : List Line) → Sorted xs → Sorted ys → All (λ (x : Line). All (StandsBehind x) ys) xs → Sorted (xs ++ ys)
unfolding Sorted
sorted-append [] ys a b h = b
sorted-append (x ∷ xs) ys a b h =
    (All-append (StandsBehind x) xs ys a.0 (All-head (λ (z : Line). All (StandsBehind z) ys) x xs h), sorted-append xs ys a.1 b (All-tail (λ (z : Line). All (StandsBehind z) ys) x xs h))

IsOf : ℕ → Line → Type 0
IsOf event l = l.stamp.event ≡ event

off-air : (l : Log) (x : Entry) → is_on_air (told_by_entry l x) ≡ false
off-air l (entry.Post n h c payload) = refl
off-air l _ = refl

rise-low : {A : Type 0} (ev : A → ℕ) (low : ℕ) (xs : List A) → EventsRise ev low xs → All (λ (x : A). low ≤ ev x) xs
rise-low ev low xs r = Rattle.report_writer.proofs.EventLemmas.EventsRise-low ev low xs r

nodes-tail : (a : Aired) (airs : List Aired) → AirNodesRise (a ∷ airs) → AirNodesRise airs
nodes-tail a [] r = tt
nodes-tail a (b ∷ airs) r = r.1

rising : (a : Aired) (airs : List Aired) → EventsRise air_event a.stamp.event airs → AirNodesRise (a ∷ airs) → All (λ (b : Aired). a.stamp.event ≡ b.stamp.event → a.node ≤ b.node) airs
rising a [] e n = All-nil (λ (b : Aired). a.stamp.event ≡ b.stamp.event → a.node ≤ b.node)
rising a (b ∷ airs) e n =
    let low = rise-low air_event b.stamp.event airs e.1 in
    let more = rising b airs e.1 n.1 in
    let first = e.0 in
    All-cons (λ (c : Aired). a.stamp.event ≡ c.stamp.event → a.node ≤ c.node) b airs n.0
    (λ k x q same.
    (let c = low k x q in
    let at : b.stamp.event ≡ (get_or airs k x).stamp.event = omega (arith, c, first, same) in
    let ab = n.0 (same ∙ sym at) in
    let bc = more k x q at in
    omega (arith, ab, bc)))

air-sorted : (event low : ℕ) (airs : List Aired) → EventsRise air_event low airs → AirNodesRise airs → Sorted (map line_of_aired (at_event air_event event airs))
unfolding Sorted
air-sorted event low [] e n = tt
air-sorted event low (a ∷ airs) e n =
    let ih = air-sorted event a.stamp.event airs e.1 (nodes-tail a airs n) in
    let later = rise-low air_event a.stamp.event airs e.1 in
    let nodes = rising a airs e.1 n in
    let behind : All (λ (b : Aired). StandsBehind (line_of_aired a) (line_of_aired b)) airs =
    λ k x q. record { event = later k x q; air_first = λ same h. refl; nodes = λ same h. nodes k x q same } in
    let own : All (StandsBehind (line_of_aired a)) (map line_of_aired (at_event air_event event airs)) =
    All-map (StandsBehind (line_of_aired a)) line_of_aired (at_event air_event event airs)
    (All-filter (λ (b : Aired). air_event b == event) (λ (b : Aired). StandsBehind (line_of_aired a) (line_of_aired b)) airs behind) in
    elim (Rattle.std.proofs.lemmas.Bool.cases_Bool (air_event a == event)) [
      | inl here ↦
          subst (λ (xs : List Aired). Sorted (map line_of_aired xs))
          (sym (Rattle.std.proofs.lemmas.Bool.cond-true (air_event a == event) (a ∷ at_event air_event event airs) (at_event air_event event airs) here)) (own, ih)
      | inr other ↦
          subst (λ (xs : List Aired). Sorted (map line_of_aired xs))
          (sym (Rattle.std.proofs.lemmas.Bool.cond-false (air_event a == event) (a ∷ at_event air_event event airs) (at_event air_event event airs) other)) ih
    ]

entries-sorted : (l : Log) (node event low : ℕ) (es : List Stamped) → EventsRise entry_event low es → Sorted (map (line_of_entry l node) (at_event entry_event event es))
unfolding Sorted
entries-sorted l node event low [] e = tt
entries-sorted l node event low (x ∷ es) e =
    let ih = entries-sorted l node event x.stamp.event es e.1 in
    let later = rise-low entry_event x.stamp.event es e.1 in
    let first = line_of_entry l node x in
    let behind : All (λ (y : Stamped). StandsBehind first (line_of_entry l node y)) es =
    λ k d q. record {
      event = later k d q;
      air_first = λ same on. absurd (Rattle.std.proofs.lemmas.Bool.false≢true (sym (off-air l (get_or es k d).entry) ∙ on));
      nodes = λ same h. omega arith;
    } in
    let own : All (StandsBehind first) (map (line_of_entry l node) (at_event entry_event event es)) =
    All-map (StandsBehind first) (line_of_entry l node) (at_event entry_event event es)
    (All-filter (λ (y : Stamped). entry_event y == event) (λ (y : Stamped). StandsBehind first (line_of_entry l node y)) es behind) in
    elim (Rattle.std.proofs.lemmas.Bool.cases_Bool (entry_event x == event)) [
      | inl here ↦
          subst (λ (xs : List Stamped). Sorted (map (line_of_entry l node) xs))
          (sym (Rattle.std.proofs.lemmas.Bool.cond-true (entry_event x == event) (x ∷ at_event entry_event event es) (at_event entry_event event es) here)) (own, ih)
      | inr other ↦
          subst (λ (xs : List Stamped). Sorted (map (line_of_entry l node) xs))
          (sym (Rattle.std.proofs.lemmas.Bool.cond-false (entry_event x == event) (x ∷ at_event entry_event event es) (at_event entry_event event es) other)) ih
    ]

-- a line of an entry in an event, on a node from `low` on
record IsEntryIn (event low : ℕ) (y : Line) : Type 0 where
  at : y.stamp.event ≡ event
  node : low ≤ y.node
  off : is_on_air y.told ≡ false

node-entries : (event low node : ℕ) (l : Log) → low ≤ node → All (IsEntryIn event low) (map (line_of_entry l node) (at_event entry_event event l.entries))
node-entries event low node l h =
    All-map (IsEntryIn event low) (line_of_entry l node) (at_event entry_event event l.entries)
    (λ k d q. (let p = filter_passes (λ (e : Stamped). entry_event e == event) l.entries k d q in
    let e = get_or (at_event entry_event event l.entries) k d in
    record { at = eqb-true (entry_event e) event p; node = h; off = off-air l e.entry }))

later-entries : (event low node : ℕ) (ls : List Log) → low ≤ node → All (IsEntryIn event low) (node_lines event node ls)
later-entries event low node [] h = All-nil (IsEntryIn event low)
later-entries event low node (l ∷ ls) h =
    All-append (IsEntryIn event low) (map (line_of_entry l node) (at_event entry_event event l.entries)) (node_lines event (suc node) ls) (node-entries event low node l h)
    (later-entries event low (suc node) ls (omega (arith, h)))

nodes-sorted : (event node : ℕ) (ls : List Log) → All (λ (l : Log). EventsRise entry_event 0 l.entries) ls → Sorted (node_lines event node ls)
unfolding Sorted
nodes-sorted event node [] h = tt
nodes-sorted event node (l ∷ ls) h =
    let own = map (line_of_entry l node) (at_event entry_event event l.entries) in
    let later = later-entries event node (suc node) ls (omega arith) in
    let mine : All (λ (x : Line). (x.stamp.event ≡ event) × (x.node ≡ node)) own =
    All-map (λ (x : Line). (x.stamp.event ≡ event) × (x.node ≡ node)) (line_of_entry l node) (at_event entry_event event l.entries)
    (λ k d q. (eqb-true (entry_event (get_or (at_event entry_event event l.entries) k d)) event (filter_passes (λ (e : Stamped). entry_event e == event) l.entries k d q), refl)) in
    sorted-append own (node_lines event (suc node) ls) (entries-sorted l node event 0 l.entries (All-head (λ (x : Log). EventsRise entry_event 0 x.entries) l ls h))
    (nodes-sorted event (suc node) ls (All-tail (λ (x : Log). EventsRise entry_event 0 x.entries) l ls h))
    (λ k d q j y p.
    (let a = mine k d q in
    let b = later j y p in
    let ea = a.0 in
    let na = a.1 in
    let eb = b.at in
    let nb = b.node in
    record {
      event = omega (arith, ea, eb);
      air_first = λ same on. absurd (Rattle.std.proofs.lemmas.Bool.false≢true (sym b.off ∙ on));
      nodes = λ same kind. omega (arith, na, nb);
    }))

air-at : (event : ℕ) (airs : List Aired) → All (λ (x : Line). (x.stamp.event ≡ event) × (is_on_air x.told ≡ true)) (map line_of_aired (at_event air_event event airs))
air-at event airs =
    All-map (λ (x : Line). (x.stamp.event ≡ event) × (is_on_air x.told ≡ true)) line_of_aired (at_event air_event event airs)
    (λ k d q. (eqb-true (air_event (get_or (at_event air_event event airs) k d)) event (filter_passes (λ (a : Aired). air_event a == event) airs k d q), refl))

event-sorted : (r : Report) (event : ℕ) → EventsRise air_event 0 r.air → AirNodesRise r.air → All (λ (l : Log). EventsRise entry_event 0 l.entries) r.nodes → Sorted (lines_at r event)
event-sorted r event e n logs =
    let on = air-at event r.air in
    let off = later-entries event 0 0 r.nodes (omega arith) in
    sorted-append (map line_of_aired (at_event air_event event r.air)) (node_lines event 0 r.nodes) (air-sorted event 0 r.air e n) (nodes-sorted event 0 r.nodes logs)
    (λ k d q j y p.
    (let a = on k d q in
    let b = off j y p in
    let ea = a.0 in
    let eb = b.at in
    record {
      event = omega (arith, ea, eb);
      air_first = λ same h. a.1;
      nodes = λ same kind. absurd (Rattle.std.proofs.lemmas.Bool.false≢true (sym b.off ∙ sym kind ∙ a.1));
    }))

event-at : (r : Report) (event : ℕ) → All (IsOf event) (lines_at r event)
unfolding IsOf
event-at r event =
    All-append (λ (l : Line). l.stamp.event ≡ event) (map line_of_aired (at_event air_event event r.air)) (node_lines event 0 r.nodes) (λ k d q. (air-at event r.air k d q).0)
    (λ k d q. (later-entries event 0 0 r.nodes (omega arith) k d q).at)

events-before : (r : Report) (n : ℕ) → All (λ (l : Line). l.stamp.event < n) (flat_map (lines_at r) (below n))
unfolding IsOf
events-before r zero = All-nil (λ (l : Line). l.stamp.event < 0)
events-before r (suc n) =
    All-same (λ (l : Line). l.stamp.event < suc n) (flat_map (lines_at r) (below (suc n))) (flat_map (lines_at r) (below n) ++ (lines_at r n ++ [])) (flat_map-append (lines_at r) (below n) (n ∷ []))
    (All-append (λ (l : Line). l.stamp.event < suc n) (flat_map (lines_at r) (below n)) (lines_at r n ++ []) (λ k d q. (let b = events-before r n k d q in omega (arith, b)))
    (All-append (λ (l : Line). l.stamp.event < suc n) (lines_at r n) [] (λ k d q. (let b = event-at r n k d q in omega (arith, b))) (All-nil (λ (l : Line). l.stamp.event < suc n))))

events-sorted : (r : Report) (n : ℕ) → EventsRise air_event 0 r.air → AirNodesRise r.air → All (λ (l : Log). EventsRise entry_event 0 l.entries) r.nodes → Sorted (flat_map (lines_at r) (below n))
unfolding Sorted IsOf
events-sorted r zero e a logs = tt
events-sorted r (suc n) e a logs =
    let is : flat_map (lines_at r) (below (suc n)) ≡ flat_map (lines_at r) (below n) ++ lines_at r n =
    flat_map-append (lines_at r) (below n) (n ∷ []) ∙ ap (λ (xs : List Line). flat_map (lines_at r) (below n) ++ xs) (append-nil (lines_at r n)) in
    subst Sorted (sym is)
    (sorted-append (flat_map (lines_at r) (below n)) (lines_at r n) (events-sorted r n e a logs) (event-sorted r n e a logs)
    (λ k d q j y p.
    (let lt = events-before r n k d q in
    let at = event-at r n j y p in
    record {
      event = omega (arith, lt, at);
      air_first = λ same. absurd (omega (arith, lt, at, same));
      nodes = λ same. absurd (omega (arith, lt, at, same));
    })))

pub lines-fit : (d : Description) (r : Report) (n : ℕ) → IsTidy d r → HasReportRanges r → AreFitting d (flat_map (lines_at r) (below n))
lines-fit d r n t ranges =
    let ls = flat_map (lines_at r) (below n) in record {
      sound = lines-sound d r (below n) t ranges;
      order = record {
        ordered = pairs-of ls (events-sorted r n t.air_ordered t.air_nodes (λ k x q. (t.logs k x q).ordered));
        in_time = lines-marked (λ (a : Mark). All (λ (l : Line). IsNoEarlier a (line_mark l)) ls) r (below n)
            (λ k x q. lines-marked (IsNoEarlier (get_or (marks r) k x)) r (below n) (t.in_time k x q));
        one_node = lines-marked (λ (a : Mark). All (λ (l : Line). AreOfOneNode (line_marks ls) a (line_mark l)) ls) r (below n)
            (λ k x q. lines-marked (AreOfOneNode (line_marks ls) (get_or (marks r) k x)) r (below n)
            (λ j y p. one-lines r (below n) (get_or (marks r) k x) (get_or (marks r) j y) (t.one_node k x q j y p)));
      };
    }
