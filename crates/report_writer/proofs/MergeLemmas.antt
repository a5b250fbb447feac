-- Lemmas on `specs/Progress.antt`, and on the lines of one event.
use Rattle.std.proofs.Common.{◌≡◌, ◌≢◌, ℕ, suc, ◌+◌, ◌<◌, ◌≤◌, max, List, Result, ◌++◌, ◌∷◌, [], length, map, take, get_or, set, refl, ap, sym, subst, ◌∙◌, arith, zero-add, inl, inr, get_or-set_other, get_or-set_same}
use Rattle.std.specs.Prelude.{flat_map, fold, All, Option, None, Some, IfSome, slice_get, slice_index_or}
use Rattle.std.specs.Option.{option_map}
use Rattle.std.proofs.lemmas.Bool.{cases_lt}
use Rattle.std.proofs.lemmas.List.{take_all}
use Rattle.std.proofs.lemmas.List.Elements.{All-weaker, All-head, All-tail, All-get_or, at_read}
use Rattle.std.proofs.lemmas.Option.{slice_get_cases}
use Rattle.mate_files.specs.Pen.{Prints}
use Rattle.mate_files.proofs.PenLemmas.{◌⟫◌, Prints-by}
use Rattle.mate_files.specs.declared.sink.SinkFault.{SinkFault}
use Rattle.vm_shape.specs.declared.description.Description.{Description}
use Rattle.mate_journal.specs.Log.{Log}
use Rattle.mate_journal.specs.declared.air.Aired.{Aired}
use Rattle.mate_journal.specs.declared.report.Report.{Report}
use Rattle.mate_journal.specs.Tidy.{below, entry_event, EventsRise}
use Rattle.report_writer.specs.Text.{air_line, entry_line, entry_lines, event_lines, events_end}
use Rattle.report_writer.specs.Progress.{air_event, at_event, IsLeftFrom, IsCut, AreCuts, AreLeftFrom, IsGreatest, lesser}
use Rattle.report_writer.proofs.EventLemmas.{IsCut-later, IsCut-first, at_event-between, flat_map-skip, IsGreatest-both, IsGreatest-same, IsGreatest-head, IsLeftFrom-down, All-of_map, fold-max_bounds}
use Rattle.report_writer.proofs.TextLemmas.{entry_lines-next}

-- ---- the logs of one event

-- the lines of one more node, where its log is known by its place
pub entry_lines-push : (d : Description) (event : ℕ) (logs : List Log) (node : ℕ) (log : Log) → node < length logs → log ≡ get_or logs node log
    → entry_lines d event 0 (take node logs) ++ flat_map (entry_line d log node) (at_event entry_event event log.entries) ≡ entry_lines d event 0 (take (node + 1) logs)
entry_lines-push d event logs node log p is =
    let piece : Log → ℕ → List ℕ = λ (l : Log) (k : ℕ). flat_map (entry_line d l k) (at_event entry_event event l.entries) in
    let more : node + 1 ≡ suc node = omega arith in
    sym (ap (λ k. entry_lines d event 0 (take k logs)) more
    ∙ entry_lines-next d event 0 logs node log p
    ∙ ap (λ ys. entry_lines d event 0 (take node logs) ++ ys) (ap (λ l. piece l (0 + node)) (sym is) ∙ ap (piece log) (zero-add node)))

pub Prints-log : {w0 w1 w2 : Option (List ℕ)} {f0 f1 f2 : ℕ} {r0 r1 r2 : Result (Unit {0}) SinkFault} (d : Description) (event : ℕ) (logs : List Log) (node : ℕ) (log : Log)
    → node < length logs → log ≡ get_or logs node log → Prints w0 f0 r0 w1 f1 r1 (entry_lines d event 0 (take node logs))
    → Prints w1 f1 r1 w2 f2 r2 (flat_map (entry_line d log node) (at_event entry_event event log.entries)) → Prints w0 f0 r0 w2 f2 r2 (entry_lines d event 0 (take (node + 1) logs))
Prints-log d event logs node log p is before here = Prints-by (entry_lines-push d event logs node log p is) (before ⟫ here)

-- one more position is a cut
pub cuts-next : (event : ℕ) (logs : List Log) (cursors : List ℕ) (node : ℕ) (log : Log) (next : ℕ) → node < length logs → node < length cursors → log ≡ get_or logs node log
    → IsCut entry_event event log.entries next
    → ((k : ℕ) (d : Log) → k < node → IsCut entry_event event (get_or logs k d).entries (get_or cursors k 0))
    → (k : ℕ) (d : Log) → k < node + 1 → IsCut entry_event event (get_or logs k d).entries (get_or (set cursors node next) k 0)
cuts-next event logs cursors node log next p room is cut cuts k d q =
    elim (cases_lt k node) [
      | inl lt ↦ let other : k ≢ node = omega (arith, lt) in rw get_or-set_other (cuts k d lt)
      | inr ge ↦
          let e : node ≡ k = omega (arith, q, ge) in
          subst (λ (j : ℕ). IsCut entry_event event (get_or logs j d).entries (get_or (set cursors node next) j 0)) e
          (rw get_or-set_same (at_read logs (λ (l : Log). IsCut entry_event event l.entries next) node log p is cut d))
    ]

-- no position is behind the first node's
pub cuts-start : (event : ℕ) (logs : List Log) (cursors : List ℕ) (k : ℕ) (d : Log) → k < 0 → IsCut entry_event event (get_or logs k d).entries (get_or cursors k 0)
cuts-start event logs cursors k d p = absurd (omega (arith, p))

-- the positions of the later nodes stay
pub cuts-left : (event : ℕ) (logs : List Log) (cursors : List ℕ) (node next : ℕ)
    → ((k : ℕ) (d : Log) → node ≤ k → k < length logs → IsCut entry_event event (get_or logs k d).entries (get_or cursors k 0))
    → (k : ℕ) (d : Log) → node + 1 ≤ k → k < length logs → IsCut entry_event event (get_or logs k d).entries (get_or (set cursors node next) k 0)
cuts-left event logs cursors node next cuts k d p q =
    let other : k ≢ node = omega (arith, p) in rw get_or-set_other (cuts k d (omega (arith, p)) q)

-- the position of the next node is a cut of its log
pub cut-here : (event : ℕ) (logs : List Log) (cursors : List ℕ) (node : ℕ) (log : Log) → node < length logs → log ≡ get_or logs node log
    → ((k : ℕ) (d : Log) → node ≤ k → k < length logs → IsCut entry_event event (get_or logs k d).entries (get_or cursors k 0))
    → IsCut entry_event event log.entries (get_or cursors node 0)
cut-here event logs cursors node log p is cuts =
    subst (λ (l : Log). IsCut entry_event event l.entries (get_or cursors node 0)) (sym is) (cuts node log (omega arith) p)

-- behind the last node all positions are cuts, and all lines are printed
pub cuts-all : (event : ℕ) (logs : List Log) (cursors : List ℕ) (node : ℕ) → length logs ≤ node
    → ((k : ℕ) (d : Log) → k < node → IsCut entry_event event (get_or logs k d).entries (get_or cursors k 0)) → AreCuts event logs cursors
cuts-all event logs cursors node p cuts = λ k d q. cuts k d (omega (arith, p, q))

pub entry_lines-all : (d : Description) (event : ℕ) (logs : List Log) (node : ℕ) → length logs ≤ node → entry_lines d event 0 (take node logs) ≡ entry_lines d event 0 logs
entry_lines-all d event logs node p = ap (entry_lines d event 0) (take_all node logs p)

-- a place in as many logs as there are positions is one of a position
pub has-cursor : (node logs old now : ℕ) → now ≡ old → old ≡ logs → node < logs → node < now
has-cursor node logs old now e same p = omega (arith, e, same, p)

-- the events rise along the log at a place
pub rises-here : (logs : List Log) (node : ℕ) (log : Log) → node < length logs → log ≡ get_or logs node log
    → All (λ (l : Log). EventsRise entry_event 0 l.entries) logs → EventsRise entry_event 0 log.entries
rises-here logs node log p is all = subst (λ (l : Log). EventsRise entry_event 0 l.entries) (sym is) (all node log p)

-- ---- the first event that is left

-- no record of the air, or of the nodes below `node`, that is left is of an event before `event`
pub record LeftUpTo (r : Report) (air : ℕ) (cursors : List ℕ) (node : ℕ) (event : ℕ) : Type 0 where
  pub on_air : IsLeftFrom air_event event r.air air
  pub in_logs : (k : ℕ) (d : Log) → k < node → IsLeftFrom entry_event event (slice_index_or r.nodes k d).entries (slice_index_or cursors k 0)

LeftUpTo-down : (r : Report) (air : ℕ) (cursors : List ℕ) (node m n : ℕ) → m ≤ n → LeftUpTo r air cursors node n → LeftUpTo r air cursors node m
LeftUpTo-down r air cursors node m n p h = record {
  on_air = IsLeftFrom-down air_event r.air air m n p h.on_air;
  in_logs = λ k d q. IsLeftFrom-down entry_event (slice_index_or r.nodes k d).entries (slice_index_or cursors k 0) m n p (h.in_logs k d q);
}

pub greatest-start : (r : Report) (air : ℕ) (cursors : List ℕ) (head : Option ℕ) → EventsRise air_event 0 r.air → head ≡ option_map air_event (slice_get r.air air)
    → IsGreatest head (LeftUpTo r air cursors 0)
greatest-start r air cursors head rises is =
    subst (λ (o : Option ℕ). IsGreatest o (LeftUpTo r air cursors 0)) (sym is)
    (IsGreatest-same (λ (n : ℕ). IsLeftFrom air_event n r.air air) (LeftUpTo r air cursors 0) (option_map air_event (slice_get r.air air))
    (λ n h. record { on_air = h; in_logs = λ k d q. absurd (omega (arith, q)) }) (λ n h. h.on_air) (IsGreatest-head air_event r.air air rises))

left-next : (r : Report) (air : ℕ) (cursors : List ℕ) (node : ℕ) (log : Log) (n : ℕ) → node < length r.nodes → log ≡ get_or r.nodes node log → LeftUpTo r air cursors node n
    → IsLeftFrom entry_event n log.entries (get_or cursors node 0)
    → (k : ℕ) (d : Log) → k < node + 1 → IsLeftFrom entry_event n (slice_index_or r.nodes k d).entries (slice_index_or cursors k 0)
left-next r air cursors node log n p is h here k d q =
    elim (cases_lt k node) [
      | inl lt ↦ h.in_logs k d lt
      | inr ge ↦
          let e : node ≡ k = omega (arith, q, ge) in
          subst (λ (j : ℕ). IsLeftFrom entry_event n (get_or r.nodes j d).entries (get_or cursors j 0)) e
          (at_read r.nodes (λ (l : Log). IsLeftFrom entry_event n l.entries (get_or cursors node 0)) node log p is here d)
    ]

pub greatest-next : (r : Report) (air : ℕ) (cursors : List ℕ) (node : ℕ) (log : Log) (next head : Option ℕ) → node < length r.nodes → log ≡ get_or r.nodes node log
    → EventsRise entry_event 0 log.entries → head ≡ option_map entry_event (slice_get log.entries (get_or cursors node 0)) → IsGreatest next (LeftUpTo r air cursors node)
    → IsGreatest (lesser next head) (LeftUpTo r air cursors (node + 1))
greatest-next r air cursors node log next head p is rises e h =
    let here : ℕ → Type 0 = λ (n : ℕ). IsLeftFrom entry_event n log.entries (get_or cursors node 0) in
    let greatest = subst (λ (o : Option ℕ). IsGreatest o here) (sym e) (IsGreatest-head entry_event log.entries (get_or cursors node 0) rises) in
    IsGreatest-same (λ (n : ℕ). LeftUpTo r air cursors node n × here n) (LeftUpTo r air cursors (node + 1)) (lesser next head)
    (λ n both. record { on_air = both.0.on_air; in_logs = left-next r air cursors node log n p is both.0 both.1 })
    (λ n all. (
      record { on_air = all.on_air; in_logs = λ k d q. all.in_logs k d (omega (arith, q)) },
      subst (λ (l : Log). IsLeftFrom entry_event n l.entries (get_or cursors node 0)) (sym is) (all.in_logs node log (omega arith)),
    ))
    (IsGreatest-both (LeftUpTo r air cursors node) here next head (LeftUpTo-down r air cursors node) (IsLeftFrom-down entry_event log.entries (get_or cursors node 0)) h greatest)

pub greatest-end : (r : Report) (air : ℕ) (cursors : List ℕ) (node : ℕ) (next : Option ℕ) → node ≡ length r.nodes → IsGreatest next (LeftUpTo r air cursors node)
    → IsGreatest next (AreLeftFrom r air cursors)
greatest-end r air cursors node next e h =
    IsGreatest-same (LeftUpTo r air cursors node) (AreLeftFrom r air cursors) next
    (λ n all. record { on_air = all.on_air; in_logs = λ k d q. all.in_logs k d (omega (arith, q, e)) })
    (λ n all. record { on_air = all.on_air; in_logs = λ k d q. all.in_logs k d (omega (arith, q, e)) }) h

-- ---- below the end of the events

pub below_end-air : (r : Report) → All (λ (a : Aired). a.stamp.event < events_end r) r.air
below_end-air r =
    let top = fold max 0 (map air_event r.air) in
    All-weaker (λ (a : Aired). a.stamp.event ≤ top) (λ (a : Aired). a.stamp.event < events_end r) (λ (a : Aired) (p : a.stamp.event ≤ top). omega (arith, p)) r.air
    (All-of_map (λ (k : ℕ). k ≤ top) air_event r.air (fold-max_bounds 0 (map air_event r.air)))

pub head-below : {A : Type 0} (ev : A → ℕ) (n : ℕ) (xs : List A) (i : ℕ) (head : Option ℕ) → All (λ (x : A). ev x < n) xs → head ≡ option_map ev (slice_get xs i)
    → IfSome head (λ (k : ℕ). k < n)
head-below ev n xs i head h e =
    let P : Option ℕ → Type 0 = λ (o : Option ℕ). IfSome o (λ (k : ℕ). k < n) in
    elim (slice_get_cases xs i).1 [
      | inl s ↦ subst P (sym (e ∙ ap (option_map ev) s.2)) (subst (λ (x : _). ev x < n) s.3 (All-get_or (λ (x : _). ev x < n) xs i s.0 s.1 h))
      | inr s ↦ subst P (sym (e ∙ ap (option_map ev) s.1)) tt
    ]

pub lesser-below : (n : ℕ) (a b : Option ℕ) → IfSome a (λ (k : ℕ). k < n) → IfSome b (λ (k : ℕ). k < n) → IfSome (lesser a b) (λ (k : ℕ). k < n)
lesser-below n None b p q = q
lesser-below n (Some i) None p q = p
lesser-below n (Some i) (Some j) p q = omega (arith, p)

-- ---- from event to event

-- the number up to which all events were written, where `next` is the first event that is left
abbrev pub reached : Report → Option ℕ → ℕ
reached r None = events_end r
reached r (Some event) = event

-- the positions divide all lists at an event
pub record IsAt (r : Report) (air : ℕ) (cursors : List ℕ) (event : ℕ) : Type 0 where
  pub on_air : IsCut air_event event r.air air
  pub in_logs : AreCuts event r.nodes cursors

pub IsAt-some : (r : Report) (air : ℕ) (cursors : List ℕ) (next : Option ℕ) (event : ℕ) → next ≡ Some event → IfSome next (IsAt r air cursors) → IsAt r air cursors event
IsAt-some r air cursors next event is at = subst (λ (o : Option ℕ). IfSome o (IsAt r air cursors)) is at

IsAt-left : (r : Report) (air : ℕ) (cursors : List ℕ) (event : ℕ) → IsAt r air cursors event → AreLeftFrom r air cursors event
IsAt-left r air cursors event h = record { on_air = h.on_air.after; in_logs = λ k d p. (h.in_logs k d p).after }

IsAt-later : (r : Report) (air : ℕ) (cursors : List ℕ) (a b : ℕ) → a ≤ b → IsAt r air cursors a → AreLeftFrom r air cursors b → IsAt r air cursors b
IsAt-later r air cursors a b p h left = record {
  on_air = IsCut-later air_event a b r.air air p h.on_air left.on_air;
  in_logs = λ k d q. IsCut-later entry_event a b (slice_index_or r.nodes k d).entries (slice_index_or cursors k 0) p (h.in_logs k d q) (left.in_logs k d q);
}

pub IsAt-start : (r : Report) (cursors : List ℕ) → ((k : ℕ) → k < length r.nodes → slice_index_or cursors k 0 ≡ 0) → IsAt r 0 cursors 0
IsAt-start r cursors zeros = record {
  on_air = IsCut-first air_event r.air;
  in_logs = λ k d p. subst (λ (n : ℕ). IsCut entry_event 0 (slice_index_or r.nodes k d).entries n) (sym (zeros k p)) (IsCut-first entry_event (slice_index_or r.nodes k d).entries);
}

pub entry_lines-none : (d : Description) (event node : ℕ) (ls : List Log) → All (λ (l : Log). at_event entry_event event l.entries ≡ []) ls → entry_lines d event node ls ≡ []
entry_lines-none d event node [] h = refl
entry_lines-none d event node (l ∷ ls) h =
    ap (λ ys. flat_map (entry_line d l node) ys ++ entry_lines d event (suc node) ls) (All-head (λ (x : Log). at_event entry_event event x.entries ≡ []) l ls h)
    ∙ entry_lines-none d event (suc node) ls (All-tail (λ (x : Log). at_event entry_event event x.entries ≡ []) l ls h)

-- an event that no record is of has no line
event_lines-none : (d : Description) (r : Report) (air : ℕ) (cursors : List ℕ) (event k : ℕ) → IsAt r air cursors event → event ≤ k → AreLeftFrom r air cursors (k + 1) → event_lines d r k ≡ []
event_lines-none d r air cursors event k h p left =
    let logs : All (λ (l : Log). at_event entry_event k l.entries ≡ []) r.nodes =
    λ i x q. at_event-between entry_event event k (slice_index_or r.nodes i x).entries (slice_index_or cursors i 0) (h.in_logs i x q) p (left.in_logs i x q) in
    ap (λ ys. flat_map air_line ys ++ entry_lines d k 0 r.nodes) (at_event-between air_event event k r.air air h.on_air p left.on_air) ∙ entry_lines-none d k 0 r.nodes logs

AreLeftFrom-down : (r : Report) (air : ℕ) (cursors : List ℕ) (m n : ℕ) → m ≤ n → AreLeftFrom r air cursors n → AreLeftFrom r air cursors m
AreLeftFrom-down r air cursors m n p h = record {
  on_air = IsLeftFrom-down air_event r.air air m n p h.on_air;
  in_logs = λ k d q. IsLeftFrom-down entry_event (slice_index_or r.nodes k d).entries (slice_index_or cursors k 0) m n p (h.in_logs k d q);
}

-- no line stands between an event at which the positions are and the first event that is left
pub lines-skip : (d : Description) (r : Report) (air : ℕ) (cursors : List ℕ) (event : ℕ) (next : Option ℕ) → IsAt r air cursors event → event ≤ events_end r
    → IsGreatest next (AreLeftFrom r air cursors) → flat_map (event_lines d r) (below (reached r next)) ≡ flat_map (event_lines d r) (below event)
lines-skip d r air cursors event None h p g = flat_map-skip (event_lines d r) event (events_end r) p (λ k q s. event_lines-none d r air cursors event k h q (g (k + 1)))
lines-skip d r air cursors event (Some m) h p g =
    flat_map-skip (event_lines d r) event m (g.1 event (IsAt-left r air cursors event h))
    (λ k q s. event_lines-none d r air cursors event k h q (AreLeftFrom-down r air cursors (k + 1) m (omega (arith, s)) g.0))

-- the positions are at the first event that is left
pub IsAt-next : (r : Report) (air : ℕ) (cursors : List ℕ) (event : ℕ) (next : Option ℕ) → IsAt r air cursors event → IsGreatest next (AreLeftFrom r air cursors)
    → IfSome next (IsAt r air cursors)
IsAt-next r air cursors event None h g = tt
IsAt-next r air cursors event (Some m) h g = IsAt-later r air cursors event m (g.1 event (IsAt-left r air cursors event h)) h g.0

-- and that is not before the event
pub reached-from : (r : Report) (air : ℕ) (cursors : List ℕ) (event : ℕ) (next : Option ℕ) → IsAt r air cursors event → event ≤ events_end r
    → IsGreatest next (AreLeftFrom r air cursors) → event ≤ reached r next
reached-from r air cursors event None h p g = p
reached-from r air cursors event (Some m) h p g = g.1 event (IsAt-left r air cursors event h)
