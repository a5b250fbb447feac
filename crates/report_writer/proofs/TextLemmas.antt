-- Lemmas on `specs/Text.antt`.
use Rattle.std.proofs.Common.{◌≡◌, ℕ, Bool, zero, suc, ◌+◌, ◌<◌, ◌≤◌, max, List, ◌++◌, ◌∷◌, [], length, map, ap, sym, ◌∙◌, arith}
use Rattle.std.specs.Prelude.{flat_map, fold, All}
use Rattle.std.proofs.Common.{append-nil, append_assoc, take, get_or}
use Rattle.std.proofs.lemmas.List.Elements.{All-weaker}
use Rattle.vm_shape.specs.declared.description.Description.{Description}
use Rattle.mate_journal.specs.Log.{Log}
use Rattle.mate_journal.specs.declared.entry.Stamped.{Stamped}
use Rattle.mate_journal.specs.declared.report.Report.{Report}
use Rattle.mate_journal.specs.Tidy.{entry_event}
use Rattle.report_writer.specs.Text.{entry_line, entry_lines, events_end, end_line}
use Rattle.report_writer.specs.Progress.{IsOrdered, at_event}
use Rattle.report_writer.specs.Tidy.{IsTidy}
use Rattle.report_writer.proofs.EventLemmas.{All-of_map, All-of_flat_map, fold-max_bounds}

-- event numbers fall along no list of a tidy report
pub IsOrdered-tidy : (d : Description) (r : Report) → IsTidy d r → IsOrdered r
IsOrdered-tidy d r tidy = record {
  air = tidy.air_ordered;
  logs = λ k x p. (tidy.logs k x p).ordered;
}

-- each entry's event is below the end of the events
pub below_end : (r : Report) → All (λ (l : Log). All (λ (e : Stamped). e.stamp.event < events_end r) l.entries) r.nodes
below_end r =
    let top = fold max 0 (flat_map (λ (l : Log). map entry_event l.entries) r.nodes) in
    let bounds = fold-max_bounds 0 (flat_map (λ (l : Log). map entry_event l.entries) r.nodes) in
    All-weaker (λ (l : Log). All (λ (k : ℕ). k ≤ top) (map entry_event l.entries)) (λ (l : Log). All (λ (e : Stamped). e.stamp.event < events_end r) l.entries)
    (λ (l : Log) (h : All (λ (k : ℕ). k ≤ top) (map entry_event l.entries)).
    All-weaker (λ (e : Stamped). e.stamp.event ≤ top) (λ (e : Stamped). e.stamp.event < events_end r) (λ (e : Stamped) (p : e.stamp.event ≤ top). omega (arith, p)) l.entries (All-of_map (λ (k : ℕ). k ≤ top) entry_event l.entries h))
    r.nodes (All-of_flat_map (λ (k : ℕ). k ≤ top) (λ (l : Log). map entry_event l.entries) r.nodes bounds)

pub end_line-same : (a a' b b' n n' : ℕ) (w w' : Bool) → a ≡ a' → b ≡ b' → n ≡ n' → w ≡ w' → end_line a b n w ≡ end_line a' b' n' w'
end_line-same a a' b b' n n' w w' p q r s = cc (p, q, r, s)

-- ---- node by node

-- the lines of one more node
pub entry_lines-next : (d : Description) (event node : ℕ) (ls : List Log) (i : ℕ) (x : Log) → i < length ls
    → entry_lines d event node (take (suc i) ls)
    ≡ entry_lines d event node (take i ls) ++ flat_map (entry_line d (get_or ls i x) (node + i)) (at_event entry_event event (get_or ls i x).entries)
entry_lines-next d event node [] i x p = absurd (omega (arith, p))
entry_lines-next d event node (l ∷ ls) zero x p =
    let same : node ≡ node + 0 = omega arith in
    append-nil (flat_map (entry_line d l node) (at_event entry_event event l.entries))
    ∙ ap (λ k. flat_map (entry_line d l k) (at_event entry_event event l.entries)) same
entry_lines-next d event node (l ∷ ls) (suc i) x p =
    let same : suc node + i ≡ node + suc i = omega arith in
    let log = get_or ls i x in
    let here = flat_map (entry_line d l node) (at_event entry_event event l.entries) in
    let before = entry_lines d event (suc node) (take i ls) in
    ap (λ ys. here ++ ys)
    (entry_lines-next d event (suc node) ls i x (omega (arith, p))
    ∙ ap (λ k. before ++ flat_map (entry_line d log k) (at_event entry_event event log.entries)) same)
    ∙ sym (append_assoc here before (flat_map (entry_line d log (node + suc i)) (at_event entry_event event log.entries)))
