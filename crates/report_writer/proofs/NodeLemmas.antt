-- The report of a node script is tidy.
use Rattle.std.proofs.Common.{◌≡◌, ◌<◌, ◌+◌, ℕ, suc, List, [], ◌∷◌, ◌++◌, map, length, refl, sym, ◌∙◌, ap, subst, arith, inl, append-nil}
use Rattle.std.specs.Prelude.{All, is_some}
use Rattle.std.proofs.lemmas.List.Elements.{All-nil, All-cons, All-append, All-weaker, All-same, All-head, All-tail}
use Rattle.mate_num.specs.declared.call.Stamp.{Stamp}
use Rattle.vm_shape.specs.declared.description.Description.{Description}
use Rattle.mate_journal.specs.Log.{Log}
use Rattle.mate_journal.specs.Machine.{Machine, Meaning}
use Rattle.mate_journal.specs.Described.{machine_of}
use Rattle.mate_journal.specs.Journal.{JournalEntry, TimedEntry, NodeState, journal_of, journal_entry, first_state, state_after_entries}
use Rattle.mate_journal.specs.Pace.{Pace, no_pace}
use Rattle.mate_journal.specs.NodeScript.{Step, RunEnd, Whole, Full, Cut, made_at, HaveMade, EndsRun, IsRunOf}
use Rattle.mate_journal.specs.NodeReport.{IsNodeReport}
use Rattle.mate_journal.specs.Tidy.{store_named, EventsRise, IsTidyLog, HasFullImages}
use Rattle.mate_journal.specs.declared.air.Aired.{Aired}
use Rattle.mate_journal.specs.declared.entry.Stamped.{Stamped}
use Rattle.mate_journal.specs.declared.report.Report.{Report}
use Rattle.report_writer.specs.Progress.{air_event}
use Rattle.report_writer.specs.Tidy.{IsTidy, IsAirInRange, AirNodesRise, Mark, marks, IsNoEarlier, AreOfOneNode}
use Rattle.report_writer.proofs.EventLemmas.{All-of_map}

-- ---- all is of time 0

abbrev AreAtZero : List TimedEntry → Type 0
AreAtZero es = All (λ (e : TimedEntry). e.stamp.time ≡ 0) es

at-zero : (n : ℕ) (told : List JournalEntry) → AreAtZero (map (made_at n) told)
at-zero n [] = All-nil (λ (e : TimedEntry). e.stamp.time ≡ 0)
at-zero n (t ∷ ts) = All-cons (λ (e : TimedEntry). e.stamp.time ≡ 0) (made_at n t) (map (made_at n) ts) refl (at-zero n ts)

none-zero : (es : List TimedEntry) → es ≡ [] → AreAtZero es
none-zero es none = All-same (λ (e : TimedEntry). e.stamp.time ≡ 0) es [] none (All-nil (λ (e : TimedEntry). e.stamp.time ≡ 0))

parts-zero : (es front rest : List TimedEntry) → es ≡ front ++ rest → AreAtZero front → AreAtZero rest → AreAtZero es
parts-zero es front rest is a b = All-same (λ (e : TimedEntry). e.stamp.time ≡ 0) es (front ++ rest) is (All-append (λ (e : TimedEntry). e.stamp.time ≡ 0) front rest a b)

made-zero : (m : Machine) (how : RunEnd) (left : List Step) (records n : ℕ) (r : NodeState) (p : Pace) (steps : List Step) (es : List TimedEntry) → HaveMade (EndsRun m how left) m records n r p steps es → AreAtZero es
made-zero m Whole left records n r p [] es (none, told, shows, is) = All-same (λ (e : TimedEntry). e.stamp.time ≡ 0) es (map (made_at n) told) is (at-zero n told)
made-zero m Full left records n r p [] es made = none-zero es made.2
made-zero m Cut left records n r p [] es made = none-zero es made
made-zero m how left records n r p (step ∷ steps) es (few, told, rest, then, is, makes, later) =
    parts-zero es (map (made_at n) told) rest is (at-zero n told)
    (made-zero m how left (records + length told) (suc n) (state_after_entries m r told) then steps rest later)

run-zero : (m : Machine) (how : RunEnd) (steps : List Step) (es : List TimedEntry) → IsRunOf m how steps es → AreAtZero es
run-zero m how steps es run = made-zero m how run.left 0 1 (first_state m) no_pace run.done es run.made

-- ---- one node

-- the marks of one log's report
abbrev mark_of_entry : Stamped → Mark
mark_of_entry e = record { stamp = e.stamp; node = 0; is_seen = is_some (store_named e.entry) }

one-marks : (r : Report) (l : Log) → r.nodes ≡ l ∷ [] → r.air ≡ [] → marks r ≡ map mark_of_entry l.entries
one-marks r l nodes air =
    let is : marks r ≡ map mark_of_entry l.entries ++ [] = rw (nodes, air) refl in is ∙ append-nil (map mark_of_entry l.entries)

-- a mark of time 0 and of node 0
pub record IsPlain (m : Mark) : Type 0 where
  pub time : m.stamp.time ≡ 0
  pub node : m.node ≡ 0

plain-marks : (es : List Stamped) → All (λ (e : Stamped). e.stamp.time ≡ 0) es → All IsPlain (map mark_of_entry es)
plain-marks [] all = All-nil IsPlain
plain-marks (e ∷ es) all =
    All-cons IsPlain (mark_of_entry e) (map mark_of_entry es) (record { time = All-head (λ (e : Stamped). e.stamp.time ≡ 0) e es all; node = refl })
    (plain-marks es (All-tail (λ (e : Stamped). e.stamp.time ≡ 0) e es all))

entries-zero : (l : Log) → AreAtZero (journal_of l) → All (λ (e : Stamped). e.stamp.time ≡ 0) l.entries
entries-zero l all = All-of_map (λ (e : TimedEntry). e.stamp.time ≡ 0) (λ (e : Stamped). record { stamp = e.stamp; told = journal_entry l e.entry }) l.entries all

pub node-tidy : (d : Description) (meaning : Meaning) (steps : List Step) (how : RunEnd) (r : Report) → IsNodeReport d meaning steps how r → IsTidy d r
node-tidy d meaning steps how r n =
    let count : length r.nodes ≡ 1 = ap (λ (ls : List Log). length ls) n.one_node in
    let same : marks r ≡ map mark_of_entry n.log.entries = one-marks r n.log n.one_node n.no_air in
    let plain : All IsPlain (marks r) =
    subst (All IsPlain) (sym same) (plain-marks n.log.entries (entries-zero n.log (run-zero (machine_of d meaning) how steps (journal_of n.log) n.run.events))) in
    record {
      nodes_low = omega (arith, count);
      nodes_high = omega (arith, count);
      logs = All-same (IsTidyLog d) r.nodes (n.log ∷ []) n.one_node (All-cons (IsTidyLog d) n.log [] n.tidy (All-nil (IsTidyLog d)));
      images = All-same HasFullImages r.nodes (n.log ∷ []) n.one_node (All-cons HasFullImages n.log [] n.images (All-nil HasFullImages));
      air_in_range =
          let P : Aired → Type 0 = λ (a : Aired). (a.node < length r.nodes) × IsAirInRange (length r.nodes) a.air in
          All-same P r.air [] n.no_air (All-nil P);
      air_ordered = subst (EventsRise air_event 0) (sym n.no_air) tt;
      air_nodes = subst AirNodesRise (sym n.no_air) tt;
      in_time = All-weaker IsPlain (λ (a : Mark). All (IsNoEarlier a) (marks r))
          (λ a p. All-weaker IsPlain (IsNoEarlier a) (λ b q. let t = p.time in λ _. omega (arith, t)) (marks r) plain) (marks r) plain;
      one_node = All-weaker IsPlain (λ (a : Mark). All (AreOfOneNode (marks r) a) (marks r))
          (λ a p. All-weaker IsPlain (AreOfOneNode (marks r) a) (λ b q _. inl (p.node ∙ sym q.node)) (marks r) plain) (marks r) plain;
    }
