-- The lines of a run on one node, as they are written.
use Rattle.std.proofs.Common.{◌≡◌, ◌≤◌, ◌+◌, ℕ, zero, suc, List, [], ◌∷◌, ◌++◌, Bool, false, Option, refl, sym, ◌∙◌, ap, subst, arith, inl, lit<, length, map, drop, take, append_assoc, append-nil}
use Rattle.std.specs.Prelude.{All, flat_map}
use Rattle.std.proofs.Math.Seq.{drop-append_seam}
use Rattle.std.proofs.lemmas.List.{length-map}
use Rattle.std.proofs.lemmas.List.Elements.{All-nil, All-cons, All-same, All-weaker}
use Rattle.mate_num.specs.declared.call.Stamp.{Stamp}
use Rattle.vm_shape.specs.declared.description.Description.{Description}
use Rattle.mate_files.specs.Sink.{Puts}
use Rattle.arrayvec.specs.ArrayVec.{ArrayVec}
use Rattle.mate_num.specs.declared.store.Store.{Store}
use Rattle.mate_journal.specs.Log.{Log, IsSameLog}
use Rattle.mate_journal.specs.Pace.{Pace}
use Rattle.script_steps.specs.declared.steps.Step.{Step}
use Rattle.node_open.specs.View.{NodeView, Tells}
use Rattle.node_runs.proofs.RunLemmas.{timely-at}
use Rattle.mate_journal.specs.Journal.{JournalEntry, TimedEntry, journal_of, journal_entry}
use Rattle.mate_journal.specs.WellFormed.{IsInTime, StampsRise}
use Rattle.mate_journal.specs.Tidy.{below}
use Rattle.mate_journal.specs.declared.air.Aired.{Aired}
use Rattle.mate_journal.specs.declared.entry.Entry.{Entry}
use Rattle.mate_journal.specs.declared.entry.Entry.TheVariants as entry
use Rattle.mate_journal.specs.declared.entry.Stamped.{Stamped}
use Rattle.mate_journal.specs.declared.report.Report.{Report}
use Rattle.journal_laws.specs.Growth.{event_of, last_stamp, FollowsLast, AreNamedBelow, IsNamedBelow}
use Rattle.journal_laws.proofs.TidyLemmas.{NamesInLog-numbered}
use Rattle.journal_laws.proofs.GoesOnLemmas.{GoesOn-journal}
use Rattle.report_writer.specs.Pieces.{IsNamed, AddsPiece}
use Rattle.report_writer.specs.Text.{lines, event_lines, event_piece, end_line, records}
use Rattle.report_writer.proofs.EventLemmas.{All-of_map}
use Rattle.report_writer.proofs.PieceLemmas.{lines-piece, lines-earlier, lines-upto, events_end-le}
use Rattle.node_state.specs.Meaning.{machine_in}
use Rattle.node_state.specs.Keeps.{event_at, IsTimely, Grows}
use Rattle.node_open.specs.Journal.{KeepsJournal}
use Rattle.std.specs.Prelude.{Result, Err}
use Rattle.mate_files.specs.declared.sink.SinkFault.{SinkFault}
use Rattle.script_steps.specs.Steps.{NodeScript}
use Rattle.mate_journal.specs.NodeScript.{RunEnd, Cut}
use Rattle.mate_journal.specs.NodeReport.{is_whole}
use Rattle.mate_journal.specs.declared.program.Program.{Program}
use Rattle.node_runs.specs.Running.{report_with, stamp_at, HasRun, IsReportOf}
use Rattle.node_runs.specs.Writing.{PassWrites}
use Rattle.report_writer.specs.declared.pass.Pass.{Pass}
use Rattle.report_writer.specs.Writing.{last_event, lines_before, last_line, write_fault_of, WritesReport, write_ended, HasWritten}
use Rattle.report_writer.specs.declared.write_fault.WriteFault.{WriteFault}
use Rattle.report_writer.specs.declared.write_fault.WriteFault.TheVariants.{NoMemory}
use Rattle.report_writer.proofs.WritingLemmas.{behind-lines, stopped-within, cut-short}

-- the report of one log
abbrev pub one : Log → Report
one l = record { nodes = l ∷ []; air = []; events = 0; whole = false }

-- ---- events are in order

in_time-low : (last : Stamp) (es : List TimedEntry) → IsInTime last es → last.event ≤ (last_stamp last es).event
in_time-low last [] in_time = omega arith
in_time-low last (e ∷ es) in_time = let h = in_time-low e.stamp es in_time.1 in let first = in_time.0.event in omega (arith, h, first)

in_time-upto : (last : Stamp) (es : List TimedEntry) (n : ℕ) → IsInTime last es → (last_stamp last es).event ≤ n → All (λ (e : TimedEntry). e.stamp.event ≤ n) es
in_time-upto last [] n in_time le = All-nil (λ (e : TimedEntry). e.stamp.event ≤ n)
in_time-upto last (e ∷ es) n in_time le =
    let low = in_time-low e.stamp es in_time.1 in
    All-cons (λ (e : TimedEntry). e.stamp.event ≤ n) e es (omega (arith, low, le)) (in_time-upto e.stamp es n in_time.1 le)

stamps-upto : (es : List TimedEntry) (at : Stamp) → StampsRise es → FollowsLast es at → All (λ (e : TimedEntry). e.stamp.event ≤ at.event) es
stamps-upto [] at rise last = All-nil (λ (e : TimedEntry). e.stamp.event ≤ at.event)
stamps-upto (e ∷ es) at rise last =
    let low = in_time-low e.stamp es rise in
    let high = last.event in
    All-cons (λ (e : TimedEntry). e.stamp.event ≤ at.event) e es (omega (arith, low, high)) (in_time-upto e.stamp es at.event rise last.event)

module _ (d : Description) where
  -- the events of a node's log, up to a stamp that may follow
  pub log-upto : (l : Log) (n : ℕ) → KeepsJournal d (machine_in d) l → IsTimely (stamp_at n) l → All (λ (e : Stamped). e.stamp.event ≤ n) l.entries
  log-upto l n keeps timely =
      All-of_map (λ (e : TimedEntry). e.stamp.event ≤ n) (λ (s : Stamped). let x : TimedEntry = record { stamp = s.stamp; told = journal_entry l s.entry } in x) l.entries
      (stamps-upto (journal_of l) (stamp_at n) keeps.well_formed.in_time timely.after_last)

  named-entry : (l : Log) (e : Entry) → IsNamedBelow (length l.images) (length l.stores) e → IsNamed l e
  named-entry l (entry.Install h version image) named = named
  named-entry l (entry.Seen store) named = named
  named-entry l _ named = tt

  named-all : (l : Log) (es : List Stamped) → AreNamedBelow (length l.images) (length l.stores) es → All (λ (e : Stamped). IsNamed l e.entry) es
  named-all l [] named = All-nil (λ (e : Stamped). IsNamed l e.entry)
  named-all l (e ∷ es) named = All-cons (λ (e : Stamped). IsNamed l e.entry) e es (named-entry l e.entry named.0) (named-all l es named.1)

  -- the entries of an event
  stamped-all : (at : Stamp) (told : List JournalEntry) → All (λ (e : TimedEntry). e.stamp.event ≡ at.event) (map (event_at at) told)
  stamped-all at [] = All-nil (λ (e : TimedEntry). e.stamp.event ≡ at.event)
  stamped-all at (t ∷ ts) = All-cons (λ (e : TimedEntry). e.stamp.event ≡ at.event) (event_at at t) (map (event_at at) ts) refl (stamped-all at ts)

  map-drop : {A B : Type 0} (f : A → B) (n : ℕ) (xs : List A) → drop n (map f xs) ≡ map f (drop n xs)
  map-drop f zero xs = refl
  map-drop f (suc n) [] = refl
  map-drop f (suc n) (x ∷ xs) = map-drop f n xs

  module _ (old new : Log) (n : ℕ) (told : List JournalEntry) (keeps : KeepsJournal d (machine_in d) old) (keeps' : KeepsJournal d (machine_in d) new)
      (timely : IsTimely (stamp_at n) old) (grows : Grows old new (stamp_at (n + 1)) told) where
    abbrev front : List TimedEntry
    front = map (event_at (stamp_at (n + 1))) told

    new-events : All (λ (e : Stamped). e.stamp.event ≡ n + 1) (drop (length old.entries) new.entries)
    new-events =
        let long : length (journal_of old) ≡ length old.entries = length-map old.entries (λ (s : Stamped). let x : TimedEntry = record { stamp = s.stamp; told = journal_entry old s.entry } in x) in
        let is : map (event_of new) (drop (length old.entries) new.entries) ≡ front =
        sym (map-drop (event_of new) (length old.entries) new.entries) ∙ ap (λ (es : List TimedEntry). drop (length old.entries) es) grows.journal
        ∙ ap (λ (k : ℕ). drop k (journal_of old ++ front)) (sym long) ∙ drop-append_seam (journal_of old) front in
        All-of_map (λ (e : TimedEntry). e.stamp.event ≡ n + 1) (event_of new) (drop (length old.entries) new.entries)
        (All-same (λ (e : TimedEntry). e.stamp.event ≡ n + 1) (map (event_of new) (drop (length old.entries) new.entries)) front is (stamped-all (stamp_at (n + 1)) told))

    old-events : All (λ (l : Log). All (λ (e : Stamped). e.stamp.event ≤ n) l.entries) (old ∷ [])
    old-events = All-cons (λ (l : Log). All (λ (e : Stamped). e.stamp.event ≤ n) l.entries) old [] (log-upto old n keeps timely) (All-nil (λ (l : Log). All (λ (e : Stamped). e.stamp.event ≤ n) l.entries))

    -- the event is one more piece
    pub adds : AddsPiece (one old) (one new) [] new (length old.entries) 0
    adds = record {
      event = n + 1;
      before = old;
      within = lit< tt;
      is = refl;
      goes_on = GoesOn-journal old new front keeps.tidy.numbered keeps'.tidy.numbered grows.journal;
      position = refl;
      named = named-all old old.entries (NamesInLog-numbered old keeps.tidy.numbered).named;
      nodes = refl;
      air = refl;
      of_event = new-events;
      air_of_event = All-nil (λ (a : Aired). a.stamp.event ≡ n + 1);
      up_to =
          All-weaker (λ (l : Log). All (λ (e : Stamped). e.stamp.event ≤ n) l.entries) (λ (l : Log). All (λ (e : Stamped). e.stamp.event ≤ n + 1) l.entries)
          (λ l all. All-weaker (λ (e : Stamped). e.stamp.event ≤ n) (λ (e : Stamped). e.stamp.event ≤ n + 1) (λ e le. omega (arith, le)) l.entries all) (old ∷ []) old-events;
      air_up_to = All-nil (λ (a : Aired). a.stamp.event ≤ n + 1);
      later_nodes = λ k x above below_. absurd (omega (arith, above, below_));
      air_first = inl refl;
    }

    pub lines-next : lines d (one new) ≡ lines d (one old) ++ event_piece d [] new (length old.entries) 0
    lines-next = lines-piece d (one old) (one new) [] new (length old.entries) 0 adds

    pub lines-before : lines d (one old) ≡ flat_map (event_lines d (one new)) (below (n + 1))
    unfolding adds
    lines-before = lines-earlier d (one old) (one new) [] new (length old.entries) 0 adds (let e = events_end-le (one old) n (All-nil (λ (a : Aired). a.stamp.event ≤ n)) old-events in omega (arith, e))

  -- all lines are those of the events up to the last one
  pub lines-last : (l : Log) (n : ℕ) → KeepsJournal d (machine_in d) l → IsTimely (stamp_at n) l → lines d (one l) ≡ flat_map (event_lines d (one l)) (below n) ++ event_lines d (one l) n
  lines-last l n keeps timely =
      lines-upto d (one l) n (events_end-le (one l) n (All-nil (λ (a : Aired). a.stamp.event ≤ n))
      (All-cons (λ (x : Log). All (λ (e : Stamped). e.stamp.event ≤ n) x.entries) l [] (log-upto l n keeps timely) (All-nil (λ (x : Log). All (λ (e : Stamped). e.stamp.event ≤ n) x.entries))))

-- ---- what was written, where a run stops

module _ (d : Description) (script : NodeScript) (ps : List Program) (out0 out1 out2 : Option (List ℕ)) (f0 f1 f2 : ℕ) where
  -- the sink failed within an event's lines
  pub stops-within : (how : RunEnd) (old new : Log) (events n : ℕ) (piece : List ℕ) → IsReportOf d script ps how (report_with new events (is_whole how)) → last_event how events ≡ n
      → lines d (one new) ≡ lines d (one old) ++ piece → lines d (one old) ≡ flat_map (event_lines d (one new)) (below n) → HasWritten out0 f0 out1 f1 (lines d (one old))
      → (fault : SinkFault) (answer : WriteFault) → Puts {T = Unit {0}} out1 f1 out2 f2 (Err fault) piece → answer ≡ write_fault_of fault
      → WritesReport d (IsReportOf d script ps) out0 out2 f0 f2 (Err answer) (report_with new events (is_whole how))
  stops-within how old new events n piece report last next before written fault answer puts is =
      let r : Report = report_with new events (is_whole how) in
      let tail = behind-lines how d r in
      stopped-within d (IsReportOf d script ps) out0 out1 out2 f0 f1 f2 how r report (lines d (one old)) [] written
      (before ∙ ap (λ (k : ℕ). lines_before d r k) (sym last) ∙ sym (append-nil (lines_before d r (last_event how events)))) fault answer piece tail.0
      (sym (append_assoc (lines d (one old)) piece tail.0) ∙ ap (λ (bs : List ℕ). bs ++ tail.0) (sym next) ∙ tail.1) puts is

-- memory was refused before an event
pub stops-before : (d : Description) (script : NodeScript) (ps : List Program) (out0 out1 : Option (List ℕ)) (f0 f1 : ℕ) (l : Log) (events : ℕ) → IsReportOf d script ps Cut (report_with l events false)
    → lines d (one l) ≡ flat_map (event_lines d (one l)) (below events) ++ event_lines d (one l) events → HasWritten out0 f0 out1 f1 (lines d (one l))
    → WritesReport d (IsReportOf d script ps) out0 out1 f0 f1 (Err NoMemory) (report_with l events false)
stops-before d script ps out0 out1 f0 f1 l events report covers written =
    cut-short d (IsReportOf d script ps) out0 out1 f0 f1 Cut (report_with l events false) report (lines d (one l)) [] (event_lines d (one l) events) written (append-nil (lines d (one l))) covers

-- so a run writes whose last line was put
pub last-put : (d : Description) (script : NodeScript) (ps : List Program) (out out' : Option (List ℕ)) (f f' : ℕ) (l : Log) (events : ℕ) (whole : Bool) (put : Result (Unit {0}) SinkFault) (pass : Pass)
    → pass ≡ record { events = events; whole = whole; result = write_ended whole put } → WritesReport d (IsReportOf d script ps) out out' f f' (write_ended whole put) (report_with l events whole)
    → PassWrites d script ps out out' f f' l pass
last-put d script ps out out' f f' l events whole put pass is writes = subst (λ (x : Pass). PassWrites d script ps out out' f f' l x) (sym is) writes

-- ---- the last line

-- the last line of a report of one node has the number of its entries
pub last_line-one : (l : Log) (entries events : ℕ) (whole : Bool) → entries ≡ length l.entries → end_line entries events 1 whole ≡ last_line (report_with l events whole)
last_line-one l entries events whole count =
    let sum : entries ≡ records (report_with l events whole) = omega (arith, count) in
    ap (λ (n : ℕ). end_line n events 1 whole) sum

-- ---- an event on a node

-- a log's lines don't rest on its room
pub lines-room : (d : Description) (a b : Log) → IsSameLog a b → lines d (one a) ≡ lines d (one b)
lines-room d a b same =
    let L : List Stamped → List (ArrayVec ℕ) → List Store → ℕ → Log = λ es is ss spare. record { entries = es; images = is; stores = ss; spare = spare } in
    let room : lines d (one (L b.entries b.images b.stores a.spare)) ≡ lines d (one b) = refl in
    ap (λ (es : List Stamped). lines d (one (L es a.images a.stores a.spare))) same.entries
    ∙ ap (λ (is : List (ArrayVec ℕ)). lines d (one (L b.entries is a.stores a.spare))) same.images
    ∙ ap (λ (ss : List Store). lines d (one (L b.entries b.images ss a.spare))) same.stores ∙ room

-- the lines of an event are one more piece, behind those of all events before it
pub event-written : (d : Description) (ps : List Program) (list : List Step) (i event written : ℕ) (mid new : NodeView) (Rule : Pace → List JournalEntry → Pace → Type 0)
    → HasRun d ps (take i list) mid → i ≤ length list → event ≡ i → KeepsJournal d (machine_in d) mid.log → KeepsJournal d (machine_in d) new.log → Tells mid new (stamp_at (event + 1)) Rule
    → written ≡ length mid.log.entries
    → (lines d (one new.log) ≡ lines d (one mid.log) ++ event_piece d [] new.log written 0) × (lines d (one mid.log) ≡ flat_map (event_lines d (one new.log)) (below (event + 1)))
event-written d ps list i event written mid new Rule run within same keeps keeps' t position =
    let timely = timely-at d ps list i event mid run within same in (
      lines-next d mid.log new.log event t.told keeps keeps' timely t.grows ∙ ap (λ (k : ℕ). lines d (one mid.log) ++ event_piece d [] new.log k 0) (sym position),
      lines-before d mid.log new.log event t.told keeps keeps' timely t.grows,
    )

-- nothing was told
pub lines-none : (d : Description) (l : Log) → l.entries ≡ [] → lines d (one l) ≡ []
lines-none d l none = ap (λ (es : List Stamped). let x : Log = record { entries = es; images = l.images; stores = l.stores; spare = l.spare } in lines d (one x)) none
