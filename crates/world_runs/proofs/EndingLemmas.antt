-- A world's whole run, as its last lines are written.
use Rattle.std.proofs.Common.{◌≡◌, ℕ, suc, ◌<◌, ◌≤◌, List, [], ◌∷◌, ◌++◌, length, map, drop, get_or, Option, Some, None, Ok, Err, true, false, refl, sym, ◌∙◌, ap, subst, arith, append-nil, append_assoc, All}
use Rattle.std.specs.Prelude.{slice_get, IsSomeAnd, flat_map, unwrap_or}
use Rattle.std.specs.Global.{Vec}
use Rattle.std.proofs.lemmas.Option.{slice_get-get_or}
use Rattle.std.proofs.lemmas.List.{length-append}
use Rattle.std.proofs.lemmas.List.Elements.{All-nil, All-cons}
use Rattle.mate_num.specs.declared.call.Stamp.{Stamp}
use Rattle.mate_journal.specs.Log.{Log}
use Rattle.mate_journal.specs.Journal.{JournalEntry, Seen, journal_entry, journal_of, TimedEntry as Entered}
use Rattle.mate_journal.specs.NodeScript.{Whole, Cut, RunEnd}
use Rattle.mate_journal.specs.OpenLog.{Gone, nothing_gone}
use Rattle.mate_journal.specs.Ranges.{HasAiredRanges, HasReportRanges}
use Rattle.mate_journal.specs.declared.entry.Stamped.{Stamped}
use Rattle.mate_journal.specs.Tidy.{NumbersInOrder, below}
use Rattle.mate_files.specs.Sink.{Puts}
use Rattle.mate_files.specs.declared.sink.SinkFault.{SinkFault}
use Rattle.world_runs.specs.declared.record.Record.{Record}
use Rattle.report_writer.specs.Writing.{HasWritten, PutsLastLine, WritesReport, lines_before, last_line, write_fault_of}
use Rattle.report_writer.specs.declared.pass.Pass.{Pass}
use Rattle.report_writer.specs.declared.write_fault.WriteFault.{WriteFault}
use Rattle.report_writer.proofs.WritingLemmas.{written-nothing, written-more, stopped-within, ended-whole}
use Rattle.mate_journal.specs.declared.air.Aired.{Aired}
use Rattle.mate_journal.specs.declared.report.Report.{Report}
use Rattle.mate_journal.specs.declared.program.Program.{Program}
use Rattle.report_writer.specs.Text.{lines, event_lines, event_piece}
use Rattle.vm_shape.specs.declared.description.Description.{Description}
use Rattle.mate_num.proofs.ListLemmas.{all-at}
use Rattle.world_rules.specs.World.{World}
use Rattle.world_rules.specs.State.{Moment}
use Rattle.world_rules.specs.Run.{journal, airs, IsJournalOf}
use Rattle.world_rules.specs.Report.{IsWorldReport}
use Rattle.world_laws.specs.EventText.{so_far, TellJournals, ShowTheirStores, StartsWithIntervals, StoresAddTheirLines, store_lines}
use Rattle.world_state.specs.Reporting.{mote_logs, told_report, ShowStores}
use Rattle.script_steps.specs.declared.world.World.{World as Script}
use Rattle.world_run_laws.specs.Coming.{code_world}
use Rattle.world_state.specs.StandingAfter.{IsMoteAfter}
use Rattle.world_state.specs.declared.mote.Mote.{Mote}
use Rattle.world_state.specs.Running.{StandsAfter}
use Rattle.world_state.specs.Keeping.{IsWhole, HaveForgotten}
use Rattle.world_state.specs.Ranging.{AreInRange}
use Rattle.world_state.proofs.RangeLemmas.{shown-ranges, forgotten-ranges}
use Rattle.world_state.specs.Telling.{report_now, LogsAreKept}
use Rattle.world_runs.specs.Recording.{IsRecorded}
use Rattle.world_runs.specs.Writing.{HasWrittenNow, StandsAtEnd, WritesRecorded}
use Rattle.world_state.specs.declared.simulation.Simulation.{Simulation}
use Rattle.world_state.proofs.WorldLemmas.{some-at, of-machine, shown-machine, whole-log, whole-report}
use Rattle.world_state.proofs.MotesLemmas.{log-at, long-logs, first-mote, tell, keeps-all}
use Rattle.world_state.proofs.KeepingLemmas.{forgotten-motes, forgotten-kept}
use Rattle.world_runs.proofs.WritingLemmas.{cut-report}
use Rattle.world_runs.proofs.RecordingLemmas.{long-journal}

-- a whole journal ends with one entry of the next number
seen-last : (w : World) (ms : List Moment) (k : ℕ) (es : List Entered) → IsJournalOf w Whole ms k es → (e : Entered) × (es ≡ journal w k ms ++ e ∷ []) × (e.stamp.event ≡ suc (length ms))
seen-last w ms k es j =
    let stamp : Stamp = record { event = suc (length ms); time = w.until } in
    let entered : JournalEntry → Entered = λ t. record { stamp = stamp; told = t } in
    (entered (Seen j.ends.shown.seen), j.journal_is ∙ ap (λ (xs : List Entered). journal w k ms ++ xs) (j.ends.stamped ∙ ap (map entered) j.ends.shown.made), refl)

pub shows-stores : (w : World) (ms : List Moment) (olds news : List Log) → length news ≡ length olds → TellJournals w ms olds → All NumbersInOrder olds → All NumbersInOrder news
    → ((k : ℕ) (l : Log) → k < length news → IsJournalOf w Whole ms k (journal_of (get_or news k l))) → ShowTheirStores w ms olds news
shows-stores w ms olds news count tell old_numbered new_numbered journals = record {
  count = count;
  old = tell;
  shown = λ k l low. seen-last w ms k (journal_of (get_or news k l)) (journals k l (omega (arith, low, count)));
  old_numbered = old_numbered;
  new_numbered = new_numbered;
}

module _ (w : World) (d : Description) (law : StoresAddTheirLines w) (ms : List Moment) (s new : Simulation) (events : ℕ) (air : s.radio.air ≡ airs w ms) (same : new.radio.air ≡ s.radio.air) (number : events ≡ length ms)
    (shows : ShowTheirStores w ms (mote_logs s.motes.items) (mote_logs new.motes.items)) (whole : IsWorldReport w Whole (told_report new events true)) (ranges : HasReportRanges (told_report new events true)) where
  abbrev R : Report
  R = told_report new events true

  abbrev Stores : List ℕ
  Stores = store_lines d 0 (mote_logs new.motes.items)

  stored : lines d (report_now new) ≡ lines d (report_now s) ++ Stores
  stored =
      let P : List Aired → Type 0 = λ xs. lines d (so_far (mote_logs new.motes.items) xs) ≡ lines d (report_now s) ++ Stores in
      let Q : List Aired → Type 0 = λ xs. lines d (so_far (mote_logs new.motes.items) (airs w ms)) ≡ lines d (so_far (mote_logs s.motes.items) xs) ++ Stores in
      subst P (sym (same ∙ air)) (subst Q (sym air) (law ms (mote_logs s.motes.items) (mote_logs new.motes.items) shows d).0)

  front : lines d (report_now s) ≡ lines_before d R (suc events)
  front =
      let P : List Aired → Type 0 = λ xs. lines d (report_now s) ≡ flat_map (event_lines d (so_far (mote_logs new.motes.items) xs)) (below (suc events)) in
      let Q : List Aired → Type 0 = λ xs. lines d (so_far (mote_logs s.motes.items) xs) ≡ flat_map (event_lines d (so_far (mote_logs new.motes.items) (airs w ms))) (below (suc events)) in
      let N : ℕ → Type 0 = λ n. lines d (so_far (mote_logs s.motes.items) (airs w ms)) ≡ flat_map (event_lines d (so_far (mote_logs new.motes.items) (airs w ms))) (below (suc n)) in
      subst P (sym (same ∙ air)) (subst Q (sym air) (subst N (sym number) (law ms (mote_logs s.motes.items) (mote_logs new.motes.items) shows d).1))

  -- their lines were written, and the last line was put
  pub ends-whole : (pass : Pass) (kept : Option Record) → IsRecorded kept new → (out f mid fm out' f' out0 f0 : _) → HasWrittenNow d s out0 f0 out f → Puts {T = Unit {0}} out f mid fm (Ok tt) Stores → PutsLastLine R mid fm out' f' pass
      → WritesRecorded d (IsWorldReport w) out0 out' f0 f' pass kept
  ends-whole pass kept recorded out f mid fm out' f' out0 f0 written stores last = subst (λ (p : Pass). WritesRecorded d (IsWorldReport w) out0 out' f0 f' p kept) (sym last.is) (record {
    ended = new;
    gives = ended-whole d (IsWorldReport w) out0 mid out' f0 fm f' R Stores (written-more Stores (lines d (report_now new)) written stores stored) whole (stored ∙ ap (λ (bs : List ℕ). bs ++ Stores) front) last.put last.puts;
    recorded = recorded;
    ranges = ranges;
  })

  -- the sink failed in the stores' lines
  pub stores-fail : (kept : Option Record) → IsRecorded kept new → (fault : SinkFault) (answer : WriteFault) (out f out' f' out0 f0 : _) → HasWrittenNow d s out0 f0 out f → Puts {T = Unit {0}} out f out' f' (Err fault) Stores → answer ≡ write_fault_of fault
      → WritesRecorded d (IsWorldReport w) out0 out' f0 f' (record { events = events; whole = true; result = Err answer }) kept
  stores-fail kept recorded fault answer out f out' f' out0 f0 written puts is = record {
    ended = new;
    gives = stopped-within d (IsWorldReport w) out0 out out' f0 f f' Whole R whole (lines d (report_now s)) [] written (front ∙ sym (append-nil (lines_before d R (suc events)))) fault answer Stores (last_line R)
        (sym (append_assoc (lines d (report_now s)) Stores (last_line R)) ∙ ap (λ (bs : List ℕ). bs ++ last_line R) (sym stored)) puts is;
    recorded = recorded;
    ranges = ranges;
  }

-- ---- the start

map-nil : {X Y : Type 0} (f : X → Y) (xs : List X) → map f xs ≡ [] → xs ≡ []
map-nil f [] e = refl
map-nil f (x ∷ xs) e = absurd (some-none e) where
  some-none : f x ∷ map f xs ≡ [] → ⊥
  some-none e = cc

first-found : (motes : List Mote) (m : Mote) → slice_get motes 0 ≡ Some m → (0 < length motes) × (get_or motes 0 m ≡ m)
first-found [] m found = absurd (none-some found) where
  none-some : None ≡ Some m → ⊥
  none-some e = cc
first-found (x ∷ motes) m found = (omega arith, ap (λ (o : Option Mote). unwrap_or o m) found)

start-of : (w : World) (law : StartsWithIntervals w) (d : Description) (s : Simulation) (ms : List Moment) → length ms ≡ 0 → s.radio.air ≡ airs w ms → length s.motes.items ≡ w.nodes
    → ((k : ℕ) → k < w.nodes → IsSomeAnd (slice_get s.motes.items k) (IsMoteAfter w ms k)) → (m : Mote) → slice_get s.motes.items 0 ≡ Some m → lines d (report_now s) ≡ event_piece d s.radio.air m.node.log 0 0
start-of w law d s (x ∷ ms) none air count each m found = absurd (omega (arith, none))
start-of w law d s [] none air count each m found =
    let first = first-found s.motes.items m found in
    let long = long-logs s.motes.items in
    let low = first.0 in
    let logs : List Log = mote_logs s.motes.items in
    let empty : All (λ (l : Log). l.entries ≡ []) logs = λ k l below. map-nil (λ (e : _). record { stamp = e.stamp; told = journal_entry (get_or logs k l) e.entry }) (get_or logs k l).entries (tell w [] s.motes.items w.nodes count each k l below) in
    let P : List Aired → Type 0 = λ xs. lines d (so_far logs xs) ≡ event_piece d xs m.node.log 0 0 in
    subst P (sym air) (law d logs m.node.log empty (omega (arith, low, long)) (log-at s.motes.items 0 m.node.log m low ∙ ap (λ (x : Mote). x.node.log) first.1))

module _ (d : Description) (script : Script) (ps : List Program) (law : StartsWithIntervals (code_world d script ps)) (s : Simulation) (b : StandsAfter (code_world d script ps) 0 s) (m : Mote) (found : slice_get s.motes.items 0 ≡ Some m) where
  start-lines : lines d (report_now s) ≡ event_piece d s.radio.air m.node.log 0 0
  start-lines = start-of (code_world d script ps) law d s b.moments b.count b.radio.air b.nodes b.motes m found

  -- what is at hand before any event is all that was told
  pub at-start : IsWhole s → event_piece d (drop s.radio.gone s.radio.air) m.node.log m.node.gone.entries 0 ≡ lines d (report_now s)
  at-start whole =
      let gone : m.node.gone ≡ nothing_gone = all-at (λ (y : Mote). y.node.gone ≡ nothing_gone) s.motes.items 0 m whole.nodes found in
      ap (λ (n : ℕ). event_piece d (drop n s.radio.air) m.node.log m.node.gone.entries 0) whole.air
      ∙ ap (λ (g : Gone). event_piece d s.radio.air m.node.log g.entries 0) gone
      ∙ sym start-lines

  pub start-goes : (out f out' f' : _) → IsWhole s → Puts {T = Unit {0}} out f out' f' (Ok tt) (event_piece d (drop s.radio.gone s.radio.air) m.node.log m.node.gone.entries 0) → HasWrittenNow d s out f out' f'
  start-goes out f out' f' whole puts = written-more (event_piece d (drop s.radio.gone s.radio.air) m.node.log m.node.gone.entries 0) (lines d (report_now s)) written-nothing puts (sym (at-start whole))

  pub start-fails : (kept : LogsAreKept s.motes.items) (fault : SinkFault) (answer : WriteFault) (out f out' f' : _) → IsWhole s
      → Puts {T = Unit {0}} out f out' f' (Err fault) (event_piece d (drop s.radio.gone s.radio.air) m.node.log m.node.gone.entries 0) → answer ≡ write_fault_of fault
      → WritesReport d (IsWorldReport (code_world d script ps)) out out' f f' (Err answer) (told_report s 0 false)
  start-fails kept fault answer out f out' f' whole puts is =
      let r : Report = told_report s 0 false in
      let piece : List ℕ = event_piece d (drop s.radio.gone s.radio.air) m.node.log m.node.gone.entries 0 in
      stopped-within d (IsWorldReport (code_world d script ps)) out out out' f f f' Cut r (cut-report d script ps b.moments 0 s b.come b.radio.air b.nodes b.motes (sym b.count) kept) [] [] written-nothing refl fault answer
      piece [] (append-nil piece ∙ at-start whole) puts is

-- ---- the radio waits for less

pub written-air : (d : Description) (s new : Simulation) → new.radio.air ≡ s.radio.air → new.motes ≡ s.motes → (out0 f0 out f : _) → HasWrittenNow d s out0 f0 out f → HasWrittenNow d new out0 f0 out f
written-air d s new air motes out0 f0 out f written =
    let P : List Aired → Type 0 = λ xs. HasWritten out0 f0 out f (lines d (so_far (mote_logs new.motes.items) xs)) in
    let Q : Vec Mote → Type 0 = λ v. HasWritten out0 f0 out f (lines d (so_far (mote_logs v.items) s.radio.air)) in
    subst P (sym air) (subst Q (sym motes) written)

-- ---- the nodes forget what they told

-- no more of it is gone than was told
abbrev pub AreAtHand : List Mote → Type 0
AreAtHand motes = All (λ (m : Mote). m.node.gone.entries ≤ length m.node.log.entries) motes

pub forgotten-hand : (olds news : List Mote) → HaveForgotten (length olds) olds news → AreAtHand news
forgotten-hand olds news f k x below =
    let more = f.count in
    let low : k < length olds = omega (arith, below, more) in
    let one = f.each k (get_or olds k x) (get_or news k x) low (slice_get-get_or olds k x low) (slice_get-get_or news k x below) in
    let gone = ap (λ (g : Gone). g.entries) one.gone in
    let same = ap (λ (es : List Stamped). length es) one.log.entries in
    omega (arith, gone, same)

pub end-still : (w : World) (how : RunEnd) (events : ℕ) (s new : Simulation) → HaveForgotten (length s.motes.items) s.motes.items new.motes.items → new.radio.air ≡ s.radio.air → StandsAtEnd w how events s → StandsAtEnd w how events new
end-still w how events s new f air b = record {
  moments = b.moments;
  come = b.come;
  count = b.count;
  ends = b.ends;
  air = air ∙ b.air;
  nodes = f.count ∙ b.nodes;
  each = forgotten-motes w b.moments s.motes.items new.motes.items w.nodes b.nodes f b.each;
  kept = forgotten-kept s.motes.items new.motes.items f b.kept;
}

-- what is told to the end is in range
pub ended-ranges : (at : Stamp) (s mid new : Simulation) → HaveForgotten (length s.motes.items) s.motes.items mid.motes.items → ShowStores at (length mid.motes.items) mid.motes.items new.motes.items → new.radio.air ≡ s.radio.air
    → new.radio.gone ≡ s.radio.gone → AreInRange s → AreInRange new
ended-ranges at s mid new f shows air gone has =
    let within = has.gone in
    let long = ap (λ (xs : List Aired). length xs) air in
    record {
      motes = shown-ranges at mid.motes.items new.motes.items shows (forgotten-ranges s.motes.items mid.motes.items f has.motes);
      air = subst (λ (xs : List Aired). All HasAiredRanges xs) (sym air) has.air;
      gone = omega (arith, within, long, gone);
    }

-- ---- what is shown at the end

-- each node has told something then
-- each node told something behind what is gone
pub some-told : (w : World) (ms : List Moment) (at : Stamp) (olds news : List Mote) (nodes : ℕ) → length olds ≡ nodes → ((k : ℕ) → k < nodes → IsSomeAnd (slice_get olds k) (IsMoteAfter w ms k)) → AreAtHand olds → ShowStores at (length olds) olds news
    → ((k : ℕ) (l : Log) → k < length (mote_logs news) → IsJournalOf w Whole ms k (journal_of (get_or (mote_logs news) k l))) → All (λ (m : Mote). m.node.gone.entries < length m.node.log.entries) news
some-told w ms at olds news nodes count each hand shows journals k m low =
    let long = long-logs news in
    let same_long = shows.count in
    let old_low : k < length olds = omega (arith, low, same_long) in
    let x = first-mote olds k old_low in
    let l = (get_or news k m).node.log in
    let last = seen-last w ms k (journal_of (get_or (mote_logs news) k l)) (journals k l (omega (arith, low, long))) in
    let more : length (journal_of (get_or (mote_logs news) k l)) ≡ length (journal w k ms ++ last.0 ∷ []) = ap length last.1 in
    let sum = length-append (journal w k ms) (last.0 ∷ []) in
    let one : length (last.0 ∷ []) ≡ 1 = refl in
    let told = long-journal (get_or (mote_logs news) k l) in
    let same : length (get_or (mote_logs news) k l).entries ≡ length l.entries = ap (λ (y : Log). length y.entries) (log-at news k l m low) in
    let before = ap length (some-at (IsMoteAfter w ms k) olds k x old_low (each k (omega (arith, old_low, count)))).journal in
    let old_told = long-journal (get_or olds k x).node.log in
    let within = hand k x old_low in
    let gone : (get_or news k m).node.gone.entries ≡ (get_or olds k x).node.gone.entries
    = ap (λ (g : Gone). g.entries) (shows.each k (get_or olds k x) (get_or news k m) old_low (slice_get-get_or olds k x old_low) (slice_get-get_or news k m low)).tells.gone in
    omega (arith, more, sum, one, told, same, before, old_told, within, gone)

pub all-numbered : (motes : List Mote) → LogsAreKept motes → All NumbersInOrder (mote_logs motes)
all-numbered [] kept = All-nil NumbersInOrder
all-numbered (m ∷ motes) kept = All-cons NumbersInOrder m.node.log (mote_logs motes) (kept 0 m (omega arith)).tidy.numbered (all-numbered motes (λ i x low. kept (suc i) x (omega (arith, low))))

-- each node's journal at the end
ended-journals : (d : Description) (script : Script) (ps : List Program) (ms : List Moment) (at : Stamp) (olds news : List Mote) → at ≡ record { event = suc (length ms); time = script.until } → length olds ≡ script.nodes
    → ((k : ℕ) → k < script.nodes → IsSomeAnd (slice_get olds k) (IsMoteAfter (code_world d script ps) ms k)) → ShowStores at (length olds) olds news
    → (k : ℕ) (l : Log) → k < length (mote_logs news) → IsJournalOf (code_world d script ps) Whole ms k (journal_of (get_or (mote_logs news) k l))
ended-journals d script ps ms at olds news stamp nodes each shows k l below =
    let w = code_world d script ps in
    let long = long-logs news in
    let count = shows.count in
    let low : k < length news = omega (arith, below, long) in
    let old_low : k < length olds = omega (arith, low, count) in
    let x = first-mote olds k old_low in
    let y = first-mote news k low in
    let before = some-at (IsMoteAfter w ms k) olds k x old_low (each k (omega (arith, old_low, nodes))) in
    let one = shows.each k (get_or olds k x) (get_or news k y) old_low (slice_get-get_or olds k x old_low) (slice_get-get_or news k y low) in
    subst (λ (z : Log). IsJournalOf w Whole ms k (journal_of z)) (sym (log-at news k l y low)) (whole-log d script ps ms at k (get_or olds k x) (get_or news k y) stamp before one)

-- the report of a whole run, and how its stores were shown
pub record EndsWhole (d : Description) (script : Script) (ps : List Program) (ms : List Moment) (s new : Simulation) (events : ℕ) : Type 0 where
  pub whole : IsWorldReport (code_world d script ps) Whole (told_report new events true)
  pub shows : ShowTheirStores (code_world d script ps) ms (mote_logs s.motes.items) (mote_logs new.motes.items)
  pub some : All (λ (m : Mote). m.node.gone.entries < length m.node.log.entries) new.motes.items

pub ends-whole-of : (d : Description) (script : Script) (ps : List Program) (events : ℕ) (at : Stamp) (s new : Simulation) (b : StandsAtEnd (code_world d script ps) Whole events s)
    → at ≡ record { event = suc (length b.moments); time = script.until } → ShowStores at (length s.motes.items) s.motes.items new.motes.items → new.radio.air ≡ s.radio.air → LogsAreKept new.motes.items → AreAtHand s.motes.items
    → EndsWhole d script ps b.moments s new events
ends-whole-of d script ps events at s new b stamp shows air kept hand =
    let w = code_world d script ps in
    let is = of-machine d script ps b.moments s.motes.items b.nodes b.each in
    let new_is = shown-machine d at s.motes.items new.motes.items shows is in
    let keeps = keeps-all d new.motes.items kept new_is in
    let long = long-logs s.motes.items in
    let new_long = long-logs new.motes.items in
    record {
      whole = whole-report d script ps b.moments events at s.motes.items new (told_report new events true) b.come b.ends (air ∙ b.air) b.nodes b.each (sym b.count) stamp shows keeps refl;
      shows = shows-stores w b.moments (mote_logs s.motes.items) (mote_logs new.motes.items) (new_long ∙ shows.count ∙ sym long) (tell w b.moments s.motes.items script.nodes b.nodes b.each) (all-numbered s.motes.items b.kept)
          (all-numbered new.motes.items kept) (ended-journals d script ps b.moments at s.motes.items new.motes.items stamp b.nodes b.each shows);
      some = some-told w b.moments at s.motes.items new.motes.items script.nodes b.nodes b.each hand shows (ended-journals d script ps b.moments at s.motes.items new.motes.items stamp b.nodes b.each shows);
    }
