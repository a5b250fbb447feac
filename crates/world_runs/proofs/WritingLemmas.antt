-- A world's report, as it is written event by event.
use Rattle.std.proofs.Common.{◌≡◌, ℕ, zero, suc, ◌+◌, ◌-◌, ◌<◌, ◌≤◌, ◌^◌, List, [], ◌∷◌, ◌++◌, length, take, drop, get_or, Option, Some, Ok, Err, false, refl, sym, ◌∙◌, ap, subst, arith, append-nil, Bool}
use Rattle.std.specs.Prelude.{slice_get, IsSomeAnd, flat_map}
use Rattle.std.specs.Global.{Vec}
use Rattle.std.proofs.lemmas.Option.{slice_get-get_or}
use Rattle.std.proofs.lemmas.List.{take-append-drop}
use Rattle.mate_journal.specs.Log.{Log}
use Rattle.mate_journal.specs.NodeScript.{RunEnd, Full, Cut}
use Rattle.mate_journal.specs.Tidy.{below}
use Rattle.mate_files.specs.Sink.{Puts}
use Rattle.mate_files.specs.declared.sink.SinkFault.{SinkFault}
use Rattle.world_runs.specs.declared.record.Record.{Record}
use Rattle.report_writer.specs.Writing.{OfRun, PutsLastLine, lines_before, write_fault_of}
use Rattle.report_writer.specs.declared.pass.Pass.{Pass}
use Rattle.report_writer.specs.declared.write_fault.WriteFault.{WriteFault}
use Rattle.report_writer.specs.declared.write_fault.WriteFault.TheVariants.{NoMemory}
use Rattle.report_writer.proofs.WritingLemmas.{written-more, stopped-within, cut-short, ended-full}
use Rattle.world_laws.proofs.EventLemmas.{all_stand, store_lines-next, store_lines-both}
use Rattle.mate_journal.specs.declared.air.Aired.{Aired}
use Rattle.mate_journal.specs.declared.program.Program.{Program}
use Rattle.mate_journal.specs.declared.report.Report.{Report}
use Rattle.node_state.specs.Meaning.{machine_in}
use Rattle.node_open.specs.Journal.{KeepsJournal}
use Rattle.report_writer.specs.Text.{lines, event_lines, event_piece}
use Rattle.vm_shape.specs.declared.description.Description.{Description}
use Rattle.world_rules.specs.World.{World}
use Rattle.world_rules.specs.State.{Moment, state}
use Rattle.world_rules.specs.Run.{HaveCome, IsAtEnd, airs, journal}
use Rattle.world_rules.specs.Report.{IsLogOf, IsWorldReport}
use Rattle.script_steps.specs.declared.world.World.{World as Script}
use Rattle.world_run_laws.specs.Coming.{code_world}
use Rattle.world_state.specs.StandingAfter.{IsMoteAfter}
use Rattle.world_state.specs.declared.mote.Mote.{Mote}
use Rattle.world_laws.specs.EventText.{so_far, TellJournals, store_lines}
use Rattle.world_state.specs.Reporting.{mote_logs, told_report}
use Rattle.world_state.specs.Ranging.{AreInRange}
use Rattle.world_state.specs.Running.{StandsAfter}
use Rattle.world_state.specs.Telling.{report_now, LogsAreKept, AddsEvent}
use Rattle.world_state.proofs.RangeLemmas.{report-ranges}
use Rattle.world_state.proofs.MotesLemmas.{log-at, long-logs, first-mote, tell, keeps-all}
use Rattle.world_runs.specs.Recording.{IsRecorded}
use Rattle.world_runs.specs.Writing.{HasWrittenNow, StandsAtEnd, WritesRecorded}
use Rattle.world_state.specs.declared.simulation.Simulation.{Simulation}
use Rattle.world_state.proofs.WorldLemmas.{some-at, of-machine, full-report}

-- ---- the report of what stands

module _ (d : Description) (script : Script) (ps : List Program) (ms : List Moment) (events : ℕ) (s : Simulation) (come : HaveCome (code_world d script ps) ms) (air : s.radio.air ≡ airs (code_world d script ps) ms)
    (count : length s.motes.items ≡ script.nodes) (each : (k : ℕ) → k < script.nodes → IsSomeAnd (slice_get s.motes.items k) (IsMoteAfter (code_world d script ps) ms k)) (number : events ≡ length ms)
    (kept : LogsAreKept s.motes.items) where
  cut-log : (k : ℕ) → k < script.nodes → IsSomeAnd (slice_get (mote_logs s.motes.items) k) (IsLogOf (code_world d script ps) Cut ms k)
  cut-log k below =
      let w = code_world d script ps in
      let low : k < length s.motes.items = omega (arith, below, count) in
      let m = first-mote s.motes.items k low in
      let l = (get_or s.motes.items k m).node.log in
      let long = long-logs s.motes.items in
      let at : slice_get (mote_logs s.motes.items) k ≡ Some l = slice_get-get_or (mote_logs s.motes.items) k l (omega (arith, low, long)) ∙ ap (λ (y : Log). Some y) (log-at s.motes.items k l m low) in
      let is = some-at (IsMoteAfter w ms k) s.motes.items k m low (each k below) in
      let keeps = subst (λ (e : Description). KeepsJournal e (machine_in e) l) is.is.description (kept k m low) in
      subst (λ (o : Option Log). IsSomeAnd o (IsLogOf w Cut ms k)) (sym at) (record {
        journal = record { last = []; ends = refl; journal_is = is.journal ∙ sym (append-nil (journal w k ms)) };
        right = record { well_formed = keeps.well_formed; serial = keeps.serial; stores = keeps.stores; grants = keeps.grants; devices = keeps.devices };
        tidy = keeps.tidy;
        images = keeps.full;
      })

  pub cut-report : IsWorldReport (code_world d script ps) Cut (told_report s events false)
  cut-report = record {
    moments = ms;
    come = come;
    at_end = tt;
    air = air;
    nodes = long-logs s.motes.items ∙ count;
    logs = cut-log;
    whole = refl;
    events = number;
  }

  pub full-report-now : IsAtEnd (code_world d script ps) Full (state (code_world d script ps) ms) → IsWorldReport (code_world d script ps) Full (told_report s events false)
  full-report-now ends =
      full-report d script ps ms events s (told_report s events false) come ends air count each number
      (keeps-all d s.motes.items kept (of-machine d script ps ms s.motes.items count each)) refl

-- ---- where a run stands

-- the same world, whose radio waits for less
pub at-end : (w : World) (how : RunEnd) (events : ℕ) (s new : Simulation) (b : StandsAfter w events s) → IsAtEnd w how (state w b.moments) → LogsAreKept s.motes.items → new.radio.air ≡ s.radio.air → new.motes ≡ s.motes → StandsAtEnd w how events new
at-end w how events s new b ends kept air motes = record {
  moments = b.moments;
  come = b.come;
  count = b.count;
  ends = ends;
  air = air ∙ b.radio.air;
  nodes = ap (λ (v : Vec Mote). length v.items) motes ∙ b.nodes;
  each = λ k below. subst (λ (v : Vec Mote). IsSomeAnd (slice_get v.items k) (IsMoteAfter w b.moments k)) (sym motes) (b.motes k below);
  kept = subst (λ (v : Vec Mote). LogsAreKept v.items) (sym motes) kept;
}

-- ---- what was written, where a run ends

-- all lines are those of the events up to the last one
covered : (w : World) (d : Description) (ms : List Moment) (s : Simulation) (events : ℕ) (whole : Bool) → TellJournals w ms (mote_logs s.motes.items) → s.radio.air ≡ airs w ms → events ≡ length ms
    → lines d (report_now s) ≡ lines_before d (told_report s events whole) events ++ event_lines d (report_now s) events
covered w d ms s events whole told air number =
    let logs = mote_logs s.motes.items in
    let P : List Aired → Type 0 = λ xs. lines d (so_far logs xs) ≡ flat_map (event_lines d (so_far logs xs)) (below events) ++ event_lines d (so_far logs xs) events in
    subst P (sym air) (subst (λ (n : ℕ). lines d (so_far logs (airs w ms)) ≡ flat_map (event_lines d (so_far logs (airs w ms))) (below n) ++ event_lines d (so_far logs (airs w ms)) n) (sym number) (all_stand w ms logs told d))

module _ (d : Description) (script : Script) (ps : List Program) where
  abbrev W : World
  W = code_world d script ps

  abbrev Is : OfRun
  Is = IsWorldReport (code_world d script ps)

  -- memory was refused: the report is of what stood before
  pub memory-ends : (ms : List Moment) (s : Simulation) (events : ℕ) → HaveCome W ms → s.radio.air ≡ airs W ms → (count : length s.motes.items ≡ script.nodes)
      → (each : (k : ℕ) → k < script.nodes → IsSomeAnd (slice_get s.motes.items k) (IsMoteAfter W ms k)) → events ≡ length ms → LogsAreKept s.motes.items → AreInRange s → events < 2 ^ 64 → (kept : Option Record) → IsRecorded kept s
      → (out f out0 f0 : _) → HasWrittenNow d s out0 f0 out f → WritesRecorded d Is out0 out f0 f (record { events = events; whole = false; result = Err NoMemory }) kept
  memory-ends ms s events come air count each number logs has few kept recorded out f out0 f0 written = record {
    ended = s;
    gives = cut-short d Is out0 out f0 f Cut (told_report s events false) (cut-report d script ps ms events s come air count each number logs) (lines d (report_now s)) []
        (event_lines d (report_now s) events) written (append-nil (lines d (report_now s))) (covered W d ms s events false (tell W ms s.motes.items script.nodes count each) air number);
    recorded = recorded;
    ranges = report-ranges s events false has few;
  }

  -- the log is full, and the last line was put
  pub full-ends : (s : Simulation) (events : ℕ) (b : StandsAtEnd W Full events s) → AreInRange s → events < 2 ^ 64 → (pass : Pass) (kept : Option Record) → IsRecorded kept s → (out f out' f' out0 f0 : _) → HasWrittenNow d s out0 f0 out f
      → PutsLastLine (told_report s events false) out f out' f' pass → WritesRecorded d Is out0 out' f0 f' pass kept
  full-ends s events b has few pass kept recorded out f out' f' out0 f0 written last =
      let r : Report = told_report s events false in
      subst (λ (p : Pass). WritesRecorded d Is out0 out' f0 f' p kept) (sym last.is) (record {
        ended = s;
        gives = ended-full d Is out0 out out' f0 f f' r (event_lines d (report_now s) events) written (full-report-now d script ps b.moments events s b.come b.air b.nodes b.each (sym b.count) b.kept b.ends)
            (covered W d b.moments s events false (tell W b.moments s.motes.items script.nodes b.nodes b.each) b.air (sym b.count)) last.put last.puts;
        recorded = recorded;
        ranges = report-ranges s events false has few;
      })

  -- an event's lines were written
  pub step-goes : (number node : ℕ) (s new : Simulation) (adds : AddsEvent number s new node) → (out f out' f' out0 f0 : _) → HasWrittenNow d s out0 f0 out f
      → Puts {T = Unit {0}} out f out' f' (Ok tt) (event_piece d (drop (length s.radio.air) new.radio.air) adds.after.node.log (length adds.before.node.log.entries) node) → HasWrittenNow d new out0 f0 out' f'
  step-goes number node s new adds out f out' f' out0 f0 written puts =
      written-more (event_piece d (drop (length s.radio.air) new.radio.air) adds.after.node.log (length adds.before.node.log.entries) node) (lines d (report_now new)) written puts (adds.adds.lines_are d)

  pub step-fails : (number node : ℕ) (s new : Simulation) (adds : AddsEvent number s new node) (b : StandsAfter W number new) → LogsAreKept new.motes.items → AreInRange new → number < 2 ^ 64 → (kept : Option Record) → IsRecorded kept new → (fault : SinkFault) (answer : WriteFault) → (out f out' f' out0 f0 : _)
      → HasWrittenNow d s out0 f0 out f → Puts {T = Unit {0}} out f out' f' (Err fault) (event_piece d (drop (length s.radio.air) new.radio.air) adds.after.node.log (length adds.before.node.log.entries) node) → answer ≡ write_fault_of fault
      → WritesRecorded d Is out0 out' f0 f' (record { events = number; whole = false; result = Err answer }) kept
  step-fails number node s new adds b logs has few kept recorded fault answer out f out' f' out0 f0 written puts is =
      let r : Report = told_report new number false in
      let piece : List ℕ = event_piece d (drop (length s.radio.air) new.radio.air) adds.after.node.log (length adds.before.node.log.entries) node in
      record {
        ended = new;
        gives = stopped-within d Is out0 out out' f0 f f' Cut r (cut-report d script ps b.moments number new b.come b.radio.air b.nodes b.motes (sym b.count) logs) (lines d (report_now s)) [] written
            (adds.adds.before d ∙ sym (append-nil (lines_before d r number))) fault answer piece []
            (ap (λ (bs : List ℕ). lines d (report_now s) ++ bs) (append-nil piece) ∙ sym (adds.adds.lines_are d)) puts is;
        recorded = recorded;
        ranges = report-ranges new number false has few;
      }

-- ---- the last entries

take-logs : (n : ℕ) (motes : List Mote) → mote_logs (take n motes) ≡ take n (mote_logs motes)
take-logs zero motes = refl
take-logs (suc n) [] = refl
take-logs (suc n) (m ∷ motes) = ap (λ (ls : List Log). m.node.log ∷ ls) (take-logs n motes)

-- the next node's line behind those of the nodes before it
pub next-line : (d : Description) (motes : List Mote) (k : ℕ) (m : Mote) → k < length motes → m ≡ get_or motes k m
    → store_lines d 0 (mote_logs (take (k + 1) motes)) ≡ store_lines d 0 (mote_logs (take k motes)) ++ event_piece d [] m.node.log (length m.node.log.entries - 1) k
next-line d motes k m low is =
    let long = long-logs motes in
    let next : k + 1 ≡ suc k = omega arith in
    ap (λ (n : ℕ). store_lines d 0 (mote_logs (take n motes))) next
    ∙ ap (store_lines d 0) (take-logs (suc k) motes)
    ∙ store_lines-next d (mote_logs motes) k m.node.log (omega (arith, low, long)) (log-at motes k m.node.log m low ∙ ap (λ (x : Mote). x.node.log) (sym is))
    ∙ ap (λ (ls : List Log). store_lines d 0 ls ++ event_piece d [] m.node.log (length m.node.log.entries - 1) k) (sym (take-logs k motes))

-- the lines of all nodes, from those of the first of them on
pub rest-lines : (d : Description) (motes : List Mote) (k : ℕ) (m : Mote) → k < length motes → m ≡ get_or motes k m
    → store_lines d 0 (mote_logs motes) ≡ (store_lines d 0 (mote_logs (take k motes)) ++ event_piece d [] m.node.log (length m.node.log.entries - 1) k) ++ store_lines d (suc k) (drop (suc k) (mote_logs motes))
rest-lines d motes k m low is =
    let long = long-logs motes in
    let logs : List Log = mote_logs motes in
    let short : length (take (suc k) logs) ≡ suc k = length-taken (suc k) logs (omega (arith, low, long)) in
    let from : 0 + length (take (suc k) logs) ≡ suc k = omega (arith, short) in
    let next : k + 1 ≡ suc k = omega arith in
    ap (store_lines d 0) (sym (take-append-drop (suc k) logs))
    ∙ store_lines-both d 0 (take (suc k) logs) (drop (suc k) logs)
    ∙ ap (λ (n : ℕ). store_lines d 0 (take (suc k) logs) ++ store_lines d n (drop (suc k) logs)) from
    ∙ ap (λ (bs : List ℕ). bs ++ store_lines d (suc k) (drop (suc k) logs))
    (ap (store_lines d 0) (sym (take-logs (suc k) motes)) ∙ ap (λ (n : ℕ). store_lines d 0 (mote_logs (take n motes))) (sym next) ∙ next-line d motes k m low is) where
      length-taken : (n : ℕ) (ls : List Log) → n ≤ length ls → length (take n ls) ≡ n
      length-taken zero ls within = refl
      length-taken (suc n) [] within = absurd (omega (arith, within))
      length-taken (suc n) (l ∷ ls) within = let rest = length-taken n ls (omega (arith, within)) in omega (arith, rest)
