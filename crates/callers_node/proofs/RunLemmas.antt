-- A step of a run, and the run's end.
use Rattle.std.proofs.Common.{◌≡◌, ◌<◌, ◌≤◌, ℕ, suc, ◌+◌, true, false, List, [], ◌∷◌, ◌++◌, map, length, Option, Result, Ok, Err, refl, sym, ap, ◌∙◌, subst, append_assoc, append-nil, length-append, arith, inl, inr}
use Rattle.std.specs.Prelude.{IfOk, IfErr, IsSomeAnd, slice_get}
use Rattle.std.proofs.lemmas.List.{length-map}
use Rattle.mate_files.specs.Sink.{Sent, SentPart}
use Rattle.vm_shape.specs.declared.description.Description.{Description}
use Rattle.script_steps.specs.Steps.{NodeScript}
use Rattle.mate_journal.specs.Described.{machine_of}
use Rattle.mate_journal.specs.Journal.{JournalEntry, TimedEntry, NodeState, Seen, journal_entry, journal_of, first_state, next_state, state_after_all, state_after_entries}
use Rattle.mate_journal.specs.Log.{Log}
use Rattle.mate_journal.specs.Machine.{Machine}
use Rattle.mate_journal.specs.declared.entry.Stamped.{Stamped}
use Rattle.mate_journal.specs.NodeScript.{Step, RunEnd, Whole, Full, Cut, HaveMade, EndsRun, made_at}
use Rattle.mate_journal.specs.Pace.{Pace, no_pace}
use Rattle.mate_journal.specs.declared.program.Program.{Program}
use Rattle.mate_journal.specs.declared.report.Report.{Report}
use Rattle.mate_journal.specs.declared.report.IntoFault.{IntoFault}
use Rattle.mate_journal.specs.declared.report.IntoFault.TheVariants as into
use Rattle.mate_journal.specs.declared.report.RunFault.{RunFault}
use Rattle.mate_journal.proofs.JournalLemmas.{heard_all-append}
use Rattle.node_programs.specs.ScriptSteps.{steps_of}
use Rattle.node_programs.specs.Sources.{meaning_by}
use Rattle.report_writer.specs.Text.{lines, text}
use Rattle.node_runs.specs.Running.{RunGives, IsReportOf}
use Rattle.report_writer.specs.Writing.{RunsInto, IsWrittenPart, written_text}
use Rattle.callers_node.specs.Runs.{IsStepIn, MakesThere, IsSeenLast}

-- how a run ends
abbrev Ending : Type 1
Ending = ℕ → ℕ → NodeState → Pace → List TimedEntry → Type 0

heard-made : (m : Machine) (r : NodeState) (n : ℕ) (told : List JournalEntry) → state_after_all m r (map (made_at n) told) ≡ state_after_entries m r told
heard-made m r n [] = refl
heard-made m r n (t ∷ told) = heard-made m (next_state m r t) n told

-- ---- the end

-- what follows the steps, and how
record Ended (Ends : Ending) (records n : ℕ) (done : List Step) (es : List TimedEntry) : Type 0 where
  front : List TimedEntry
  last : List TimedEntry
  are : es ≡ front ++ last
  before : ℕ
  count : before ≡ records + length front
  event : ℕ
  number : event ≡ n + length done
  state : NodeState
  pace : Pace
  ends : Ends before event state pace last

ended : (Ends : Ending) (m : Machine) (records n : ℕ) (r : NodeState) (p : Pace) (done : List Step) (es : List TimedEntry) → HaveMade Ends m records n r p done es → Ended Ends records n done es
ended Ends m records n r p [] es made =
    record { front = []; last = es; are = refl; before = records; count = omega arith; event = n; number = omega arith; state = r; pace = p; ends = made }
ended Ends m records n r p (step ∷ done) es made =
    let further = ended Ends m (records + length made.1) (suc n) (state_after_entries m r made.1) made.3 done made.2 made.6 in
    let mine = map (made_at n) made.1 in
    let long = length-append mine further.front in
    let size : length mine ≡ length made.1 = length-map made.1 (made_at n) in
    let count = further.count in
    let number = further.number in
    record {
      front = mine ++ further.front;
      last = further.last;
      are = made.4 ∙ ap (λ (rest : List TimedEntry). mine ++ rest) further.are ∙ sym (append_assoc mine further.front further.last);
      before = further.before;
      count = omega (arith, long, size, count);
      event = further.event;
      number = omega (arith, number);
      state = further.state;
      pace = further.pace;
      ends = further.ends;
    }

-- ---- a step among others

stands : (Ends : Ending) (m : Machine) (records n : ℕ) (r : NodeState) (p : Pace) (before after : List Step) (step : Step) (es : List TimedEntry) → HaveMade Ends m records n r p (before ++ step ∷ after) es
    → IsStepIn m records n r before step es
stands Ends m records n r p [] after step es made =
    let few : records < 1000000 = made.0 in
    let same : n ≡ n + 0 = omega arith in
    record {
      front = [];
      told = made.1;
      rest = made.2;
      are = made.4 ∙ ap (λ (k : ℕ). map (made_at k) made.1 ++ made.2) same;
      room = omega (arith, few);
      state = r;
      state_is = refl;
      pace = p;
      then = made.3;
      makes = made.5;
    }
stands Ends m records n r p (first ∷ before) after step es made =
    let further = stands Ends m (records + length made.1) (suc n) (state_after_entries m r made.1) made.3 before after step made.2 made.6 in
    let mine = map (made_at n) made.1 in
    let long = length-append mine further.front in
    let count : length mine ≡ length made.1 = length-map made.1 (made_at n) in
    let few = further.room in
    let same : suc n + length before ≡ n + suc (length before) = omega arith in
    record {
      front = mine ++ further.front;
      told = further.told;
      rest = further.rest;
      are =
          made.4 ∙ ap (λ (rest : List TimedEntry). mine ++ rest) further.are
          ∙ ap (λ (k : ℕ). mine ++ (further.front ++ (map (made_at k) further.told ++ further.rest))) same
          ∙ sym (append_assoc mine further.front (map (made_at (n + suc (length before))) further.told ++ further.rest));
      room = omega (arith, long, count, few);
      state = further.state;
      state_is =
          further.state_is ∙ ap (λ (s : NodeState). state_after_all m s further.front) (sym (heard-made m r n made.1))
          ∙ sym (heard_all-append m r mine further.front);
      pace = further.pace;
      then = further.then;
      makes = further.makes;
    }

there : (d : Description) (script : NodeScript) (ps : List Program) (r : Report) (before after : List Step) (step : Step) → IsReportOf d script ps Whole r → steps_of script ps ≡ before ++ step ∷ after
    → MakesThere (machine_of d (meaning_by d ps)) before step r
there d script ps r before after step told are =
    let m = machine_of d (meaning_by d ps) in
    let n = told.report in
    let run = n.run.events in
    let none : run.left ≡ [] = (ended (EndsRun m Whole run.left) m 0 1 (first_state m) no_pace run.done (journal_of n.log) run.made).ends.0 in
    let done : run.done ≡ before ++ step ∷ after =
    sym (append-nil run.done) ∙ ap (λ (left : List Step). run.done ++ left) (sym none) ∙ sym run.steps_are ∙ are in
    record {
      log = n.log;
      is_log = n.one_node;
      stands = stands (EndsRun m Whole run.left) m 0 1 (first_state m) no_pace before after step (journal_of n.log)
          (subst (λ (steps : List Step). HaveMade (EndsRun m Whole run.left) m 0 1 (first_state m) no_pace steps (journal_of n.log)) done run.made);
    }

pub each_step : (d : Description) (script : NodeScript) (ps : List Program) (result : Result Report RunFault) → RunGives d script ps result
    → IfOk result (λ r. (before after : List Step) (step : Step) → steps_of script ps ≡ before ++ step ∷ after → MakesThere (machine_of d (meaning_by d ps)) before step r)
each_step d script ps (Ok r) told = λ before after step are. there d script ps r before after step told are
each_step d script ps (Err fault) told = tt

-- ---- a whole run's text and end

pub sent_whole : (d : Description) (script : NodeScript) (ps : List Program) (out out' : Option (List ℕ)) (before now : ℕ) (result : Result Report IntoFault) → RunsInto d (IsReportOf d script ps) out out' before now result
    → IfOk result (λ r. Sent out out' (text d r))
sent_whole d script ps out out' before now (Ok r) gives = gives.1
sent_whole d script ps out out' before now (Err fault) gives = tt

seen_last : (d : Description) (script : NodeScript) (ps : List Program) (r : Report) → IsReportOf d script ps Whole r → IsSomeAnd (slice_get r.nodes 0) (IsSeenLast (suc r.events))
seen_last d script ps r told =
    let m = machine_of d (meaning_by d ps) in
    let n = told.report in
    let run = n.run.events in
    let e = ended (EndsRun m Whole run.left) m 0 1 (first_state m) no_pace run.done (journal_of n.log) run.made in
    let shows = e.ends.2 in
    let number = e.number in
    let counted = n.events in
    let event : e.event ≡ suc r.events = omega (arith, number, counted) in
    let last : IsSeenLast (suc r.events) n.log = record {
      before = e.front;
      store = shows.seen;
      is = e.are ∙ ap (λ (es : List TimedEntry). e.front ++ es) (e.ends.3 ∙ ap (λ (ts : List JournalEntry). map (made_at e.event) ts) shows.made)
          ∙ ap (λ (k : ℕ). e.front ++ made_at k (Seen shows.seen) ∷ []) event;
    } in
    subst (λ (nodes : List Log). IsSomeAnd (slice_get nodes 0) (IsSeenLast (suc r.events))) (sym n.one_node) last

pub seen_whole : (d : Description) (script : NodeScript) (ps : List Program) (out out' : Option (List ℕ)) (before now : ℕ) (result : Result Report IntoFault) → RunsInto d (IsReportOf d script ps) out out' before now result
    → IfOk result (λ r. IsSomeAnd (slice_get r.nodes 0) (IsSeenLast (suc r.events)))
seen_whole d script ps out out' before now (Ok r) gives = seen_last d script ps r gives.0
seen_whole d script ps out out' before now (Err fault) gives = tt

-- ---- a run that was cut

one_log : (nodes : List Log) (a b : Log) → nodes ≡ a ∷ [] → nodes ≡ b ∷ [] → a ≡ b
one_log nodes a b x y = let e : a ∷ [] ≡ b ∷ [] = sym x ∙ y in cc

-- a full log has 1,000,000 entries
full_log : (d : Description) (script : NodeScript) (ps : List Program) (r : Report) (l : Log) → IsReportOf d script ps Full r → r.nodes ≡ l ∷ [] → length l.entries < 1000000 → ⊥
full_log d script ps r l told is few =
    let m = machine_of d (meaning_by d ps) in
    let n = told.report in
    let run = n.run.events in
    let e = ended (EndsRun m Full run.left) m 0 1 (first_state m) no_pace run.done (journal_of n.log) run.made in
    let full : 1000000 ≤ e.before = e.ends.1 in
    let count = e.count in
    let same : n.log ≡ l = one_log r.nodes n.log l n.one_node is in
    let parts : length (journal_of n.log) ≡ length e.front + length e.last = ap length e.are ∙ length-append e.front e.last in
    let size : length (journal_of n.log) ≡ length n.log.entries = length-map n.log.entries (λ (e : Stamped). let x : TimedEntry = record { stamp = e.stamp; told = journal_entry n.log e.entry } in x) in
    let of : length n.log.entries ≡ length l.entries = ap (λ (x : Log). length x.entries) same in
    omega (arith, full, count, parts, size, of, few)

cut_part : (d : Description) (script : NodeScript) (ps : List Program) (r : Report) (l : Log) (out out' : Option (List ℕ)) (how : RunEnd) → IsReportOf d script ps how r → SentPart out out' (written_text how d r) → r.whole ≡ false
    → r.nodes ≡ l ∷ [] → length l.entries < 1000000 → SentPart out out' (lines d r)
cut_part d script ps r l out out' Whole told part cut is few = let whole = told.report.whole in absurd (let both : true ≡ false = sym whole ∙ cut in cc)
cut_part d script ps r l out out' Full told part cut is few = absurd (full_log d script ps r l told is few)
cut_part d script ps r l out out' Cut told part cut is few = part

pub no_last_line : (d : Description) (script : NodeScript) (ps : List Program) (out out' : Option (List ℕ)) (before now : ℕ) (result : Result Report IntoFault) → RunsInto d (IsReportOf d script ps) out out' before now result
    → IfErr result (λ fault. (r : Report) (l : Log) → fault ≡ into.NoMemory r → r.whole ≡ false → r.nodes ≡ l ∷ [] → length l.entries < 1000000 → SentPart out out' (lines d r))
no_last_line d script ps out out' before now (Ok r) gives = tt
no_last_line d script ps out out' before now (Err (into.LogFull s)) gives = λ r l is. cc
no_last_line d script ps out out' before now (Err (into.Sink s)) gives = λ r l is. cc
no_last_line d script ps out out' before now (Err (into.NoMemory s)) (inl nothing) = λ r l is cut nodes few.
    let same : s ≡ r = cc in
    let none : [] ≡ l ∷ [] = sym (ap (λ (x : Report). x.nodes) nothing.report) ∙ ap (λ (x : Report). x.nodes) same ∙ nodes in
    absurd cc
no_last_line d script ps out out' before now (Err (into.NoMemory s)) (inr part) = λ r l is cut nodes few.
    let same : s ≡ r = cc in
    let written : IsWrittenPart d (IsReportOf d script ps) out out' r = subst (IsWrittenPart d (IsReportOf d script ps) out out') same part in
    cut_part d script ps r l out out' written.how written.report written.part cut nodes few
