-- The run of a node script grows by an event, and ends.
use Rattle.std.proofs.Common.{◌≡◌, ◌<◌, ◌≤◌, ◌+◌, ◌^◌, ℕ, suc, lit<, List, [], ◌∷◌, ◌++◌, false, Result, Ok, Err, refl, sym, ◌∙◌, ap, subst, arith, length, map, take, drop, append-nil, length-append, length-drop, length-take-le, ◌-◌, zero}
use Rattle.std.specs.Prelude.{slice_index_or, is_err, OnOk}
use Rattle.std.proofs.lemmas.List.Elements.{All-nil, All-cons}
use Rattle.mate_num.specs.declared.no_memory.NoMemory.{NoMemory}
use Rattle.std.proofs.lemmas.List.{length-map, take-append-drop, take_all}
use Rattle.mate_num.specs.declared.call.Stamp.{Stamp}
use Rattle.vm_shape.specs.declared.description.Description.{Description}
use Rattle.script_steps.specs.declared.steps.Step.{Step}
use Rattle.script_steps.specs.Steps.{NodeScript, IsRightStep}
use Rattle.mate_journal.specs.Log.{Log, IsEmpty, IsSameLog}
use Rattle.mate_journal.specs.Machine.{Machine, Meaning}
use Rattle.mate_journal.specs.Journal.{TimedEntry, NodeState, journal_of, first_state, state_after_all, journal_entry}
use Rattle.mate_journal.specs.Pace.{Pace, no_pace}
use Rattle.mate_journal.specs.WellFormed.{NotBefore}
use Rattle.mate_journal.specs.NodeScript as node
use Rattle.mate_journal.specs.NodeScript.{RunEnd, Whole, Full, Cut, Makes, HaveMade, made_at, EndsRun, IsRunOf, ShowsOnce}
use Rattle.mate_journal.specs.NodeReport.{IsNodeReport, is_whole}
use Rattle.mate_journal.specs.OpenLog.{Gone, nothing_gone}
use Rattle.mate_journal.specs.Ranges.{HasStampRange, HasLogRanges, HasAiredRanges, HasReportRanges}
use Rattle.mate_journal.specs.declared.program.Program.{Program}
use Rattle.mate_journal.specs.declared.entry.Stamped.{Stamped}
use Rattle.mate_journal.specs.declared.report.Report.{Report}
use Rattle.mate_journal.specs.declared.report.TheConstants.{RECORDS_MAX}
use Rattle.journal_laws.specs.Growth.{FollowsLast, EndsWithPace}
use Rattle.journal_laws.proofs.Append.{journal_of-same, journal_of-empty, FollowsLast-later}
use Rattle.journal_laws.proofs.FewLemmas.{run-few}
use Rattle.journal_laws.proofs.ScriptRuns.{HaveMade-on, HaveMade-push}
use Rattle.vm_shape.specs.Shapes.{shape_of}
use Rattle.vm_shape.specs.Whole.{context_count}
use Rattle.node_state.specs.Meaning.{machine_in, meaning_of}
use Rattle.node_state.specs.Keeps.{reading, IsTimely}
use Rattle.node_open.specs.View.{NodeView, heard_of, HasPace, Tells}
use Rattle.node_open.specs.Calls.{Pacing}
use Rattle.node_open.specs.Journal.{KeepsJournal}
use Rattle.journal_laws.specs.InRange.{IsInRange}
use Rattle.journal_laws.proofs.GrowthLemmas.{none-in-range}
use Rattle.node_programs.specs.ScriptSteps.{AreProgramsOf, step_of, steps_of}
use Rattle.node_programs.specs.Sources.{meaning_by}
use Rattle.node_programs.proofs.MeaningLemmas.{meaning_by-right}
use Rattle.node_runs.specs.Running.{MakesOn, stamp_at, HasRun, IsReportOf}

-- ---- logs

length-journal : (l : Log) → length (journal_of l) ≡ length l.entries
length-journal l = length-map l.entries (λ (e : Stamped). let x : TimedEntry = record { stamp = e.stamp; told = journal_entry l e.entry } in x)

-- the next event of a script may follow an event of it
next-timely : (n : ℕ) (l : Log) → IsTimely (stamp_at n) l → IsTimely (stamp_at (suc n)) l
next-timely n l t = record { after_last = FollowsLast-later (journal_of l) (stamp_at n) (stamp_at (suc n)) later t.after_last } where
  later : (last : Stamp) → NotBefore last (stamp_at n) → NotBefore last (stamp_at (suc n))
  later last h = record {
    event = let e = h.event in omega (arith, e);
    time = h.time;
    same = λ e. let low = h.event in absurd (omega (arith, low, e));
  }

same-timely : (at : Stamp) (a b : Log) → IsSameLog a b → IsTimely at b → IsTimely at a
same-timely at a b same t =
    let P : List TimedEntry → Type 0 = λ es. FollowsLast es at in
    record { after_last = subst P (sym (journal_of-same b a same)) t.after_last }

-- ---- the run

pub HasRun-new : (d : Description) (ps : List Program) (v : NodeView) → v.description ≡ d → IsEmpty v.log → HasPace v no_pace → v.gone ≡ nothing_gone → HasRun d ps [] v
HasRun-new d ps v is empty has gone =
    let none : journal_of v.log ≡ [] = journal_of-empty v.log empty in
    record {
      description = is;
      pace = no_pace;
      has = has;
      made = (none, refl);
      timely =
          let P : List TimedEntry → Type 0 = λ es. FollowsLast es (stamp_at 0) in
          record { after_last = subst P (sym none) tt };
      ranges = subst (λ (g : Gone). IsInRange v.log g) (sym gone) (none-in-range v.log empty);
      few = lit< tt;
    }

-- it stays where nothing but room changes
pub HasRun-same : (d : Description) (ps : List Program) (done : List Step) (old new : NodeView) → new.description ≡ old.description → IsSameLog new.log old.log → ((p : Pace) → HasPace old p → HasPace new p)
    → (IsInRange old.log old.gone → IsInRange new.log new.gone) → HasRun d ps done old → HasRun d ps done new
HasRun-same d ps done old new described same paces ranges h =
    let journals : journal_of new.log ≡ journal_of old.log = journal_of-same old.log new.log same in
    record {
      description = described ∙ h.description;
      pace = h.pace;
      has = paces h.pace h.has;
      made =
          subst (λ (es : List TimedEntry). HaveMade (EndsWithPace h.pace) (machine_in d) 0 1 (first_state (machine_in d)) no_pace (map (step_of ps) done) es) (sym journals) h.made;
      timely = same-timely (stamp_at (length done)) new.log old.log same h.timely;
      ranges = ranges h.ranges;
      few = h.few;
    }

map-append : {A B : Type 0} (f : A → B) (xs ys : List A) → map f (xs ++ ys) ≡ map f xs ++ map f ys
map-append f [] ys = refl
map-append f (x ∷ xs) ys = ap (λ zs. f x ∷ zs) (map-append f xs ys)

heard-is : (d : Description) (v : NodeView) → v.description ≡ d → heard_of v ≡ state_after_all (machine_in d) (first_state (machine_in d)) (journal_of v.log)
unfolding reading
heard-is d v is = ap (λ (x : Description). reading x v.log) is

-- one more step
one-more : (d : Description) (ps : List Program) (done : List Step) (step : Step) (old new : NodeView) → HasRun d ps done old → length old.log.entries < RECORDS_MAX
    → Tells old new (stamp_at (suc (length done))) (MakesOn old (step_of ps step)) → (IsInRange old.log old.gone → IsInRange new.log new.gone) → HasStampRange (stamp_at (suc (length done))) → HasRun d ps (done ++ step ∷ []) new
one-more d ps done step old new h few t ranges stamp =
    let made = t.paces h.pace h.has in
    let at : Stamp = stamp_at (suc (length done)) in
    let long : length (done ++ step ∷ []) ≡ suc (length done) = length-append done (step ∷ []) ∙ omega arith in
    let count : length (map (step_of ps) done) ≡ length done = length-map done (step_of ps) in
    let entries : length (journal_of old.log) ≡ length old.log.entries = length-journal old.log in
    let event : suc (length done) ≡ 1 + length (map (step_of ps) done) = omega (arith, count) in
    let by_description : Makes (machine_in d) (heard_of old) h.pace (step_of ps step) t.told made.0 =
    subst (λ (x : Description). Makes (machine_in x) (heard_of old) h.pace (step_of ps step) t.told made.0) h.description made.1 in
    let makes : Makes (machine_in d) (state_after_all (machine_in d) (first_state (machine_in d)) (journal_of old.log)) h.pace (step_of ps step) t.told made.0 =
    subst (λ (r : NodeState). Makes (machine_in d) r h.pace (step_of ps step) t.told made.0) (heard-is d old h.description) by_description in
    let P : List node.Step → List TimedEntry → Type 0 = λ steps es. HaveMade (EndsWithPace made.0) (machine_in d) 0 1 (first_state (machine_in d)) no_pace steps es in
    record {
      description = t.description ∙ h.description;
      pace = made.0;
      has = made.2;
      made =
          subst (P (map (step_of ps) (done ++ step ∷ []))) (sym t.grows.journal)
          (subst (λ (steps : List node.Step). P steps (journal_of old.log ++ map (made_at (suc (length done))) t.told)) (sym (map-append (step_of ps) done (step ∷ [])))
          (subst (λ (n : ℕ). P (map (step_of ps) done ++ step_of ps step ∷ []) (journal_of old.log ++ map (made_at n) t.told)) (sym event)
          (HaveMade-push (machine_in d) 0 1 (first_state (machine_in d)) no_pace (map (step_of ps) done) (journal_of old.log) h.pace (step_of ps step) t.told made.0 h.made
          (omega (arith, few, entries)) makes)));
      timely = subst (λ (n : ℕ). IsTimely (stamp_at n) new.log) (sym long) t.grows.timely;
      ranges = ranges h.ranges;
      few = subst (λ (n : ℕ). n < 2 ^ 64) (sym long) stamp.event;
    }

taken : (list : List Step) (i : ℕ) → i ≤ length list → length (take i list) ≡ i
taken list i le = length-take-le i list le

-- the first i + 1 steps
take-next : (list : List Step) (i : ℕ) (x : Step) → i < length list → x ≡ slice_index_or list i x → take i list ++ x ∷ [] ≡ take (i + 1) list
take-next [] i x below is = absurd (omega (arith, below))
take-next (y ∷ list) zero x below is = ap (λ (z : Step). z ∷ []) is
take-next (y ∷ list) (suc i) x below is =
    let next : suc i + 1 ≡ suc (i + 1) = omega arith in
    ap (λ (zs : List Step). y ∷ zs) (take-next list i x (omega (arith, below)) is) ∙ ap (λ (k : ℕ). take k (y ∷ list)) (sym next)

-- one more step of a list, as the next event
pub HasRun-step : (d : Description) (ps : List Program) (list : List Step) (i event : ℕ) (step : Step) (old new : NodeView) → HasRun d ps (take i list) old → i < length list → event ≡ i
    → step ≡ slice_index_or list i step → length old.log.entries < RECORDS_MAX → Tells old new (stamp_at (event + 1)) (MakesOn old (step_of ps step))
    → (IsInRange old.log old.gone → IsInRange new.log new.gone) → HasStampRange (stamp_at (event + 1)) → HasRun d ps (take (i + 1) list) new
HasRun-step d ps list i event step old new h below same is few t ranges stamp =
    let len : length (take i list) ≡ i = taken list i (omega (arith, below)) in
    let number : event + 1 ≡ suc (length (take i list)) = omega (arith, same, len) in
    subst (λ (done : List Step). HasRun d ps done new) (take-next list i step below is)
    (one-more d ps (take i list) step old new h few (subst (λ (n : ℕ). Tells old new (stamp_at n) (MakesOn old (step_of ps step))) number t) ranges (subst (λ (n : ℕ). HasStampRange (stamp_at n)) number stamp))

-- an event of the last step's number may come
pub timely-at : (d : Description) (ps : List Program) (list : List Step) (i event : ℕ) (v : NodeView) → HasRun d ps (take i list) v → i ≤ length list → event ≡ i → IsTimely (stamp_at event) v.log
timely-at d ps list i event v h within same =
    let len : length (take i list) ≡ i = taken list i within in
    subst (λ (n : ℕ). IsTimely (stamp_at n) v.log) (len ∙ sym same) h.timely

-- 64 bits count the events
pub few-events : (d : Description) (ps : List Program) (list : List Step) (i event : ℕ) (v : NodeView) → HasRun d ps (take i list) v → i ≤ length list → event ≡ i → event < 2 ^ 64
few-events d ps list i event v h within same = subst (λ (n : ℕ). n < 2 ^ 64) (taken list i within ∙ sym same) h.few

-- the next event may be made
pub timely-next : (d : Description) (ps : List Program) (list : List Step) (i event : ℕ) (v : NodeView) → HasRun d ps (take i list) v → i ≤ length list → event ≡ i → IsTimely (stamp_at (event + 1)) v.log
timely-next d ps list i event v h within same =
    let len : length (take i list) ≡ i = taken list i within in
    let number : suc (length (take i list)) ≡ event + 1 = omega (arith, same, len) in
    subst (λ (n : ℕ). IsTimely (stamp_at n) v.log) number (next-timely (length (take i list)) v.log h.timely)

-- each step of a script is right on a node of its machine, with the programs of its files
pub right-step : (d on : Description) (script : NodeScript) (ps : List Program) (list : List Step) (i : ℕ) (step : Step) → AreProgramsOf d script ps → list ≡ script.steps → i < length list → step ≡ slice_index_or list i step
    → on ≡ d → IsRightStep on (length ps) step
right-step d on script ps list i step are same below is description =
    let low : i < length script.steps = subst (λ (l : List Step). i < length l) same below in
    let stands : step ≡ slice_index_or script.steps i step = is ∙ ap (λ (l : List Step). slice_index_or l i step) same in
    subst (λ (x : Description). IsRightStep x (length ps) step) (sym description)
    (subst (λ (n : ℕ). IsRightStep d n step) (sym are.count)
    (subst (λ (s : Step). IsRightStep d (length script.files) s) (sym stands) (are.steps.each i step low)))

pub few-contexts : (d on : Description) (n : ℕ) → n ≡ context_count d → n ≤ 16 → on ≡ d → context_count on ≤ 16
few-contexts d on n same few description = subst (λ (k : ℕ). k ≤ 16) (same ∙ ap context_count (sym description)) few

-- no log of a run is near a position's end
pub few-entries : (d : Description) (ps : List Program) (done : List Step) (v : NodeView) → HasRun d ps done v → KeepsJournal v.description (machine_in v.description) v.log
    → length v.log.entries < 4000000000
few-entries d ps done v h keeps =
    let k : KeepsJournal d (machine_in d) v.log = subst (λ (x : Description). KeepsJournal x (machine_in x) v.log) h.description keeps in
    let few = run-few (machine_in d) (map (step_of ps) done) (journal_of v.log) h.pace h.made k.well_formed.follow in
    let entries = length-journal v.log in
    omega (arith, few, entries)

-- ---- the report

-- the report of a log that keeps what a node's log keeps
pub report-by : (d : Description) (steps : List node.Step) (how : RunEnd) (l : Log) (events : ℕ) → KeepsJournal d (machine_in d) l → (run : IsRunOf (machine_in d) how steps (journal_of l)) → events ≡ length run.done
    → (r : Report) → r ≡ record { nodes = l ∷ []; air = []; events = events; whole = is_whole how } → IsNodeReport d (meaning_of (shape_of d)) steps how r
report-by d steps how l events keeps run count r is = record {
  log = l;
  one_node = ap (λ (x : Report). x.nodes) is;
  no_air = ap (λ (x : Report). x.air) is;
  whole = ap (λ (x : Report). x.whole) is;
  run = record { well_formed = keeps.well_formed; serial = keeps.serial; stores = keeps.stores; grants = keeps.grants; devices = keeps.devices; events = run };
  events = ap (λ (x : Report). x.events) is ∙ count;
  tidy = keeps.tidy;
  images = keeps.full;
}

-- ---- how it ends

-- the steps that were made, and then the end
ends-run : (d : Description) (ps : List Program) (done left : List Step) (how : RunEnd) (v : NodeView) (last es : List TimedEntry) (h : HasRun d ps done v) → es ≡ journal_of v.log ++ last
    → EndsRun (machine_in d) how (map (step_of ps) left) (0 + length (journal_of v.log)) (1 + length (map (step_of ps) done)) (state_after_all (machine_in d) (first_state (machine_in d)) (journal_of v.log)) h.pace last
    → (run : IsRunOf (machine_in d) how (map (step_of ps) (done ++ left)) es) × (length done ≡ length run.done)
ends-run d ps done left how v last es h is ends =
    let f = step_of ps in
    let m : Machine = machine_in d in
    let made : HaveMade (EndsRun m how (map f left)) m 0 1 (first_state m) no_pace (map f done ++ []) (journal_of v.log ++ last) =
    HaveMade-on (EndsRun m how (map f left)) m 0 1 (first_state m) no_pace (map f done) [] (journal_of v.log) last h.pace h.made ends in (
      record {
        done = map f done;
        left = map f left;
        steps_are = map-append f done left;
        made =
            subst (λ (steps : List node.Step). HaveMade (EndsRun m how (map f left)) m 0 1 (first_state m) no_pace steps es) (append-nil (map f done))
            (subst (λ (all : List TimedEntry). HaveMade (EndsRun m how (map f left)) m 0 1 (first_state m) no_pace (map f done ++ []) all) (sym is) made);
      },
      sym (length-map done f),
    )

-- all steps were made, and the store is shown
whole-run : (d : Description) (ps : List Program) (steps : List Step) (old new : NodeView) (h : HasRun d ps steps old)
    → Tells old new (stamp_at (suc (length steps))) (Pacing (ShowsOnce (machine_in old.description) (heard_of old)))
    → (run : IsRunOf (machine_in d) Whole (map (step_of ps) steps) (journal_of new.log)) × (length steps ≡ length run.done)
whole-run d ps steps old new h t =
    let m : Machine = machine_in d in
    let shown = t.paces h.pace h.has in
    let count : length (map (step_of ps) steps) ≡ length steps = length-map steps (step_of ps) in
    let by_description : ShowsOnce m (heard_of old) h.pace t.told = subst (λ (x : Description). ShowsOnce (machine_in x) (heard_of old) h.pace t.told) h.description shown.1.0 in
    let by_heard : ShowsOnce m (state_after_all m (first_state m) (journal_of old.log)) h.pace t.told = subst (λ (r : NodeState). ShowsOnce m r h.pace t.told) (heard-is d old h.description) by_description in
    let event : suc (length steps) ≡ 1 + length (map (step_of ps) steps) = omega (arith, count) in
    subst (λ (list : List Step). (run : IsRunOf m Whole (map (step_of ps) list) (journal_of new.log)) × (length steps ≡ length run.done)) (append-nil steps)
    (ends-run d ps steps [] Whole old (map (made_at (suc (length steps))) t.told) (journal_of new.log) h t.grows.journal
    (refl, t.told, by_heard, ap (λ (n : ℕ). map (made_at n) t.told) event))

-- the log is full, and a step is left
pub run-full : (d : Description) (ps : List Program) (steps : List Step) (i event : ℕ) (v : NodeView) (h : HasRun d ps (take i steps) v) → i < length steps → event ≡ i → RECORDS_MAX ≤ length v.log.entries
    → (run : IsRunOf (machine_in d) Full (map (step_of ps) steps) (journal_of v.log)) × (event ≡ length run.done)
run-full d ps steps i event v h within same full =
    let f = step_of ps in
    let len : length (take i steps) ≡ i = taken steps i (omega (arith, within)) in
    let entries : length (journal_of v.log) ≡ length v.log.entries = length-journal v.log in
    let left : length (map f (drop i steps)) ≡ length (drop i steps) = length-map (drop i steps) f in
    let dropped : length (drop i steps) ≡ length steps - i = length-drop i steps in
    let run = ends-run d ps (take i steps) (drop i steps) Full v [] (journal_of v.log) h (sym (append-nil (journal_of v.log)))
    (λ none. let no_length : length (map f (drop i steps)) ≡ 0 = ap (λ (xs : List node.Step). length xs) none in omega (arith, within, left, dropped, no_length), omega (arith, full, entries), refl) in
    subst (λ (list : List Step). (run : IsRunOf (machine_in d) Full (map f list) (journal_of v.log)) × (event ≡ length run.done)) (take-append-drop i steps)
    (run.0, same ∙ sym len ∙ run.1)

pub run-whole : (d : Description) (ps : List Program) (list : List Step) (i event : ℕ) (old new : NodeView) → HasRun d ps (take i list) old → i ≤ length list → length list ≤ i → event ≡ i
    → Tells old new (stamp_at (event + 1)) (Pacing (ShowsOnce (machine_in old.description) (heard_of old)))
    → (run : IsRunOf (machine_in d) Whole (map (step_of ps) list) (journal_of new.log)) × (event ≡ length run.done)
run-whole d ps list i event old new h within all same t =
    let whole : take i list ≡ list = take_all i list all in
    let number : event + 1 ≡ suc (length list) = omega (arith, same, within, all) in
    let run = whole-run d ps list old new (subst (λ (done : List Step). HasRun d ps done old) whole h)
    (subst (λ (n : ℕ). Tells old new (stamp_at n) (Pacing (ShowsOnce (machine_in old.description) (heard_of old)))) number t) in
    let count = run.1 in
    (run.0, omega (arith, same, within, all, count))

-- the run is cut after a step
pub run-cut : (d : Description) (ps : List Program) (steps : List Step) (i event : ℕ) (v : NodeView) (h : HasRun d ps (take i steps) v) → i ≤ length steps → event ≡ i
    → (run : IsRunOf (machine_in d) Cut (map (step_of ps) steps) (journal_of v.log)) × (event ≡ length run.done)
run-cut d ps steps i event v h within same =
    let len : length (take i steps) ≡ i = taken steps i within in
    let run = ends-run d ps (take i steps) (drop i steps) Cut v [] (journal_of v.log) h (sym (append-nil (journal_of v.log))) refl in
    subst (λ (list : List Step). (run : IsRunOf (machine_in d) Cut (map (step_of ps) list) (journal_of v.log)) × (event ≡ length run.done)) (take-append-drop i steps)
    (run.0, same ∙ sym len ∙ run.1)

-- ---- reports by sources

-- the log of a node that ran so is that of the script's report
pub reported : (d : Description) (script : NodeScript) (ps : List Program) (how : RunEnd) (list : List Step) (v : NodeView) (events : ℕ) → list ≡ script.steps → AreProgramsOf d script ps → v.description ≡ d
    → KeepsJournal v.description (machine_in v.description) v.log → (run : IsRunOf (machine_in d) how (map (step_of ps) list) (journal_of v.log)) × (events ≡ length run.done)
    → HasLogRanges v.log → events < 2 ^ 64 → (r : Report) → r ≡ record { nodes = v.log ∷ []; air = []; events = events; whole = is_whole how } → IsReportOf d script ps how r
reported d script ps how list v events steps right description keeps run ranges few r is =
    let k : KeepsJournal d (machine_in d) v.log = subst (λ (x : Description). KeepsJournal x (machine_in x) v.log) description keeps in
    let by_code : IsNodeReport d (meaning_of (shape_of d)) (map (step_of ps) list) how r = report-by d (map (step_of ps) list) how v.log events k run.0 run.1 r is in
    let by_sources : IsNodeReport d (meaning_by d ps) (steps_of script ps) how r =
    subst (λ (meaning : Meaning). IsNodeReport d meaning (steps_of script ps) how r) (sym (meaning_by-right d ps right.programs))
    (subst (λ (ss : List Step). IsNodeReport d (meaning_of (shape_of d)) (map (step_of ps) ss) how r) steps by_code) in
    record {
      report = by_sources;
      ranges = subst HasReportRanges (sym is) (record { nodes = All-cons HasLogRanges v.log [] ranges (All-nil HasLogRanges); air = All-nil HasAiredRanges; events = few });
    }

-- what a node keeps, by its description
pub keeps-by : (d : Description) (v : NodeView) → v.description ≡ d → KeepsJournal v.description (machine_in v.description) v.log → KeepsJournal d (machine_in d) v.log
keeps-by d v is keeps = subst (λ (x : Description). KeepsJournal x (machine_in x) v.log) is keeps

-- what holds where nothing was refused
pub ok-room : (r : Result (Unit {0}) NoMemory) (P : Type 0) → is_err r ≡ false → OnOk r P → P
ok-room (Ok x) P is holds = holds
ok-room (Err x) P is holds = cc
