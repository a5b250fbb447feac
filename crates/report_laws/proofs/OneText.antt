-- The report of a script's run has one text.
use Rattle.std.proofs.Common.{◌≡◌, ℕ, ◌+◌, Bool, true, false, List, [], ◌∷◌, ◌++◌, map, length, refl, sym, ◌∙◌, ap, subst, arith, append-nil, length-append}
use Rattle.arrayvec.specs.ArrayVec.{ArrayVec}
use Rattle.mate_num.specs.declared.store.Store.{Store}
use Rattle.vm_shape.specs.declared.description.Description.{Description}
use Rattle.mate_journal.specs.Log.{Log, GoesOn, IsSameLog}
use Rattle.mate_journal.specs.Machine.{Machine, Meaning}
use Rattle.mate_journal.specs.Described.{machine_of}
use Rattle.mate_journal.specs.Journal.{TimedEntry, journal_of, first_state, journal_entry}
use Rattle.mate_journal.specs.Pace.{no_pace}
use Rattle.mate_journal.specs.NodeRun.{IsNodeRun}
use Rattle.mate_journal.specs.NodeScript.{Step, RunEnd}
use Rattle.mate_journal.specs.NodeReport.{is_whole, IsNodeReport}
use Rattle.mate_journal.specs.Tidy.{NumbersInOrder}
use Rattle.mate_journal.specs.declared.entry.Stamped.{Stamped}
use Rattle.mate_journal.specs.declared.report.Report.{Report}
use Rattle.report_writer.specs.Brief.{brief}
use Rattle.report_writer.specs.Text.{text}
use Rattle.journal_laws.proofs.GoesOnLemmas.{GoesOn-journal}
use Rattle.report_laws.specs.Ending.{EndsByItself}
use Rattle.report_laws.proofs.Rules.{keeps-events}
use Rattle.report_laws.proofs.OneEach.{nothing_heard-one}
use Rattle.report_laws.proofs.OneScriptRun.{SameRun, runs-once, run-from}

-- ---- the journal

pub journal-once : (m : Machine) (steps : List Step) (how how' : RunEnd) (l l' : Log) → EndsByItself how → EndsByItself how' → (run : IsNodeRun m how steps l) → (run' : IsNodeRun m how' steps l')
    → SameRun (journal_of l) (is_whole how) (length run.events.done) (journal_of l') (is_whole how') (length run'.events.done)
journal-once m steps how how' l l' itself itself' run run' =
    runs-once m 1 0 steps 0 (first_state m) no_pace (is_whole how) (length run.events.done) (journal_of l) (is_whole how') (length run'.events.done) (journal_of l') (nothing_heard-one m)
    (keeps-events m (first_state m) 0 (journal_of l) run.well_formed.follow run.stores.shown run.grants)
    (keeps-events m (first_state m) 0 (journal_of l') run'.well_formed.follow run'.stores.shown run'.grants)
    (run-from m how itself steps (journal_of l) run.events) (run-from m how' itself' steps (journal_of l') run'.events)

-- ---- the log

nothing-more : {A : Type 0} (xs ys more : List A) → ys ≡ xs ++ more → length ys ≡ length xs → ys ≡ xs
nothing-more xs ys [] is same = is ∙ append-nil xs
nothing-more xs ys (x ∷ more) is same =
    let h : length ys ≡ length xs + (length (x ∷ more)) = ap length is ∙ length-append xs (x ∷ more) in
    absurd (let j : length (x ∷ more) ≡ 0 = omega (arith, h, same) in cc)

both-ways : {A : Type 0} (xs ys more more' : List A) → ys ≡ xs ++ more → xs ≡ ys ++ more' → ys ≡ xs
both-ways xs ys more more' is back =
    let h : length ys ≡ length xs + length more = ap length is ∙ length-append xs more in
    let j : length xs ≡ length ys + length more' = ap length back ∙ length-append ys more' in
    nothing-more xs ys more is (omega (arith, h, j))

-- a tidy log is told by its journal
pub log-once : (l l' : Log) → NumbersInOrder l → NumbersInOrder l' → journal_of l ≡ journal_of l' → IsSameLog l' l
log-once l l' tidy tidy' same =
    let on : GoesOn l l' = GoesOn-journal l l' [] tidy tidy' (sym same ∙ sym (append-nil (journal_of l))) in
    let back : GoesOn l' l = GoesOn-journal l' l [] tidy' tidy (same ∙ sym (append-nil (journal_of l'))) in
    record {
      entries = both-ways l.entries l'.entries on.entries back.entries on.entries_are back.entries_are;
      images = both-ways l.images l'.images on.images back.images on.images_are back.images_are;
      stores = both-ways l.stores l'.stores on.stores back.stores on.stores_are back.stores_are;
    }

-- ---- the text

abbrev one_log : List Stamped → List (ArrayVec ℕ) → List Store → ℕ → ℕ → Bool → Report
one_log entries images stores spare events whole =
    record { nodes = record { entries = entries; images = images; stores = stores; spare = spare } ∷ []; air = []; events = events; whole = whole }

-- no text tells how much room is left
text-spare : (d : Description) (entries : List Stamped) (images : List (ArrayVec ℕ)) (stores : List Store) (spare spare' events : ℕ) (whole : Bool)
    → text d (one_log entries images stores spare events whole) ≡ text d (one_log entries images stores spare' events whole)
text-spare d entries images stores spare spare' events whole = refl

brief-spare : (d : Description) (entries : List Stamped) (images : List (ArrayVec ℕ)) (stores : List Store) (spare spare' events : ℕ) (whole : Bool)
    → brief d (one_log entries images stores spare events whole) ≡ brief d (one_log entries images stores spare' events whole)
brief-spare d entries images stores spare spare' events whole = refl

module _ (F : Description → Report → List ℕ) (F-spare : (d : Description) (entries : List Stamped) (images : List (ArrayVec ℕ)) (stores : List Store) (spare spare' events : ℕ) (whole : Bool)
    → F d (one_log entries images stores spare events whole) ≡ F d (one_log entries images stores spare' events whole)) where
  at-report : (d : Description) (r : Report) (l : Log) → r.nodes ≡ l ∷ [] → r.air ≡ [] → F d r ≡ F d (one_log l.entries l.images l.stores l.spare r.events r.whole)
  at-report d r l nodes air =
      ap (λ (ls : List Log). F d (record { nodes = ls; air = r.air; events = r.events; whole = r.whole })) nodes
      ∙ ap (λ (as_ : _). F d (record { nodes = l ∷ []; air = as_; events = r.events; whole = r.whole })) air

  pub told-once : (d : Description) (meaning : Meaning) (steps : List Step) (how how' : RunEnd) (r r' : Report) → EndsByItself how → EndsByItself how' → IsNodeReport d meaning steps how r → IsNodeReport d meaning steps how' r'
      → F d r ≡ F d r'
  told-once d meaning steps how how' r r' itself itself' is is' =
      at-report d r is.log is.one_node is.no_air
      ∙ ap (λ (xs : List Stamped). F d (one_log xs is.log.images is.log.stores is.log.spare r.events r.whole)) (sym same.entries)
      ∙ ap (λ (xs : List (ArrayVec ℕ)). F d (one_log is'.log.entries xs is.log.stores is.log.spare r.events r.whole)) (sym same.images)
      ∙ ap (λ (xs : List Store). F d (one_log is'.log.entries is'.log.images xs is.log.spare r.events r.whole)) (sym same.stores)
      ∙ F-spare d is'.log.entries is'.log.images is'.log.stores is.log.spare is'.log.spare r.events r.whole
      ∙ ap (λ (n : ℕ). F d (one_log is'.log.entries is'.log.images is'.log.stores is'.log.spare n r.whole)) (is.events ∙ run.steps ∙ sym is'.events)
      ∙ ap (λ (b : Bool). F d (one_log is'.log.entries is'.log.images is'.log.stores is'.log.spare r'.events b)) (is.whole ∙ run.ends ∙ sym is'.whole)
      ∙ sym (at-report d r' is'.log is'.one_node is'.no_air) where
        run : SameRun (journal_of is.log) (is_whole how) (length is.run.events.done) (journal_of is'.log) (is_whole how') (length is'.run.events.done)
        run = journal-once (machine_of d meaning) steps how how' is.log is'.log itself itself' is.run is'.run

        same : IsSameLog is'.log is.log
        same = log-once is.log is'.log is.tidy.numbered is'.tidy.numbered run.events

pub text-once : (d : Description) (meaning : Meaning) (steps : List Step) (how how' : RunEnd) (r r' : Report) → EndsByItself how → EndsByItself how' → IsNodeReport d meaning steps how r → IsNodeReport d meaning steps how' r'
    → text d r ≡ text d r'
text-once = told-once text text-spare

pub brief-once : (d : Description) (meaning : Meaning) (steps : List Step) (how how' : RunEnd) (r r' : Report) → EndsByItself how → EndsByItself how' → IsNodeReport d meaning steps how r → IsNodeReport d meaning steps how' r'
    → brief d r ≡ brief d r'
brief-once = told-once brief brief-spare
