-- A node script's run that was stopped begins the whole run.
use Rattle.std.proofs.Common.{◌≡◌, ℕ, suc, ◌+◌, ◌<◌, ◌≤◌, List, [], ◌∷◌, ◌++◌, Option, length, map, drop, sym, ◌∙◌, ap, subst, arith, append-nil, append_assoc, length-append}
use Rattle.std.specs.Prelude.{All}
use Rattle.std.specs.List.{AllZip}
use Rattle.std.proofs.lemmas.List.{map-append}
use Rattle.std.proofs.lemmas.List.Elements.{All-nil, All-cons, All-same, All-weaker, All-append}
use Rattle.report_laws.specs.Begins.{Begins}
use Rattle.report_laws.proofs.Fronts.{GoesOnFrom, fronts, made-all, made-high}
use Rattle.report_laws.proofs.TextLemmas.{LogGoesOn, GoesOnBehind, lines-begin, begins-then, begins-text}
use Rattle.report_laws.proofs.OneEach.{nothing_heard-one}
use Rattle.report_laws.proofs.OneText.{text-once}
use Rattle.report_laws.proofs.Rules.{KeepsRules, keeps-events}
use Rattle.journal_laws.proofs.GoesOnLemmas.{GoesOn-journal}
use Rattle.mate_journal.specs.Described.{machine_of}
use Rattle.mate_journal.specs.Journal.{JournalEntry, TimedEntry, journal_of, first_state, untimed}
use Rattle.mate_journal.specs.Log.{Log}
use Rattle.mate_journal.specs.Machine.{Machine, Meaning}
use Rattle.mate_journal.specs.NodeReport.{IsNodeReport}
use Rattle.mate_journal.specs.NodeRun.{IsNodeRun}
use Rattle.mate_journal.specs.NodeScript.{Step, RunEnd, Whole, Full, Cut, HaveMade, EndsRun}
use Rattle.mate_journal.specs.Pace.{no_pace}
use Rattle.mate_journal.specs.declared.air.Aired.{Aired}
use Rattle.mate_journal.specs.declared.entry.Stamped.{Stamped}
use Rattle.mate_journal.specs.declared.report.Report.{Report}
use Rattle.report_writer.specs.Text.{lines, text}
use Rattle.report_writer.specs.Writing.{IsWrittenPart, written_text}
use Rattle.vm_shape.specs.declared.description.Description.{Description}
use Rattle.world_laws.proofs.Bounds.{entries-of, entries-new, all-named}

-- ---- the journals

rules : (m : Machine) (how : RunEnd) (steps : List Step) (l : Log) → IsNodeRun m how steps l → KeepsRules m (first_state m) 0 (untimed (journal_of l))
rules m how steps l run = keeps-events m (first_state m) 0 (journal_of l) run.well_formed.follow run.stores.shown run.grants

module _ (m : Machine) (steps more : List Step) (how : RunEnd) (l l' : Log) (run : IsNodeRun m Cut steps l) (run' : IsNodeRun m how steps l') (is : run'.events.done ≡ run.events.done ++ more) where
  pub found : GoesOnFrom (1 + length run.events.done) (journal_of l) (journal_of l')
  found = fronts m how run.events.left run'.events.left run.events.done more 0 1 0 (first_state m) no_pace (journal_of l) (journal_of l') (nothing_heard-one m) (rules m Cut steps l run) (rules m how steps l' run')
      run.events.made (subst (λ (xs : List Step). HaveMade (EndsRun m how run'.events.left) m 0 1 (first_state m) no_pace xs (journal_of l')) is run'.events.made)

  pub begins : Begins (journal_of l) (journal_of l')
  begins = record { rest = found.rest; is = found.is }

-- ---- the texts

one-nodes : (event : ℕ) (l l' : Log) (ns ns' : List Log) → ns ≡ l ∷ [] → ns' ≡ l' ∷ [] → LogGoesOn event l l' → AllZip (LogGoesOn event) ns ns'
one-nodes event l l' ns ns' is is' on =
    subst (λ (xs : List Log). AllZip (LogGoesOn event) xs ns') (sym is) (subst (λ (xs : List Log). AllZip (LogGoesOn event) (l ∷ []) xs) (sym is') (on, tt))

module _ (d : Description) (meaning : Meaning) (steps : List Step) (r r' : Report) (stopped : IsNodeReport d meaning steps Cut r) (whole : IsNodeReport d meaning steps Whole r') where
  abbrev run : IsNodeRun (machine_of d meaning) Cut steps stopped.log
  run = stopped.run

  abbrev run' : IsNodeRun (machine_of d meaning) Whole steps whole.log
  run' = whole.run

  abbrev N : ℕ
  N = length run.events.done

  none_left : run'.events.left ≡ []
  none_left = made-all (machine_of d meaning) run'.events.left 0 1 (first_state (machine_of d meaning)) no_pace run'.events.done (journal_of whole.log) run'.events.made

  done_is : run'.events.done ≡ run.events.done ++ run.events.left
  done_is = sym (append-nil run'.events.done) ∙ ap (λ (xs : List Step). run'.events.done ++ xs) (sym none_left) ∙ sym run'.events.steps_are ∙ run.events.steps_are

  more : GoesOnFrom (1 + N) (journal_of stopped.log) (journal_of whole.log)
  more = found (machine_of d meaning) steps run.events.left Whole stopped.log whole.log run run' done_is

  later : All (λ (e : TimedEntry). N < e.stamp.event) more.rest
  later = All-weaker (λ (e : TimedEntry). 1 + N ≤ e.stamp.event) (λ (e : TimedEntry). N < e.stamp.event) (λ e low. omega (arith, low)) more.rest more.later

  up-to : All (λ (e : Stamped). e.stamp.event ≤ N) stopped.log.entries
  up-to =
      entries-of (λ n. n ≤ N) stopped.log
      (All-weaker (λ (e : TimedEntry). e.stamp.event < 1 + N) (λ (e : TimedEntry). e.stamp.event ≤ N) (λ e high. omega (arith, high)) (journal_of stopped.log)
      (made-high (machine_of d meaning) run.events.left 0 1 (first_state (machine_of d meaning)) no_pace run.events.done (journal_of stopped.log) run.events.made))

  log-on : LogGoesOn N stopped.log whole.log
  log-on =
      record {
        goes_on = GoesOn-journal stopped.log whole.log _ stopped.tidy.numbered whole.tidy.numbered more.is;
        named = all-named stopped.log stopped.tidy.numbered;
        later = entries-new (λ n. N < n) stopped.log whole.log _ more.is later;
      }

  report-on : GoesOnBehind N r r'
  report-on = record {
    logs = one-nodes N stopped.log whole.log r.nodes r'.nodes stopped.one_node whole.one_node log-on;
    air = [];
    air_is = whole.no_air ∙ sym (append-nil r.air ∙ stopped.no_air);
    air_later = All-nil (λ (a : Aired). N < a.stamp.event);
    up_to = All-same (λ (l : Log). All (λ (e : Stamped). e.stamp.event ≤ N) l.entries) r.nodes (stopped.log ∷ []) stopped.one_node
        (All-cons (λ (l : Log). All (λ (e : Stamped). e.stamp.event ≤ N) l.entries) stopped.log [] up-to (All-nil (λ (l : Log). All (λ (e : Stamped). e.stamp.event ≤ N) l.entries)));
    air_up_to = All-same (λ (a : Aired). a.stamp.event ≤ N) r.air [] stopped.no_air (All-nil (λ (a : Aired). a.stamp.event ≤ N));
  }

  cut-text : Begins (lines d r) (text d r')
  cut-text = begins-then (lines d r) (lines d r') (text d r') (lines-begin d N r r' report-on) (begins-text d r')

-- a text that is the whole one begins it
pub same-text : (xs ys : List ℕ) → xs ≡ ys → Begins xs ys
same-text xs ys same = record { rest = []; is = sym same ∙ sym (append-nil xs) }

pub script-front : (d : Description) (meaning : Meaning) (steps : List Step) (out out' : Option (List ℕ)) (r r' : Report) → (left : IsWrittenPart d (IsNodeReport d meaning steps) out out' r)
    → IsNodeReport d meaning steps Whole r' → Begins left.part.front (text d r')
script-front d meaning steps out out' r r' left whole = by left.how left.report left.part.front left.part.rest left.part.whole where
  by : (how : RunEnd) → IsNodeReport d meaning steps how r → (front rest : List ℕ) → front ++ rest ≡ written_text how d r → Begins front (text d r')
  by Whole report front rest is =
      begins-then front (text d r) (text d r') (record { rest = rest; is = sym is }) (same-text (text d r) (text d r') (text-once d meaning steps Whole Whole r r' tt tt report whole))
  by Full report front rest is =
      begins-then front (text d r) (text d r') (record { rest = rest; is = sym is }) (same-text (text d r) (text d r') (text-once d meaning steps Full Whole r r' tt tt report whole))
  by Cut report front rest is = begins-then front (lines d r) (text d r') (record { rest = rest; is = sym is }) (cut-text d meaning steps r r' report whole)
