-- A report that goes on after an event: its text begins with the same lines.
use Rattle.std.proofs.Common.{◌≡◌, ◌≢◌, ℕ, zero, suc, ◌+◌, ◌<◌, ◌≤◌, List, [], ◌∷◌, ◌++◌, length, drop, refl, sym, ◌∙◌, ap, subst, arith, append-nil, append_assoc}
use Rattle.std.specs.Prelude.{flat_map, All, ◌==◌}
use Rattle.std.specs.List.{AllZip}
use Rattle.std.proofs.Math.Seq.{drop-append_seam}
use Rattle.std.proofs.lemmas.List.Elements.{All-same, All-weaker, All-filter, filter-append}
use Rattle.report_laws.specs.Begins.{Begins}
use Rattle.mate_journal.specs.Log.{Log, GoesOn}
use Rattle.mate_journal.specs.Tidy.{below, entry_event}
use Rattle.mate_journal.specs.declared.air.Aired.{Aired}
use Rattle.mate_journal.specs.declared.entry.Stamped.{Stamped}
use Rattle.mate_journal.specs.declared.report.Report.{Report}
use Rattle.report_writer.specs.Pieces.{IsNamed}
use Rattle.report_writer.specs.Progress.{air_event, at_event}
use Rattle.report_writer.specs.Text.{air_line, entry_line, entry_lines, event_lines, events_end, lines, text}
use Rattle.report_writer.proofs.EventLemmas.{at_event-none, flat_map-skip, flat_map-below_next}
use Rattle.report_writer.proofs.PieceLemmas.{events_end-le, event_lines-past, agree-below, lines-same}
use Rattle.report_writer.specs.Writing.{last_line}
use Rattle.vm_shape.specs.declared.description.Description.{Description}

-- the log goes on, by entries of events behind this one
pub record LogGoesOn (event : ℕ) (l l' : Log) : Type 0 where
  pub goes_on : GoesOn l l'
  pub named : All (λ (e : Stamped). IsNamed l e.entry) l.entries
  pub later : All (λ (e : Stamped). event < e.stamp.event) (drop (length l.entries) l'.entries)

-- the report is of events up to this one, and goes on by records of events behind it
pub record GoesOnBehind (event : ℕ) (old new : Report) : Type 0 where
  pub logs : AllZip (LogGoesOn event) old.nodes new.nodes
  pub air : List Aired
  pub air_is : new.air ≡ old.air ++ air
  pub air_later : All (λ (a : Aired). event < a.stamp.event) air
  pub up_to : All (λ (l : Log). All (λ (e : Stamped). e.stamp.event ≤ event) l.entries) old.nodes
  pub air_up_to : All (λ (a : Aired). a.stamp.event ≤ event) old.air

-- items of later events
at_event-later : {A : Type 0} (ev : A → ℕ) (event k : ℕ) (xs : List A) → k ≤ event → All (λ (x : A). event < ev x) xs → at_event ev k xs ≡ []
at_event-later ev event k xs le later = at_event-none ev k xs (All-weaker (λ (x : _). event < ev x) (λ (x : _). ev x ≢ k) (λ (x : _) (low : event < ev x) (same : ev x ≡ k). absurd (omega (arith, le, low, same))) xs later)

log-before : (d : Description) (event k node : ℕ) (l l' : Log) → k ≤ event → LogGoesOn event l l'
    → flat_map (entry_line d l' node) (at_event entry_event k l'.entries) ≡ flat_map (entry_line d l node) (at_event entry_event k l.entries)
log-before d event k node l l' le on =
    ap (λ (es : List Stamped). flat_map (entry_line d l' node) (at_event entry_event k es)) on.goes_on.entries_are
    ∙ ap (flat_map (entry_line d l' node))
    (filter-append (λ (e : Stamped). entry_event e == k) l.entries on.goes_on.entries
    ∙ ap (λ (es : List Stamped). at_event entry_event k l.entries ++ es) (at_event-later entry_event event k on.goes_on.entries le later)
    ∙ append-nil (at_event entry_event k l.entries))
    ∙ lines-same d l l' node (at_event entry_event k l.entries) on.goes_on
    (All-filter (λ (e : Stamped). entry_event e == k) (λ (e : Stamped). IsNamed l e.entry) l.entries on.named) where
      more : on.goes_on.entries ≡ drop (length l.entries) l'.entries
      more = sym (ap (drop (length l.entries)) on.goes_on.entries_are ∙ drop-append_seam l.entries on.goes_on.entries)

      later : All (λ (e : Stamped). event < entry_event e) on.goes_on.entries
      later = All-same (λ (e : Stamped). event < entry_event e) on.goes_on.entries (drop (length l.entries) l'.entries) more on.later

logs-before : (d : Description) (event k node : ℕ) (ls ls' : List Log) → k ≤ event → AllZip (LogGoesOn event) ls ls' → entry_lines d k node ls' ≡ entry_lines d k node ls
logs-before d event k node [] [] le on = refl
logs-before d event k node [] (y ∷ ls') le on = absurd on
logs-before d event k node (x ∷ ls) [] le on = absurd on
logs-before d event k node (x ∷ ls) (y ∷ ls') le on =
    ap (λ (bs : List ℕ). bs ++ entry_lines d k (suc node) ls') (log-before d event k node x y le on.0)
    ∙ ap (λ (bs : List ℕ). flat_map (entry_line d x node) (at_event entry_event k x.entries) ++ bs) (logs-before d event k (suc node) ls ls' le on.1)

module _ (d : Description) (event : ℕ) (old new : Report) (on : GoesOnBehind event old new) where
  event-before : (k : ℕ) → k ≤ event → event_lines d new k ≡ event_lines d old k
  event-before k le =
      ap (λ (xs : List Aired). flat_map air_line xs ++ entry_lines d k 0 new.nodes)
      (ap (at_event air_event k) on.air_is ∙ filter-append (λ (a : Aired). air_event a == k) old.air on.air
      ∙ ap (λ (xs : List Aired). at_event air_event k old.air ++ xs) (at_event-later air_event event k on.air le on.air_later)
      ∙ append-nil (at_event air_event k old.air))
      ∙ ap (λ (bs : List ℕ). flat_map air_line (at_event air_event k old.air) ++ bs) (logs-before d event k 0 old.nodes new.nodes le on.logs)

  -- the old lines are the new ones up to the event
  front : lines d old ≡ flat_map (event_lines d new) (below (suc event))
  front =
      sym (flat_map-skip (event_lines d old) (events_end old) (suc event) (events_end-le old event on.air_up_to on.up_to) (λ k low high. event_lines-past d old k low))
      ∙ sym (agree-below (event_lines d new) (event_lines d old) (suc event) (λ k low. event-before k (omega (arith, low))))

  more-below : (f : ℕ → List ℕ) (n j : ℕ) → Begins (flat_map f (below n)) (flat_map f (below (n + j)))
  more-below f n zero = let same : n + 0 ≡ n = omega arith in record { rest = []; is = ap (λ (k : ℕ). flat_map f (below k)) same ∙ sym (append-nil (flat_map f (below n))) }
  more-below f n (suc j) =
      let before = more-below f n j in
      let next : n + suc j ≡ suc (n + j) = omega arith in
      record {
        rest = before.rest ++ f (n + j);
        is = ap (λ (k : ℕ). flat_map f (below k)) next ∙ flat_map-below_next f (n + j) ∙ ap (λ (bs : List ℕ). bs ++ f (n + j)) before.is ∙ append_assoc (flat_map f (below n)) before.rest (f (n + j));
      }

  pub lines-begin : Begins (lines d old) (lines d new)
  lines-begin =
      let past : events_end new ≤ suc event + events_end new = omega arith in
      let more = more-below (event_lines d new) (suc event) (events_end new) in
      record {
        rest = more.rest;
        is = sym (flat_map-skip (event_lines d new) (events_end new) (suc event + events_end new) past (λ k low high. event_lines-past d new k low)) ∙ more.is ∙ ap (λ (bs : List ℕ). bs ++ more.rest) (sym front);
      }

-- a beginning of a beginning
pub begins-then : {A : Type 0} (xs ys zs : List A) → Begins xs ys → Begins ys zs → Begins xs zs
begins-then xs ys zs a b = record { rest = a.rest ++ b.rest; is = b.is ∙ ap (λ (bs : List _). bs ++ b.rest) a.is ∙ append_assoc xs a.rest b.rest }

pub begins-text : (d : Description) (r : Report) → Begins (lines d r) (text d r)
begins-text d r = record { rest = last_line r; is = refl }
