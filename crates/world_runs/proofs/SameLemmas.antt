-- A report that is the same but for the room of its logs is of the same run, and was written so.
use Rattle.std.proofs.Common.{◌≡◌, ◌<◌, ◌^◌, ℕ, suc, zero, List, [], ◌∷◌, ◌++◌, Option, Result, Ok, Err, refl, sym, ◌∙◌, ap, subst, inl, inr}
use Rattle.std.specs.Prelude.{All, slice_get, IsSomeAnd, flat_map, filter, ◌==◌}
use Rattle.std.proofs.lemmas.List.Elements.{All-nil, All-cons, All-head, All-tail}
use Rattle.std.specs.List.{AllZip}
use Rattle.mate_files.specs.Sink.{Sent}
use Rattle.mate_journal.specs.Log.{Log, IsSameLog}
use Rattle.mate_journal.specs.NodeScript.{RunEnd, Whole, Full, Cut}
use Rattle.mate_journal.specs.Ranges.{HasLogRanges, HasAiredRanges, HasReportRanges}
use Rattle.mate_journal.specs.Tidy.{below}
use Rattle.mate_journal.specs.declared.air.Aired.{Aired}
use Rattle.mate_journal.specs.declared.report.Report.{Report}
use Rattle.journal_laws.proofs.GrowthLemmas.{same-ranges}
use Rattle.report_text.specs.Parts.{IsSameReport}
use Rattle.report_text.proofs.BackLemmas.{all_lines_same, text_same}
use Rattle.report_writer.specs.Text.{air_line, entry_lines, event_lines}
use Rattle.world_runs.proofs.RecordLemmas.{all-long}
use Rattle.report_writer.specs.Writing.{OfRun, IsWrittenPart, IsWrittenShort, IsNothingRun, WritesReport, last_event, lines_before, written_text}
use Rattle.report_writer.specs.declared.write_fault.WriteFault.{WriteFault}
use Rattle.report_writer.specs.declared.write_fault.WriteFault.TheVariants.{LogFull, NoMemory, Sink}
use Rattle.report_text.proofs.BackLemmas.{node_lines-same}
use Rattle.vm_shape.specs.declared.description.Description.{Description}
use Rattle.world_rules.specs.World.{World}
use Rattle.world_rules.specs.State.{Moment}
use Rattle.world_rules.specs.Report.{IsLogOf, IsWorldReport}
use Rattle.world_state.proofs.KeepingLemmas.{alike, tidy-as}

-- ---- it is a report of the same run

log-room : (w : World) (how : RunEnd) (ms : List Moment) (k : ℕ) (l : Log) (n : ℕ) → IsLogOf w how ms k l → IsLogOf w how ms k (record l { spare = n })
log-room w how ms k l n of = record { journal = of.journal; right = of.right; tidy = tidy-as w.description l n of.tidy; images = record { full = of.images.full } }

log-as : (w : World) (how : RunEnd) (ms : List Moment) (k : ℕ) (a b : Log) → IsSameLog a b → IsLogOf w how ms k b → IsLogOf w how ms k a
log-as w how ms k a b same of = subst (λ (l : Log). IsLogOf w how ms k l) (sym (alike a b same)) (log-room w how ms k b a.spare of)

logs-as : (w : World) (how : RunEnd) (ms : List Moment) (k j : ℕ) (xs ys : List Log) → AllZip IsSameLog xs ys → IsSomeAnd (slice_get ys j) (IsLogOf w how ms k) → IsSomeAnd (slice_get xs j) (IsLogOf w how ms k)
logs-as w how ms k j [] [] all of = of
logs-as w how ms k j [] (y ∷ ys) all of = absurd all
logs-as w how ms k j (x ∷ xs) [] all of = absurd all
logs-as w how ms k zero (x ∷ xs) (y ∷ ys) all of = log-as w how ms k x y all.0 of
logs-as w how ms k (suc j) (x ∷ xs) (y ∷ ys) all of = logs-as w how ms k j xs ys all.1 of

pub report-as : (w : World) (how : RunEnd) (a b : Report) → IsSameReport a b → IsWorldReport w how b → IsWorldReport w how a
report-as w how a b same of = record {
  moments = of.moments;
  come = of.come;
  at_end = of.at_end;
  air = same.air ∙ of.air;
  nodes = all-long a.nodes b.nodes same.nodes ∙ of.nodes;
  logs = λ k low. logs-as w how of.moments k k a.nodes b.nodes same.nodes (of.logs k low);
  whole = same.whole ∙ of.whole;
  events = same.events ∙ of.events;
}

-- its numbers are in the same ranges
logs-ranges : (xs ys : List Log) → AllZip IsSameLog xs ys → All HasLogRanges ys → All HasLogRanges xs
logs-ranges [] ys all has = All-nil HasLogRanges
logs-ranges (x ∷ xs) [] all has = absurd all
logs-ranges (x ∷ xs) (y ∷ ys) all has =
    All-cons HasLogRanges x xs (same-ranges x y all.0 (All-head HasLogRanges y ys has)) (logs-ranges xs ys all.1 (All-tail HasLogRanges y ys has))

pub ranges-as : (a b : Report) → IsSameReport a b → HasReportRanges b → HasReportRanges a
ranges-as a b same has = record {
  nodes = logs-ranges a.nodes b.nodes same.nodes has.nodes;
  air = subst (λ (xs : List Aired). All HasAiredRanges xs) (sym same.air) has.air;
  events = subst (λ (n : ℕ). n < 2 ^ 64) (sym same.events) has.events;
}

-- ---- it was written so

no-nodes : (xs ys : List Log) → AllZip IsSameLog xs ys → ys ≡ [] → xs ≡ []
no-nodes [] ys all none = refl
no-nodes (x ∷ xs) [] all none = absurd all
no-nodes (x ∷ xs) (y ∷ ys) all none = absurd (some-none none) where
  some-none : y ∷ ys ≡ [] → ⊥
  some-none e = cc

events-lines : (d : Description) (a b : Report) → IsSameReport a b → (events : List ℕ) → flat_map (event_lines d a) events ≡ flat_map (event_lines d b) events
events-lines d a b same [] = refl
events-lines d a b same (k ∷ events) =
    let air : List Aired → List ℕ = λ xs. flat_map air_line (filter (λ (x : Aired). x.stamp.event == k) xs) in
    let one : event_lines d a k ≡ event_lines d b k = ap (λ (xs : List Aired). air xs ++ entry_lines d k 0 a.nodes) same.air ∙ ap (λ (bs : List ℕ). air b.air ++ bs) (node_lines-same d k 0 a.nodes b.nodes same.nodes) in
    ap (λ (bs : List ℕ). bs ++ flat_map (event_lines d a) events) one ∙ ap (λ (bs : List ℕ). event_lines d b k ++ bs) (events-lines d a b same events)

module _ (d : Description) (Is Has : OfRun) (out out' : Option (List ℕ)) (a b : Report) (same : IsSameReport a b) (has : (how : RunEnd) → Is how b → Has how a) where
  written-same : (how : RunEnd) → written_text how d b ≡ written_text how d a
  written-same Whole = sym (text_same d a b same)
  written-same Full = sym (text_same d a b same)
  written-same Cut = sym (all_lines_same d a b same)

  before-same : (n : ℕ) → lines_before d b n ≡ lines_before d a n
  before-same n = sym (events-lines d a b same (below n))

  part-same : IsWrittenPart d Is out out' b → IsWrittenPart d Has out out' a
  part-same p = record {
    how = p.how;
    report = has p.how p.report;
    part = record { front = p.part.front; rest = p.part.rest; whole = p.part.whole ∙ written-same p.how; appended = p.part.appended };
    more = p.more;
    covers = p.covers ∙ ap (λ (bs : List ℕ). bs ++ p.more) (before-same (last_event p.how b.events) ∙ ap (λ (n : ℕ). lines_before d a (last_event p.how n)) (sym same.events));
  }

  short-same : IsWrittenShort d Is out out' b → IsWrittenShort d Has out out' a
  unfolding part-same
  short-same s = record { written = part-same s.written; unsent = s.unsent }

  nothing-same : IsNothingRun out out' b → IsNothingRun out out' a
  nothing-same none = record {
    report = λ i. record {
      nodes = (no-nodes a.nodes b.nodes same.nodes (ap (λ (r : Report). r.nodes) none.report)) i;
      air = (same.air ∙ ap (λ (r : Report). r.air) none.report) i;
      events = (same.events ∙ ap (λ (r : Report). r.events) none.report) i;
      whole = (same.whole ∙ ap (λ (r : Report). r.whole) none.report) i;
    };
    same = none.same;
  }

  pub gives-as : (f f' : ℕ) (result : Result (Unit {0}) WriteFault) → WritesReport d Is out out' f f' result b → WritesReport d Has out out' f f' result a
  gives-as f f' (Ok all) gives = (has Whole gives.0, subst (λ (bs : List ℕ). Sent out out' bs) (written-same Whole) gives.1)
  gives-as f f' (Err LogFull) gives = (has Full gives.0, subst (λ (bs : List ℕ). Sent out out' bs) (written-same Full) gives.1)
  gives-as f f' (Err NoMemory) (inl none) = inl (nothing-same none)
  gives-as f f' (Err NoMemory) (inr part) = inr (part-same part)
  gives-as f f' (Err Sink) gives = (short-same gives.0, gives.1)
