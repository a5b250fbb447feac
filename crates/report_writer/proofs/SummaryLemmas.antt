-- The text of a summary is that of its report.
use Rattle.std.proofs.Common.{◌≡◌, ℕ, zero, suc, ◌+◌, ◌*◌, ◌^◌, ◌<◌, ◌==◌, max, Bool, cond, List, ◌++◌, ◌∷◌, [], length, codes, lit≤, refl, ap, sym, subst, ◌∙◌, arith}
use Rattle.std.specs.Prelude.{fold, flat_map, count_by, sum_by, if◌then◌else◌}
use Rattle.std.proofs.lemmas.List.Sums.{fold-append, sum_by-cons}
use Rattle.std.proofs.lemmas.List.Elements.{All-nil, All-cons}
use Rattle.vm_shape.specs.declared.description.Description.{Description}
use Rattle.mate_journal.specs.Log.{Log}
use Rattle.mate_journal.specs.Tidy.{below}
use Rattle.mate_journal.specs.declared.entry.Stamped.{Stamped}
use Rattle.mate_journal.specs.declared.report.Report.{Report}
use Rattle.report_writer.specs.Words.{number, word, handler_name}
use Rattle.report_writer.specs.Text.{records, end_word}
use Rattle.report_writer.specs.Brief.{is_entry, versions, last, text_of_counts, brief, air_of, entries_of as entries_of_logs, newest as newest_of_logs, holders as holders_of_logs, newest_line as line_of_logs, count_lines as lines_of_report}
use Rattle.report_writer.specs.declared.kinds.EntryKind.{EntryKind}
use Rattle.report_writer.specs.declared.kinds.EntryKind.TheVariants as entry_kind
use Rattle.report_writer.specs.declared.kinds.AirKind.TheVariants as air_kind
use Rattle.report_writer.proofs.EventLemmas.{flat_map-below_next}
use Rattle.report_writer.specs.Tally.{entries_counted, versions_at, IsUpTo, IsLogTally, AreLogTallies}
use Rattle.report_writer.specs.Summary.{SumsReport, AreSmall, IsSmall, IsOfNode, entries_summed, newest_counted, holders_counted, newest_line_counted, counted_lines, summary_text}
use Rattle.report_writer.specs.declared.tally.LogTally.{LogTally}
use Rattle.report_writer.specs.declared.summary.Summary.{Summary}

-- ---- sums over nodes

length-same : (n : ℕ) (ts : List LogTally) (ls : List Log) → AreLogTallies n ts ls → length ts ≡ length ls
length-same n [] [] are = refl
length-same n [] (l ∷ ls) are = absurd are
length-same n (t ∷ ts) [] are = absurd are
length-same n (t ∷ ts) (l ∷ ls) are = ap suc (length-same n ts ls are.1)

records-same : (n : ℕ) (ts : List LogTally) (ls : List Log) → AreLogTallies n ts ls → sum_by (λ (t : LogTally). t.entries) ts ≡ sum_by (λ (l : Log). length l.entries) ls
records-same n [] [] are = refl
records-same n [] (l ∷ ls) are = absurd are
records-same n (t ∷ ts) [] are = absurd are
records-same n (t ∷ ts) (l ∷ ls) are =
    let a = sum_by-cons (λ (x : LogTally). x.entries) t ts in
    let b = sum_by-cons (λ (x : Log). length x.entries) l ls in
    let here = are.0.entries in
    let rest = records-same n ts ls are.1 in
    omega (arith, a, b, here, rest)

entries-same : (k : EntryKind) (n : ℕ) (ts : List LogTally) (ls : List Log) → AreLogTallies n ts ls → entries_summed k ts ≡ entries_of_logs k ls
entries-same k n [] [] are = refl
entries-same k n [] (l ∷ ls) are = absurd are
entries-same k n (t ∷ ts) [] are = absurd are
entries-same k n (t ∷ ts) (l ∷ ls) are =
    let a = sum_by-cons (λ (x : LogTally). entries_counted k x.counts) t ts in
    let b = sum_by-cons (λ (x : Log). count_by (λ (e : Stamped). is_entry k e.entry) x.entries) l ls in
    let here = are.0.counts k in
    let rest = entries-same k n ts ls are.1 in
    omega (arith, a, b, here, rest)

-- the lines of counts that are a summary's
pub same-counts : (s : Summary) (ts : List LogTally) (all posts drops halts faults installs : ℕ) → ts ≡ s.nodes.items → all ≡ sum_by (λ (t : LogTally). t.entries) ts
    → posts ≡ entries_summed entry_kind.Post ts → drops ≡ entries_summed entry_kind.Drop ts → halts ≡ entries_summed entry_kind.Halt ts
    → faults ≡ entries_summed entry_kind.Fault ts → installs ≡ entries_summed entry_kind.Install ts
    → text_of_counts (length ts) s.events (s.air.records + all) posts drops halts faults installs s.air.sent s.air.got s.air.lost ≡ counted_lines s
same-counts s ts all posts drops halts faults installs is a p d h f i = cc

-- ---- the newest version

max-from : (a b : ℕ) (vs : List ℕ) → max a (fold max b vs) ≡ fold max (max a b) vs
max-from a b [] = refl
max-from a b (v ∷ vs) =
    let same : max a (max b v) ≡ max (max a b) v = omega arith in
    max-from a (max b v) vs ∙ ap (λ (m : ℕ). fold max m vs) same

module _ (h n : ℕ) (low : h < n) where
  abbrev newest_at : LogTally → ℕ
  newest_at t = (versions_at h t.versions.items).newest

  abbrev last_at : LogTally → ℕ
  last_at t = (versions_at h t.versions.items).last

  newest-from : (a : ℕ) (ts : List LogTally) (ls : List Log) → AreLogTallies n ts ls → fold (λ (m : ℕ) (t : LogTally). max m (newest_at t)) a ts ≡ fold max a (flat_map (versions h) ls)
  newest-from a [] [] are = refl
  newest-from a [] (l ∷ ls) are = absurd are
  newest-from a (t ∷ ts) [] are = absurd are
  newest-from a (t ∷ ts) (l ∷ ls) are =
      let here : newest_at t ≡ fold max 0 (versions h l) = ap (λ (v : _). v.newest) (are.0.versions h low) in
      let none : max a 0 ≡ a = omega arith in
      let step : max a (newest_at t) ≡ fold max a (versions h l) = ap (max a) here ∙ max-from a 0 (versions h l) ∙ ap (λ (m : ℕ). fold max m (versions h l)) none in
      ap (λ (m : ℕ). fold (λ (x : ℕ) (y : LogTally). max x (newest_at y)) m ts) step
      ∙ newest-from (fold max a (versions h l)) ts ls are.1
      ∙ sym (fold-append max a (versions h l) (flat_map (versions h) ls))

  holding-same : (m : ℕ) (ts : List LogTally) (ls : List Log) → AreLogTallies n ts ls → count_by (λ (t : LogTally). last_at t == m) ts ≡ count_by (λ (l : Log). last h l == m) ls
  holding-same m [] [] are = refl
  holding-same m [] (l ∷ ls) are = absurd are
  holding-same m (t ∷ ts) [] are = absurd are
  holding-same m (t ∷ ts) (l ∷ ls) are =
      let a = sum_by-cons (λ (x : LogTally). cond (last_at x == m) 1 0) t ts in
      let b = sum_by-cons (λ (x : Log). cond (last h x == m) 1 0) l ls in
      let here : cond {A = ℕ} (last_at t == m) 1 0 ≡ cond (last h l == m) 1 0 = ap (λ (v : _). cond {A = ℕ} (v.last == m) 1 0) (are.0.versions h low) in
      let rest = holding-same m ts ls are.1 in
      omega (arith, a, b, here, rest)

  line-same : (d : Description) (ts : List LogTally) (ls : List Log) → AreLogTallies n ts ls → newest_line_counted d ts h ≡ line_of_logs d ls h
  line-same d ts ls are =
      let version : newest_counted h ts ≡ newest_of_logs h ls = newest-from 0 ts ls are in
      let held : holders_counted h ts ≡ holders_of_logs h ls =
      ap (λ (m : ℕ). if m == 0 then 0 else count_by (λ (t : LogTally). last_at t == m) ts) version
      ∙ ap (λ (c : ℕ). if newest_of_logs h ls == 0 then 0 else c) (holding-same (newest_of_logs h ls) ts ls are) in
      let L : ℕ → ℕ → List ℕ = λ v c. codes "newest" ++ word (handler_name d (record { 0 = h })) ++ number v ++ number c ++ codes "\n" in
      ap (λ (v : ℕ). L v (holders_counted h ts)) version ∙ ap (L (newest_of_logs h ls)) held

-- ---- lines

lines-below : (f g : ℕ → List ℕ) (n : ℕ) → ((h : ℕ) → h < n → f h ≡ g h) → flat_map f (below n) ≡ flat_map g (below n)
lines-below f g zero same = refl
lines-below f g (suc n) same =
    flat_map-below_next f n
    ∙ ap (λ (xs : List ℕ). xs ++ f n) (lines-below f g n (λ h low. same h (omega (arith, low))))
    ∙ ap (λ (xs : List ℕ). flat_map g (below n) ++ xs) (same n (omega arith))
    ∙ sym (flat_map-below_next g n)

lines-same : (n1 n2 n3 n4 n5 n6 n7 n8 n9 n10 n11 m1 m2 m3 m4 m5 m6 m7 m8 m9 m10 m11 : ℕ) → n1 ≡ m1 → n2 ≡ m2 → n3 ≡ m3 → n4 ≡ m4 → n5 ≡ m5 → n6 ≡ m6 → n7 ≡ m7 → n8 ≡ m8 → n9 ≡ m9 → n10 ≡ m10 → n11 ≡ m11
    → text_of_counts n1 n2 n3 n4 n5 n6 n7 n8 n9 n10 n11 ≡ text_of_counts m1 m2 m3 m4 m5 m6 m7 m8 m9 m10 m11
lines-same n1 n2 n3 n4 n5 n6 n7 n8 n9 n10 n11 m1 m2 m3 m4 m5 m6 m7 m8 m9 m10 m11 p1 p2 p3 p4 p5 p6 p7 p8 p9 p10 p11 =
    ap (λ (x : ℕ). text_of_counts x n2 n3 n4 n5 n6 n7 n8 n9 n10 n11) p1
    ∙ ap (λ (x : ℕ). text_of_counts m1 x n3 n4 n5 n6 n7 n8 n9 n10 n11) p2
    ∙ ap (λ (x : ℕ). text_of_counts m1 m2 x n4 n5 n6 n7 n8 n9 n10 n11) p3
    ∙ ap (λ (x : ℕ). text_of_counts m1 m2 m3 x n5 n6 n7 n8 n9 n10 n11) p4
    ∙ ap (λ (x : ℕ). text_of_counts m1 m2 m3 m4 x n6 n7 n8 n9 n10 n11) p5
    ∙ ap (λ (x : ℕ). text_of_counts m1 m2 m3 m4 m5 x n7 n8 n9 n10 n11) p6
    ∙ ap (λ (x : ℕ). text_of_counts m1 m2 m3 m4 m5 m6 x n8 n9 n10 n11) p7
    ∙ ap (λ (x : ℕ). text_of_counts m1 m2 m3 m4 m5 m6 m7 x n9 n10 n11) p8
    ∙ ap (λ (x : ℕ). text_of_counts m1 m2 m3 m4 m5 m6 m7 m8 x n10 n11) p9
    ∙ ap (λ (x : ℕ). text_of_counts m1 m2 m3 m4 m5 m6 m7 m8 m9 x n11) p10
    ∙ ap (λ (x : ℕ). text_of_counts m1 m2 m3 m4 m5 m6 m7 m8 m9 m10 x) p11

counts-same : (d : Description) (s : Summary) (r : Report) → SumsReport d s r → counted_lines s ≡ lines_of_report r
counts-same d s r is =
    let n = length d.handlers.items in
    let ts = s.nodes.items in
    let ls = r.nodes in
    let kinds : (k : EntryKind) → entries_summed k ts ≡ entries_of_logs k ls = λ k. entries-same k n ts ls is.nodes in
    let all : s.air.records + sum_by (λ (t : LogTally). t.entries) ts ≡ records r = let a = is.air.records in let b = records-same n ts ls is.nodes in omega (arith, a, b) in
    lines-same (length ts) s.events (s.air.records + sum_by (λ (t : LogTally). t.entries) ts) (entries_summed entry_kind.Post ts) (entries_summed entry_kind.Drop ts) (entries_summed entry_kind.Halt ts)
    (entries_summed entry_kind.Fault ts) (entries_summed entry_kind.Install ts) s.air.sent s.air.got s.air.lost
    (length ls) r.events (records r) (entries_of_logs entry_kind.Post ls) (entries_of_logs entry_kind.Drop ls) (entries_of_logs entry_kind.Halt ls)
    (entries_of_logs entry_kind.Fault ls) (entries_of_logs entry_kind.Install ls) (air_of air_kind.Sent r.air) (air_of air_kind.Got r.air) (air_of air_kind.Lost r.air)
    (length-same n ts ls is.nodes) is.events all (kinds entry_kind.Post) (kinds entry_kind.Drop) (kinds entry_kind.Halt) (kinds entry_kind.Fault) (kinds entry_kind.Install)
    (is.air.counts air_kind.Sent) (is.air.counts air_kind.Got) (is.air.counts air_kind.Lost)

-- the text of what was counted is the summary of the report
pub text-same : (d : Description) (s : Summary) (r : Report) → SumsReport d s r → summary_text d s ≡ brief d r
text-same d s r is =
    let n = length d.handlers.items in
    let T : List ℕ → List ℕ → Bool → List ℕ = λ counts newest whole. counts ++ newest ++ end_word whole ++ codes "\n" in
    let lines = lines-below (newest_line_counted d s.nodes.items) (line_of_logs d r.nodes) n (λ h low. line-same h n low d s.nodes.items r.nodes is.nodes) in
    ap (λ (counts : List ℕ). T counts (flat_map (newest_line_counted d s.nodes.items) (below n)) s.whole) (counts-same d s r is)
    ∙ ap (λ (newest : List ℕ). T (lines_of_report r) newest s.whole) lines
    ∙ ap (T (lines_of_report r) (flat_map (line_of_logs d r.nodes) (below n))) is.whole

-- ---- a run on one node

pub node-summary : (d : Description) (t : LogTally) (events : ℕ) (whole : Bool) (s : Summary) (l : Log) → IsOfNode t events whole s → IsLogTally (length d.handlers.items) t l.entries
    → SumsReport d s (record { nodes = l ∷ []; air = []; events = events; whole = whole })
node-summary d t events whole s l is counted = record {
  nodes = subst (λ (ts : List LogTally). AreLogTallies (length d.handlers.items) ts (l ∷ [])) (sym is.nodes) (counted, tt);
  air = is.air;
  events = is.events_are;
  whole = is.whole_is;
}

pub node-small : (t : LogTally) (events : ℕ) (whole : Bool) (s : Summary) → IsOfNode t events whole s → IsUpTo (3 * 2 ^ 56) t → IsSmall s
node-small t events whole s is up =
    let none = is.air.records in record {
      nodes = subst AreSmall (sym is.nodes) (record { count = lit≤ tt; each = All-cons (IsUpTo (3 * 2 ^ 56)) t [] up (All-nil (IsUpTo (3 * 2 ^ 56))) });
      air = omega (arith, none);
    }
