-- The text of a tidy report is read as that report.
use Rattle.std.proofs.Common.{◌≡◌, ℕ, zero, suc, ◌<◌, ◌≤◌, List, [], ◌∷◌, ◌++◌, length, map, take, get_or, Result, Ok, Err, refl, sym, ap, subst, ◌∙◌, arith, length-append}
use Rattle.std.specs.Prelude.{All, flat_map, codes, ◌^◌}
use Rattle.std.specs.List.{AllZip}
use Rattle.std.proofs.lemmas.List.{take_all}
use Rattle.std.proofs.lemmas.List.Elements.{AllZip-push}
use Rattle.vm_shape.specs.declared.description.Description.{Description}
use Rattle.mate_journal.specs.Log.{Log, IsSameLog}
use Rattle.mate_journal.specs.Ranges.{HasReportRanges}
use Rattle.mate_journal.specs.Tidy.{below}
use Rattle.mate_journal.specs.declared.entry.Entry.{Entry}
use Rattle.mate_journal.specs.declared.entry.Entry.TheVariants as entry
use Rattle.mate_journal.specs.declared.air.Aired.{Aired}
use Rattle.mate_journal.specs.declared.report.Report.{Report}
use Rattle.report_writer.specs.Text.{events_end, records, text}
use Rattle.report_writer.specs.Tidy.{IsTidy}
use Rattle.report_writer.proofs.TextLemmas.{below_end}
use Rattle.report_writer.proofs.MergeLemmas.{below_end-air}
use Rattle.report_line_reader.specs.declared.line.Line.{Line}
use Rattle.report_line_reader.specs.Told.{line_words, line_text}
use Rattle.report_text.specs.LastLines.{last_text}
use Rattle.report_text.specs.Fits.{FitsLast, IsToldBelow, IsLineBelow}
use Rattle.report_text.specs.Parts.{no_log, log_of, logs_of, report_of, IsSameReport}
use Rattle.report_text.specs.Reads.{text_of_lines, AreLines, ReadsReport}
use Rattle.report_text.specs.Written.{told_by_entry, lines_at, lines_of, last_in_text, GivesBack}
use Rattle.report_text.specs.declared.last_line.LastLine.{LastLine}
use Rattle.report_text.specs.declared.fault.TextFault.{TextFault}
use Rattle.report_text.specs.declared.fault.TextFault.TheVariants.{BadLine, NoMemory}
use Rattle.report_text.proofs.PartLemmas.{take-push, map-push}
use Rattle.report_text.proofs.BackLemmas.{none-written, written-from, counts-same}
use Rattle.report_text.proofs.LinesLemmas.{log-of_lines, air-of_lines}
use Rattle.report_text.proofs.RoundLemmas.{lines-fit, lines-all, events-text}
use Rattle.report_text.proofs.VerdictLemmas.{one_list, no_bad_line}

told-below : (n : ℕ) (l : Log) (x : Entry) → IsToldBelow n (told_by_entry l x)
told-below n l (entry.Post i h c payload) = tt
told-below n l _ = tt

lines-below : (d : Description) (r : Report) (events : List ℕ) → IsTidy d r → All (IsLineBelow (length r.nodes)) (flat_map (lines_at r) events)
lines-below d r events t =
    lines-all (IsLineBelow (length r.nodes)) r events (λ k x q. (let a = t.air_in_range k x q in record { node = a.0; told = a.1 }))
    (λ i x q k e p. record { node = q; told = told-below (length r.nodes) (get_or r.nodes i x) (get_or (get_or r.nodes i x).entries k e).entry })

zip-below : (f : ℕ → Log) (xs : List Log) (n : ℕ) → n ≤ length xs → ((k : ℕ) (d : Log) → k < n → IsSameLog (get_or xs k d) (f k)) → AllZip IsSameLog (take n xs) (map f (below n))
zip-below f xs zero h same = tt
zip-below f xs (suc n) h same =
    let ih = zip-below f xs n (omega (arith, h)) (λ k d q. same k d (omega (arith, q))) in
    subst (λ (ys : List Log). AllZip IsSameLog ys (map f (below (suc n)))) (sym (take-push xs n no_log (omega (arith, h))))
    (subst (AllZip IsSameLog (take n xs ++ get_or xs n no_log ∷ [])) (sym (map-push f (below n) n))
    (AllZip-push IsSameLog (take n xs) (map f (below n)) (get_or xs n no_log) (f n) ih (same n no_log (omega arith))))

same-nodes : (d : Description) (r : Report) → IsTidy d r → AllZip IsSameLog r.nodes (logs_of (length r.nodes) (lines_of r))
same-nodes d r t =
    subst (λ (xs : List Log). AllZip IsSameLog xs (logs_of (length r.nodes) (lines_of r))) (take_all (length r.nodes) r.nodes (omega arith))
    (zip-below (λ node. log_of node (lines_of r)) r.nodes (length r.nodes) (omega arith)
    (λ k x q. (let log = t.logs k x q in log-of_lines r k (events_end r) x q log.ordered log.numbered (below_end r k x q))))

same_report : (d : Description) (r : Report) → IsTidy d r → IsSameReport r (report_of (lines_of r) (last_in_text r))
same_report d r t = record { nodes = same-nodes d r t; air = sym (air-of_lines r (events_end r) t.air_ordered (below_end-air r)); events = refl; whole = refl }

-- each line is one byte long at least
lines-long : (d : Description) (ls : List Line) → length ls ≤ length (text_of_lines d ls)
lines-long d [] = omega arith
lines-long d (l ∷ ls) =
    let rest = lines-long d ls in
    let long = length-append (line_text d l) (text_of_lines d ls) in
    let own = length-append (line_words d l) (codes "\n") in
    let end : length (codes "\n") ≡ 1 = refl in
    omega (arith, rest, long, own, end)

record-count : (d : Description) (r : Report) → IsTidy d r → HasReportRanges r → records r ≡ length (lines_of r)
record-count d r t ranges =
    let fit = lines-fit d r (events_end r) t ranges in
    let e = last_in_text r in
    let w = written-from d e [] (lines_of r) (none-written d e) fit.order.ordered fit.sound (lines-below d r (below (events_end r)) t) in
    let s = same_report d r t in
    let air = ap (λ (xs : List Aired). length xs) s.air in
    let logs = counts-same 0 r.nodes (logs_of (length r.nodes) (lines_of r)) s.nodes in
    let count = w.count in
    omega (arith, air, logs, count)

lines-text : (d : Description) (r : Report) → IsTidy d r → text d r ≡ text_of_lines d (lines_of r) ++ last_text (last_in_text r)
lines-text d r t = ap (λ (x : List ℕ). x ++ last_text (last_in_text r)) (events-text d r (below (events_end r)) (λ k x q. (t.logs k x q).numbered))

last-fits : (d : Description) (r : Report) → IsTidy d r → HasReportRanges r → length (text d r) < 2 ^ 64 → FitsLast (lines_of r) (last_in_text r)
last-fits d r t ranges short =
    let count = record-count d r t ranges in
    let long = lines-long d (lines_of r) in
    let both = ap (λ (bs : List ℕ). length bs) (lines-text d r t) ∙ length-append (text_of_lines d (lines_of r)) (last_text (last_in_text r)) in
    let high = t.nodes_high in record {
      ranges = record { records = omega (arith, count, long, both, short); events = ranges.events; nodes = omega (arith, high) };
      records = count;
      low = t.nodes_low;
      high = t.nodes_high;
      above = lines-below d r (below (events_end r)) t;
    }

pub written-lines : (d : Description) (r : Report) → IsTidy d r → HasReportRanges r → length (text d r) < 2 ^ 64 → AreLines d (text d r) (lines_of r) (last_in_text r)
written-lines d r t ranges short = record {
  fitting = lines-fit d r (events_end r) t ranges;
  last = last-fits d r t ranges short;
  text = lines-text d r t;
}

pub zip-sym : (xs ys : List Log) → AllZip IsSameLog xs ys → AllZip IsSameLog ys xs
zip-sym [] [] z = tt
zip-sym [] (y ∷ ys) z = absurd z
zip-sym (x ∷ xs) [] z = absurd z
zip-sym (x ∷ xs) (y ∷ ys) z = (record { entries = sym z.0.entries; images = sym z.0.images; stores = sym z.0.stores }, zip-sym xs ys z.1)

zip-trans : (xs ys zs : List Log) → AllZip IsSameLog xs ys → AllZip IsSameLog ys zs → AllZip IsSameLog xs zs
zip-trans [] [] [] a b = tt
zip-trans [] [] (z ∷ zs) a b = absurd b
zip-trans [] (y ∷ ys) zs a b = absurd a
zip-trans (x ∷ xs) [] zs a b = absurd a
zip-trans (x ∷ xs) (y ∷ ys) [] a b = absurd b
zip-trans (x ∷ xs) (y ∷ ys) (z ∷ zs) a b =
    (record { entries = a.0.entries ∙ b.0.entries; images = a.0.images ∙ b.0.images; stores = a.0.stores ∙ b.0.stores }, zip-trans xs ys zs a.1 b.1)

same-both : (a b c : Report) → IsSameReport a c → IsSameReport b c → IsSameReport a b
same-both a b c s t = record {
  nodes = zip-trans a.nodes c.nodes b.nodes s.nodes (zip-sym b.nodes c.nodes t.nodes);
  air = s.air ∙ sym t.air;
  events = s.events ∙ sym t.events;
  whole = s.whole ∙ sym t.whole;
}

pub gives_back : (d : Description) (bytes : List ℕ) (result : Result Report TextFault) → length bytes ≤ 4000000000 → ReadsReport d bytes result → (r : Report) → IsTidy d r → HasReportRanges r → bytes ≡ text d r → GivesBack r result
gives_back d bytes result few h r t ranges e = by result h where
  written : AreLines d bytes (lines_of r) (last_in_text r)
  written =
      let long : length (text d r) ≡ length bytes = ap (λ (bs : List ℕ). length bs) (sym e) in
      subst (λ (bs : List ℕ). AreLines d bs (lines_of r) (last_in_text r)) (sym e) (written-lines d r t ranges (omega (arith, long, few)))

  by : (result : Result Report TextFault) → ReadsReport d bytes result → GivesBack r result
  by (Err NoMemory) h = tt
  by (Err (BadLine n)) h = no_bad_line d bytes (lines_of r) (last_in_text r) n written h
  by (Ok x) h =
      let s = one_list d bytes h.ls (lines_of r) h.e (last_in_text r) h.lines written in
      let is : IsSameReport x (report_of (lines_of r) (last_in_text r)) =
      subst (λ (f : LastLine). IsSameReport x (report_of (lines_of r) f)) s.last (subst (λ (ls : List Line). IsSameReport x (report_of ls h.e)) s.lines h.is) in
      same-both x r (report_of (lines_of r) (last_in_text r)) is (same_report d r t)
