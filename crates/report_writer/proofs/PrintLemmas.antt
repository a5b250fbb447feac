-- More on pens, beside the lemmas of the pen's crate, and the lines of counts.
use Rattle.std.proofs.Common.{◌≡◌, ℕ, List, ◌++◌, ◌∷◌, [], length, Result, ap, sym, ◌∙◌, append-nil}
use Rattle.std.specs.Prelude.{flat_map}
use Rattle.std.proofs.lemmas.Grind.{flat_map-append}
use Rattle.std.specs.declared.option.Option.{Option}
use Rattle.mate_files.specs.Pen.{Prints}
use Rattle.mate_files.proofs.PenLemmas.{Prints-by, Prints-nil, ◌⟫◌}
use Rattle.mate_files.specs.declared.sink.SinkFault.{SinkFault}
use Rattle.mate_journal.specs.declared.report.Report.{Report}
use Rattle.report_writer.specs.Text.{records}
use Rattle.report_writer.specs.Brief.{entries_of, air_of, text_of_counts, count_lines}
use Rattle.report_writer.specs.declared.kinds.EntryKind.{EntryKind}
use Rattle.report_writer.specs.declared.kinds.EntryKind.TheVariants as entry_kind
use Rattle.report_writer.specs.declared.kinds.AirKind.{AirKind}
use Rattle.report_writer.specs.declared.kinds.AirKind.TheVariants as air_kind
use Rattle.report_writer.specs.Tally.{entries_counted, air_counted}
use Rattle.report_writer.specs.declared.tally.EntryCounts.{EntryCounts}
use Rattle.report_writer.specs.declared.tally.AirTally.{AirTally}

-- the piece of one more item
pub Prints-push : {w0 w1 w2 : Option (List ℕ)} {f0 f1 f2 : ℕ} {r0 r1 r2 : Result (Unit {0}) SinkFault} {A : Type 0} (piece : A → List ℕ) (xs ys : List A) (x : A)
    → ys ≡ xs ++ x ∷ [] → Prints w0 f0 r0 w1 f1 r1 (flat_map piece xs) → Prints w1 f1 r1 w2 f2 r2 (piece x) → Prints w0 f0 r0 w2 f2 r2 (flat_map piece ys)
Prints-push piece xs ys x e p q =
    Prints-by (sym (ap (flat_map piece) e ∙ flat_map-append piece xs (x ∷ []) ∙ ap (λ zs. flat_map piece xs ++ zs) (append-nil (piece x)))) (p ⟫ q)

-- no items
pub Prints-none : {w : Option (List ℕ)} {f : ℕ} {r : Result (Unit {0}) SinkFault} {A : Type 0} (piece : A → List ℕ) (xs : List A) → xs ≡ [] → Prints w f r w f r (flat_map piece xs)
Prints-none piece xs e = Prints-by (sym (ap (flat_map piece) e)) Prints-nil

-- the lines of counts that are a report's
pub same-counts : (r : Report) (nodes events all : ℕ) (counts : EntryCounts) (aired : AirTally) → nodes ≡ length r.nodes → events ≡ r.events → all ≡ records r
    → ((k : EntryKind) → entries_counted k counts ≡ entries_of k r.nodes) → ((k : AirKind) → air_counted k aired ≡ air_of k r.air)
    → text_of_counts nodes events all counts.posts counts.drops counts.halts counts.faults counts.installs aired.sent aired.got aired.lost ≡ count_lines r
same-counts r nodes events all counts aired n e a of_kind of_air =
    let posts = of_kind entry_kind.Post in let drops = of_kind entry_kind.Drop in let halts = of_kind entry_kind.Halt in
    let faults = of_kind entry_kind.Fault in let installs = of_kind entry_kind.Install in
    let sent = of_air air_kind.Sent in let got = of_air air_kind.Got in let lost = of_air air_kind.Lost in
    cc
