-- Lemmas on `specs/Brief.antt`.
use Rattle.std.proofs.Common.{◌≡◌, ℕ, suc, ◌+◌, List, Result, ap, sym, ◌∙◌, arith}
use Rattle.std.specs.Prelude.{flat_map, Option}
use Rattle.mate_files.specs.Pen.{Prints}
use Rattle.mate_files.proofs.PenLemmas.{◌⟫◌, Prints-by}
use Rattle.mate_files.specs.declared.sink.SinkFault.{SinkFault}
use Rattle.mate_journal.specs.Tidy.{below}
use Rattle.report_writer.proofs.EventLemmas.{flat_map-below_next}

-- the line of one more number
pub Prints-below : {w0 w1 w2 : Option (List ℕ)} {f0 f1 f2 : ℕ} {r0 r1 r2 : Result (Unit {0}) SinkFault} (line : ℕ → List ℕ) (n : ℕ)
    → Prints w0 f0 r0 w1 f1 r1 (flat_map line (below n)) → Prints w1 f1 r1 w2 f2 r2 (line n) → Prints w0 f0 r0 w2 f2 r2 (flat_map line (below (n + 1)))
Prints-below line n before here =
    let more : suc n ≡ n + 1 = omega arith in
    Prints-by (sym (flat_map-below_next line n) ∙ ap (λ (k : ℕ). flat_map line (below k)) more) (before ⟫ here)
