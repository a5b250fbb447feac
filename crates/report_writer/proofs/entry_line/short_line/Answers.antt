use Rattle.std.proofs.Common.{List, ℕ, ◌++◌, ap, sym, ◌∙◌, append_assoc}
use Rattle.std.specs.Prelude.{codes}
use Rattle.mate_files.proofs.PenLemmas.{Prints-by}
use Rattle.report_writer.specs.Words.{stamp_words, entry_words}
use Rattle.report_writer.proofs.ChunkLemmas.{◌⋙◌, alone}
use Rattle.report_writer.proofs.entry_line.short_line.Goals as goal

pub returns : goal.returns
returns g c = λ log.
    let stamp : List ℕ = stamp_words c.args.stamp c.args.node in
    let words : List ℕ = entry_words c.args.desc.now log c.args.entry.now in
    Prints-by (ap (λ (z : List ℕ). stamp ++ z) (alone c.new-line.ensures.value (c.short_in_front.ensures.adds log ⋙ c.byte.ensures.adds)) ∙ sym (append_assoc stamp words (codes "\n"))) c.print_line.ensures
