use Rattle.std.proofs.Common.{List, ℕ, ◌++◌, codes, ap, sym, ◌∙◌, append_assoc}
use Rattle.mate_files.proofs.PenLemmas.{Prints-by}
use Rattle.report_writer.specs.Words.{stamp_words, air_words}
use Rattle.report_writer.proofs.ChunkLemmas.{◌⋙◌, alone}
use Rattle.report_writer.proofs.air_line.air_line.Goals as goal

pub returns : goal.returns
returns g c =
    let stamp : List ℕ = stamp_words c.args.aired.now.stamp c.args.aired.now.node in
    Prints-by (ap (λ (z : List ℕ). stamp ++ z) (alone c.new-line.ensures.value (c.air_in_front.ensures.adds ⋙ c.byte.ensures.adds)) ∙ sym (append_assoc stamp (air_words c.args.aired.now.air) (codes "\n"))) c.print_line.ensures
