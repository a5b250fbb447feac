use Rattle.std.proofs.Common.{List, ℕ, ◌++◌, ap}
use Rattle.mate_files.proofs.PenLemmas.{Prints-by}
use Rattle.report_writer.specs.Words.{stamp_words}
use Rattle.report_writer.proofs.ChunkLemmas.{◌⋙◌, alone}
use Rattle.report_writer.proofs.entry_line.install_head.Goals as goal

pub returns : goal.returns
returns g c =
    let stamp : List ℕ = stamp_words c.args.stamp c.args.node in
    let words = c.text.ensures.adds ⋙ c.word_in_front.ensures.adds ⋙ c.number_in_front.ensures.adds ⋙ c.byte.ensures.adds in
    Prints-by (ap (λ (z : List ℕ). stamp ++ z) (alone c.new-line.ensures.value words)) c.print_line.ensures
