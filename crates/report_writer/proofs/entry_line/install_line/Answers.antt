use Rattle.std.proofs.Common.{List, ℕ, ◌++◌, ap, ◌∙◌, append_assoc}
use Rattle.std.specs.Prelude.{codes}
use Rattle.mate_files.proofs.PenLemmas.{◌⟫◌, Prints-by}
use Rattle.report_writer.specs.Words.{stamp_words, number, word, image_word}
use Rattle.report_writer.proofs.entry_line.install_line.Goals as goal

pub returns : goal.returns
returns g c =
    let stamp : List ℕ = stamp_words c.args.stamp c.args.node in
    let front : List ℕ = codes " install" ++ word c.args.handler.now ++ number c.args.version in
    let image : List ℕ = image_word c.args.image.now in
    Prints-by (ap (λ (z : List ℕ). z ++ codes "\n")
    (append_assoc stamp (front ++ codes " ") image ∙ ap (λ (z : List ℕ). stamp ++ z) (append_assoc front (codes " ") image)))
    (c.install_head.ensures ⟫ c.image_word.ensures ⟫ c.text.ensures)
