use Rattle.std.proofs.Common.{List, ℕ, ◌++◌, ap, sym, ◌∙◌, append_assoc, slice_get}
use Rattle.std.specs.Prelude.{codes}
use Rattle.mate_files.proofs.PenLemmas.{Prints-by}
use Rattle.report_writer.specs.Words.{stamp_words, seen_words}
use Rattle.report_writer.proofs.ChunkLemmas.{◌⋙◌, alone}
use Rattle.report_writer.proofs.entry_line.large_seen_line.Goals as goal

pub returns : goal.returns
returns g c =
    let stamp : List ℕ = stamp_words c.args.stamp c.args.node in
    let words : List ℕ = codes " seen" ++ seen_words c.args.desc.now (slice_get c.args.log.now.stores c.args.store) in
    Prints-by (ap (λ (z : List ℕ). stamp ++ z) (alone c.new-line.ensures.value (c.seen_in_front.ensures.adds ⋙ c.byte.ensures.adds)) ∙ sym (append_assoc stamp words (codes "\n"))) c.print_line.ensures
