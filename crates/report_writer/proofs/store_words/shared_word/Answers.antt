use Rattle.std.proofs.Common.{ap}
use Rattle.std.specs.Prelude.{ℤ}
use Rattle.std.proofs.lemmas.Int.{to_z-of_z}
use mir.Syntax.{w16}
use Rattle.report_writer.specs.Words.{shared_word, word}
use Rattle.report_writer.proofs.ChunkLemmas.{◌⋙◌, IsInFront-by}
use Rattle.report_writer.proofs.store_words.shared_word.Goals as goal

pub returns-clause-adds : goal.returns-clause-adds
returns-clause-adds g c =
    let named = IsInFront-by (ap word c.as_bytes.ensures.value) (c.byte-2.ensures.adds ⋙ c.text.ensures.adds) in
    IsInFront-by (ap (λ (z : ℤ). shared_word (c.args.name.now, z)) (to_z-of_z w16 c.args.value c.ranges.value)) (named ⋙ c.byte.ensures.adds ⋙ c.value.ensures.adds)
