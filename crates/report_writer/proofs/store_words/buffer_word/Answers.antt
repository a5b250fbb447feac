use Rattle.std.proofs.Common.{ap}
use Rattle.report_writer.specs.Words.{word}
use Rattle.report_writer.proofs.ChunkLemmas.{◌⋙◌, IsInFront-by}
use Rattle.report_writer.proofs.store_words.buffer_word.Goals as goal

pub returns-clause-adds : goal.returns-clause-adds
returns-clause-adds g c =
    let named = IsInFront-by (ap word c.as_bytes.ensures.value) (c.byte-2.ensures.adds ⋙ c.text-2.ensures.adds) in
    named ⋙ c.text.ensures.adds ⋙ c.spaced_in_front.ensures.adds ⋙ c.byte.ensures.adds
