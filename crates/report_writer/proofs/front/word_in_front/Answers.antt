use Rattle.report_writer.proofs.ChunkLemmas.{◌⋙◌}
use Rattle.report_writer.proofs.front.word_in_front.Goals as goal

pub returns-clause-adds : goal.returns-clause-adds
returns-clause-adds g c = c.byte.ensures.adds ⋙ c.text.ensures.adds
