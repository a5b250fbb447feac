use Rattle.report_writer.proofs.ChunkLemmas.{◌⋙◌}
use Rattle.report_writer.proofs.entry_line.post_in_front.Goals as goal

pub returns-clause-adds : goal.returns-clause-adds
returns-clause-adds c = c.numbered.ensures.adds ⋙ c.word_in_front.ensures.adds ⋙ c.place_in_front.ensures.adds
