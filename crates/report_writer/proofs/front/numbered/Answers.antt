use Rattle.report_writer.proofs.ChunkLemmas.{◌⋙◌}
use Rattle.report_writer.proofs.front.numbered.Goals as goal

pub returns-clause-adds : goal.returns-clause-adds
returns-clause-adds g c = c.text.ensures.adds ⋙ c.number_in_front.ensures.adds
