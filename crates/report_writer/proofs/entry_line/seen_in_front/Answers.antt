use Rattle.report_writer.proofs.ChunkLemmas.{◌⋙◌}
use Rattle.report_writer.proofs.entry_line.seen_in_front.Goals as goal

pub returns-clause-adds : goal.returns-clause-adds
returns-clause-adds g c = c.text.ensures.adds ⋙ c.shown_in_front.ensures.adds
