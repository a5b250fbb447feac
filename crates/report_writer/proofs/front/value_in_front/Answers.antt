use Rattle.report_writer.proofs.ChunkLemmas.{◌⋙◌, IsInFront-value}
use Rattle.report_writer.proofs.front.value_in_front.Goals as goal

pub returns-clause-adds : goal.returns-clause-adds
returns-clause-adds g c = IsInFront-value c.args.v c.ranges.v (c.byte.ensures.adds ⋙ c.value.ensures.adds)
