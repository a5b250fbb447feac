use Rattle.std.proofs.Common.{◌/◌, ◌%◌}
use Rattle.event_queue.proofs.MarkLemmas.{bit_of_zeros}
use Rattle.event_queue.proofs.marks.Marks.new.Goals as goal

pub returns : goal.returns
returns c = λ slot. bit_of_zeros (slot / 64) (slot % 64)
