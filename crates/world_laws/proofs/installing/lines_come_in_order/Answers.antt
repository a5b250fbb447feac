use Rattle.world_laws.proofs.Lines.{lines_in_order}
use Rattle.world_laws.proofs.installing.lines_come_in_order.Goals as goal

pub returns : goal.returns
returns c = λ w timely. lines_in_order w timely
