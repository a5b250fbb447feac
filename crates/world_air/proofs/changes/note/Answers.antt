use Rattle.world_air.proofs.ChangeLemmas.{adds-record}
use Rattle.world_air.proofs.changes.note.Goals as goal

pub returns : goal.returns
returns c = adds-record c.args.radio.now c.note.new.self _ c.in_ok-note.ensures
