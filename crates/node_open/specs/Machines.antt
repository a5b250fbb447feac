-- What nodes of one machine share.
use Rattle.std.specs.Prelude.{All}
use Rattle.node_calls.specs.Installing.{IsReadyOn}
use Rattle.node_open.specs.declared.shared_machine.Machine.{Machine}

pub record IsRightMachine (m : Machine) : Type 0 where
  pub ready : All (IsReadyOn m.description) m.ready.items
