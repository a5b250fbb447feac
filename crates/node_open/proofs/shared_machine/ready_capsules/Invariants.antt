use Rattle.std.specs.Prelude.{All}
use Rattle.node_calls.specs.Installing.{IsReadyOn}
use Rattle.node_open.proofs.shared_machine.ready_capsules.Given as goal

abbrev pub invariant-loop-program : goal.invariant-loop-program
invariant-loop-program l = All (IsReadyOn l.description) l.ready.items
