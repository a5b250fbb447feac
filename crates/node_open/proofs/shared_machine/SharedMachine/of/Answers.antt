use Rattle.std.proofs.Common.{sym, ◌∙◌, ap, subst}
use Rattle.std.specs.Prelude.{All}
use Rattle.vm_shape.specs.declared.description.Description.{Description}
use Rattle.node_calls.specs.Installing.{IsReadyOn}
use Rattle.node_open.specs.Machines.{IsRightMachine}
use Rattle.node_open.specs.declared.shared_machine.Machine.{Machine}
use Rattle.node_open.proofs.shared_machine.SharedMachine.of.Goals as goal

pub invariant_of-result : goal.invariant_of-result
invariant_of-result c = subst IsRightMachine (sym c.in-Ok.ensures.ok) (record { ready = subst (λ (d : Description). All (IsReadyOn d) c.args.ready.items) (sym c.copy.ensures) c.requires })

pub returns-in-Ok : goal.returns-in-Ok
returns-in-Ok c = ap (λ (m : Machine). m.description) c.in-Ok.ensures.ok ∙ c.copy.ensures

pub returns : goal.returns
returns c = tt
