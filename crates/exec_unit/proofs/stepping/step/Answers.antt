use Rattle.std.proofs.Common.{sym, subst}
use Rattle.mate_code.specs.Effect.{Private}
use Rattle.code_verifier.specs.Verified.{IsAtVerified}
use Rattle.exec_unit.specs.Machine.{private_in}
use Rattle.exec_unit.specs.Step.{IsStep}
use Rattle.exec_unit.proofs.stepping.step.Goals as goal

pub execute-requires-clause-fits : goal.execute-requires-clause-fits
execute-requires-clause-fits c = let P : Private → Type 0 = λ p. IsAtVerified c.args.code.now p in subst P (sym c.machine.view_is) c.requires.fits

pub returns : goal.returns
returns c =
    let P : Private → Type 0 = λ p. IsStep c.args.code.now p c.args.heap.now c.execute.result (private_in c.execute.new.registers c.execute.new.memory) c.execute.new.heap in
    subst P c.machine.view_is c.execute.ensures
