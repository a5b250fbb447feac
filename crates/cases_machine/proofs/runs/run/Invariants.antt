use Rattle.code_verifier.specs.Verified.{IsAtVerified}
use Rattle.exec_unit.specs.Step.{HasLengths}
use Rattle.cases_machine.proofs.runs.run.Given as goal

abbrev pub invariant-steps : goal.invariant-steps
invariant-steps l = record {
  fits : IsAtVerified l.code l.machine;
  lengths : HasLengths l.code.shape l.heap;
}
