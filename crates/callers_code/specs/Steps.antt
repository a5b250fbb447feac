-- An invocation that can take a step.
use Rattle.std.specs.Prelude.{◌≡◌, ℤ, List, Some}
use Rattle.mate_num.specs.declared.store.Store.{Store}
use Rattle.mate_code.specs.declared.instr.Instr.{Instr}
use Rattle.mate_code.specs.Effect.{Private}
use Rattle.mate_code.specs.Run.{fetch}
use Rattle.code_verifier.specs.Verified.{VerifiedCode, IsAtVerified}
use Rattle.exec_unit.specs.Step.{HasLengths}

-- it fits the code, and the store the machine; it is at this instruction, with these values on its stack, the top first
pub record StandsAt (v : VerifiedCode) (p : Private) (s : Store) (i : Instr) (stack : List ℤ) : Type 0 where
  pub fits : IsAtVerified v p
  pub lengths : HasLengths v.shape s
  pub next : fetch v.code p.pc ≡ Some i
  pub stack_is : p.stack ≡ stack
