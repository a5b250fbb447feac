-- What the pass, and its check of one instruction, answer.
use Rattle.std.specs.Prelude.{◌≡◌, ℕ, Bool, Result, Ok, Err, None, Some, ⊤}
use Rattle.mate_num.specs.declared.shape.Shape.{Shape}
use Rattle.mate_code.specs.declared.instr.Instr.{Instr}
use Rattle.mate_code.specs.Run.{Code}
use Rattle.mate_code.specs.Verification.{Marks, first_marks, refusal_at, instr_marks, pass, halts}
use Rattle.mate_code.specs.declared.fault.VerifyFault.{VerifyFault}

-- the pass comes to its end, and says whether the code does; or it gives its refusal
abbrev pub PassGives : Shape → Code → Result Bool VerifyFault → Type 0
PassGives shape code (Ok ends) = (marks : Marks) × (pass shape code first_marks code ≡ Ok marks) × (ends ≡ halts code)
PassGives shape code (Err fault) = pass shape code first_marks code ≡ Err fault

-- the instruction is right and leaves its marks; or it is refused
abbrev pub CheckGives : Shape → Code → ℕ → Instr → Marks → Result ⊤ VerifyFault → Marks → Type 0
CheckGives shape code place i old (Ok _) new = (refusal_at shape code old place i ≡ None) × (new ≡ instr_marks shape place i old)
CheckGives shape code place i old (Err fault) new = refusal_at shape code old place i ≡ Some fault
