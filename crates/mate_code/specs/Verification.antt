-- Verification: one pass over code, with a depth of the stack at each place, and the first refusal.
use Rattle.std.specs.Prelude.{◌≡◌, ℕ, ◌+◌, ◌-◌, ◌<◌, ◌≤◌, Bool, true, false, not, IsTrue, ℤ, [], ◌∷◌, length, Option, None, Some, is_some}
use Rattle.mate_num.specs.Results.{◌>>=◌}
use Rattle.std.specs.Prelude.{Result, Ok, Err, nat_lt, nat_le, ◌==◌, if◌then◌else◌, ⊤}
use Rattle.std.specs.Option.{option_map_or}
use Rattle.mate_num.specs.Lists.{Along}
use Rattle.mate_num.specs.declared.bounds.TheConstants.{STACK_MAX}
use Rattle.mate_num.specs.declared.shape.Shape.{Shape}
use Rattle.mate_code.specs.declared.instr.Instr.{Instr}
use Rattle.mate_code.specs.Flow.{flow_of, pops_of, pushes_of, is_in_range}
use Rattle.mate_code.specs.declared.flow.Flow.TheVariants.{Next, Ends, Branches, Jumps, Returns}
use Rattle.mate_code.specs.declared.flow.Flow.{Flow}
use Rattle.mate_code.specs.declared.fault.VerifyFault.{VerifyFault}
use Rattle.mate_code.specs.declared.fault.VerifyFault.TheVariants.{BadTarget, BackJump, Underflow, Overflow, DepthDiffers, BadIndex, NoHalt}
use Rattle.mate_code.specs.Effect.{Private, Effect, Goes, Writes, Asks, Halts, Faults, Sticks, push}
use Rattle.mate_code.specs.Instr.{size_of}
use Rattle.mate_code.specs.Run.{Code, fetch}

-- the depths that were given to a place: none, one and the same, or two that differ
pub data DepthMark : Type 0 where
  Blank : DepthMark
  Depth : (n : ℕ) → DepthMark
  Clash : DepthMark

abbrev pub Marks : Type 0
Marks = ℕ → DepthMark

-- the mark of a place that is given one more depth
abbrev pub given : DepthMark → ℕ → DepthMark
given Blank n = Depth n
given (Depth m) n = if m == n then Depth m else Clash
given Clash n = Clash

-- the depth at a place; 0 if none was given
abbrev pub depth_in : DepthMark → ℕ
depth_in (Depth n) = n
depth_in _ = 0

abbrev pub depth_at : Marks → ℕ → ℕ
depth_at marks place = depth_in (marks place)

abbrev pub is_clash : DepthMark → Bool
is_clash Clash = true
is_clash _ = false

-- the marks after a place is given a depth
abbrev pub mark : ℕ → ℕ → Marks → Marks
mark place n marks = λ q. if q == place then given (marks q) n else marks q

-- place 0 has depth 0
abbrev pub first_marks : Marks
first_marks = mark 0 0 (λ _. Blank)

-- the depth after an instruction
abbrev pub depth_after : Shape → Instr → ℕ → ℕ
depth_after shape i depth = depth - pops_of shape i + pushes_of i

-- an instruction is at the place
abbrev pub is_start : Code → ℕ → Bool
is_start code place = is_some (fetch code place)

-- the target, if there is one, is a start
abbrev pub has_target : Code → Flow → Bool
has_target code (Branches target) = is_start code target
has_target code (Jumps target) = is_start code target
has_target code (Returns target) = is_start code target
has_target code _ = true

-- the target lies forward, and that of a going back doesn't
abbrev pub has_direction : ℕ → Flow → Bool
has_direction place (Branches target) = nat_lt place target
has_direction place (Jumps target) = nat_lt place target
has_direction place (Returns target) = nat_le target place
has_direction place _ = true

-- a going back has its target's depth
abbrev pub has_back_depth : Marks → ℕ → Flow → Bool
has_back_depth marks depth (Returns target) = depth_at marks target == depth
has_back_depth marks depth _ = true

-- the refusal if the test fails, and else what comes after it
abbrev pub demand : Bool → VerifyFault → Option VerifyFault → Option VerifyFault
demand true refusal rest = rest
demand false refusal rest = Some refusal

-- the first refusal at an instruction, in order
abbrev pub refusal_at : Shape → Code → Marks → ℕ → Instr → Option VerifyFault
refusal_at shape code marks place i =
    demand (not (is_clash (marks place))) (DepthDiffers place)
    (demand (is_in_range shape i) (BadIndex place)
    (demand (has_target code (flow_of i)) (BadTarget place)
    (demand (has_direction place (flow_of i)) (BackJump place)
    (demand (nat_le (pops_of shape i) (depth_at marks place)) (Underflow place)
    (demand (nat_le (depth_after shape i (depth_at marks place)) STACK_MAX) (Overflow place)
    (demand (has_back_depth marks (depth_after shape i (depth_at marks place)) (flow_of i)) (DepthDiffers place) None))))))

-- the marks that an instruction leaves: its depth goes on to the next place and to the target of a jump forward
abbrev pub marks_after : Flow → ℕ → ℕ → Marks → Marks
marks_after Next next depth marks = mark next depth marks
marks_after (Branches target) next depth marks = mark next depth (mark target depth marks)
marks_after (Jumps target) next depth marks = mark target depth marks
marks_after _ next depth marks = marks

abbrev pub instr_marks : Shape → ℕ → Instr → Marks → Marks
instr_marks shape place i marks = marks_after (flow_of i) (place + size_of i) (depth_after shape i (depth_at marks place)) marks

-- the pass over the rest of the code
unfoldable pub pass : Shape → Code → Marks → Code → Result Marks VerifyFault
pass shape code marks [] = Ok marks
pass shape code marks (p ∷ rest) =
    option_map_or Err (refusal_at shape code marks p.0 p.1) (pass shape code (instr_marks shape p.0 p.1 marks) rest)

-- the last instruction halts
abbrev pub is_end : Flow → Bool
is_end Ends = true
is_end _ = false

abbrev pub halts : Code → Bool
halts [] = false
halts (p ∷ []) = is_end (flow_of p.1)
halts (p ∷ q ∷ rest) = halts (q ∷ rest)

-- the depth at each place, or the first refusal
abbrev pub verification : Shape → Code → Result Marks VerifyFault
verification shape code = pass shape code first_marks code >>= (λ marks. if halts code then Ok marks else Err NoHalt)

-- the instructions are one after another, from this place on
abbrev pub AreFrom : ℕ → Code → Type 0
AreFrom = Along (λ place p. p.0 ≡ place) (λ place p. place + size_of p.1)

-- the code is verified, with these marks
pub record IsVerified (shape : Shape) (code : Code) (marks : Marks) : Type 0 where
  pub places : AreFrom 0 code
  pub passed : verification shape code ≡ Ok marks

-- an instruction is at the place, with that depth
pub record IsPlace (code : Code) (depth : ℕ → ℕ) (place n : ℕ) : Type 0 where
  pub start : IsTrue (is_start code place)
  pub depth_is : depth place ≡ n

-- a run goes on at a place of that depth: a jump forward, a going back not
abbrev pub Flows : Code → (ℕ → ℕ) → ℕ → ℕ → ℕ → Flow → Type 0
Flows code depth place next n Next = IsPlace code depth next n
Flows code depth place next n Ends = ⊤
Flows code depth place next n (Branches target) = IsPlace code depth next n × IsPlace code depth target n × (place < target)
Flows code depth place next n (Jumps target) = IsPlace code depth target n × (place < target)
Flows code depth place next n (Returns target) = IsPlace code depth target n × (target ≤ place)

-- what verification shows of the instruction at a place: its names are in range, its operands are there, what it
-- pushes has room, and it goes on at an instruction of the depth that it leaves
pub record IsRightInstr (shape : Shape) (code : Code) (depth : ℕ → ℕ) (place : ℕ) (i : Instr) : Type 0 where
  pub names : IsTrue (is_in_range shape i)
  pub operands : pops_of shape i ≤ depth place
  pub room : depth_after shape i (depth place) ≤ STACK_MAX
  pub flow : Flows code depth place (place + size_of i) (depth_after shape i (depth place)) (flow_of i)

-- what verification shows of the code: it begins with depth 0, each instruction is right, and all are below its size
pub record IsSoundCode (shape : Shape) (code : Code) (depth : ℕ → ℕ) : Type 0 where
  pub begins : IsPlace code depth 0 0
  pub each : (place : ℕ) (i : Instr) → fetch code place ≡ Some i → IsRightInstr shape code depth place i

-- an invocation fits verified code: it is at an instruction, and its stack is as deep as verification says there
pub record IsFitting (code : Code) (depth : ℕ → ℕ) (p : Private) : Type 0 where
  pub start : IsTrue (is_start code p.pc)
  pub depth_is : depth p.pc ≡ length p.stack

-- an effect goes on fitting, after an ask with any answer, and doesn't stick
abbrev pub GoesOnFitting : Code → (ℕ → ℕ) → Effect → Type 0
GoesOnFitting code depth (Goes p) = IsFitting code depth p
GoesOnFitting code depth (Writes p cell) = IsFitting code depth p
GoesOnFitting code depth (Asks p f args) = (answer : ℤ) → IsFitting code depth (push answer p)
GoesOnFitting code depth Halts = ⊤
GoesOnFitting code depth (Faults kind) = ⊤
GoesOnFitting code depth Sticks = ⊥
