-- Pieces of code, and what they do: a dozen runs and a dozen verifications, to be computed.
use Rattle.std.specs.Prelude.{◌≡◌, ℕ, ℤ, pos, negsuc, List, [], ◌∷◌, map, true, false, None, Some, Result, Ok, Err}
use Rattle.mate_num.specs.Store.{payload}
use Rattle.mate_num.specs.declared.call.Call.{Call}
use Rattle.mate_num.specs.declared.call.End.{End}
use Rattle.mate_num.specs.declared.call.End.TheVariants as end
use Rattle.mate_num.specs.declared.call.FaultKind.TheVariants.{DivZero, Index, BufferFull, BufferEmpty, Overrun}
use Rattle.mate_num.specs.declared.shape.Shape.{Shape}
use Rattle.mate_num.specs.declared.store.Store.{Store}
use Rattle.mate_code.specs.declared.instr.Instr.TheVariants.{Halt, PushW, PushB, GetS, SetS, GetP, SetP, Add, Mul, Div, Mod, Neg, Not, And}
use Rattle.mate_code.specs.declared.instr.Instr.TheVariants.{Or, Eq, Lt, Ge, Jz, Jmp, Back, Drop, MsgGet, MsgSize, BGet, BSet, BAdd, BTake}
use Rattle.mate_code.specs.declared.instr.Instr.TheVariants.{BSize, BClear, Fun, FunBuf}
use Rattle.mate_code.specs.Run.{Code, code_run, call_marks}
use Rattle.mate_code.specs.declared.fault.VerifyFault.{VerifyFault}
use Rattle.mate_code.specs.declared.fault.VerifyFault.TheVariants.{BadTarget, BackJump, Underflow, Overflow, DepthDiffers, BadIndex, NoHalt}
use Rattle.mate_code.specs.Verification.{Marks, depth_at, verification}

abbrev pub a_store : List ℤ → List (List ℤ) → Store
a_store shared buffers = record { shared = record { items = shared }; buffers = record { items = map payload buffers } }

abbrev pub a_call : ℕ → List ℤ → ℤ → Call
a_call f args result = record { fun = record { 0 = f }; args = payload args; result = result }

-- four shared variables and nothing else
abbrev pub small : Shape
small = record { shared = 4; buffers = 0; functions = record { items = [] } }

-- three shared variables, two buffers, and functions that sense, take two values, and send a buffer
abbrev pub large : Shape
large =
    record {
      shared = 3;
      buffers = 2;
      functions = record {
        items =
            record { args = 0; send = false; device = Some record { 0 = 0 } } ∷ record { args = 2; send = false; device = None }
            ∷ record { args = 0; send = true; device = Some record { 0 = 0 } } ∷ [];
      };
    }

-- a run and what it gives: its end, its store, its calls and its marks
pub record RunComesTo (shape : Shape) (code : Code) (store : Store) (msg answers : List ℤ) (turns : ℕ) (end : End) (left : Store)
    (calls : List Call) (counts : List ℕ) : Type 0 where
  pub outcome : code_run shape code store (payload msg) answers turns ≡ record { end = end; store = left; calls = calls }
  pub marks_are : call_marks shape code store (payload msg) answers turns ≡ counts

-- a loop that adds until its turns are out
abbrev pub Counting : Type 0
Counting =
    RunComesTo small ((0, PushB 1) ∷ (2, Jz 15) ∷ (5, GetS (record { 0 = 0 })) ∷ (7, PushB 1) ∷ (9, Add) ∷ (10, SetS (record { 0 = 0 }))
    ∷ (12, Back 0) ∷ (15, Halt) ∷ [])
    (a_store (pos 0 ∷ pos 0 ∷ pos 0 ∷ pos 0 ∷ []) ([])) ([]) ([]) 3
    (end.Fault Overrun) (a_store (pos 4 ∷ pos 0 ∷ pos 0 ∷ pos 0 ∷ []) ([])) ([]) (28 ∷ [])

-- numbers wrap
abbrev pub Wrapping : Type 0
Wrapping =
    RunComesTo small ((0, PushW (pos 32767)) ∷ (3, PushB 1) ∷ (5, Add) ∷ (6, SetS (record { 0 = 0 })) ∷ (8, PushW (pos 300))
    ∷ (11, PushW (pos 300)) ∷ (14, Mul) ∷ (15, SetS (record { 0 = 1 })) ∷ (17, PushW (negsuc 32767)) ∷ (20, PushW (negsuc 0))
    ∷ (23, Div) ∷ (24, SetS (record { 0 = 2 })) ∷ (26, PushW (negsuc 6)) ∷ (29, PushB 2) ∷ (31, Mod) ∷ (32, SetS (record { 0 = 3 }))
    ∷ (34, Halt) ∷ [])
    (a_store (pos 0 ∷ pos 0 ∷ pos 0 ∷ pos 0 ∷ []) ([])) ([]) ([]) 0
    (end.Halt) (a_store (negsuc 32767 ∷ pos 24464 ∷ negsuc 32767 ∷ negsuc 0 ∷ []) ([])) ([]) (17 ∷ [])

-- a division by 0
abbrev pub Dividing : Type 0
Dividing =
    RunComesTo small ((0, PushB 5) ∷ (2, SetS (record { 0 = 1 })) ∷ (4, GetS (record { 0 = 1 })) ∷ (6, GetS (record { 0 = 0 })) ∷ (8, Div)
    ∷ (9, SetS (record { 0 = 2 })) ∷ (11, Halt) ∷ [])
    (a_store (pos 0 ∷ pos 0 ∷ pos 7 ∷ pos 0 ∷ []) ([])) ([]) ([]) 0
    (end.Fault DivZero) (a_store (pos 0 ∷ pos 5 ∷ pos 7 ∷ pos 0 ∷ []) ([])) ([]) (5 ∷ [])

-- tests give 1 and 0
abbrev pub Truths : Type 0
Truths =
    RunComesTo small ((0, PushW (negsuc 0)) ∷ (3, PushB 1) ∷ (5, Lt) ∷ (6, PushB 2) ∷ (8, PushB 2) ∷ (10, Ge) ∷ (11, Add) ∷ (12, Not)
    ∷ (13, SetS (record { 0 = 0 })) ∷ (15, PushB 9) ∷ (17, PushB 0) ∷ (19, Or) ∷ (20, PushB 3) ∷ (22, And)
    ∷ (23, SetS (record { 0 = 1 })) ∷ (25, PushB 3) ∷ (27, Neg) ∷ (28, PushW (negsuc 2)) ∷ (31, Eq) ∷ (32, SetS (record { 0 = 2 }))
    ∷ (34, Halt) ∷ [])
    (a_store (pos 0 ∷ pos 0 ∷ pos 0 ∷ pos 9 ∷ []) ([])) ([]) ([]) 0
    (end.Halt) (a_store (pos 0 ∷ pos 1 ∷ pos 1 ∷ pos 9 ∷ []) ([])) ([]) (21 ∷ [])

-- a jump and a branch
abbrev pub Branching : Type 0
Branching =
    RunComesTo small ((0, GetS (record { 0 = 0 })) ∷ (2, Jz 12) ∷ (5, PushB 1) ∷ (7, SetS (record { 0 = 1 })) ∷ (9, Jmp 16)
    ∷ (12, PushB 2) ∷ (14, SetS (record { 0 = 1 })) ∷ (16, Halt) ∷ [])
    (a_store (pos 0 ∷ pos 0 ∷ pos 0 ∷ pos 0 ∷ []) ([])) ([]) ([]) 0
    (end.Halt) (a_store (pos 0 ∷ pos 2 ∷ pos 0 ∷ pos 0 ∷ []) ([])) ([]) (5 ∷ [])

-- a private variable and the message
abbrev pub Privates : Type 0
Privates =
    RunComesTo small ((0, PushB 1) ∷ (2, MsgGet) ∷ (3, SetP 3) ∷ (5, GetP 3) ∷ (7, MsgSize) ∷ (8, Mul) ∷ (9, SetS (record { 0 = 2 }))
    ∷ (11, Halt) ∷ [])
    (a_store (pos 1 ∷ pos 1 ∷ pos 1 ∷ pos 1 ∷ []) ([])) (pos 4 ∷ negsuc 4 ∷ pos 6 ∷ []) ([]) 0
    (end.Halt) (a_store (pos 1 ∷ pos 1 ∷ negsuc 14 ∷ pos 1 ∷ []) ([])) ([]) (8 ∷ [])

-- an index at the size of the message
abbrev pub Past : Type 0
Past =
    RunComesTo small ((0, PushB 3) ∷ (2, MsgGet) ∷ (3, Drop) ∷ (4, Halt) ∷ [])
    (a_store (pos 1 ∷ pos 1 ∷ pos 1 ∷ pos 1 ∷ []) ([])) (pos 4 ∷ negsuc 4 ∷ pos 6 ∷ []) ([]) 0
    (end.Fault Index) (a_store (pos 1 ∷ pos 1 ∷ pos 1 ∷ pos 1 ∷ []) ([])) ([]) (2 ∷ [])

-- a buffer grows, is changed, and is taken from
abbrev pub Appending : Type 0
Appending =
    RunComesTo large ((0, PushB 7) ∷ (2, BAdd (record { 0 = 0 })) ∷ (4, PushB 8) ∷ (6, BAdd (record { 0 = 0 })) ∷ (8, PushB 0)
    ∷ (10, PushB 9) ∷ (12, BSet (record { 0 = 0 })) ∷ (14, BTake (record { 0 = 0 })) ∷ (16, SetS (record { 0 = 0 })) ∷ (18, PushB 0)
    ∷ (20, BGet (record { 0 = 0 })) ∷ (22, SetS (record { 0 = 1 })) ∷ (24, BSize (record { 0 = 0 })) ∷ (26, SetS (record { 0 = 2 }))
    ∷ (28, BClear (record { 0 = 1 })) ∷ (30, Halt) ∷ [])
    (a_store (pos 0 ∷ pos 0 ∷ pos 0 ∷ []) (([]) ∷ (pos 5 ∷ []) ∷ [])) ([]) ([]) 0
    (end.Halt) (a_store (pos 8 ∷ pos 9 ∷ pos 1 ∷ []) ((pos 9 ∷ []) ∷ ([]) ∷ [])) ([]) (16 ∷ [])

-- a value appended to ten
abbrev pub Full : Type 0
Full =
    RunComesTo large ((0, PushB 1) ∷ (2, BAdd (record { 0 = 1 })) ∷ (4, Halt) ∷ [])
    (a_store (pos 0 ∷ pos 0 ∷ pos 0 ∷ []) (([]) ∷ (pos 1 ∷ pos 2 ∷ pos 3 ∷ pos 4 ∷ pos 5 ∷ pos 6 ∷ pos 7 ∷ pos 8 ∷ pos 9 ∷ pos 10 ∷ [])
    ∷ [])) ([]) ([]) 0
    (end.Fault BufferFull) (a_store (pos 0 ∷ pos 0 ∷ pos 0 ∷ []) (([])
    ∷ (pos 1 ∷ pos 2 ∷ pos 3 ∷ pos 4 ∷ pos 5 ∷ pos 6 ∷ pos 7 ∷ pos 8 ∷ pos 9 ∷ pos 10 ∷ []) ∷ [])) ([]) (2 ∷ [])

-- a value taken from none
abbrev pub Empty : Type 0
Empty =
    RunComesTo large ((0, BTake (record { 0 = 0 })) ∷ (2, Drop) ∷ (3, Halt) ∷ [])
    (a_store (pos 0 ∷ pos 0 ∷ pos 0 ∷ []) (([]) ∷ (pos 5 ∷ []) ∷ [])) ([]) ([]) 0
    (end.Fault BufferEmpty) (a_store (pos 0 ∷ pos 0 ∷ pos 0 ∷ []) (([]) ∷ (pos 5 ∷ []) ∷ [])) ([]) (1 ∷ [])

-- calls with answers, and one that waits
abbrev pub Asking : Type 0
Asking =
    RunComesTo large ((0, Fun (record { 0 = 0 })) ∷ (1, SetS (record { 0 = 0 })) ∷ (3, PushB 1) ∷ (5, GetS (record { 0 = 0 }))
    ∷ (7, Fun (record { 0 = 1 })) ∷ (8, Drop) ∷ (9, FunBuf (record { 0 = 2 }) (record { 0 = 1 })) ∷ (11, SetS (record { 0 = 1 }))
    ∷ (13, Halt) ∷ [])
    (a_store (pos 0 ∷ pos 0 ∷ pos 0 ∷ []) (([]) ∷ (pos 3 ∷ pos 4 ∷ []) ∷ [])) ([]) (pos 12 ∷ pos 0 ∷ []) 0
    (end.Wants (record { 0 = 2 }) (payload (pos 3 ∷ pos 4 ∷ []))) (a_store (pos 12 ∷ pos 0 ∷ pos 0 ∷ []) (([]) ∷ (pos 3 ∷ pos 4 ∷ [])
    ∷ [])) (a_call 0 ([]) (pos 12) ∷ a_call 1 (pos 1 ∷ pos 12 ∷ []) (pos 0) ∷ []) (1 ∷ 5 ∷ 7 ∷ [])

-- calls with all their answers
abbrev pub Answered : Type 0
Answered =
    RunComesTo large ((0, Fun (record { 0 = 0 })) ∷ (1, SetS (record { 0 = 0 })) ∷ (3, PushB 1) ∷ (5, GetS (record { 0 = 0 }))
    ∷ (7, Fun (record { 0 = 1 })) ∷ (8, Drop) ∷ (9, FunBuf (record { 0 = 2 }) (record { 0 = 1 })) ∷ (11, SetS (record { 0 = 1 }))
    ∷ (13, Halt) ∷ [])
    (a_store (pos 0 ∷ pos 0 ∷ pos 0 ∷ []) (([]) ∷ (pos 3 ∷ pos 4 ∷ []) ∷ [])) ([]) (pos 12 ∷ pos 0 ∷ pos 1 ∷ []) 0
    (end.Halt) (a_store (pos 12 ∷ pos 1 ∷ pos 0 ∷ []) (([]) ∷ (pos 3 ∷ pos 4 ∷ []) ∷ [])) (a_call 0 ([]) (pos 12)
    ∷ a_call 1 (pos 1 ∷ pos 12 ∷ []) (pos 0) ∷ a_call 2 (pos 3 ∷ pos 4 ∷ []) (pos 1) ∷ []) (1 ∷ 5 ∷ 7 ∷ 9 ∷ [])

-- the depths at the places, or the refusal
abbrev pub depths : Code → Result Marks VerifyFault → Result (List ℕ) VerifyFault
depths code (Ok call_marks) = Ok (map (λ p. depth_at call_marks p.0) code)
depths code (Err refusal) = Err refusal

-- code with the answer of its verification
abbrev pub VerifiesTo : Shape → Code → Result (List ℕ) VerifyFault → Type 0
VerifiesTo shape code answer = depths code (verification shape code) ≡ answer

-- refusals, each at its place, and code that is verified
abbrev pub VerificationsAreRight : Type 0
VerificationsAreRight =
    VerifiesTo small ((0, Add) ∷ []) (Err (Underflow 0))
    × VerifiesTo small ((0, Jz 3) ∷ []) (Err (BadTarget 0))
    × VerifiesTo small ((0, Jz 0) ∷ []) (Err (BackJump 0))
    × VerifiesTo small ((0, PushB 1) ∷ []) (Err NoHalt)
    × VerifiesTo small ([]) (Err NoHalt)
    × VerifiesTo small ((0, GetS (record { 0 = 4 })) ∷ (2, Drop) ∷ (3, Halt) ∷ []) (Err (BadIndex 0))
    × VerifiesTo small ((0, PushB 1) ∷ (2, SetP 8) ∷ (4, Halt) ∷ []) (Err (BadIndex 2))
    × VerifiesTo small ((0, PushB 1) ∷ (2, PushB 1) ∷ (4, PushB 1) ∷ (6, PushB 1) ∷ (8, PushB 1) ∷ (10, PushB 1) ∷ (12, PushB 1)
    ∷ (14, PushB 1) ∷ (16, PushB 1) ∷ (18, PushB 1) ∷ (20, PushB 1) ∷ (22, PushB 1) ∷ (24, PushB 1) ∷ (26, PushB 1) ∷ (28, PushB 1)
    ∷ (30, PushB 1) ∷ (32, PushB 1) ∷ (34, Halt) ∷ []) (Err (Overflow 32))
    × VerifiesTo small ((0, PushB 1) ∷ (2, PushB 1) ∷ (4, PushB 1) ∷ (6, PushB 1) ∷ (8, PushB 1) ∷ (10, PushB 1) ∷ (12, PushB 1)
    ∷ (14, PushB 1) ∷ (16, PushB 1) ∷ (18, PushB 1) ∷ (20, PushB 1) ∷ (22, PushB 1) ∷ (24, PushB 1) ∷ (26, PushB 1) ∷ (28, PushB 1)
    ∷ (30, PushB 1) ∷ (32, Halt) ∷ []) (Ok (0 ∷ 1 ∷ 2 ∷ 3 ∷ 4 ∷ 5 ∷ 6 ∷ 7 ∷ 8 ∷ 9 ∷ 10 ∷ 11 ∷ 12 ∷ 13 ∷ 14 ∷ 15 ∷ 16 ∷ []))
    × VerifiesTo small ((0, PushB 1) ∷ (2, Jz 7) ∷ (5, PushB 2) ∷ (7, Halt) ∷ []) (Err (DepthDiffers 7))
    × VerifiesTo small ((0, PushB 1) ∷ (2, Back 0) ∷ (5, Halt) ∷ []) (Err (DepthDiffers 2))
    × VerifiesTo small ((0, Back 0) ∷ (3, Halt) ∷ []) (Ok (0 ∷ 0 ∷ []))
    × VerifiesTo small ((0, Back 3) ∷ (3, Halt) ∷ []) (Err (BackJump 0))
    × VerifiesTo small ((0, Jmp 4) ∷ (3, Halt) ∷ []) (Err (BadTarget 0))
    × VerifiesTo small ((0, PushB 1) ∷ (2, Jz 15) ∷ (5, GetS (record { 0 = 0 })) ∷ (7, PushB 1) ∷ (9, Add) ∷ (10, SetS (record { 0 = 0 }))
    ∷ (12, Back 0) ∷ (15, Halt) ∷ []) (Ok (0 ∷ 1 ∷ 0 ∷ 1 ∷ 2 ∷ 1 ∷ 0 ∷ 0 ∷ []))
    × VerifiesTo large ((0, PushB 1) ∷ (2, Fun (record { 0 = 0 })) ∷ (3, Fun (record { 0 = 1 }))
    ∷ (4, FunBuf (record { 0 = 2 }) (record { 0 = 1 })) ∷ (6, Add) ∷ (7, SetS (record { 0 = 0 })) ∷ (9, Halt)
    ∷ []) (Ok (0 ∷ 1 ∷ 2 ∷ 1 ∷ 2 ∷ 1 ∷ 0 ∷ []))

-- all the runs
pub record RunsAreRight : Type 0 where
  pub counting : Counting
  pub wrapping : Wrapping
  pub dividing : Dividing
  pub truths : Truths
  pub branching : Branching
  pub privates : Privates
  pub past : Past
  pub appending : Appending
  pub full : Full
  pub empty : Empty
  pub asking : Asking
  pub answered : Answered
