-- Runs that are kept where they stand.
use Rattle.std.specs.Prelude.{◌≡◌, ◌<◌, ℕ, ◌++◌, ℤ, List, [], ◌∷◌, map, length, take, Bool, true, false, Option, None, IfSome, slice_index_or, ⊤}
use Rattle.arrayvec.specs.ArrayVec.{ArrayVec}
use Rattle.mate_num.specs.declared.bounds.TheConstants.{STACK_MAX}
use Rattle.mate_num.specs.declared.call.Call.{Call}
use Rattle.mate_num.specs.declared.call.End.{End}
use Rattle.mate_num.specs.declared.call.End.TheVariants as end
use Rattle.mate_num.specs.declared.outcome.Outcome.{Outcome}
use Rattle.mate_num.specs.declared.shape.Shape.{Shape}
use Rattle.mate_num.specs.declared.store.Store.{Store}
use Rattle.mate_code.specs.Effect.{Private, push}
use Rattle.mate_code.specs.Run.{Code, Status, Going, Over, run_after, code_run, end_of}
use Rattle.code_verifier.specs.Verified.{VerifiedCode, IsAtVerified}
use Rattle.exec_unit.specs.Step.{HasLengths}
use Rattle.exec_unit.specs.declared.step_end.StepEnd.{StepEnd}
use Rattle.exec_unit.specs.declared.step_end.StepEnd.TheVariants.{Next, Ask, Halt, Fault}
use Rattle.mate_journal.specs.Journal.{Invocation, answers_of}
use Rattle.node_state.specs.Meaning.{image_code}
use Rattle.vm_shape.specs.Shapes.{shape_of}
use Rattle.vm_shape.specs.declared.description.Description.{Description}
use Rattle.audit_programs.specs.declared.kept.KeptRun.{KeptRun}
use Rattle.audit_programs.specs.declared.runs.KeptRuns.{KeptRuns}

-- the answers to calls
abbrev pub answers_to : List Call → List ℤ
answers_to calls = map (λ (call : Call). call.result) calls

-- whether a run goes on that stands so
abbrev pub status_of : StepEnd → Status
status_of Next = Going
status_of (Ask f args) = Over (end.Wants f args)
status_of Halt = Over end.Halt
status_of (Fault kind) = Over (end.Fault kind)

-- the code, without its bytes
abbrev pub with_code : Shape → Code → VerifiedCode
with_code shape code = record { shape = shape; bytes = []; code = code }

-- the machine is that of the run if the run goes on or waits, and fits the code, if it waits with any answer
abbrev pub IsMachineOf : Shape → Code → StepEnd → Private → Private → Type 0
IsMachineOf shape code Next machine own = (own ≡ machine) × IsAtVerified (with_code shape code) machine
IsMachineOf shape code (Ask f args) machine own =
    (own ≡ machine) × (length machine.stack < STACK_MAX) × ((answer : ℤ) → IsAtVerified (with_code shape code) (push answer machine))
IsMachineOf shape code Halt machine own = ⊤
IsMachineOf shape code (Fault kind) machine own = ⊤

-- The run of the code on the store with the message and the answers to its calls so far comes, after some instructions, to where it
-- stands with this machine and this heap.
pub record IsRun (shape : Shape) (code : Code) (store : Store) (msg : ArrayVec ℤ) (turns : ℕ) (machine : Private) (heap : Store)
    (calls : List Call) (how : StepEnd) : Type 0 where
  pub count : ℕ
  pub own : Private
  pub run : run_after count shape code store msg (answers_to calls) turns
      ≡ record { own = record { own = own; left = []; calls = calls; count = count; status = status_of how }; store = heap }
  pub machine_is : IsMachineOf shape code how machine own
  pub lengths : HasLengths shape heap

-- the run that is kept
abbrev pub IsRunOf : Shape → Code → ℕ → KeptRun → Type 0
IsRunOf shape code turns k = IsRun shape code k.base k.payload turns k.machine k.heap k.calls k.how

-- The run took answers from the front of these: all of them if it goes on or waits.
abbrev pub HasTaken : StepEnd → List ℤ → List ℤ → Type 0
HasTaken Next taken answers = taken ≡ answers
HasTaken (Ask f args) taken answers = taken ≡ answers
HasTaken Halt taken answers = (rest : List ℤ) × (answers ≡ taken ++ rest)
HasTaken (Fault kind) taken answers = (rest : List ℤ) × (answers ≡ taken ++ rest)

-- what stays as it is while a run goes on
pub record IsSameRun (old new : KeptRun) : Type 0 where
  pub program : new.program ≡ old.program
  pub payload : new.payload ≡ old.payload
  pub base : new.base ≡ old.base

-- it went on to a call or to its end, if it did go on
pub record HasGoneOn (old new : KeptRun) : Type 0 where
  pub same : IsSameRun old new
  pub calls : new.calls ≡ old.calls
  pub still : (old.how ≡ Next → ⊥) → new ≡ old

-- the call at which it waits was answered
pub record IsAnswered (shape : Shape) (code : Code) (turns : ℕ) (old : KeptRun) (value : ℤ) (new : KeptRun) : Type 0 where
  pub same : IsSameRun old new
  pub run : IsRunOf shape code turns new
  pub answers : answers_to new.calls ≡ answers_to old.calls ++ value ∷ []

-- no run waits that stands so
abbrev pub WaitsNot : StepEnd → Type 0
WaitsNot (Ask f args) = ⊥
WaitsNot _ = ⊤

-- the call was answered, if there was one
abbrev pub AnswersIf : Shape → Code → ℕ → Bool → KeptRun → ℤ → KeptRun → Type 0
AnswersIf shape code turns true old value new = IsAnswered shape code turns old value new
AnswersIf shape code turns false old value new = (new ≡ old) × WaitsNot old.how

-- it took answers from the front of these
abbrev pub IsBehind : List ℤ → KeptRun → Type 0
IsBehind answers k = answers_to k.calls ≡ take (length k.calls) answers

-- it goes on as long as there are answers
pub record HasCaughtUp (shape : Shape) (code : Code) (turns : ℕ) (answers : List ℤ) (old new : KeptRun) : Type 0 where
  pub same : IsSameRun old new
  pub run : IsRunOf shape code turns new
  pub taken : HasTaken new.how (answers_to new.calls) answers

-- it is the same run on this store
pub record IsOnStore (shape : Shape) (code : Code) (turns : ℕ) (store : Store) (old new : KeptRun) : Type 0 where
  pub program : new.program ≡ old.program
  pub payload : new.payload ≡ old.payload
  pub base : new.base ≡ store
  pub calls : new.calls ≡ old.calls
  pub run : IsRunOf shape code turns new

-- it is a run of a program with this image and this message, and took answers from the front of these
pub record Serves (image : ArrayVec ℕ) (msg : ArrayVec ℤ) (answers : List ℤ) (k : KeptRun) : Type 0 where
  pub image_is : k.program.now.image ≡ image
  pub payload : k.payload ≡ msg
  pub taken : IsBehind answers k

-- the run of the code on this store with this message and these answers
pub record IsRunWith (v : VerifiedCode) (image : ArrayVec ℕ) (turns : ℕ) (store : Store) (msg : ArrayVec ℤ) (answers : List ℤ) (k : KeptRun) : Type 0 where
  pub image_is : k.program.now.image ≡ image
  pub payload : k.payload ≡ msg
  pub base : k.base ≡ store
  pub run : IsRunOf v.shape v.code turns k
  pub taken : HasTaken k.how (answers_to k.calls) answers

-- the same, where it may take more of the answers
pub record IsRunBehind (v : VerifiedCode) (image : ArrayVec ℕ) (turns : ℕ) (store : Store) (msg : ArrayVec ℤ) (answers : List ℤ) (k : KeptRun) : Type 0 where
  pub serves : Serves image msg answers k
  pub base : k.base ≡ store
  pub run : IsRunOf v.shape v.code turns k

-- the end of a run that stands so
abbrev pub end_at : StepEnd → End
end_at how = end_of (status_of how)

-- what a run gives that stands at a call or at its end
abbrev pub outcome_in : KeptRun → Outcome
outcome_in k = record { end = end_at k.how; store = k.heap; calls = k.calls }

-- a run that is kept is one of the code of its program's image
abbrev pub IsKept : Description → KeptRun → Type 0
IsKept d k = IsRunOf (shape_of d) (image_code (shape_of d) k.program.now.image) d.turns k

-- the run that is kept at a place
abbrev pub kept_at : KeptRuns → ℕ → Option KeptRun
kept_at x place = slice_index_or x.runs.items place None

-- each of them
abbrev pub AreKept : Description → KeptRuns → Type 0
AreKept d x = (place : ℕ) → IfSome (kept_at x place) (IsKept d)

-- the run is that of an invocation on a store, with the answers that it got so far, and can be kept
pub record IsRunOfSeat (d : Description) (store : Store) (i : Invocation) (k : KeptRun) : Type 0 where
  pub kept : IsKept d k
  pub code_is : image_code (shape_of d) k.program.now.image ≡ image_code (shape_of d) i.program.image
  pub payload : k.payload ≡ i.payload
  pub base : k.base ≡ store
  pub run : IsRunOf (shape_of d) (image_code (shape_of d) i.program.image) d.turns k
  pub taken : HasTaken k.how (answers_to k.calls) (answers_of i)
  pub calls : k.calls ≡ (code_run (shape_of d) (image_code (shape_of d) i.program.image) store i.payload (answers_of i) d.turns).calls
