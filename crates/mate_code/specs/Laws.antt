-- The laws of runs, for every shape, code, store, message, answers and turns.
use Rattle.std.specs.Prelude.{◌≡◌, ◌≢◌, ℕ, ◌+◌, ◌*◌, ◌≤◌, ℤ, List, [], ◌∷◌, ◌++◌, length, IsFalse}
use Rattle.arrayvec.specs.ArrayVec.{ArrayVec}
use Rattle.mate_num.specs.Uses.{uses}
use Rattle.mate_num.specs.declared.bounds.TheConstants.{CODE_MAX, STACK_MAX}
use Rattle.mate_num.specs.declared.call.End.{End}
use Rattle.mate_num.specs.declared.call.End.TheVariants.{Wants}
use Rattle.mate_num.specs.declared.id.FunId.{FunId}
use Rattle.mate_num.specs.declared.resource.Resource.{Resource}
use Rattle.mate_num.specs.declared.shape.Shape.{Shape}
use Rattle.mate_num.specs.declared.store.Store.{Store}
use Rattle.mate_code.specs.Cells.{read, Agree}
use Rattle.mate_code.specs.CodeUses.{uses_of}
use Rattle.mate_code.specs.Effect.{push}
use Rattle.mate_code.specs.Run.{Code, Run, Going, Over, Stuck, run_after, code_after, code_run, whole_code_run, call_marks, size_of_code}

-- a run changes nothing outside what its code writes
pub record OnlyWrites (shape : Shape) (code : Code) (store : Store) (msg : ArrayVec ℤ) (answers : List ℤ) (turns : ℕ) : Type 0 where
  pub on_the_way : (n : ℕ) (r : Resource) → IsFalse ((uses_of shape code).writes r)
      → read (code_after n shape code store msg answers turns) r ≡ read store r
  pub in_the_end : (r : Resource) → IsFalse ((uses_of shape code).writes r)
      → read (code_run shape code store msg answers turns).store r ≡ read store r

-- the run on another store that agrees on what its code uses: the same end, calls and marks, and the same values there
pub record IsSameRun (shape : Shape) (code : Code) (s t : Store) (msg : ArrayVec ℤ) (answers : List ℤ) (turns : ℕ) : Type 0 where
  pub end : (code_run shape code s msg answers turns).end ≡ (code_run shape code t msg answers turns).end
  pub calls : (code_run shape code s msg answers turns).calls ≡ (code_run shape code t msg answers turns).calls
  pub marks_are : call_marks shape code s msg answers turns ≡ call_marks shape code t msg answers turns
  pub values : Agree (uses (uses_of shape code)) (code_run shape code s msg answers turns).store
      (code_run shape code t msg answers turns).store
  pub on_the_way : (n : ℕ) → Agree (uses (uses_of shape code)) (code_after n shape code s msg answers turns)
      (code_after n shape code t msg answers turns)

-- a run that waits for an answer to a call, given this answer
abbrev pub resumed : FunId → ArrayVec ℤ → ℤ → Run → Run
resumed f args answer r =
    record r {
      own = record (r.own) {
        own = push answer r.own.own;
        calls = r.own.calls ++ record { fun = f; args = args; result = answer } ∷ [];
        status = Going;
      };
    }

-- the run with one more answer is the same run up to the call that waits for it, and then goes on with the answer
abbrev pub GoesOnAnswered : Shape → Code → Store → ArrayVec ℤ → List ℤ → ℕ → Type 0
GoesOnAnswered shape code store msg answers turns =
    (n : ℕ) (f : FunId) (args : ArrayVec ℤ) (answer : ℤ) →
    let r : Run = run_after n shape code store msg answers turns in
    r.own.status ≡ Over (Wants f args) → r.own.count ≡ n →
    run_after n shape code store msg (answers ++ answer ∷ []) turns ≡ resumed f args answer r

-- two ends of one run are one
abbrev pub EndsOnce : Shape → Code → Store → ArrayVec ℤ → List ℤ → ℕ → Type 0
EndsOnce shape code store msg answers turns =
    (m n : ℕ) → (run_after m shape code store msg answers turns).own.status ≢ Going
    → (run_after n shape code store msg answers turns).own.status ≢ Going →
    run_after m shape code store msg answers turns ≡ run_after n shape code store msg answers turns

-- verified code never sticks, its stack has room, its whole run is over, and it executes at most
-- `turns + 1` times as many instructions as the code has bytes
pub record EndsInTime (shape : Shape) (code : Code) (store : Store) (msg : ArrayVec ℤ) (answers : List ℤ) (turns : ℕ) : Type 0 where
  pub never_sticks : (n : ℕ) → (run_after n shape code store msg answers turns).own.status ≢ Stuck
  pub has_room : (n : ℕ) → length (run_after n shape code store msg answers turns).own.own.stack ≤ STACK_MAX
  pub is_over : (end : End) × ((whole_code_run shape code store msg answers turns).own.status ≡ Over end)
  pub in_time : (n : ℕ) → (run_after n shape code store msg answers turns).own.count ≤ (turns + 1) * size_of_code code
  pub in_limit : size_of_code code ≤ CODE_MAX → (n : ℕ)
      → (run_after n shape code store msg answers turns).own.count ≤ (turns + 1) * CODE_MAX
