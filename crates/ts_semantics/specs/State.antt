-- What a run of a script holds on its way, and how a part of it ends.
use Rattle.std.specs.Prelude.{ℕ, zero, suc, ℤ, pos, Bool, true, false, List, [], ◌∷◌, ◌++◌, Result, Ok, Err, take, replicate}
use Rattle.std.specs.Prelude.{if◌then◌else◌, slice_index_or, slice_set, ⊤}
use Rattle.arrayvec.specs.ArrayVec.{ArrayVec}
use Rattle.mate_num.specs.Store.{value_at, set_value, buffer_at, set_buffer, without_last}
use Rattle.mate_num.specs.declared.store.Store.{Store}
use Rattle.mate_num.specs.declared.call.Call.{Call}
use Rattle.mate_num.specs.declared.call.End.{End}
use Rattle.mate_num.specs.declared.call.End.TheVariants.{Fault, Wants}
use Rattle.mate_num.specs.declared.call.FaultKind.{FaultKind}
use Rattle.mate_num.specs.declared.call.FaultKind.TheVariants.{Overrun}
use Rattle.mate_num.specs.declared.id.BufId.{BufId}
use Rattle.mate_num.specs.declared.id.FunId.{FunId}
use Rattle.ts_checked.specs.declared.checked_stmt.CVar.{CVar}
use Rattle.ts_checked.specs.declared.checked_stmt.CVar.TheVariants.{Shared, Private}

-- the store, the private variables, the message, the answers that no call took yet, the calls that were
-- answered, and the turns that are left
pub record ScriptState : Type 0 where
  pub store : Store
  pub privates : List ℤ
  pub msg : List ℤ
  pub left : List ℤ
  pub calls : List Call
  pub turns : ℕ

-- a part of a run is done, with a value, or the whole run is over
pub data Evaluation (A : Type 0) : Type 0 where
  Done : (value : A) (after : ScriptState) → Evaluation A
  Over : (end : End) (after : ScriptState) → Evaluation A

-- goes on with the value, unless the run is over
abbrev pub then_do : {A B : Type 0} → Evaluation A → (A → ScriptState → Evaluation B) → Evaluation B
then_do (Done a s) next = next a s
then_do (Over end s) next = Over end s

-- the value, or the fault
abbrev pub value_or_fault : {A : Type 0} → Result A FaultKind → ScriptState → Evaluation A
value_or_fault (Ok a) s = Done a s
value_or_fault (Err kind) s = Over (Fault kind) s

-- the value of a private variable, and 0 if there is no such variable
abbrev pub private_at : ScriptState → ℕ → ℤ
private_at s i = slice_index_or s.privates i (pos 0)

-- the value of a variable
abbrev pub variable_at : CVar → ScriptState → ℤ
variable_at (Shared v) s = value_at s.store v.0
variable_at (Private i) s = private_at s i

-- the state with that value in a variable
abbrev pub with_variable : CVar → ℤ → ScriptState → ScriptState
with_variable (Shared v) value s = record s { store = set_value s.store v.0 value }
with_variable (Private i) value s = record s { privates = slice_set s.privates i value }

-- the state with those values in a buffer
abbrev pub with_buffer : BufId → List ℤ → ScriptState → ScriptState
with_buffer p values s = record s { store = set_buffer s.store p.0 values }

-- the buffer has the new values, or the fault comes
abbrev pub buffer_changed : BufId → Result (List ℤ) FaultKind → ScriptState → Evaluation ⊤
buffer_changed p (Ok values) s = Done tt (with_buffer p values s)
buffer_changed p (Err kind) s = Over (Fault kind) s

-- the value goes from the end of the buffer into the variable, or the fault comes
abbrev pub moved : CVar → BufId → Result ℤ FaultKind → ScriptState → Evaluation ⊤
moved x p (Ok value) s = Done tt (with_variable x value (with_buffer p (without_last (buffer_at s.store p.0)) s))
moved x p (Err kind) s = Over (Fault kind) s

-- the values as the arguments of a call, which have room for ten; a right call has at most four
abbrev pub first_ten : List ℤ → ArrayVec ℤ
first_ten values = record { items = take 10 values }

-- a call takes the next answer and is listed with it; with no answer left it ends the run
abbrev pub call_answered : FunId → ArrayVec ℤ → List ℤ → ScriptState → Evaluation ℤ
call_answered f args [] s = Over (Wants f args) s
call_answered f args (a ∷ left) s = Done a (record s { left = left; calls = s.calls ++ record { fun = f; args = args; result = a } ∷ [] })

abbrev pub next_answer : FunId → ArrayVec ℤ → ScriptState → Evaluation ℤ
next_answer f args s = call_answered f args s.left s

-- the result of a call is dropped
abbrev pub dropped : ℤ → ScriptState → Evaluation ⊤
dropped value s = Done tt s

-- going back costs one turn; with no turn left it is a fault
abbrev pub with_turns : ℕ → (ScriptState → Evaluation ⊤) → ScriptState → Evaluation ⊤
with_turns zero next s = Over (Fault Overrun) s
with_turns (suc n) next s = next (record s { turns = n })

-- after a round a loop goes back, or is done
abbrev pub after_round : (ScriptState → Evaluation ⊤) → Bool → ScriptState → Evaluation ⊤
after_round next true s = with_turns s.turns next s
after_round next false s = Done tt s

-- a loop that goes back at most n times
abbrev pub rounds : ℕ → (ScriptState → Evaluation Bool) → ScriptState → Evaluation ⊤
rounds zero round s = then_do (round s) (after_round (λ s. Over (Fault Overrun) s))
rounds (suc n) round s = then_do (round s) (after_round (rounds n round))

-- a loop: it goes back at most once for each turn that is left
abbrev pub loop_does : (ScriptState → Evaluation Bool) → ScriptState → Evaluation ⊤
loop_does round s = rounds s.turns round s

-- the first at true, and else the second
abbrev pub choose : Bool → (ScriptState → Evaluation ⊤) → (ScriptState → Evaluation ⊤) → ScriptState → Evaluation ⊤
choose test a b s = if test then a s else b s

-- a round of a loop: at true the body runs and the loop may go back, and else it ends
abbrev pub round_if : Bool → (ScriptState → Evaluation ⊤) → ScriptState → Evaluation Bool
round_if true body s = then_do (body s) (λ _ s. Done true s)
round_if false body s = Done false s

-- a run begins with the private variables at 0
abbrev pub begun_state : Store → ArrayVec ℤ → List ℤ → ℕ → ScriptState
begun_state store msg answers turns =
    record { store = store; privates = replicate 8 (pos 0); msg = msg.items; left = answers; calls = []; turns = turns }
