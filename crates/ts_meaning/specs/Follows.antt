-- How the evaluator's results agree with outcomes.
use Rattle.std.specs.Prelude.{◌≡◌, Result, Ok, Err, ⊤}
use Rattle.ts_semantics.specs.State.{ScriptState, Evaluation, Done, Over}
use Rattle.ts_meaning.specs.declared.evaluator.Evaluator.{Evaluator}
use Rattle.ts_meaning.specs.declared.evaluator.Stop.{Stop}
use Rattle.ts_meaning.specs.declared.evaluator.Stop.TheVariants.{Ended, OutOfMemory}

-- what the evaluator holds
abbrev pub state_of : Evaluator → ScriptState
state_of e =
    record {
      store = e.store;
      privates = e.privates;
      msg = e.msg.now.items;
      left = e.answers.now;
      calls = e.calls;
      turns = e.turns;
    }

-- the result agrees with the outcome; lack of memory says nothing
abbrev pub TellsEvaluation : {A : Type 0} → Result A Stop → ScriptState → Evaluation A → Type 0
TellsEvaluation (Ok a) s outcome = outcome ≡ Done a s
TellsEvaluation (Err (Ended end)) s outcome = outcome ≡ Over end s
TellsEvaluation (Err OutOfMemory) s outcome = ⊤

-- from one evaluator to the next, the result says what the part of the run does
abbrev pub FollowsMeaning : {A : Type 0} → (ScriptState → Evaluation A) → Evaluator → Result A Stop → Evaluator → Type 0
FollowsMeaning part old result new = TellsEvaluation result (state_of new) (part (state_of old))
