-- A run of the code does what a part of the script does: from a place on it comes to where that part is done, or ends
-- as the part does.
use Rattle.std.proofs.Common.{◌≡◌, ℕ, ◌+◌, ℤ, List, Some, refl, sym, ap, ◌∙◌, subst}
use Rattle.mate_num.specs.declared.call.End.{End}
use Rattle.mate_num.specs.declared.shape.Shape.{Shape}
use Rattle.mate_code.specs.declared.instr.Instr.{Instr}
use Rattle.mate_code.specs.Effect.{Private}
use Rattle.mate_code.specs.Run.{Code, Run, Going, Over as IsOver, fetch, after, step, executed}
use Rattle.mate_code.proofs.RunLemmas.{after-add, step-at}
use Rattle.ts_semantics.specs.State.{ScriptState, Evaluation, Done, Over, then_do}

-- what an invocation has of its own at a place, with this stack, in a state of the script
abbrev pub own_at : ℕ → List ℤ → ScriptState → Private
own_at place stack s = record { pc = place; stack = stack; privates = s.privates; msg = s.msg; turns = s.turns }

-- the run there, that executed so many instructions
abbrev pub run_at : ℕ → List ℤ → ScriptState → ℕ → Run
run_at place stack s count =
    record {
      own = record { own = own_at place stack s; left = s.left; calls = s.calls; count = count; status = Going };
      store = s.store;
    }

-- where a part of a script leaves the run: at a place, with a stack that shows what the part gave
abbrev pub Goal : Type 0 → Type 0
Goal A = A → ScriptState → ℕ → Run

-- after some instructions the run is the one aimed at, with some count of instructions
pub record Comes (shape : Shape) (code : Code) (r : Run) (goal : ℕ → Run) : Type 0 where
  pub steps : ℕ
  pub count : ℕ
  pub there : after steps shape code r ≡ goal count

-- after some instructions the run is over, with the store and the calls of this state
pub record Ends (shape : Shape) (code : Code) (r : Run) (end : End) (s : ScriptState) : Type 0 where
  pub steps : ℕ
  pub over : (after steps shape code r).own.status ≡ IsOver end
  pub store : (after steps shape code r).store ≡ s.store
  pub calls : (after steps shape code r).own.calls ≡ s.calls

abbrev pub ReachesBy : {A : Type 0} → Shape → Code → Run → Goal A → Evaluation A → Type 0
ReachesBy shape code r goal (Done a s) = Comes shape code r (goal a s)
ReachesBy shape code r goal (Over end s) = Ends shape code r end s

-- the run does what the part of the script gives: it comes to the goal of what is done, or is over
pub record Reaches {A : Type 0} (shape : Shape) (code : Code) (r : Run) (o : Evaluation A) (goal : Goal A) : Type 0 where
  pub by : ReachesBy shape code r goal o

one_step : (shape : Shape) (code : Code) (r : Run) → after 1 shape code r ≡ step shape code r
unfolding after
one_step shape code r = refl

module _ {shape : Shape} {code : Code} where
  -- the part is done, and the run is there
  pub arrives_by : {A : Type 0} {r : Run} {goal : Goal A} {a : A} {s : ScriptState} (count : ℕ) → r ≡ goal a s count → Reaches shape code r (Done a s) goal
  unfolding after
  arrives_by count e = record { by = record { steps = 0; count = count; there = e } }

  pub arrives : {A : Type 0} {goal : Goal A} {a : A} {s : ScriptState} (count : ℕ) → Reaches shape code (goal a s count) (Done a s) goal
  arrives count = arrives_by count refl

  -- the run is over
  pub stops : {A : Type 0} {r : Run} {goal : Goal A} {end : End} {s : ScriptState} → r.own.status ≡ IsOver end → r.store ≡ s.store → r.own.calls ≡ s.calls → Reaches shape code r (Over end s) goal
  unfolding after
  stops over store calls = record { by = record { steps = 0; over = over; store = store; calls = calls } }

  -- what a run does that comes to another one
  comes-Reaches : {A : Type 0} {r : Run} {goal : Goal A} {middle : ℕ → Run} (o : Evaluation A) (c : Comes shape code r middle) → Reaches shape code (middle c.count) o goal → Reaches shape code r o goal
  comes-Reaches {A} {r} {goal} {middle} o c rest = record { by = by o rest.by } where
    there : (n : ℕ) → after (c.steps + n) shape code r ≡ after n shape code (middle c.count)
    there n = after-add n c.steps shape code r ∙ ap (λ (x : Run). after n shape code x) c.there

    by : (o : Evaluation A) → ReachesBy shape code (middle c.count) goal o → ReachesBy shape code r goal o
    by (Done a s) d = record { steps = c.steps + d.steps; count = d.count; there = there d.steps ∙ d.there }
    by (Over end s) d =
        record {
          steps = c.steps + d.steps;
          over = ap (λ (x : Run). x.own.status) (there d.steps) ∙ d.over;
          store = ap (λ (x : Run). x.store) (there d.steps) ∙ d.store;
          calls = ap (λ (x : Run). x.own.calls) (there d.steps) ∙ d.calls;
        }

  -- one part after another
  pub reaches-then : {A B : Type 0} {r : Run} {o : Evaluation A} {middle : Goal A} {goal : Goal B} (next : A → ScriptState → Evaluation B) → Reaches shape code r o middle
      → ((a : A) (s : ScriptState) (count : ℕ) → o ≡ Done a s → Reaches shape code (middle a s count) (next a s) goal) → Reaches shape code r (then_do o next) goal
  reaches-then {o = Done a s} next first rest =
      let c : Comes shape code _ _ = first.by in
      comes-Reaches (next a s) c (rest a s c.count refl)
  reaches-then {o = Over end s} next first rest = record { by = first.by }

  -- the same part, and the run goes on to another goal
  pub reaches-on : {A : Type 0} {r : Run} {o : Evaluation A} {middle goal : Goal A} → Reaches shape code r o middle
      → ((a : A) (s : ScriptState) (count : ℕ) → Reaches shape code (middle a s count) (Done a s) goal) → Reaches shape code r o goal
  reaches-on {o = Done a s} first rest =
      let c : Comes shape code _ _ = first.by in
      comes-Reaches (Done a s) c (rest a s c.count)
  reaches-on {o = Over end s} first rest = record { by = first.by }

  -- one instruction
  pub executes : {A : Type 0} {place : ℕ} {stack : List ℤ} {s : ScriptState} {count : ℕ} {o : Evaluation A} {goal : Goal A} (i : Instr) → fetch code place ≡ Some i
      → Reaches shape code (executed shape i (run_at place stack s count)) o goal → Reaches shape code (run_at place stack s count) o goal
  executes {A} {place} {stack} {s} {count} {o} {goal} i found rest =
      let r : Run = run_at place stack s count in
      let first : Comes shape code r (λ _. executed shape i r) = record { steps = 1; count = 0; there = one_step shape code r ∙ step-at shape code r i refl found } in
      comes-Reaches o first rest

  -- one instruction that goes on to a run that is known
  pub executes_to : {A : Type 0} {place : ℕ} {stack : List ℤ} {s : ScriptState} {count : ℕ} {o : Evaluation A} {goal : Goal A} {next : Run} (i : Instr) → fetch code place ≡ Some i
      → executed shape i (run_at place stack s count) ≡ next → Reaches shape code next o goal → Reaches shape code (run_at place stack s count) o goal
  executes_to {A} {place} {stack} {s} {count} {o} {goal} i found e rest = executes i found (subst (λ (x : Run). Reaches shape code x o goal) (sym e) rest)

  -- the goal's place under another name
  pub goal_at : {B : Type 0} {r : Run} {o : Evaluation B} {later : B → List ℤ} (p : ℕ) {q : ℕ} → p ≡ q → Reaches shape code r o (λ b u. run_at p (later b) u) → Reaches shape code r o (λ b u. run_at q (later b) u)
  goal_at {B} {r} {o} {later} p e is = subst (λ (n : ℕ). Reaches shape code r o (λ b u. run_at n (later b) u)) e is
