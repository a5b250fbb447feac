-- The whole run of a script's code ends as the script does.
use Rattle.std.proofs.Common.{◌≡◌, ◌≢◌, ℕ, ◌+◌, ℤ, List, [], ◌∷◌, refl, sym, ap, ◌∙◌}
use Rattle.std.specs.Prelude.{IsTrue, ⊤}
use Rattle.std.proofs.lemmas.Bool.{and_parts}
use Rattle.arrayvec.specs.ArrayVec.{ArrayVec}
use Rattle.mate_num.specs.declared.call.Call.{Call}
use Rattle.mate_num.specs.declared.call.End.{End}
use Rattle.mate_num.specs.declared.call.End.TheVariants as end
use Rattle.mate_num.specs.declared.shape.Shape.{Shape}
use Rattle.mate_num.specs.declared.store.Store.{Store}
use Rattle.mate_code.specs.declared.instr.Instr.{Instr}
use Rattle.mate_code.specs.declared.instr.Instr.TheVariants as instr
use Rattle.mate_code.specs.Laws.{EndsInTime}
use Rattle.mate_code.specs.Run.{Code, Run, Status, Going, Over as IsOver, after, bound, end_of, begun_run, whole_code_run, code_run}
use Rattle.mate_code.proofs.BoundLemmas.{verified-EndsInTime}
use Rattle.mate_code.proofs.RunLemmas.{one_end}
use Rattle.mate_num.specs.Shapes.{is_shape}
use Rattle.ts_checked.specs.Right.{is_right_block, is_right}
use Rattle.ts_checked.specs.Statement.{Block}
use Rattle.ts_semantics.specs.State.{ScriptState, Evaluation, Done, Over, then_do, begun_state}
use Rattle.ts_semantics.specs.Meaning.{run_block, outcome_at, played, run_of}
use Rattle.mate_num.specs.declared.outcome.Outcome.{Outcome}
use Rattle.ts_semantics.specs.Laws.{RunsAsItsScript, IsVerifiedScript}
use Rattle.ts_semantics.specs.Translation.{block_code, block_size, script_code, code_of}
use Rattle.ts_semantics.proofs.RunPlaces.{StandsAt, stands-front, placed-StandsAt}
use Rattle.ts_semantics.proofs.RunReaches.{run_at, Goal, Ends, Reaches, stops, reaches-then, executes}
use Rattle.ts_semantics.proofs.RunStatements.{behind_block, run_block-Reaches}

-- a run that is over with this outcome
record EndsAs (shape : Shape) (code : Code) (r : Run) (p : Outcome) : Type 0 where
  steps : ℕ
  over : (after steps shape code r).own.status ≡ IsOver p.end
  store : (after steps shape code r).store ≡ p.store
  calls : (after steps shape code r).own.calls ≡ p.calls

ends-EndsAs : (shape : Shape) (code : Code) (r : Run) (end : End) (s : ScriptState) → Ends shape code r end s → EndsAs shape code r (outcome_at end s)
ends-EndsAs shape code r end s e = record { steps = e.steps; over = e.over; store = e.store; calls = e.calls }

-- a script that nothing stopped ends by a halt
abbrev halts : ⊤ → ScriptState → Evaluation ⊤
halts _ s = Over end.Halt s

halted : (shape : Shape) (code : Code) (r : Run) (o : Evaluation ⊤) (goal : Goal ⊤) → Reaches shape code r (then_do o halts) goal → EndsAs shape code r (played o)
halted shape code r (Done u s) goal is = ends-EndsAs shape code r end.Halt s is.by
halted shape code r (Over e s) goal is = ends-EndsAs shape code r e s is.by

-- the code of a script ends as the script does
script-EndsAs : (shape : Shape) (tree : Block) (store : Store) (msg : ArrayVec ℤ) (answers : List ℤ) (turns : ℕ) → IsTrue (is_right shape tree)
    → EndsAs shape (code_of tree) (begun_run store msg answers turns) (run_of tree store msg answers turns)
script-EndsAs shape tree store msg answers turns right =
    let code : Code = code_of tree in
    let s : ScriptState = begun_state store msg answers turns in
    let body : List Instr = block_code 0 tree in
    let last : List Instr = instr.Halt ∷ [] in
    let behind : ℕ = 0 + block_size tree in
    let all : StandsAt code 0 (script_code tree) = placed-StandsAt 0 (script_code tree) in
    let halt : StandsAt code behind last = behind_block code 0 tree last all in
    let goal : Goal ⊤ = λ _ u. run_at behind [] u in
    halted shape code (begun_run store msg answers turns) (run_block tree s) goal
    (reaches-then halts (run_block-Reaches shape code tree (and_parts (is_shape shape) (is_right_block shape tree) right).1 0 (stands-front code 0 body last all) [] s 0)
    (λ _ t k is. executes instr.Halt halt.0 (stops refl refl refl)))

not_going : (status : Status) (e : End) → status ≡ IsOver e → status ≢ Going
not_going status e is going = let clash : IsOver e ≡ Going = sym is ∙ going in cc

same_outcome : {e f : End} {s t : Store} {c d : List Call} → e ≡ f → s ≡ t → c ≡ d → ◌≡◌ {A = Outcome} record { end = e; store = s; calls = c } record { end = f; store = t; calls = d }
same_outcome {e} {f} {s} {t} {c} {d} p q r =
    ap (λ (x : End). record { end = x; store = s; calls = c }) p
    ∙ ap (λ (x : Store). record { end = f; store = x; calls = c }) q
    ∙ ap (λ (x : List Call). record { end = f; store = t; calls = x }) r

-- two ends of one run are one: what a whole run gives is how it ends
whole-played : (shape : Shape) (code : Code) (store : Store) (msg : ArrayVec ℤ) (answers : List ℤ) (turns : ℕ) (p : Outcome) → EndsAs shape code (begun_run store msg answers turns) p
    → (end : End) × ((whole_code_run shape code store msg answers turns).own.status ≡ IsOver end) → code_run shape code store msg answers turns ≡ p
whole-played shape code store msg answers turns p is over =
    let r : Run = begun_run store msg answers turns in
    let n : ℕ = bound code turns in
    let e : after n shape code r ≡ after is.steps shape code r =
    one_end n is.steps shape code r (not_going (after n shape code r).own.status over.0 over.1) (not_going (after is.steps shape code r).own.status p.end is.over) in
    same_outcome
    (ap (λ (x : Run). end_of x.own.status) e ∙ ap end_of is.over)
    (ap (λ (x : Run). x.store) e ∙ is.store)
    (ap (λ (x : Run). x.own.calls) e ∙ is.calls)

-- the code of a right script that is verified runs as the script does
pub accepted-RunsAsItsScript : (shape : Shape) (tree : Block) → IsTrue (is_right shape tree) → IsVerifiedScript shape tree → RunsAsItsScript shape tree
accepted-RunsAsItsScript shape tree right accepted store msg answers turns =
    let in_time : EndsInTime shape (code_of tree) store msg answers turns = verified-EndsInTime shape (code_of tree) accepted.0 store msg answers turns accepted.1 in
    whole-played shape (code_of tree) store msg answers turns (run_of tree store msg answers turns) (script-EndsAs shape tree store msg answers turns right) in_time.is_over
