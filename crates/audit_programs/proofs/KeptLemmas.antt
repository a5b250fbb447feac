-- Runs that are kept: how they begin, go on, are answered and end.
use Rattle.std.proofs.Common.{Option, None, Some, ◌≡◌, ◌≤◌, ◌<◌, ℕ, zero, suc, ◌+◌, ◌*◌, ℤ, List, [], ◌∷◌, ◌++◌, length, take, drop, append_assoc, append-nil, refl, ap, sym, ◌∙◌, subst, arith, inl, inr}
use Rattle.arrayvec.specs.ArrayVec.{ArrayVec}
use Rattle.mate_num.specs.declared.bounds.TheConstants.{CODE_MAX}
use Rattle.mate_num.specs.declared.call.Call.{Call}
use Rattle.mate_num.specs.declared.call.End.{End}
use Rattle.mate_num.specs.declared.call.End.TheVariants as end
use Rattle.mate_num.specs.declared.id.FunId.{FunId}
use Rattle.mate_num.specs.declared.outcome.Outcome.{Outcome}
use Rattle.mate_num.specs.declared.shape.Shape.{Shape}
use Rattle.mate_num.specs.declared.store.Store.{Store}
use Rattle.mate_code.specs.Effect.{Private, Effect, Goes, Writes, Asks, Halts, Faults, Sticks, push}
use Rattle.mate_code.specs.declared.instr.Instr.{Instr}
use Rattle.mate_code.specs.Run.{Code, Going, Over, Stuck, Status, Own, Run, asked, begun_run, bound, after, step, step_at, fetch, executed_at, effect_in, own_after_effect, run_after, outcome_of, code_run}
use Rattle.mate_code.proofs.RunLemmas.{after-add, after-given, after-over, one_end}
use Rattle.mate_code.proofs.BoundLemmas.{verified-EndsInTime}
use Rattle.mate_code.specs.Laws.{EndsInTime}
use Rattle.code_verifier.specs.Verified.{VerifiedCode, IsVerifiedCode, marks_of, IsAtVerified}
use Rattle.exec_unit.specs.Machine.{begun}
use Rattle.exec_unit.specs.Running.{GoFor, StopsAfter, HasRunTo}
use Rattle.exec_unit.specs.Step.{HasLengths, FitsAfter, going, own_after}
use Rattle.exec_unit.specs.declared.running.Ran.{Ran}
use Rattle.exec_unit.specs.declared.step_end.StepEnd.{StepEnd}
use Rattle.exec_unit.specs.declared.step_end.StepEnd.TheVariants.{Next, Ask, Halt, Fault}
use Rattle.audit_rules.proofs.AnswerLemmas.{IsExtended, after-IsExtended}
use Rattle.std.specs.Prelude.{Bool, true, false, MatchBool, IfOk, IfSome, OnOk, Result, Ok, Err, slice_index_or, slice_set}
use Rattle.std.proofs.Common.{Bor, length-append}
use Rattle.std.proofs.lemmas.List.{length-map, get_or-map, take_more, take_all, take-append-drop}
use Rattle.vm_shape.specs.Shapes.{shape_of}
use Rattle.vm_shape.specs.declared.description.Description.{Description}
use Rattle.mate_journal.specs.Journal.{Invocation, answers_of}
use Rattle.mate_journal.specs.Machine.{HeldProgram, Meaning}
use Rattle.mate_journal.specs.declared.program.Program.{Program}
use Rattle.node_state.specs.Meaning.{image_code}
use Rattle.node_programs.specs.Right.{AreRightPrograms}
use Rattle.node_programs.proofs.MeaningLemmas.{meaning_by-right}
use Rattle.audit_rules.specs.Rerun.{run_on}
use Rattle.audit_rules.specs.Laws.{machine_by}
use Rattle.audit_programs.specs.Images.{IsImageCode}
use Rattle.audit_programs.specs.Ready.{IsReadyAs}
use Rattle.audit_programs.specs.declared.ready.ReadyProgram.{ReadyProgram}
use Rattle.audit_programs.proofs.ReadyRuns.{code-means}
use Rattle.audit_programs.specs.declared.kept.KeptRun.{KeptRun}
use Rattle.audit_programs.specs.Kept.{answers_to, end_at, outcome_in, HasCaughtUp, HasGoneOn, HasTaken, IsAnswered, IsBehind, IsKept, IsRun, IsRunBehind, IsRunOf, IsRunOfSeat, IsRunWith, IsSameRun, WaitsNot}

abbrev at : Private → List Call → ℕ → Store → Run
at p calls count s = record { own = going p [] calls count; store = s }

-- ---- many instructions

-- so many that go on
after-GoFor : (v : VerifiedCode) (n : ℕ) (old : Private) (before : Store) (new : Private) (now : Store) (calls : List Call) (count : ℕ) → GoFor v n old before new now
    → after n v.shape v.code (at old calls count before) ≡ at new calls (count + n) now
unfolding after
after-GoFor v zero old before new now calls count goes =
    ap (λ (p : Private). at p calls count before) (sym goes.0) ∙ ap (λ (s : Store). at new calls count s) (sym goes.1)
    ∙ ap (λ (k : ℕ). at new calls k now) (let e : count ≡ count + 0 = omega arith in e)
after-GoFor v (suc n) old before new now calls count goes =
    ap (step v.shape v.code) (after-GoFor v n old before goes.0 goes.1 calls count goes.2)
    ∙ goes.3.run [] calls (count + n)
    ∙ ap (λ (k : ℕ). at new calls k now) (let e : count + n + 1 ≡ count + suc n = omega arith in e)

-- after so many the next one ends so
after-StopsAfter : (v : VerifiedCode) (old : Private) (before : Store) (n : ℕ) (ran : Ran) (new : Private) (now : Store) (calls : List Call) (count : ℕ) → (s : StopsAfter v old before n ran new now)
    → after (suc s.gone) v.shape v.code (at old calls count before) ≡ record { own = own_after ran.how new (going s.mid [] calls (count + s.gone)); store = now }
unfolding after
after-StopsAfter v old before n ran new now calls count s =
    ap (step v.shape v.code) (after-GoFor v s.gone old before s.mid s.store calls count s.goes) ∙ s.last.run [] calls (count + s.gone)

-- what goes on fits its code, and the store keeps its lengths
fits-GoFor : (v : VerifiedCode) (n : ℕ) (old : Private) (before : Store) (new : Private) (now : Store) → GoFor v n old before new now → IsAtVerified v old → HasLengths v.shape before → IsAtVerified v new × HasLengths v.shape now
fits-GoFor v zero old before new now goes fits long = (subst (IsAtVerified v) (sym goes.0) fits, subst (HasLengths v.shape) (sym goes.1) long)
fits-GoFor v (suc n) old before new now goes fits long = (goes.3.fits, goes.3.lengths)

-- ---- the bound

in_time : (v : VerifiedCode) (store : Store) (msg : ArrayVec ℤ) (answers : List ℤ) (turns : ℕ) → IsVerifiedCode v → EndsInTime v.shape v.code store msg answers turns
in_time v store msg answers turns ver = verified-EndsInTime v.shape v.code (marks_of v) store msg answers turns ver.are_verified.is_verified

count-low : (v : VerifiedCode) (store : Store) (msg : ArrayVec ℤ) (answers : List ℤ) (turns n : ℕ) → IsVerifiedCode v → (run_after n v.shape v.code store msg answers turns).own.count ≤ (turns + 1) * CODE_MAX
count-low v store msg answers turns n ver =
    (in_time v store msg answers turns ver).in_limit (let size = ver.are_verified.size in let few = ver.are_verified.fits in omega (arith, size, few)) n

-- ---- it begins, and goes on

pub begins : (v : VerifiedCode) (store : Store) (msg : ArrayVec ℤ) (turns : ℕ) (machine : Private) → HasLengths v.shape store → machine ≡ begun turns msg.items → IsAtVerified v machine
    → IsRun v.shape v.code store msg turns machine store [] Next
unfolding after
begins v store msg turns machine long is fits = record {
  count = 0;
  own = machine;
  run = ap (λ (p : Private). at p [] 0 store) (sym is);
  machine_is = (refl, fits);
  lengths = long;
}

-- a step that ended so leaves a run that stands so
stands : (v : VerifiedCode) (store : Store) (msg : ArrayVec ℤ) (turns : ℕ) (how : StepEnd) (mid new : Private) (now : Store) (calls : List Call) (k n : ℕ) → n ≡ k + 1
    → run_after n v.shape v.code store msg (answers_to calls) turns ≡ record { own = own_after how new (going mid [] calls k); store = now } → FitsAfter v how new → HasLengths v.shape now
    → IsRun v.shape v.code store msg turns new now calls how
stands v store msg turns Next mid new now calls k n is run fits long = record { count = n; own = new; run = run ∙ ap (λ (c : ℕ). at new calls c now) (sym is); machine_is = (refl, fits); lengths = long }
stands v store msg turns (Ask f args) mid new now calls k n is run fits long = record {
  count = n;
  own = new;
  run = run ∙ ap (λ (c : ℕ). let r : Run = record { own = record { own = new; left = []; calls = calls; count = c; status = Over (end.Wants f args) }; store = now } in r) (sym is);
  machine_is = (refl, fits.room, fits.fits);
  lengths = long;
}
stands v store msg turns Halt mid new now calls k n is run fits long = record {
  count = n;
  own = mid;
  run = run ∙ ap (λ (c : ℕ). let r : Run = record { own = record { own = mid; left = []; calls = calls; count = c; status = Over end.Halt }; store = now } in r) (sym is);
  machine_is = tt;
  lengths = long;
}
stands v store msg turns (Fault kind) mid new now calls k n is run fits long = record {
  count = n;
  own = mid;
  run = run ∙ ap (λ (c : ℕ). let r : Run = record { own = record { own = mid; left = []; calls = calls; count = c; status = Over (end.Fault kind) }; store = now } in r) (sym is);
  machine_is = tt;
  lengths = long;
}

module _ (v : VerifiedCode) (store : Store) (msg : ArrayVec ℤ) (turns : ℕ) (machine : Private) (heap : Store) (calls : List Call) (r : IsRun v.shape v.code store msg turns machine heap calls Next) (ver : IsVerifiedCode v) where
  -- after more instructions of the run
  more-run : (k : ℕ) → run_after (r.count + k) v.shape v.code store msg (answers_to calls) turns ≡ after k v.shape v.code (at machine calls r.count heap)
  more-run k =
      after-add k r.count v.shape v.code (begun_run store msg (answers_to calls) turns)
      ∙ ap (after k v.shape v.code) (r.run ∙ ap (λ (p : Private). at p calls r.count heap) r.machine_is.0)

  -- n of them go on
  pub next-run : (n : ℕ) (new : Private) (now : Store) → GoFor v n machine heap new now
      → (next : IsRun v.shape v.code store msg turns new now calls Next) × (next.count ≡ r.count + n) × (r.count + n ≤ (turns + 1) * CODE_MAX)
  next-run n new now goes =
      let run = more-run n ∙ after-GoFor v n machine heap new now calls r.count goes in
      let low = count-low v store msg (answers_to calls) turns (r.count + n) ver in
      let count : (run_after (r.count + n) v.shape v.code store msg (answers_to calls) turns).own.count ≡ r.count + n = ap (λ (x : Run). x.own.count) run in
      let f = fits-GoFor v n machine heap new now goes r.machine_is.1 r.lengths in
      (record { count = r.count + n; own = new; run = run; machine_is = (refl, f.0); lengths = f.1 }, refl, omega (arith, low, count))

  -- one of them is the last
  pub stop-run : (n : ℕ) (ran : Ran) (new : Private) (now : Store) → StopsAfter v machine heap n ran new now → IsRun v.shape v.code store msg turns new now calls ran.how
  stop-run n ran new now s =
      stands v store msg turns ran.how s.mid new now calls (r.count + s.gone) (r.count + suc s.gone) (omega arith)
      (more-run (suc s.gone) ∙ after-StopsAfter v machine heap n ran new now calls r.count s) s.last.fits s.last.lengths

  own_after-counts : (how : StepEnd) (p : Private) (o : Own) → o.left ≡ [] → (own_after how p o).count ≡ o.count + 1
  own_after-counts (Ask f args) p o none = let C : List ℤ → Type 0 = λ xs. (asked p f args xs o).count ≡ o.count + 1 in subst C (sym none) refl
  own_after-counts _ p o none = refl

  pub stop-low : (n : ℕ) (ran : Ran) (new : Private) (now : Store) → StopsAfter v machine heap n ran new now → r.count + ran.instructions ≤ (turns + 1) * CODE_MAX
  stop-low n ran new now s =
      let run = more-run (suc s.gone) ∙ after-StopsAfter v machine heap n ran new now calls r.count s in
      let low = count-low v store msg (answers_to calls) turns (r.count + suc s.gone) ver in
      let counted : (run_after (r.count + suc s.gone) v.shape v.code store msg (answers_to calls) turns).own.count ≡ r.count + s.gone + 1 =
      ap (λ (x : Run). x.own.count) run ∙ own_after-counts ran.how new (going s.mid [] calls (r.count + s.gone)) refl in
      let instructions = s.instructions in
      omega (arith, low, counted, instructions)

  pub low : r.count ≤ (turns + 1) * CODE_MAX
  low =
      let l = count-low v store msg (answers_to calls) turns r.count ver in
      let count : (run_after r.count v.shape v.code store msg (answers_to calls) turns).own.count ≡ r.count = ap (λ (x : Run). x.own.count) r.run in
      omega (arith, l, count)

-- by how the last one ended
pub executed-low : (v : VerifiedCode) (store : Store) (msg : ArrayVec ℤ) (turns : ℕ) (machine : Private) (heap : Store) (calls : List Call) → (r : IsRun v.shape v.code store msg turns machine heap calls Next) → IsVerifiedCode v
    → (n : ℕ) (ran : Ran) (how : StepEnd) (new : Private) (now : Store) → HasRunTo how v machine heap n ran new now → r.count + ran.instructions ≤ (turns + 1) * CODE_MAX
executed-low v store msg turns machine heap calls r ver n ran Next new now h = let next = next-run v store msg turns machine heap calls r ver n new now h.1 in let low = next.2 in let same = h.0 in omega (arith, low, same)
executed-low v store msg turns machine heap calls r ver n ran _ new now h = stop-low v store msg turns machine heap calls r ver n ran new now h

pub stopped : (v : VerifiedCode) (store : Store) (msg : ArrayVec ℤ) (turns : ℕ) (machine : Private) (heap : Store) (calls : List Call) → (r : IsRun v.shape v.code store msg turns machine heap calls Next) → IsVerifiedCode v
    → (n : ℕ) (ran : Ran) (how : StepEnd) (new : Private) (now : Store) → (how ≡ Next → ⊥) → HasRunTo how v machine heap n ran new now → IsRun v.shape v.code store msg turns new now calls ran.how
stopped v store msg turns machine heap calls r ver n ran Next new now stops h = absurd (stops refl)
stopped v store msg turns machine heap calls r ver n ran _ new now stops h = stop-run v store msg turns machine heap calls r ver n ran new now h

-- ---- it is answered

pub answers-more : (calls : List Call) (c : Call) → answers_to (calls ++ c ∷ []) ≡ answers_to calls ++ c.result ∷ []
answers-more [] c = refl
answers-more (d ∷ calls) c = ap (λ (xs : List ℤ). d.result ∷ xs) (answers-more calls c)

pub answered : (v : VerifiedCode) (store : Store) (msg : ArrayVec ℤ) (turns : ℕ) (machine : Private) (heap : Store) (calls : List Call) (f : FunId) (args : ArrayVec ℤ) (a : ℤ)
    → IsRun v.shape v.code store msg turns machine heap calls (Ask f args) → IsRun v.shape v.code store msg turns (push a machine) heap (calls ++ record { fun = f; args = args; result = a } ∷ []) Next
answered v store msg turns machine heap calls f args a r =
    let begin : Run = begun_run store msg (answers_to calls) turns in
    let c : Call = record { fun = f; args = args; result = a } in
    let given = after-given r.count a f args v.shape v.code begin refl (ap (λ (x : Run). x.own.status) r.run) (ap (λ (x : Run). x.own.count) r.run ∙ (let e : r.count ≡ 0 + r.count = omega arith in e)) in
    record {
      count = r.count;
      own = push a machine;
      run = ap (λ (xs : List ℤ). run_after r.count v.shape v.code store msg xs turns) (answers-more calls c)
          ∙ given
          ∙ ap (λ (x : Run). let y : Run = record { own = record { own = push a x.own.own; left = x.own.left; calls = x.own.calls ++ c ∷ []; count = x.own.count; status = Going }; store = x.store } in y) r.run
          ∙ ap (λ (p : Private). at (push a p) (calls ++ c ∷ []) r.count heap) r.machine_is.0;
      machine_is = (refl, r.machine_is.2 a);
      lengths = r.lengths;
    }

-- ---- what it took

-- all
pub all-taken : (how : StepEnd) (taken answers : List ℤ) → taken ≡ answers → HasTaken how taken answers
all-taken Next taken answers same = same
all-taken (Ask f args) taken answers same = same
all-taken Halt taken answers same = ([], sym same ∙ sym (append-nil taken))
all-taken (Fault kind) taken answers same = ([], sym same ∙ sym (append-nil taken))

-- ---- it ends

abbrev over_in : Status → End
over_in (Over d) = d
over_in _ = end.Halt

abbrev IsOverAs : ℕ → Shape → Code → Store → ArrayVec ℤ → List ℤ → List ℤ → ℕ → End → Type 0
IsOverAs n shape code store msg xs ys turns e =
    (outcome_of (run_after n shape code store msg ys turns) ≡ outcome_of (run_after n shape code store msg xs turns)) × ((run_after n shape code store msg ys turns).own.status ≡ Over e)

-- a run that is over, but not in a call, is the same with one more answer
over-one : (n : ℕ) (shape : Shape) (code : Code) (store : Store) (msg : ArrayVec ℤ) (xs : List ℤ) (x : ℤ) (turns : ℕ) (e : End) → ((f : FunId) (args : ArrayVec ℤ) → e ≡ end.Wants f args → ⊥)
    → (run_after n shape code store msg xs turns).own.status ≡ Over e → IsOverAs n shape code store msg xs (xs ++ x ∷ []) turns e
over-one n shape code store msg xs x turns e apart is = by (after-IsExtended n x shape code (begun_run store msg xs turns)) where
  by : IsExtended x (run_after n shape code store msg xs turns) (run_after n shape code store msg (xs ++ x ∷ []) turns) → IsOverAs n shape code store msg xs (xs ++ x ∷ []) turns e
  by (inl same) = (ap outcome_of same, ap (λ (y : Run). y.own.status) same ∙ is)
  by (inr past) = absurd (apart past.fun past.args (ap over_in (sym is ∙ past.waits)))

-- and with more
over-more : (n : ℕ) (shape : Shape) (code : Code) (store : Store) (msg : ArrayVec ℤ) (xs rest : List ℤ) (turns : ℕ) (e : End) → ((f : FunId) (args : ArrayVec ℤ) → e ≡ end.Wants f args → ⊥)
    → (run_after n shape code store msg xs turns).own.status ≡ Over e → IsOverAs n shape code store msg xs (xs ++ rest) turns e
over-more n shape code store msg xs [] turns e apart is = subst (λ (ys : List ℤ). IsOverAs n shape code store msg xs ys turns e) (sym (append-nil xs)) (refl, is)
over-more n shape code store msg xs (x ∷ rest) turns e apart is =
    let one = over-one n shape code store msg xs x turns e apart is in
    let h = over-more n shape code store msg (xs ++ x ∷ []) rest turns e apart one.1 in
    subst (λ (ys : List ℤ). IsOverAs n shape code store msg xs ys turns e) (append_assoc xs (x ∷ []) rest) (h.0 ∙ one.0, h.1)

-- a run that is over is the whole run
over-whole : (v : VerifiedCode) (store : Store) (msg : ArrayVec ℤ) (answers : List ℤ) (turns n : ℕ) (e : End) → IsVerifiedCode v → (run_after n v.shape v.code store msg answers turns).own.status ≡ Over e
    → outcome_of (run_after n v.shape v.code store msg answers turns) ≡ code_run v.shape v.code store msg answers turns
over-whole v store msg answers turns n e ver is =
    let whole = (in_time v store msg answers turns ver).is_over in
    ap outcome_of (one_end n (bound v.code turns) v.shape v.code (begun_run store msg answers turns) (λ g. let x : Over e ≡ Going = sym is ∙ g in cc) (λ g. let x : Over whole.0 ≡ Going = sym whole.1 ∙ g in cc))

-- at a call without an answer, or at its end
whole-same : (v : VerifiedCode) (store : Store) (msg : ArrayVec ℤ) (answers : List ℤ) (turns n : ℕ) (e : End) (r : Run) → IsVerifiedCode v → run_after n v.shape v.code store msg answers turns ≡ r → r.own.status ≡ Over e
    → outcome_of r ≡ code_run v.shape v.code store msg answers turns
whole-same v store msg answers turns n e r ver run is = sym (ap outcome_of run) ∙ over-whole v store msg answers turns n e ver (ap (λ (x : Run). x.own.status) run ∙ is)

whole-more : (v : VerifiedCode) (store : Store) (msg : ArrayVec ℤ) (xs rest answers : List ℤ) (turns n : ℕ) (e : End) (r : Run) → IsVerifiedCode v → ((f : FunId) (args : ArrayVec ℤ) → e ≡ end.Wants f args → ⊥)
    → run_after n v.shape v.code store msg xs turns ≡ r → r.own.status ≡ Over e → answers ≡ xs ++ rest → outcome_of r ≡ code_run v.shape v.code store msg answers turns
whole-more v store msg xs rest answers turns n e r ver apart run is same =
    let h = over-more n v.shape v.code store msg xs rest turns e apart (ap (λ (x : Run). x.own.status) run ∙ is) in
    sym (ap outcome_of run) ∙ sym h.0 ∙ over-whole v store msg (xs ++ rest) turns n e ver h.1
    ∙ ap (λ (ys : List ℤ). code_run v.shape v.code store msg ys turns) (sym same)

pub ends : (v : VerifiedCode) (store : Store) (msg : ArrayVec ℤ) (turns : ℕ) (machine : Private) (heap : Store) (calls : List Call) (how : StepEnd) (answers : List ℤ) → IsVerifiedCode v → IsRun v.shape v.code store msg turns machine heap calls how
    → HasTaken how (answers_to calls) answers → (how ≡ Next → ⊥) → ◌≡◌ {A = Outcome} record { end = end_at how; store = heap; calls = calls } (code_run v.shape v.code store msg answers turns)
ends v store msg turns machine heap calls Next answers ver r taken stops = absurd (stops refl)
ends v store msg turns machine heap calls (Ask f args) answers ver r taken stops =
    whole-same v store msg (answers_to calls) turns r.count (end.Wants f args) _ ver r.run refl ∙ ap (λ (xs : List ℤ). code_run v.shape v.code store msg xs turns) taken
ends v store msg turns machine heap calls Halt answers ver r taken stops = whole-more v store msg (answers_to calls) taken.0 answers turns r.count end.Halt _ ver (λ f args e. cc) r.run refl taken.1
ends v store msg turns machine heap calls (Fault kind) answers ver r taken stops = whole-more v store msg (answers_to calls) taken.0 answers turns r.count (end.Fault kind) _ ver (λ f args e. cc) r.run refl taken.1

-- ---- its calls

record IsStill (r s : Run) : Type 0 where
  none : s.own.left ≡ []
  calls : s.own.calls ≡ r.own.calls

effect-still : (e : Effect) (o : Own) → o.left ≡ [] → ((own_after_effect e o).left ≡ []) × ((own_after_effect e o).calls ≡ o.calls)
effect-still (Asks p f args) o none = let C : List ℤ → Type 0 = λ xs. ((asked p f args xs o).left ≡ []) × ((asked p f args xs o).calls ≡ o.calls) in subst C (sym none) (none, refl)
effect-still (Goes p) o none = (none, refl)
effect-still (Writes p cell) o none = (none, refl)
effect-still Halts o none = (none, refl)
effect-still (Faults kind) o none = (none, refl)
effect-still Sticks o none = (none, refl)

step-still : (shape : Shape) (code : Code) (r : Run) → r.own.left ≡ [] → IsStill r (step shape code r)
step-still shape code r none = by r.own.status where
  found : (i : Option Instr) → IsStill r (executed_at shape i r)
  found None = let h = effect-still Sticks r.own none in record { none = h.0; calls = h.1 }
  found (Some i) = let h = effect-still (effect_in shape i r.own.own r.store) r.own none in record { none = h.0; calls = h.1 }

  by : (status : Status) → IsStill r (step_at shape code status r)
  by Going = found (fetch code r.own.own.pc)
  by (Over e) = record { none = none; calls = refl }
  by Stuck = record { none = none; calls = refl }

-- without an answer no call is listed
after-still : (n : ℕ) (shape : Shape) (code : Code) (r : Run) → r.own.left ≡ [] → IsStill r (after n shape code r)
unfolding after
after-still zero shape code r none = record { none = none; calls = refl }
after-still (suc n) shape code r none =
    let h = after-still n shape code r none in
    let s = step-still shape code (after n shape code r) h.none in
    record { none = s.none; calls = s.calls ∙ h.calls }

-- a run that took all answers has all calls of the whole run
going-calls : (v : VerifiedCode) (store : Store) (msg : ArrayVec ℤ) (turns n : ℕ) (p : Private) (heap : Store) (calls : List Call) → IsVerifiedCode v
    → run_after n v.shape v.code store msg (answers_to calls) turns ≡ at p calls n heap → calls ≡ (code_run v.shape v.code store msg (answers_to calls) turns).calls
going-calls v store msg turns n p heap calls ver run =
    let begin : Run = begun_run store msg (answers_to calls) turns in
    let whole = (in_time v store msg (answers_to calls) turns ver).is_over in
    let later : after (bound v.code turns + n) v.shape v.code begin ≡ after n v.shape v.code (after (bound v.code turns) v.shape v.code begin) = after-add n (bound v.code turns) v.shape v.code begin in
    let over : after n v.shape v.code (after (bound v.code turns) v.shape v.code begin) ≡ after (bound v.code turns) v.shape v.code begin =
    after-over n v.shape v.code (after (bound v.code turns) v.shape v.code begin) (λ g. let x : Over whole.0 ≡ Going = sym whole.1 ∙ g in cc) in
    let first : after (n + bound v.code turns) v.shape v.code begin ≡ after (bound v.code turns) v.shape v.code (at p calls n heap) =
    after-add (bound v.code turns) n v.shape v.code begin ∙ ap (after (bound v.code turns) v.shape v.code) run in
    let turn : after (n + bound v.code turns) v.shape v.code begin ≡ after (bound v.code turns + n) v.shape v.code begin =
    ap (λ (k : ℕ). after k v.shape v.code begin) (let e : n + bound v.code turns ≡ bound v.code turns + n = omega arith in e) in
    let still = after-still (bound v.code turns) v.shape v.code (at p calls n heap) refl in
    sym still.calls ∙ ap (λ (r : Run). r.own.calls) (sym first ∙ turn ∙ later ∙ over)

pub its-calls : (v : VerifiedCode) (store : Store) (msg : ArrayVec ℤ) (turns : ℕ) (machine : Private) (heap : Store) (calls : List Call) (how : StepEnd) (answers : List ℤ) → IsVerifiedCode v → IsRun v.shape v.code store msg turns machine heap calls how
    → HasTaken how (answers_to calls) answers → calls ≡ (code_run v.shape v.code store msg answers turns).calls
its-calls v store msg turns machine heap calls Next answers ver r taken =
    going-calls v store msg turns r.count r.own heap calls ver r.run ∙ ap (λ (xs : List ℤ). (code_run v.shape v.code store msg xs turns).calls) taken
its-calls v store msg turns machine heap calls (Ask f args) answers ver r taken = ap (λ (o : Outcome). o.calls) (ends v store msg turns machine heap calls (Ask f args) answers ver r taken (λ e. cc))
its-calls v store msg turns machine heap calls Halt answers ver r taken = ap (λ (o : Outcome). o.calls) (ends v store msg turns machine heap calls Halt answers ver r taken (λ e. cc))
its-calls v store msg turns machine heap calls (Fault kind) answers ver r taken = ap (λ (o : Outcome). o.calls) (ends v store msg turns machine heap calls (Fault kind) answers ver r taken (λ e. cc))

-- ---- the loop that lets it go on

-- it goes on, and more instructions are left than it can execute
pub record GoesOn (v : VerifiedCode) (turns left : ℕ) (old new : KeptRun) : Type 0 where
  pub same : IsSameRun old new
  pub calls : new.calls ≡ old.calls
  pub began : old.how ≡ Next
  pub how : new.how ≡ Next
  pub run : IsRun v.shape v.code new.base new.payload turns new.machine new.heap new.calls Next
  pub of_all : (turns + 1) * CODE_MAX + 1 ≤ run.count + left

-- ---- the runs that are kept

pub kept-set : (d : Description) (xs : List (Option KeptRun)) (i : ℕ) (o : Option KeptRun) → ((place : ℕ) → IfSome (slice_index_or xs place None) (IsKept d)) → IfSome o (IsKept d)
    → (place : ℕ) → IfSome (slice_index_or (slice_set xs i o) place None) (IsKept d)
kept-set d [] i o all h place = all place
kept-set d (x ∷ xs) zero o all h zero = h
kept-set d (x ∷ xs) zero o all h (suc place) = all (suc place)
kept-set d (x ∷ xs) (suc i) o all h zero = all zero
kept-set d (x ∷ xs) (suc i) o all h (suc place) = kept-set d xs i o (λ p. all (suc p)) h place

-- ---- it takes answers

len-answers : (calls : List Call) → length (answers_to calls) ≡ length calls
len-answers calls = length-map calls (λ (c : Call). c.result)

-- it took the answers to the first calls
pub record CatchesUp (v : VerifiedCode) (turns : ℕ) (xs : List Call) (place : ℕ) (start k : KeptRun) : Type 0 where
  pub same : IsSameRun start k
  pub run : IsRunOf v.shape v.code turns k
  pub place_is : place ≡ length k.calls
  pub taken : answers_to k.calls ≡ take place (answers_to xs)

pub catches-first : (v : VerifiedCode) (turns : ℕ) (xs : List Call) (place : ℕ) (k : KeptRun) → place ≡ length k.calls → IsRunOf v.shape v.code turns k → IsBehind (answers_to xs) k → CatchesUp v turns xs place k k
catches-first v turns xs place k is run behind = record {
  same = record { program = refl; payload = refl; base = refl };
  run = run;
  place_is = is;
  taken = behind ∙ ap (λ (n : ℕ). take n (answers_to xs)) (sym is);
}

pub catches-next : (v : VerifiedCode) (turns : ℕ) (xs : List Call) (place : ℕ) (start old mid new : KeptRun) (c : Call) → CatchesUp v turns xs place start old → HasGoneOn old mid → IsAnswered v.shape v.code turns mid c.result new
    → place < length xs → c ≡ slice_index_or xs place c → CatchesUp v turns xs (place + 1) start new
catches-next v turns xs place start old mid new c catches gone answer within is =
    let before : answers_to mid.calls ≡ take place (answers_to xs) = ap (λ (cs : List Call). answers_to cs) gone.calls ∙ catches.taken in
    let l1 = len-answers new.calls in
    let l2 = ap (λ (ys : List ℤ). length ys) answer.answers ∙ length-append (answers_to mid.calls) (c.result ∷ []) in
    let l3 = len-answers mid.calls in
    let l4 = ap (λ (cs : List Call). length cs) gone.calls in
    let l5 = catches.place_is in
    let long = len-answers xs in
    let value : c.result ≡ slice_index_or (answers_to xs) place c.result = ap (λ (d : Call). d.result) is ∙ sym (get_or-map (λ (d : Call). d.result) xs place c c.result within) in
    record {
      same = record {
        program = answer.same.program ∙ gone.same.program ∙ catches.same.program;
        payload = answer.same.payload ∙ gone.same.payload ∙ catches.same.payload;
        base = answer.same.base ∙ gone.same.base ∙ catches.same.base;
      };
      run = answer.run;
      place_is = omega (arith, l1, l2, l3, l4, l5);
      taken = answer.answers ∙ ap (λ (ys : List ℤ). ys ++ c.result ∷ []) before
          ∙ ap (λ (x : ℤ). take place (answers_to xs) ++ x ∷ []) value
          ∙ sym (take_more (answers_to xs) place c.result (omega (arith, long, within)));
    }

-- it ended before
pub catches-stop : (v : VerifiedCode) (turns : ℕ) (xs : List Call) (place : ℕ) (start old mid new : KeptRun) → CatchesUp v turns xs place start old → HasGoneOn old mid → IsRunOf v.shape v.code turns mid → (mid.how ≡ Next → ⊥)
    → (new ≡ mid) × WaitsNot mid.how → HasCaughtUp v.shape v.code turns (answers_to xs) start new
catches-stop v turns xs place start old mid new catches gone run stops over = subst (HasCaughtUp v.shape v.code turns (answers_to xs) start) (sym over.0) record {
  same = record { program = gone.same.program ∙ catches.same.program; payload = gone.same.payload ∙ catches.same.payload; base = gone.same.base ∙ catches.same.base };
  run = run;
  taken = by mid.how stops over.1;
} where
  before : answers_to mid.calls ≡ take place (answers_to xs)
  before = ap (λ (cs : List Call). answers_to cs) gone.calls ∙ catches.taken

  split : answers_to xs ≡ answers_to mid.calls ++ drop place (answers_to xs)
  split = sym (take-append-drop place (answers_to xs)) ∙ ap (λ (ys : List ℤ). ys ++ drop place (answers_to xs)) (sym before)

  by : (how : StepEnd) → (how ≡ Next → ⊥) → WaitsNot how → HasTaken how (answers_to mid.calls) (answers_to xs)
  by Next apart w = absurd (apart refl)
  by (Ask f args) apart w = absurd w
  by Halt apart w = (drop place (answers_to xs), split)
  by (Fault kind) apart w = (drop place (answers_to xs), split)

-- it took all
pub catches-all : (v : VerifiedCode) (turns : ℕ) (xs : List Call) (place : ℕ) (start k : KeptRun) → CatchesUp v turns xs place start k → length xs ≤ place → HasCaughtUp v.shape v.code turns (answers_to xs) start k
catches-all v turns xs place start k catches past = record {
  same = catches.same;
  run = catches.run;
  taken = all-taken k.how (answers_to k.calls) (answers_to xs) (catches.taken ∙ take_all place (answers_to xs) (let long = len-answers xs in omega (arith, long, past)));
}

-- ---- it is finished

pub finished : (v : VerifiedCode) (turns : ℕ) (old new : KeptRun) (answers : List ℤ) → IsVerifiedCode v → IsRunOf v.shape v.code turns new → HasGoneOn old new → (new.how ≡ Next → ⊥) → HasTaken old.how (answers_to old.calls) answers
    → outcome_in new ≡ code_run v.shape v.code old.base old.payload answers turns
finished v turns old new answers ver run gone stops taken =
    ends v new.base new.payload turns new.machine new.heap new.calls new.how answers ver run (by old.how refl taken) stops
    ∙ ap (λ (s : Store). code_run v.shape v.code s new.payload answers turns) gone.same.base
    ∙ ap (λ (p : ArrayVec ℤ). code_run v.shape v.code old.base p answers turns) gone.same.payload where
      kept : (how : StepEnd) → old.how ≡ how → (how ≡ Next → ⊥) → HasTaken how (answers_to old.calls) answers → HasTaken new.how (answers_to new.calls) answers
      kept how is apart t =
          subst (λ (k : KeptRun). HasTaken k.how (answers_to k.calls) answers) (sym (gone.still (λ e. apart (sym is ∙ e))))
          (subst (λ (h : StepEnd). HasTaken h (answers_to old.calls) answers) (sym is) t)

      by : (how : StepEnd) → old.how ≡ how → HasTaken how (answers_to old.calls) answers → HasTaken new.how (answers_to new.calls) answers
      by Next is t = all-taken new.how (answers_to new.calls) answers (ap (λ (cs : List Call). answers_to cs) gone.calls ∙ t)
      by (Ask f args) is t = kept (Ask f args) is (λ e. cc) t
      by Halt is t = kept Halt is (λ e. cc) t
      by (Fault kind) is t = kept (Fault kind) is (λ e. cc) t

pub caught : (v : VerifiedCode) (image : ArrayVec ℕ) (turns : ℕ) (store : Store) (msg : ArrayVec ℤ) (answers : List ℤ) (old new : KeptRun) → IsRunBehind v image turns store msg answers old → HasCaughtUp v.shape v.code turns answers old new
    → IsRunWith v image turns store msg answers new
caught v image turns store msg answers old new behind up = record {
  image_is = ap (λ (p : Bor Program). p.now.image) up.same.program ∙ behind.serves.image_is;
  payload = up.same.payload ∙ behind.serves.payload;
  base = up.same.base ∙ behind.base;
  run = up.run;
  taken = up.taken;
}

pub run-calls : (v : VerifiedCode) (image : ArrayVec ℕ) (turns : ℕ) (store : Store) (msg : ArrayVec ℤ) (answers : List ℤ) (k : KeptRun) → IsVerifiedCode v → IsRunWith v image turns store msg answers k
    → k.calls ≡ (code_run v.shape v.code store msg answers turns).calls
run-calls v image turns store msg answers k ver w =
    its-calls v k.base k.payload turns k.machine k.heap k.calls k.how answers ver w.run w.taken
    ∙ ap (λ (s : Store). (code_run v.shape v.code s k.payload answers turns).calls) w.base
    ∙ ap (λ (p : ArrayVec ℤ). (code_run v.shape v.code store p answers turns).calls) w.payload

-- ---- the code of an image

pub of-image : (d : Description) (image : ArrayVec ℕ) (v : VerifiedCode) (turns : ℕ) (k : KeptRun) → IsImageCode d image v → IsRunOf v.shape v.code turns k → IsRunOf (shape_of d) (image_code (shape_of d) image) turns k
of-image d image v turns k is run =
    subst (λ (code : Code). IsRunOf (shape_of d) code turns k) is.code (subst (λ (shape : Shape). IsRunOf shape v.code turns k) is.shape run)

pub by-image : (d : Description) (image : ArrayVec ℕ) (v : VerifiedCode) (turns : ℕ) (k : KeptRun) → IsImageCode d image v → IsRunOf (shape_of d) (image_code (shape_of d) image) turns k → IsRunOf v.shape v.code turns k
by-image d image v turns k is run =
    subst (λ (shape : Shape). IsRunOf shape v.code turns k) (sym is.shape) (subst (λ (code : Code). IsRunOf (shape_of d) code turns k) (sym is.code) run)

-- what was kept serves a ready program with the same image
pub kept-serves : (d : Description) (o : Option KeptRun) (r : ReadyProgram) (h : HeldProgram) → IsReadyAs d h r → IfSome o (IsKept d) → IfSome o (λ k. k.program.now.image ≡ r.program.now.image → IsRunOf r.code.shape r.code.code d.turns k)
kept-serves d None r h ready kept = tt
kept-serves d (Some k) r h ready kept = λ same.
    by-image d r.program.now.image r.code d.turns k ready.own (subst (λ (image : ArrayVec ℕ). IsRunOf (shape_of d) (image_code (shape_of d) image) d.turns k) same kept)

-- the run of a ready program is that of the invocation
pub seat-run : (d : Description) (store : Store) (i : Invocation) (r : ReadyProgram) (k : KeptRun) (answers : List ℤ) → IsReadyAs d i.program r → answers ≡ answers_of i → IsRunWith r.code r.program.now.image d.turns store i.payload answers k
    → k.calls ≡ (code_run r.code.shape r.code.code store i.payload answers d.turns).calls → IsRunOfSeat d store i k
seat-run d store i r k answers ready same w calls = record {
  kept = subst (λ (image : ArrayVec ℕ). IsRunOf (shape_of d) (image_code (shape_of d) image) d.turns k) (sym w.image_is) (of-image d r.program.now.image r.code d.turns k ready.own w.run);
  code_is = ap (λ (image : ArrayVec ℕ). image_code (shape_of d) image) w.image_is ∙ sym ready.own.code ∙ ready.code.code;
  payload = w.payload;
  base = w.base;
  run = of-image d i.program.image r.code d.turns k ready.code w.run;
  taken = subst (HasTaken k.how (answers_to k.calls)) same w.taken;
  calls = calls
      ∙ ap (λ (xs : List ℤ). (code_run r.code.shape r.code.code store i.payload xs d.turns).calls) same
      ∙ ap (λ (shape : Shape). (code_run shape r.code.code store i.payload (answers_of i) d.turns).calls) ready.code.shape
      ∙ ap (λ (code : Code). (code_run (shape_of d) code store i.payload (answers_of i) d.turns).calls) ready.code.code;
}

-- the whole run of the invocation
pub seat-outcome : (d : Description) (ps : List Program) (store : Store) (i : Invocation) (r : ReadyProgram) (old new : KeptRun) → AreRightPrograms d ps → IsReadyAs d i.program r → IsRunOfSeat d store i old
    → ((answers : List ℤ) → HasTaken old.how (answers_to old.calls) answers → outcome_in new ≡ code_run r.code.shape r.code.code old.base old.payload answers d.turns) → outcome_in new ≡ run_on (machine_by d ps) store i
seat-outcome d ps store i r old new right ready seat ends =
    ends (answers_of i) seat.taken
    ∙ ap (λ (s : Store). code_run r.code.shape r.code.code s old.payload (answers_of i) d.turns) seat.base
    ∙ ap (λ (p : ArrayVec ℤ). code_run r.code.shape r.code.code store p (answers_of i) d.turns) seat.payload
    ∙ code-means d ps i.program r.code store i.payload (answers_of i) d.turns right ready.code

-- its calls
pub seat-calls : (d : Description) (ps : List Program) (store : Store) (i : Invocation) (k : KeptRun) → AreRightPrograms d ps → IsRunOfSeat d store i k → k.calls ≡ (run_on (machine_by d ps) store i).calls
seat-calls d ps store i k right seat =
    seat.calls ∙ ap (λ (m : Meaning). (m.run i.program store i.payload (answers_of i) d.turns).calls) (sym (meaning_by-right d ps right))

pub seat-runs : {E : Type 0} (d : Description) (store : Store) (i : Invocation) (r : ReadyProgram) (answers : List ℤ) (result : Result KeptRun E) → IsReadyAs d i.program r → answers ≡ answers_of i → IfOk result (IsRunWith r.code r.program.now.image d.turns store i.payload answers)
    → IfOk result (λ k. k.calls ≡ (code_run r.code.shape r.code.code store i.payload answers d.turns).calls) → IfOk result (IsRunOfSeat d store i)
seat-runs d store i r answers (Ok k) ready same w calls = seat-run d store i r k answers ready same w calls
seat-runs d store i r answers (Err e) ready same w calls = tt

pub on-ok : {A E P : Type 0} (result : Result A E) → P → OnOk result P
on-ok (Ok a) p = p
on-ok (Err e) p = tt

-- the finished run can be kept
pub seat-kept : (d : Description) (store : Store) (i : Invocation) (r : ReadyProgram) (old new : KeptRun) → IsReadyAs d i.program r → IsRunOfSeat d store i old → new.program ≡ old.program → IsRunOf r.code.shape r.code.code d.turns new → IsKept d new
seat-kept d store i r old new ready seat same run =
    subst (λ (code : Code). IsRunOf (shape_of d) code d.turns new) (sym (ap (λ (p : Bor Program). image_code (shape_of d) p.now.image) same ∙ seat.code_is)) (of-image d i.program.image r.code d.turns new ready.code run)

-- ---- lists that are the same so far

pub same-more : (xs ys : List ℤ) (i : ℕ) (a b : ℤ) → i < length xs → i < length ys → a ≡ slice_index_or xs i a → b ≡ slice_index_or ys i b → a ≡ b → take i xs ≡ take i ys → take (i + 1) xs ≡ take (i + 1) ys
same-more xs ys i a b in_xs in_ys at_a at_b same so_far =
    take_more xs i a in_xs ∙ ap (λ (z : ℤ). take i xs ++ z ∷ []) (sym at_a ∙ same ∙ at_b) ∙ ap (λ (zs : List ℤ). zs ++ slice_index_or ys i b ∷ []) so_far ∙ sym (take_more ys i b in_ys)

pub same-all : (xs ys : List ℤ) (i : ℕ) → length xs ≡ length ys → length xs ≤ i → take i xs ≡ take i ys → xs ≡ ys
same-all xs ys i long past so_far = sym (take_all i xs past) ∙ so_far ∙ take_all i ys (omega (arith, long, past))

pub took-more : (xs ys : List Call) (i : ℕ) (a b : Call) → i < length xs → i < length ys → a ≡ slice_index_or xs i a → b ≡ slice_index_or ys i b → a.result ≡ b.result → take i (answers_to xs) ≡ take i (answers_to ys)
    → take (i + 1) (answers_to xs) ≡ take (i + 1) (answers_to ys)
took-more xs ys i a b in_xs in_ys at_a at_b same so_far =
    let lx = len-answers xs in
    let ly = len-answers ys in
    same-more (answers_to xs) (answers_to ys) i a.result b.result (omega (arith, lx, in_xs)) (omega (arith, ly, in_ys))
    (ap (λ (d : Call). d.result) at_a ∙ sym (get_or-map (λ (d : Call). d.result) xs i a a.result in_xs))
    (ap (λ (d : Call). d.result) at_b ∙ sym (get_or-map (λ (d : Call). d.result) ys i b b.result in_ys)) same so_far

-- ---- whether it goes on

pub goes-by : (b : Bool) (how : StepEnd) → b ≡ true → MatchBool b (how ≡ Next) (how ≡ Next → ⊥) → how ≡ Next
goes-by true how is m = m
goes-by false how is m = cc

pub stops-by : (b : Bool) (how : StepEnd) → b ≡ false → MatchBool b (how ≡ Next) (how ≡ Next → ⊥) → how ≡ Next → ⊥
stops-by true how is m = cc
stops-by false how is m = m
