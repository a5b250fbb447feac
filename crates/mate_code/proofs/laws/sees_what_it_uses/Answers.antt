use Rattle.std.proofs.Common.{◌≡◌, ℕ, ◌+◌, ℤ, List, take, map, length, refl, ap, ◌∙◌}
use Rattle.std.specs.List.{range_with_len}
use Rattle.arrayvec.specs.ArrayVec.{ArrayVec}
use Rattle.mate_num.specs.Uses.{uses}
use Rattle.mate_num.specs.declared.call.Call.{Call}
use Rattle.mate_num.specs.declared.shape.Shape.{Shape}
use Rattle.mate_num.specs.declared.store.Store.{Store}
use Rattle.mate_code.specs.Cells.{Agree}
use Rattle.mate_code.specs.CodeUses.{uses_of}
use Rattle.mate_code.specs.Run.{Code, Own, begun_run, bound, after, end_of, next_mark, code_run, call_marks}
use Rattle.mate_code.proofs.RunLemmas.{Matches, after-Matches}
use Rattle.mate_code.proofs.laws.sees_what_it_uses.Goals as goal

module _ (shape : Shape) (code : Code) (s t : Store) (msg : ArrayVec ℤ) (turns : ℕ) (agree : Agree (uses (uses_of shape code)) s t) where
  matches : (n : ℕ) (answers : List ℤ) → Matches (uses (uses_of shape code)) (after n shape code (begun_run s msg answers turns)) (after n shape code (begun_run t msg answers turns))
  matches n answers = after-Matches n shape code (begun_run s msg answers turns) (begun_run t msg answers turns) record { own = refl; stores = agree }

  marks_same : (answers : List ℤ) → call_marks shape code s msg answers turns ≡ call_marks shape code t msg answers turns
  marks_same answers =
      let calls : (code_run shape code s msg answers turns).calls ≡ (code_run shape code t msg answers turns).calls =
      ap (λ (o : Own). o.calls) (matches (bound code turns) answers).own in
      let each : (k : ℕ) → next_mark shape code s msg (take k answers) turns ≡ next_mark shape code t msg (take k answers) turns =
      λ k. ap (λ (o : Own). o.count) (matches (bound code turns) (take k answers)).own in
      let functions : ◌≡◌ {A = ℕ → ℕ} (λ k. next_mark shape code s msg (take k answers) turns) (λ k. next_mark shape code t msg (take k answers) turns) =
      λ i. λ k. each k i in
      ap (λ (f : ℕ → ℕ). map f (range_with_len 0 (length (code_run shape code s msg answers turns).calls + 1))) functions
      ∙ ap (λ (cs : List Call). map (λ k. next_mark shape code t msg (take k answers) turns) (range_with_len 0 (length cs + 1))) calls

pub returns : goal.returns
returns c = λ shape code s t msg answers turns agree.
    let m = matches shape code s t msg turns agree (bound code turns) answers in
    record {
      end = ap (λ (o : Own). end_of o.status) m.own;
      calls = ap (λ (o : Own). o.calls) m.own;
      marks_are = marks_same shape code s t msg turns agree answers;
      values = m.stores;
      on_the_way = λ n. (matches shape code s t msg turns agree n answers).stores;
    }
