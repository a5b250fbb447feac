-- Calls of procedures: the arguments' values make a frame in the run with frames, and are in the parameters'
-- variables in the expansion.
use Rattle.std.proofs.Common.{◌≡◌, ℕ, zero, suc, ◌+◌, ◌<◌, ◌≤◌, ℤ, pos, true, List, [], ◌∷◌, length, get_or, drop, set, None, Result, Ok, Err, refl, ap, sym, ◌∙◌, subst, arith}
use Rattle.std.specs.Prelude.{⊤}
use Rattle.std.proofs.lemmas.List.{get_or-set_same, get_or-set_other}
use Rattle.arrayvec.specs.ArrayVec.{ArrayVec}
use Rattle.mate_num.specs.Store.{payload, buffer_at, item_of}
use Rattle.mate_num.specs.Operators.{negative_of, not_of}
use Rattle.mate_num.specs.declared.call.FaultKind.{FaultKind}
use Rattle.mate_num.specs.declared.id.FunId.{FunId}
use Rattle.ts_checked.specs.Expression.{Expression, Arguments, no_arguments, argument, Num, Shared, Private, Item, Size, MsgItem, MsgSize, Call, SendBuf, Neg, Not, Two}
use Rattle.ts_checked.specs.Statement.{Block, statement, Set}
use Rattle.ts_trees.specs.Tree.{Trees, no_trees, tree_then}
use Rattle.ts_trees.specs.Seen.{acts}
use Rattle.ts_checked.specs.declared.checked_stmt.CVar.{CVar}
use Rattle.ts_checked.specs.declared.checked_stmt.CVar.TheVariants as var
use Rattle.ts_checker.specs.declared.fault.CheckFault.{CheckFault}
use Rattle.mate_num.specs.Results.{◌>>=◌}
use Rattle.ts_checker.specs.Names.{ScriptNames, variable}
use Rattle.ts_checker.specs.Checks.{checked_expr, checked_args, checked_block}
use Rattle.ts_semantics.specs.State.{ScriptState, Evaluation, Done, Over, then_do, value_or_fault, with_variable, first_ten, next_answer, call_answered}
use Rattle.ts_semantics.specs.Meaning.{applied, value_of, values_of, run_block}
use Rattle.ts_proc_names.specs.NameFaults.{expr_fault, args_fault, argument_total}
use Rattle.ts_proc_renaming.specs.Renaming.{Hiding, parameter_name, renamed_expr, assigned}
use Rattle.ts_proc_expansion.specs.Expansion.{first_trees, Callee}
use Rattle.ts_proc_laws.specs.Frames.{Runs, values_checked, with_frame, frame_dropped, in_own_frame}
use Rattle.ts_proc_laws.proofs.StateLemmas.{Layout, HasRoom, Stands, called_layout, set_below, frame_made, frame_put_back}
use Rattle.ts_proc_laws.proofs.EvaluationLemmas.{with_privates, OverAlike, Alike, MeansValue}
use Rattle.ts_proc_laws.proofs.StatementLemmas.{MeansRun}
use Rattle.ts_proc_laws.proofs.CheckLemmas.{Comes, NamesAgree, expr_comes, none_both}
use Rattle.ts_proc_laws.proofs.BlockLemmas.{BlockMeans, Splits, splits}

-- ---- an expression changes no private variable

abbrev pub privates_after : {A : Type 0} → Evaluation A → List ℤ
privates_after (Done a s) = s.privates
privates_after (Over end s) = s.privates

then_keeps : {A B : Type 0} (o : Evaluation A) (next : A → ScriptState → Evaluation B) (qs : List ℤ) → privates_after o ≡ qs
    → ((a : A) (s : ScriptState) → privates_after (next a s) ≡ s.privates) → privates_after (then_do o next) ≡ qs
then_keeps (Done a s) next qs first keeps = keeps a s ∙ first
then_keeps (Over end s) next qs first keeps = first

fault_keeps : {A : Type 0} (r : Result A FaultKind) (s : ScriptState) → privates_after (value_or_fault r s) ≡ s.privates
fault_keeps (Ok a) s = refl
fault_keeps (Err kind) s = refl

answered_keeps : (f : FunId) (args : ArrayVec ℤ) (left : List ℤ) (s : ScriptState) → privates_after (call_answered f args left s) ≡ s.privates
answered_keeps f args [] s = refl
answered_keeps f args (a ∷ left) s = refl

mutual
  value_keeps : (e : Expression) (s : ScriptState) → privates_after (value_of e s) ≡ s.privates
  value_keeps (Item p e) s =
      then_keeps (value_of e s) (λ i s. value_or_fault (item_of (buffer_at s.store p.0) i) s) s.privates (value_keeps e s) (λ i s. fault_keeps (item_of (buffer_at s.store p.0) i) s)
  value_keeps (MsgItem e) s =
      then_keeps (value_of e s) (λ i s. value_or_fault (item_of s.msg i) s) s.privates (value_keeps e s) (λ i s. fault_keeps (item_of s.msg i) s)
  value_keeps (Call f args) s =
      then_keeps (values_of args s) (λ values s. next_answer f (first_ten values) s) s.privates (values_keep args s) (λ values s. answered_keeps f (first_ten values) s.left s)
  value_keeps (SendBuf f p) s = answered_keeps f (payload (buffer_at s.store p.0)) s.left s
  value_keeps (Neg e) s = then_keeps (value_of e s) (λ a s. value_or_fault (negative_of a) s) s.privates (value_keeps e s) (λ a s. fault_keeps (negative_of a) s)
  value_keeps (Not e) s = then_keeps (value_of e s) (λ a s. value_or_fault (not_of a) s) s.privates (value_keeps e s) (λ a s. fault_keeps (not_of a) s)
  value_keeps (Two o e d) s =
      then_keeps (value_of e s) (λ a s. then_do (value_of d s) (λ b s. value_or_fault (applied o a b) s)) s.privates (value_keeps e s)
      (λ a s. then_keeps (value_of d s) (λ b s. value_or_fault (applied o a b) s) s.privates (value_keeps d s) (λ b s. fault_keeps (applied o a b) s))
  value_keeps _ s = refl

  values_keep : (es : Arguments) (s : ScriptState) → privates_after (values_of es s) ≡ s.privates
  values_keep no_arguments s = refl
  values_keep (argument e es) s =
      then_keeps (value_of e s) (λ a s. then_do (values_of es s) (λ values s. Done (a ∷ values) s)) s.privates (value_keeps e s)
      (λ a s. then_keeps (values_of es s) (λ values s. Done (a ∷ values) s) s.privates (values_keep es s) (λ values s. refl))

-- ---- arguments, from parameter k on

-- the values stand at the parameters, and what stood below is there still
pub record AssignedAlike (l : Layout) (k n : ℕ) (qs values : List ℤ) (s t : ScriptState) : Type 0 where
  pub after : t ≡ with_privates t.privates s
  pub stands : Stands l s.privates t.privates
  pub count : length values ≡ n
  pub are : (j : ℕ) → j < length values → get_or values j (pos 0) ≡ get_or t.privates (l.outer + (k + j)) (pos 0)
  pub below : (i : ℕ) → i < l.outer + k → get_or t.privates i (pos 0) ≡ get_or qs i (pos 0)

abbrev pub AssignsAlike : Layout → ℕ → ℕ → List ℤ → Evaluation (List ℤ) → Evaluation ⊤ → Type 0
AssignsAlike l k n qs (Done values s) (Done u t) = AssignedAlike l k n qs values s t
AssignsAlike l k n qs (Done values s) (Over f t) = ⊥
AssignsAlike l k n qs (Over e s) (Done u t) = ⊥
AssignsAlike l k n qs (Over e s) (Over f t) = OverAlike e f s t

pub record MeansAssigned (l : Layout) (k n : ℕ) (es : Arguments) (b : Block) : Type 0 where
  pub run : (s : ScriptState) (qs : List ℤ) → Stands l s.privates qs → AssignsAlike l k n qs (values_of es s) (run_block b (with_privates qs s))

abbrev pub AssignMeans : Layout → ℕ → ℕ → Result Block CheckFault → Result Arguments CheckFault → Type 0
AssignMeans l k n (Err e) r = ⊤
AssignMeans l k n (Ok b) (Ok es) = MeansAssigned l k n es b
AssignMeans l k n (Ok b) (Err e) = ⊥

assign_rest : (l : Layout) (k n : ℕ) (qs : List ℤ) (a : ℤ) (o : Evaluation (List ℤ)) (p : Evaluation ⊤) → l.outer + k < length qs
    → AssignsAlike l (k + 1) n (set qs (l.outer + k) a) o p → AssignsAlike l k (suc n) qs (then_do o (λ values s. Done (a ∷ values) s)) p
assign_rest l k n qs a (Done values s) (Done u t) within h =
    record {
      after = h.after;
      stands = h.stands;
      count = ap suc h.count;
      are = are;
      below = λ i less. h.below i (omega arith) ∙ get_or-set_other qs (l.outer + k) i a (pos 0) (λ e. omega arith);
    } where
      are : (j : ℕ) → j < suc (length values) → get_or (a ∷ values) j (pos 0) ≡ get_or t.privates (l.outer + (k + j)) (pos 0)
      are zero less =
          let here : l.outer + (k + 0) ≡ l.outer + k = omega arith in
          sym (ap (λ i. get_or t.privates i (pos 0)) here ∙ h.below (l.outer + k) (omega arith) ∙ get_or-set_same qs (l.outer + k) a (pos 0) within)
      are (suc j) less =
          let there : l.outer + ((k + 1) + j) ≡ l.outer + (k + suc j) = omega arith in
          h.are j (omega arith) ∙ ap (λ i. get_or t.privates i (pos 0)) there
assign_rest l k n qs a (Done values s) (Over f t) within h = absurd h
assign_rest l k n qs a (Over e s) (Done u t) within h = absurd h
assign_rest l k n qs a (Over e s) (Over f t) within h = h

assign_first : (l : Layout) (k n : ℕ) (qs : List ℤ) (o p : Evaluation ℤ) (es : Arguments) (b : Block) → HasRoom l → k < l.first → Alike l o p → privates_after p ≡ qs → MeansAssigned l (k + 1) n es b
    → AssignsAlike l k (suc n) qs (then_do o (λ a s. then_do (values_of es s) (λ values s. Done (a ∷ values) s)))
    (then_do (then_do p (λ a s. Done (tt {0}) (with_variable (var.Private (l.outer + k)) a s))) (λ _ s. run_block b s))
assign_first l k n qs (Done a s) (Done c t) es b room less h kept m =
    let place : ℕ = l.outer + k in
    let state : with_variable (var.Private (l.outer + k)) c t ≡ with_privates (set qs (l.outer + k) a) s =
    ap (λ (t : ScriptState). with_variable (var.Private (l.outer + k)) c t) h.after
    ∙ ap (λ (qs : List ℤ). with_privates (set qs (l.outer + k) c) s) kept
    ∙ ap (λ (c : ℤ). with_privates (set qs (l.outer + k) c) s) (sym h.value) in
    let stood : Stands l s.privates qs = subst (λ (qs : List ℤ). Stands l s.privates qs) kept h.stands in
    let stands : Stands l s.privates (set qs (l.outer + k) a) = set_below l s.privates qs (l.outer + k) a stood (omega arith) (omega arith) in
    let r = room.room in let eight = stood.eight in
    subst (λ (t : ScriptState). AssignsAlike l k (suc n) qs (then_do (values_of es s) (λ values s. Done (a ∷ values) s)) (run_block b t)) (sym state)
    (assign_rest l k n qs a (values_of es s) (run_block b (with_privates (set qs (l.outer + k) a) s)) (omega arith) (m.run s (set qs (l.outer + k) a) stands))
assign_first l k n qs (Done a s) (Over f t) es b room less h kept m = absurd h
assign_first l k n qs (Over e s) (Done c t) es b room less h kept m = absurd h
assign_first l k n qs (Over e s) (Over f t) es b room less h kept m = h

assign_step : (l : Layout) (k n : ℕ) (x r : Result Expression CheckFault) (y : Result Block CheckFault) (q : Result Arguments CheckFault) → HasRoom l → k < l.first → Comes (MeansValue l) x r
    → AssignMeans l (k + 1) n y q
    → AssignMeans l k (suc n) ((x >>= (λ a. Ok (Set (var.Private (l.outer + k)) a))) >>= (λ s. y >>= (λ ss. Ok (statement s ss)))) (r >>= (λ a. q >>= (λ more. Ok (argument a more))))
assign_step l k n (Err e) r y q room less h m = tt
assign_step l k n (Ok d) (Err e) y q room less h m = absurd h
assign_step l k n (Ok d) (Ok e) (Err c) q room less h m = tt
assign_step l k n (Ok d) (Ok e) (Ok b) (Err c) room less h m = absurd m
assign_step l k n (Ok d) (Ok e) (Ok b) (Ok es) room less h m =
    record {
      run = λ s qs st. assign_first l k n qs (value_of e s) (value_of d (with_privates qs s)) es b room less (h.run s qs st) (value_keeps d (with_privates qs s)) m;
    }

module _ (l : Layout) (h : Hiding) (nf nx : ScriptNames) (agree : NamesAgree l h nf nx) (room : HasRoom l) (place : ℕ)
    (vars : (k : ℕ) → k < l.first → variable nx (record { name = parameter_name k; place = place }) ≡ Ok (var.Private (l.outer + k))) where
  pub assign_comes : (es : Trees) (k : ℕ) → args_fault es ≡ None → k + argument_total es ≤ l.first
      → AssignMeans l k (argument_total es) (checked_block nx (acts (assigned h place k es))) (checked_args nf true es)
  assign_comes no_trees k free below =
      record {
        run = λ s qs st. record {
          after = refl;
          stands = st;
          count = refl;
          are = λ j less. absurd (omega arith);
          below = λ i less. refl;
        };
      }
  assign_comes (tree_then e es) k free below =
      let parts : (expr_fault e ≡ None) × (args_fault es ≡ None) = none_both (expr_fault e) (args_fault es) free in
      let rest : AssignMeans l (k + 1) (argument_total es) (checked_block nx (acts (assigned h place (k + 1) es))) (checked_args nf true es) =
      assign_comes es (k + 1) parts.1 (omega arith) in
      subst (λ (v : Result CVar CheckFault). AssignMeans l k (suc (argument_total es))
      ((v >>= (λ x. checked_expr nx true (renamed_expr h e) >>= (λ a. Ok (Set x a)))) >>= (λ s. checked_block nx (acts (assigned h place (k + 1) es)) >>= (λ ss. Ok (statement s ss))))
      (checked_expr nf true e >>= (λ a. checked_args nf true es >>= (λ more. Ok (argument a more))))) (sym (vars k (omega arith)))
      (assign_step l k (argument_total es) (checked_expr nx true (renamed_expr h e)) (checked_expr nf true e) (checked_block nx (acts (assigned h place (k + 1) es))) (checked_args nf true es)
      room (omega arith) (expr_comes l h nf nx agree true e parts.0) rest)

pub first_all : (es : Trees) (n : ℕ) → argument_total es ≡ n → first_trees n es ≡ es
first_all no_trees zero e = refl
first_all no_trees (suc n) e = absurd (omega arith)
first_all (tree_then x es) zero e = absurd (omega arith)
first_all (tree_then x es) (suc n) e = ap (tree_then x) (first_all es n (omega arith))

-- ---- a call

abbrev pub layout : ℕ → ℕ → ℕ → (ℕ → ℤ) → Layout
layout outer first held kept = record { outer = outer; first = first; held = held; kept = kept }

-- a procedure does with frames, for any values, what its body does in the expansion, where the values stand at its parameters
pub record MeansCall (outer : ℕ) (nx : ScriptNames) (runs : Runs) (p : Callee) : Type 0 where
  pub call : (first held : ℕ) (kept : ℕ → ℤ) → HasRoom (layout outer first held kept) → p.first + p.params ≤ first → (values : List ℤ) → length values ≡ p.params
      → (s : ScriptState) (qs : List ℤ) → Stands (layout outer first held kept) s.privates qs
      → ((j : ℕ) → j < length values → get_or values j (pos 0) ≡ get_or qs (outer + (p.first + j)) (pos 0))
      → (b : Block) → checked_block nx (acts p.body) ≡ Ok b → Alike (layout outer first held kept) (runs values s) (run_block b (with_privates qs s))

module _ (l : Layout) (nx : ScriptNames) (p : Callee) (runs : Runs) (room : HasRoom l) (below : p.first + p.params ≤ l.first) (means : MeansCall l.outer nx runs p) where
  called_alike : (d : Block) → checked_block nx (acts p.body) ≡ Ok d → (qs : List ℤ) (o : Evaluation (List ℤ)) (q : Evaluation ⊤) → AssignsAlike l p.first p.params qs o q
      → Alike l (then_do o runs) (then_do q (λ _ s. run_block d s))
  called_alike d is qs (Done values s) (Done u t) h =
      subst (λ (t : ScriptState). Alike l (runs values s) (run_block d t)) (sym h.after) (means.call l.first l.held l.kept room below values h.count s t.privates h.stands h.are d is)
  called_alike d is qs (Done values s) (Over f t) h = absurd h
  called_alike d is qs (Over e s) (Done u t) h = absurd h
  called_alike d is qs (Over e s) (Over f t) h = h

  called_runs : (c d : Block) (r : Result Arguments CheckFault) → checked_block nx (acts p.body) ≡ Ok d → AssignMeans l p.first p.params (Ok c) r
      → MeansRun l (λ s. then_do (values_checked r s) runs) (λ s. then_do (run_block c s) (λ _ s. run_block d s))
  called_runs c d (Err e) is h = absurd h
  called_runs c d (Ok es) is h =
      record { run = λ s qs st. called_alike d is qs (values_of es s) (run_block c (with_privates qs s)) (h.run s qs st) }

  pub block_of_call : (w x : Result Block CheckFault) (r : Result Arguments CheckFault) → AssignMeans l p.first p.params x r → Splits w x (checked_block nx (acts p.body))
      → BlockMeans l (λ s. then_do (values_checked r s) runs) w
  block_of_call (Err e) x r h sp = tt
  block_of_call (Ok b) x r h (splits c d first second run) =
      let whole : MeansRun l (λ s. then_do (values_checked r s) runs) (λ s. then_do (run_block c s) (λ _ s. run_block d s)) =
      called_runs c d r second (subst (λ (x : Result Block CheckFault). AssignMeans l p.first p.params x r) first h) in
      record {
        run = λ s qs st.
            subst (λ (o : Evaluation ⊤). Alike l (then_do (values_checked r s) runs) o) (sym (run (with_privates qs s))) (whole.run s qs st);
      }

-- ---- a procedure

module _ (outer : ℕ) (nx : ScriptNames) (p : Callee) (body : ScriptState → Evaluation ⊤)
    (means : (kept : ℕ → ℤ) → BlockMeans (layout outer p.first p.params kept) body (checked_block nx (acts p.body))) where
  put_back_alike : (first held : ℕ) (kept : ℕ → ℤ) (n : ℕ) (s : ScriptState) (qs : List ℤ) → HasRoom (layout outer first held kept) → Stands (layout outer first held kept) s.privates qs
      → p.first + n ≤ first → (o q : Evaluation ⊤) → Alike (called_layout (layout outer first held kept) p.first n qs) o q
      → Alike (layout outer first held kept) (frame_dropped (drop 8 s.privates) o) q
  put_back_alike first held kept n s qs room st below (Done u s2) (Done v t) h =
      record { value = refl; after = h.after; stands = frame_put_back (layout outer first held kept) p.first n s.privates qs s2.privates t.privates room st below h.stands }
  put_back_alike first held kept n s qs room st below (Done u s2) (Over f t) h = absurd h
  put_back_alike first held kept n s qs room st below (Over e s2) (Done v t) h = absurd h
  put_back_alike first held kept n s qs room st below (Over e s2) (Over f t) h = h

  pub means_framed : MeansCall outer nx (in_own_frame body) p
  means_framed =
      record {
        call = λ first held kept room below values count s qs st are b is.
            let l : Layout = layout outer first held kept in
            let m : MeansRun (layout outer p.first p.params (λ i. get_or qs i (pos 0))) body (run_block b) =
            subst (λ (x : Result Block CheckFault). BlockMeans (layout outer p.first p.params (λ i. get_or qs i (pos 0))) body x) is (means (λ i. get_or qs i (pos 0))) in
            let m2 : MeansRun (layout outer p.first (length values) (λ i. get_or qs i (pos 0))) body (run_block b) =
            subst (λ (n : ℕ). MeansRun (layout outer p.first n (λ i. get_or qs i (pos 0))) body (run_block b)) (sym count) m in
            put_back_alike first held kept (length values) s qs room st (omega arith) (body (with_frame values s)) (run_block b (with_privates qs s))
            (m2.run (with_frame values s) qs (frame_made (layout outer first held kept) p.first values s.privates qs room st (omega arith) are));
      }
