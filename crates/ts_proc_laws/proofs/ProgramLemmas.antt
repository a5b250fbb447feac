-- A script with procedures runs with frames as its expansion does.
use Rattle.std.proofs.Common.{◌≡◌, ℕ, ◌+◌, ◌<◌, ◌≤◌, pos, Bool, true, false, cond, List, [], ◌∷◌, ◌++◌, length, get_or, replicate, Option, Some, None, Result, Ok, refl, ap, sym, ◌∙◌, subst, arith}
use Rattle.std.specs.Prelude.{⊤, ◌==◌, if◌then◌else◌, is_some, is_none, IsTrue, bytes_eq, sum_by}
use Rattle.std.proofs.lemmas.Bool.Decides.{nat_tests}
use Rattle.std.proofs.lemmas.List.Sums.{sum_by_push}
use Rattle.mate_num.specs.declared.store.Store.{Store}
use Rattle.mate_num.specs.declared.call.Call.{Call as AnsweredCall}
use Rattle.mate_num.specs.declared.call.End.{End}
use Rattle.mate_num.specs.declared.call.End.TheVariants.{Halt}
use Rattle.mate_num.specs.declared.id.BufId.{BufId}
use Rattle.vm_shape.specs.declared.description.Description.{Description}
use Rattle.ts_trees.specs.declared.word.Word.{Word}
use Rattle.ts_checked.specs.declared.checked_stmt.CVar.TheVariants as var
use Rattle.ts_checked.specs.Statement.{Statement, Block, Set, SetItem, Append, Take, Clear}
use Rattle.ts_trees.specs.Tree.{Trees, Act, set, set_item, append, take_last, clear, call_alone, if_then, if_else, for_next, while_do, run_procedure, Acts, no_acts, act_then, Procedure, ProcedureSource, Source}
use Rattle.ts_trees.specs.Seen.{acts}
use Rattle.ts_checker.specs.declared.fault.CheckFault.{CheckFault}
use Rattle.mate_num.specs.Results.{◌>>=◌}
use Rattle.ts_checker.specs.Names.{ScriptNames, names_before, declare_all, variable, buffer, private_count, closes_for}
use Rattle.ts_checker.specs.Checks.{as_statement, checked_call, checked_expr, checked_args, checked_head, checked_stmt, checked_block, checked_source}
use Rattle.ts_semantics.specs.State.{Evaluation, Done, Over, then_do, begun_state}
use Rattle.ts_semantics.specs.Meaning.{run_stmt, run_block, outcome_at, played}
use Rattle.ts_proc_names.specs.declared.fault.ProcFault.{ProcFault}
use Rattle.ts_proc_names.specs.declared.fault.ProcFault.TheVariants.{Again, Params}
use Rattle.ts_proc_names.specs.Places.{declared_as}
use Rattle.ts_proc_names.specs.Heads.{parameter_count}
use Rattle.ts_proc_names.specs.NameFaults.{◌<|>◌, refused_if, word_fault, expr_fault, args_fault, argument_total, call_fault, act_fault, acts_fault, params_fault, procedure_fault, procedures_fault, decls_fault, name_fault}
use Rattle.ts_proc_expansion.specs.InOrder.{declared_in_order}
use Rattle.ts_proc_renaming.specs.Renaming.{Hiding, nothing_hidden, parameter_name, renamed, renamed_expr, renamed_args, assigned, parameter_decls}
use Rattle.ts_proc_expansion.specs.Expansion.{first_trees, body_called, expanded_act, expanded_acts, Callee, callee, callees}
use Rattle.ts_proc_laws.specs.Frames.{Runs, call_run, values_checked, names_within, act_run, acts_run, procedure_runs, script_run}
use Rattle.ts_proc_laws.specs.FrameLaw.{RunsAsExpanded, RunsAsAnswered}
use Rattle.ts_proc_laws.proofs.StateLemmas.{Layout, HasRoom, Stands}
use Rattle.ts_proc_laws.proofs.EvaluationLemmas.{MeansValue, Alike, SameVariable}
use Rattle.ts_proc_laws.proofs.StatementLemmas.{MeansRun, runs_set, runs_set_item, runs_append, runs_take, runs_clear, runs_nothing}
use Rattle.ts_proc_laws.proofs.CheckLemmas.{Comes, comes_bind, Equals, none_both, NamesAgree, SameCalled, runs_called, call_comes, expr_comes, args_comes, head_comes}
use Rattle.ts_proc_laws.proofs.BlockLemmas.{BlockMeans, block_of_stmt, block_of_if, block_of_if_else, block_of_while, block_of_for, splits-append, block_of_two}
use Rattle.ts_proc_laws.proofs.CallLemmas.{AssignMeans, assign_comes, first_all, layout, MeansCall, block_of_call, means_framed}
use Rattle.ts_proc_laws.proofs.DeclarationLemmas.{DoneBefore, done_before, declare_all-append, OwnNames, OwnAfter, own_names, ParamsDeclared, params_declared, body_names, script_names, parameter_variable}

-- ---- the procedures that are known

-- a procedure of that name is known in both, with so many parameters, all of which are numbered below the limit
pub data FoundCall (outer : ℕ) (nx : ScriptNames) (limit n : ℕ) (r : Option Runs) (c : Option Callee) : Type 0 where
  found : (f : Runs) (p : Callee) → r ≡ Some f → c ≡ Some p → n ≡ p.params → p.first + p.params ≤ limit → MeansCall outer nx f p → FoundCall outer nx limit n r c

pub record Known (outer : ℕ) (nx : ScriptNames) (limit : ℕ) (heads : List (List ℕ × ℕ)) (runs : List (List ℕ × Runs)) (bodies : List (List ℕ × Callee)) : Type 0 where
  pub at : (name : List ℕ) (n : ℕ) → declared_as heads name ≡ Some n → FoundCall outer nx limit n (declared_as runs name) (declared_as bodies name)
  pub none : (name : List ℕ) → declared_as heads name ≡ None → (declared_as runs name ≡ None) × (declared_as bodies name ≡ None)

module _ {A : Type 0} (e : List ℕ × A) (name : List ℕ) where
  declared_before : (xs : List (List ℕ × A)) (v : A) → declared_as xs name ≡ Some v → declared_as (xs ++ e ∷ []) name ≡ Some v
  declared_before [] v h = absurd (cc)
  declared_before (x ∷ xs) v h = by (bytes_eq name x.0) (declared_before xs v) h where
    by : (b : Bool) → (declared_as xs name ≡ Some v → declared_as (xs ++ e ∷ []) name ≡ Some v) → cond b (Some x.1) (declared_as xs name) ≡ Some v → cond b (Some x.1) (declared_as (xs ++ e ∷ []) name) ≡ Some v
    by true rest h = h
    by false rest h = rest h

  declared_last : (xs : List (List ℕ × A)) → declared_as xs name ≡ None → declared_as (xs ++ e ∷ []) name ≡ cond (bytes_eq name e.0) (Some e.1) None
  declared_last [] h = refl
  declared_last (x ∷ xs) h = by (bytes_eq name x.0) (declared_last xs) h where
    by : (b : Bool) → (declared_as xs name ≡ None → declared_as (xs ++ e ∷ []) name ≡ cond (bytes_eq name e.0) (Some e.1) None) → cond b (Some x.1) (declared_as xs name) ≡ None → cond b (Some x.1) (declared_as (xs ++ e ∷ []) name) ≡ cond (bytes_eq name e.0) (Some e.1) None
    by true rest h = absurd (cc)
    by false rest h = rest h

module _ (outer : ℕ) (nx : ScriptNames) (low limit : ℕ) (heads : List (List ℕ × ℕ)) (runs : List (List ℕ × Runs)) (bodies : List (List ℕ × Callee)) (known : Known outer nx low heads runs bodies) (less : low ≤ limit) where
  pub known_within : Known outer nx limit heads runs bodies
  known_within = record { at = λ name n e. by n (declared_as runs name) (declared_as bodies name) (known.at name n e); none = known.none } where
    by : (n : ℕ) (r : Option Runs) (c : Option Callee) → FoundCall outer nx low n r c → FoundCall outer nx limit n r c
    by n r c (found f p is are count below means) = found f p is are count (omega arith) means

  module _ (key : List ℕ) (f : Runs) (p : Callee) (below : p.first + p.params ≤ limit) (means : MeansCall outer nx f p) where
    new_found : (name : List ℕ) (n : ℕ) (b : Bool) → cond b (Some p.params) None ≡ Some n → FoundCall outer nx limit n (cond b (Some f) None) (cond b (Some p) None)
    new_found name n true e = let same : n ≡ p.params = cc in found f p refl refl same below means
    new_found name n false e = absurd (cc)

    old_found : (name : List ℕ) (m n : ℕ) (r : Option Runs) (c : Option Callee) → declared_as runs name ≡ r → declared_as bodies name ≡ c → m ≡ n → FoundCall outer nx low m r c
        → FoundCall outer nx limit n (declared_as (runs ++ (key, f) ∷ []) name) (declared_as (bodies ++ (key, p) ∷ []) name)
    old_found name m n r c first second same (found g q is are count under does) =
        found g q (declared_before (key, f) name runs g (first ∙ is)) (declared_before (key, p) name bodies q (second ∙ are)) (sym same ∙ count) (omega arith) does

    both : (b : Bool) → cond b (Some p.params) None ≡ None → (cond b (Some f) None ≡ None) × (cond b (Some p) None ≡ None)
    both true e = absurd (cc)
    both false e = (refl, refl)

    pub known_more : Known outer nx limit (heads ++ (key, p.params) ∷ []) (runs ++ (key, f) ∷ []) (bodies ++ (key, p) ∷ [])
    known_more = record { at = λ name n e. by name n e (declared_as heads name) refl; none = λ name e. gone name e (declared_as heads name) refl } where
      by : (name : List ℕ) (n : ℕ) → declared_as (heads ++ (key, p.params) ∷ []) name ≡ Some n → (o : Option ℕ) → declared_as heads name ≡ o
          → FoundCall outer nx limit n (declared_as (runs ++ (key, f) ∷ []) name) (declared_as (bodies ++ (key, p) ∷ []) name)
      by name n e (Some m) was =
          let now : declared_as (heads ++ (key, p.params) ∷ []) name ≡ Some m = declared_before (key, p.params) name heads m was in
          let same : m ≡ n = cc in
          old_found name m n (declared_as runs name) (declared_as bodies name) refl refl same (known.at name m was)
      by name n e None was =
          let none : (declared_as runs name ≡ None) × (declared_as bodies name ≡ None) = known.none name was in
          subst (λ (r : Option Runs). FoundCall outer nx limit n r (declared_as (bodies ++ (key, p) ∷ []) name)) (sym (declared_last (key, f) name runs none.0))
          (subst (λ (c : Option Callee). FoundCall outer nx limit n (cond (bytes_eq name key) (Some f) None) c) (sym (declared_last (key, p) name bodies none.1))
          (new_found name n (bytes_eq name key) (sym (declared_last (key, p.params) name heads was) ∙ e)))

      gone : (name : List ℕ) → declared_as (heads ++ (key, p.params) ∷ []) name ≡ None → (o : Option ℕ) → declared_as heads name ≡ o
          → (declared_as (runs ++ (key, f) ∷ []) name ≡ None) × (declared_as (bodies ++ (key, p) ∷ []) name ≡ None)
      gone name e (Some m) was =
          let now : declared_as (heads ++ (key, p.params) ∷ []) name ≡ Some m = declared_before (key, p.params) name heads m was in absurd (cc)
      gone name e None was =
          let none : (declared_as runs name ≡ None) × (declared_as bodies name ≡ None) = known.none name was in
          let fails : cond (bytes_eq name key) (Some p.params) None ≡ None = sym (declared_last (key, p.params) name heads was) ∙ e in
          let fs : (cond (bytes_eq name key) (Some f) None ≡ None) × (cond (bytes_eq name key) (Some p) None ≡ None) = both (bytes_eq name key) fails in
          (declared_last (key, f) name runs none.0 ∙ fs.0, declared_last (key, p) name bodies none.1 ∙ fs.1)

-- a `do` that passes names a procedure with as many parameters
count_known : (w : Word) (n : ℕ) (o : Option ℕ) → call_fault w n o ≡ None → o ≡ Some n
count_known w n None e = absurd (cc)
count_known w n (Some m) e = by (m == n) refl e where
  by : (b : Bool) → (m == n) ≡ b → (if b then None else Some (Params w.place)) ≡ None → Some m ≡ Some n
  by true is e = let same : m ≡ n = grind (arith, nat_tests) in ap (λ n. Some n) same
  by false is e = absurd (cc)

-- ---- statements

module _ (l : Layout) (h : Hiding) (nf nx : ScriptNames) (agree : NamesAgree l h nf nx) (room : HasRoom l)
    (vars : (place k : ℕ) → k < l.first → variable nx (record { name = parameter_name k; place = place }) ≡ Ok (var.Private (l.outer + k)))
    (heads : List (List ℕ × ℕ)) (runs : List (List ℕ × Runs)) (bodies : List (List ℕ × Callee)) (known : Known l.outer nx l.first heads runs bodies) where
  abbrev SameRun : Statement → Statement → Type 0
  SameRun a b = MeansRun l (run_stmt a) (run_stmt b)

  do_means : (w : Word) (es : Trees) (r : Option Runs) (c : Option Callee) → args_fault es ≡ None → FoundCall l.outer nx l.first (argument_total es) r c
      → BlockMeans l (λ s. then_do (values_checked (checked_args nf true es) s) (λ values s. call_run r values s)) (checked_block nx (acts (body_called h w es c)))
  do_means w es r c free (found f p is are count below means) =
      let same : es ≡ first_trees p.params es = sym (first_all es p.params count) in
      let given : AssignMeans l p.first p.params (checked_block nx (acts (assigned h w.place p.first es))) (checked_args nf true es) =
      subst (λ (n : ℕ). AssignMeans l p.first n (checked_block nx (acts (assigned h w.place p.first es))) (checked_args nf true es)) count
      (assign_comes l h nf nx agree room w.place (vars w.place) es p.first free (omega arith)) in
      let call : BlockMeans l (λ s. then_do (values_checked (checked_args nf true es) s) f) (checked_block nx (acts (assigned h w.place p.first es ++ p.body))) =
      block_of_call l nx p f room below means (checked_block nx (acts (assigned h w.place p.first es ++ p.body))) (checked_block nx (acts (assigned h w.place p.first es)))
      (checked_args nf true es) given (splits-append nx (assigned h w.place p.first es) p.body) in
      subst (λ (r : Option Runs). BlockMeans l (λ s. then_do (values_checked (checked_args nf true es) s) (λ values s. call_run r values s)) (checked_block nx (acts (body_called h w es c)))) (sym is)
      (subst (λ (c : Option Callee). BlockMeans l (λ s. then_do (values_checked (checked_args nf true es) s) f) (checked_block nx (acts (body_called h w es c)))) (sym are)
      (subst (λ (ts : Trees). BlockMeans l (λ s. then_do (values_checked (checked_args nf true es) s) f) (checked_block nx (acts (assigned h w.place p.first ts ++ p.body)))) same call))

  mutual
    act_means : (a : Act) → act_fault heads a ≡ None → BlockMeans l (act_run runs nf a) (checked_block nx (acts (expanded_act bodies h a)))
    act_means (set w e) free =
        let parts : (word_fault w ≡ None) × (expr_fault e ≡ None) = none_both (word_fault w) (expr_fault e) free in
        let value : Comes (MeansValue l) (checked_expr nx true (renamed_expr h e)) (checked_expr nf true e) = expr_comes l h nf nx agree true e parts.1 in
        block_of_stmt l (checked_stmt nx (set (renamed h w) (renamed_expr h e))) (checked_stmt nf (set w e))
        (comes_bind (SameVariable l) SameRun (variable nx (renamed h w)) (variable nf w) (λ x. checked_expr nx true (renamed_expr h e) >>= (λ a. Ok (Set x a))) (λ x. checked_expr nf true e >>= (λ a. Ok (Set x a)))
        (agree.variables w parts.0)
        (λ x y same. comes_bind (MeansValue l) SameRun (checked_expr nx true (renamed_expr h e)) (checked_expr nf true e) (λ a. Ok (Set y a)) (λ a. Ok (Set x a)) value
        (λ a b m. runs_set l x y a b room same m)))
    act_means (set_item w i e) free =
        let parts : (word_fault w ≡ None) × ((expr_fault i <|> expr_fault e) ≡ None) = none_both (word_fault w) (expr_fault i <|> expr_fault e) free in
        let more : (expr_fault i ≡ None) × (expr_fault e ≡ None) = none_both (expr_fault i) (expr_fault e) parts.1 in
        block_of_stmt l (checked_stmt nx (set_item (renamed h w) (renamed_expr h i) (renamed_expr h e))) (checked_stmt nf (set_item w i e))
        (comes_bind (Equals {A = BufId}) SameRun (buffer nx (renamed h w)) (buffer nf w)
        (λ p. checked_expr nx true (renamed_expr h i) >>= (λ a. checked_expr nx true (renamed_expr h e) >>= (λ b. Ok (SetItem p a b))))
        (λ p. checked_expr nf true i >>= (λ a. checked_expr nf true e >>= (λ b. Ok (SetItem p a b)))) (agree.buffers w parts.0)
        (λ p q same. comes_bind (MeansValue l) SameRun (checked_expr nx true (renamed_expr h i)) (checked_expr nf true i)
        (λ a. checked_expr nx true (renamed_expr h e) >>= (λ b. Ok (SetItem q a b))) (λ a. checked_expr nf true e >>= (λ b. Ok (SetItem p a b))) (expr_comes l h nf nx agree true i more.0)
        (λ a b m. comes_bind (MeansValue l) SameRun (checked_expr nx true (renamed_expr h e)) (checked_expr nf true e) (λ c. Ok (SetItem q b c)) (λ c. Ok (SetItem p a c)) (expr_comes l h nf nx agree true e more.1)
        (λ c d k. subst (λ (q : BufId). SameRun (SetItem p a c) (SetItem q b d)) same (runs_set_item l p a b c d m k)))))
    act_means (append w e) free =
        let parts : (word_fault w ≡ None) × (expr_fault e ≡ None) = none_both (word_fault w) (expr_fault e) free in
        block_of_stmt l (checked_stmt nx (append (renamed h w) (renamed_expr h e))) (checked_stmt nf (append w e))
        (comes_bind (Equals {A = BufId}) SameRun (buffer nx (renamed h w)) (buffer nf w) (λ p. checked_expr nx true (renamed_expr h e) >>= (λ a. Ok (Append p a))) (λ p. checked_expr nf true e >>= (λ a. Ok (Append p a)))
        (agree.buffers w parts.0)
        (λ p q same. comes_bind (MeansValue l) SameRun (checked_expr nx true (renamed_expr h e)) (checked_expr nf true e) (λ a. Ok (Append q a)) (λ a. Ok (Append p a)) (expr_comes l h nf nx agree true e parts.1)
        (λ a b m. subst (λ (q : BufId). SameRun (Append p a) (Append q b)) same (runs_append l p a b m))))
    act_means (take_last w b) free =
        let parts : (word_fault w ≡ None) × (word_fault b ≡ None) = none_both (word_fault w) (word_fault b) free in
        block_of_stmt l (checked_stmt nx (take_last (renamed h w) (renamed h b))) (checked_stmt nf (take_last w b))
        (comes_bind (SameVariable l) SameRun (variable nx (renamed h w)) (variable nf w) (λ x. buffer nx (renamed h b) >>= (λ p. Ok (Take x p))) (λ x. buffer nf b >>= (λ p. Ok (Take x p))) (agree.variables w parts.0)
        (λ x y same. comes_bind (Equals {A = BufId}) SameRun (buffer nx (renamed h b)) (buffer nf b) (λ p. Ok (Take y p)) (λ p. Ok (Take x p)) (agree.buffers b parts.1)
        (λ p q e. subst (λ (q : BufId). SameRun (Take x p) (Take y q)) e (runs_take l x y p room same))))
    act_means (clear w) free =
        block_of_stmt l (checked_stmt nx (clear (renamed h w))) (checked_stmt nf (clear w))
        (comes_bind (Equals {A = BufId}) SameRun (buffer nx (renamed h w)) (buffer nf w) (λ p. Ok (Clear p)) (λ p. Ok (Clear p)) (agree.buffers w free)
        (λ p q same. subst (λ (q : BufId). SameRun (Clear p) (Clear q)) same (runs_clear l p)))
    act_means (call_alone w es) free =
        let parts : (word_fault w ≡ None) × (args_fault es ≡ None) = none_both (word_fault w) (args_fault es) free in
        block_of_stmt l (checked_stmt nx (call_alone w (renamed_args h es))) (checked_stmt nf (call_alone w es))
        (comes_bind (SameCalled l) SameRun (checked_call nx true w (renamed_args h es) (checked_args nx true (renamed_args h es))) (checked_call nf true w es (checked_args nf true es))
        (λ c. Ok (as_statement c)) (λ c. Ok (as_statement c))
        (call_comes l h nf nx agree true w es (checked_args nx true (renamed_args h es)) (checked_args nf true es) parts.1 (args_comes l h nf nx agree true es parts.1))
        (λ c d same. runs_called l c d same))
    act_means (if_then e a) free =
        let parts : (expr_fault e ≡ None) × (acts_fault heads a ≡ None) = none_both (expr_fault e) (acts_fault heads a) free in
        block_of_if l (checked_expr nx true (renamed_expr h e)) (checked_expr nf true e) (checked_block nx (acts (expanded_acts bodies h a))) (acts_run runs nf a)
        (expr_comes l h nf nx agree true e parts.0) (acts_means a parts.1)
    act_means (if_else e a b) free =
        let parts : (expr_fault e ≡ None) × ((acts_fault heads a <|> acts_fault heads b) ≡ None) = none_both (expr_fault e) (acts_fault heads a <|> acts_fault heads b) free in
        let more : (acts_fault heads a ≡ None) × (acts_fault heads b ≡ None) = none_both (acts_fault heads a) (acts_fault heads b) parts.1 in
        block_of_if_else l (checked_expr nx true (renamed_expr h e)) (checked_expr nf true e) (checked_block nx (acts (expanded_acts bodies h a))) (checked_block nx (acts (expanded_acts bodies h b)))
        (acts_run runs nf a) (acts_run runs nf b) (expr_comes l h nf nx agree true e parts.0) (acts_means a more.0) (acts_means b more.1)
    act_means (for_next w from to step a next) free =
        let one : (word_fault w ≡ None) × ((expr_fault from <|> expr_fault to <|> acts_fault heads a <|> word_fault next) ≡ None) =
        none_both (word_fault w) (expr_fault from <|> expr_fault to <|> acts_fault heads a <|> word_fault next) free in
        let two : (expr_fault from ≡ None) × ((expr_fault to <|> acts_fault heads a <|> word_fault next) ≡ None) = none_both (expr_fault from) (expr_fault to <|> acts_fault heads a <|> word_fault next) one.1 in
        let three : (expr_fault to ≡ None) × ((acts_fault heads a <|> word_fault next) ≡ None) = none_both (expr_fault to) (acts_fault heads a <|> word_fault next) two.1 in
        let four : (acts_fault heads a ≡ None) × (word_fault next ≡ None) = none_both (acts_fault heads a) (word_fault next) three.1 in
        block_of_for l (checked_head nx (renamed h w) (renamed_expr h from) (renamed_expr h to) step) (checked_head nf w from to step) (checked_block nx (acts (expanded_acts bodies h a)))
        (closes_for nx (renamed h w) (renamed h next)) (acts_run runs nf a) room (head_comes l h nf nx agree w from to step one.0 two.0 three.0) (acts_means a four.0)
    act_means (while_do e a) free =
        let parts : (expr_fault e ≡ None) × (acts_fault heads a ≡ None) = none_both (expr_fault e) (acts_fault heads a) free in
        block_of_while l (checked_expr nx true (renamed_expr h e)) (checked_expr nf true e) (checked_block nx (acts (expanded_acts bodies h a))) (acts_run runs nf a)
        (expr_comes l h nf nx agree true e parts.0) (acts_means a parts.1)
    act_means (run_procedure w es) free =
        let one : (word_fault w ≡ None) × ((call_fault w (argument_total es) (declared_as heads w.name) <|> args_fault es) ≡ None) =
        none_both (word_fault w) (call_fault w (argument_total es) (declared_as heads w.name) <|> args_fault es) free in
        let two : (call_fault w (argument_total es) (declared_as heads w.name) ≡ None) × (args_fault es ≡ None) = none_both (call_fault w (argument_total es) (declared_as heads w.name)) (args_fault es) one.1 in
        do_means w es (declared_as runs w.name) (declared_as bodies w.name) two.1 (known.at w.name (argument_total es) (count_known w (argument_total es) (declared_as heads w.name) two.0))

    pub acts_means : (a : Acts) → acts_fault heads a ≡ None → BlockMeans l (acts_run runs nf a) (checked_block nx (acts (expanded_acts bodies h a)))
    acts_means no_acts free = runs_nothing l
    acts_means (act_then a more) free =
        let parts : (act_fault heads a ≡ None) × (acts_fault heads more ≡ None) = none_both (act_fault heads a) (acts_fault heads more) free in
        block_of_two l (checked_block nx (acts (expanded_act bodies h a ++ expanded_acts bodies h more))) (checked_block nx (acts (expanded_act bodies h a))) (checked_block nx (acts (expanded_acts bodies h more)))
        (act_run runs nf a) (acts_run runs nf more) (splits-append nx (expanded_act bodies h a) (expanded_acts bodies h more)) (act_means a parts.0) (acts_means more parts.1)

-- ---- procedures

abbrev pub total_of : List (List ℕ × Callee) → ℕ
total_of bodies = sum_by (λ c. c.1.params) bodies

-- all procedures are known, and nothing is refused of the statements behind them
pub record AllKnown (outer : ℕ) (nx : ScriptNames) (total : ℕ) (runs : List (List ℕ × Runs)) (bodies : List (List ℕ × Callee)) (body : Acts) : Type 0 where
  pub heads : List (List ℕ × ℕ)
  pub known : Known outer nx total heads runs bodies
  pub free : acts_fault heads body ≡ None

module _ (n nx : ScriptNames) (total : ℕ) (own : OwnNames n) (declared : ParamsDeclared n nx 0 total) (body : Acts) where
  all_known : (ps : List Procedure) (heads : List (List ℕ × ℕ)) (runs : List (List ℕ × Runs)) (bodies : List (List ℕ × Callee)) → Known (private_count n.declared) nx (total_of bodies) heads runs bodies
      → total_of bodies + parameter_count ps ≤ total → procedures_fault heads ps body ≡ None
      → AllKnown (private_count n.declared) nx total (declared_in_order (procedure_runs n) runs ps) (declared_in_order callee bodies ps) body
  all_known [] heads runs bodies known fits free =
      record {
        heads = heads;
        known = known_within (private_count n.declared) nx (total_of bodies) total heads runs bodies known (omega arith);
        free = free;
      }
  all_known (p ∷ ps) heads runs bodies known fits free =
      let parts : (procedure_fault heads p ≡ None) × (procedures_fault (heads ++ (p.name.name, length p.params) ∷ []) ps body ≡ None) =
      none_both (procedure_fault heads p) (procedures_fault (heads ++ (p.name.name, length p.params) ∷ []) ps body) free in
      let one : (word_fault p.name ≡ None) × ((refused_if (is_some (declared_as heads p.name.name)) (Again p.name.name p.name.place) <|> params_fault [] p.params <|> acts_fault heads p.body) ≡ None) =
      none_both (word_fault p.name) (refused_if (is_some (declared_as heads p.name.name)) (Again p.name.name p.name.place) <|> params_fault [] p.params <|> acts_fault heads p.body) parts.0 in
      let two : (refused_if (is_some (declared_as heads p.name.name)) (Again p.name.name p.name.place) ≡ None) × ((params_fault [] p.params <|> acts_fault heads p.body) ≡ None) =
      none_both (refused_if (is_some (declared_as heads p.name.name)) (Again p.name.name p.name.place)) (params_fault [] p.params <|> acts_fault heads p.body) one.1 in
      let three : (params_fault [] p.params ≡ None) × (acts_fault heads p.body ≡ None) = none_both (params_fault [] p.params) (acts_fault heads p.body) two.1 in
      let eight : private_count n.declared + total ≤ 8 = declared.few own.few in
      let within : total_of bodies + length p.params ≤ total = omega arith in
      let means : MeansCall (private_count n.declared) nx (procedure_runs n runs p) (callee bodies p) =
      means_framed (private_count n.declared) nx (callee bodies p) (acts_run runs (names_within n p.params) p.body)
      (λ kept. acts_means (layout (private_count n.declared) (total_of bodies) (length p.params) kept) (record { first = total_of bodies; params = p.params }) (names_within n p.params) nx
      (body_names n nx total (total_of bodies) p.params own declared within kept) (record { room = omega arith })
      (λ place k less. parameter_variable n nx total declared place k (omega arith)) heads runs bodies known p.body three.1) in
      let more : total_of (bodies ++ (p.name.name, callee bodies p) ∷ []) ≡ total_of bodies + length p.params = sum_by_push (λ (c : List ℕ × Callee). c.1.params) bodies (p.name.name, callee bodies p) in
      all_known ps (heads ++ (p.name.name, length p.params) ∷ []) (runs ++ (p.name.name, procedure_runs n runs p) ∷ []) (bodies ++ (p.name.name, callee bodies p) ∷ [])
      (known_more (private_count n.declared) nx (total_of bodies) (total_of (bodies ++ (p.name.name, callee bodies p) ∷ [])) heads runs bodies known (omega (arith, more))
      p.name.name (procedure_runs n runs p) (callee bodies p) (omega (arith, more)) means)
      (omega (arith, more, fits)) parts.1

-- ---- the law

played_alike : (l : Layout) (o p : Evaluation ⊤) → Alike l o p → played p ≡ played o
played_alike l (Done u s) (Done v t) h = ap (outcome_at Halt) h.after
played_alike l (Done u s) (Over e t) h = absurd h
played_alike l (Over e s) (Done v t) h = absurd h
played_alike l (Over e s) (Over f t) h =
    ap (λ (e : End). record { end = e; store = t.store; calls = t.calls }) (sym h.end)
    ∙ ap (λ (st : Store). record { end = e; store = st; calls = t.calls }) (sym h.store)
    ∙ ap (λ (calls : List AnsweredCall). record { end = e; store = s.store; calls = calls }) (sym h.calls)

begun_stands : (outer total : ℕ) → Stands (layout outer total 0 (λ i. get_or (replicate 8 (pos 0)) i (pos 0))) (replicate 8 (pos 0)) (replicate 8 (pos 0))
begun_stands outer total =
    record {
      long = refl;
      eight = refl;
      outer = λ i less. refl;
      frame = λ j less. absurd (omega arith);
      above = λ i past. refl;
    }

none_known : (outer : ℕ) (nx : ScriptNames) → Known outer nx 0 [] [] []
none_known outer nx = record { at = λ name n e. absurd (cc); none = λ name e. (refl, refl) }

own_before : (machine : Description) → OwnNames (names_before machine)
own_before machine = record { within = λ name i e. absurd (cc); few = omega arith }

script_means : (source : ProcedureSource) (n nx : ScriptNames) (tree : Block) → name_fault source ≡ None → OwnNames n → ParamsDeclared n nx 0 (parameter_count source.procs)
    → checked_block nx (acts (expanded_acts (callees source.procs) nothing_hidden source.body)) ≡ Ok tree
    → MeansRun (layout (private_count n.declared) (parameter_count source.procs) 0 (λ i. get_or (replicate 8 (pos 0)) i (pos 0)))
    (acts_run (declared_in_order (procedure_runs n) [] source.procs) n source.body) (run_block tree)
script_means source n nx tree free own declared checks =
    let eight : private_count n.declared + parameter_count source.procs ≤ 8 = declared.few own.few in
    let parts : (decls_fault source.decls ≡ None) × (procedures_fault [] source.procs source.body ≡ None) = none_both (decls_fault source.decls) (procedures_fault [] source.procs source.body) free in
    let all : AllKnown (private_count n.declared) nx (parameter_count source.procs) (declared_in_order (procedure_runs n) [] source.procs) (declared_in_order callee [] source.procs) source.body =
    all_known n nx (parameter_count source.procs) own declared source.body source.procs [] [] [] (none_known (private_count n.declared) nx) (omega arith) parts.1 in
    subst (λ (x : Result Block CheckFault). BlockMeans (layout (private_count n.declared) (parameter_count source.procs) 0 (λ i. get_or (replicate 8 (pos 0)) i (pos 0)))
    (acts_run (declared_in_order (procedure_runs n) [] source.procs) n source.body) x) checks
    (acts_means (layout (private_count n.declared) (parameter_count source.procs) 0 (λ i. get_or (replicate 8 (pos 0)) i (pos 0))) nothing_hidden n nx
    (script_names n nx (parameter_count source.procs) own declared (λ i. get_or (replicate 8 (pos 0)) i (pos 0))) (record { room = omega arith })
    (λ place k less. parameter_variable n nx (parameter_count source.procs) declared place k less) all.heads (declared_in_order (procedure_runs n) [] source.procs) (callees source.procs) all.known source.body all.free)

pub runs_as_expanded : (source : ProcedureSource) → name_fault source ≡ None → RunsAsExpanded source
runs_as_expanded source free machine tree checks store msg answers turns =
    let whole : DoneBefore (declare_all (names_before machine) (source.decls ++ parameter_decls 0 (parameter_count source.procs)))
    (λ n. checked_block n (acts (expanded_acts (callees source.procs) nothing_hidden source.body))) tree =
    done_before (declare_all (names_before machine) (source.decls ++ parameter_decls 0 (parameter_count source.procs)))
    (λ n. checked_block n (acts (expanded_acts (callees source.procs) nothing_hidden source.body))) tree checks in
    let parts : DoneBefore (declare_all (names_before machine) source.decls) (λ n. declare_all n (parameter_decls 0 (parameter_count source.procs))) whole.value =
    done_before (declare_all (names_before machine) source.decls) (λ n. declare_all n (parameter_decls 0 (parameter_count source.procs))) whole.value
    (sym (declare_all-append (names_before machine) source.decls (parameter_decls 0 (parameter_count source.procs))) ∙ whole.first) in
    let own : OwnAfter (names_before machine) parts.value = own_names source.decls (names_before machine) parts.value (own_before machine) parts.first in
    let declared : ParamsDeclared parts.value whole.value 0 (parameter_count source.procs) = params_declared (parameter_count source.procs) 0 parts.value whole.value parts.second in
    let means : MeansRun (layout (private_count parts.value.declared) (parameter_count source.procs) 0 (λ i. get_or (replicate 8 (pos 0)) i (pos 0)))
    (acts_run (declared_in_order (procedure_runs parts.value) [] source.procs) parts.value source.body) (run_block tree) =
    script_means source parts.value whole.value tree free own.own declared whole.second in
    played_alike (layout (private_count parts.value.declared) (parameter_count source.procs) 0 (λ i. get_or (replicate 8 (pos 0)) i (pos 0)))
    (acts_run (declared_in_order (procedure_runs parts.value) [] source.procs) parts.value source.body (begun_state store msg answers turns))
    (run_block tree (begun_state store msg answers turns))
    (means.run (begun_state store msg answers turns) (replicate 8 (pos 0)) (begun_stands (private_count parts.value.declared) (parameter_count source.procs)))
    ∙ ap (λ (r : Result ScriptNames CheckFault). script_run r source (begun_state store msg answers turns)) (sym parts.first)

pub runs_as_answered : (source : ProcedureSource) → name_fault source ≡ None → RunsAsAnswered source
runs_as_answered source free plain is machine tree checks =
    runs_as_expanded source free machine tree (ap (λ (s : Source). checked_source machine s) (sym is.is) ∙ checks)

-- a script whose names pass
pub nothing_refused : (o : Option ProcFault) → IsTrue (is_none o) → o ≡ None
nothing_refused None h = refl
nothing_refused (Some f) h = absurd (cc)
