-- Statements that become the same as others.
use Rattle.std.proofs.Common.{◌≡◌, ℕ, zero, suc, ◌+◌, ◌<◌, ◌≤◌, List, [], ◌∷◌, ◌++◌, length, map, take, drop, get_or, Option, Some, None, refl, ap, sym, ◌∙◌, arith, append_assoc, append-nil}
use Rattle.std.specs.Prelude.{sum_by, Bool, true, false}
use Rattle.std.proofs.lemmas.List.{take_all, take_more, map-append, length-append}
use Rattle.ts_trees.specs.declared.procedure.Proc.{Proc}
use Rattle.ts_trees.specs.declared.stmt.Step.{Step}
use Rattle.ts_trees.specs.declared.stmt.Stmt.{Stmt}
use Rattle.ts_trees.specs.declared.word.Word.{Word}
use Rattle.ts_trees.specs.Seen.{acts, act_of, acts_of, procedure_of}
use Rattle.ts_trees.specs.Tree.{Tree, Trees, no_trees, tree_then, Act, set, set_item, append, take_last, clear, call_alone, if_then, if_else, for_next, while_do, run_procedure, Acts, no_acts, act_then, Procedure}
use Rattle.ts_proc_names.specs.Places.{declared_as}
use Rattle.ts_proc_names.specs.Heads.{parameter_count}
use Rattle.ts_proc_renaming.specs.Renaming.{Hiding, nothing_hidden, renamed, renamed_expr, renamed_args, renamed_simple, assigned}
use Rattle.ts_proc_renaming.proofs.NothingLemmas.{nothing-moved, nothing-renamed, nothing-renamed_args}
use Rattle.ts_proc_expansion.specs.Expansion.{first_trees, Callee, body_called, expanded_act, expanded_acts, callee, callees}
use Rattle.ts_proc_expansion.specs.InOrder.{declared_in_order}
use Rattle.ts_proc_expansion.specs.Live.{BecomesSame, AddsSame}
use Rattle.ts_proc_expansion.specs.Plan.{bodies_of}
use Rattle.ts_proc_expansion.proofs.InOrderLemmas.{one_more, length-declared_in_order}
use Rattle.ts_proc_expansion.proofs.CalleeLemmas.{count_before, count_all}
use Rattle.ts_proc_expansion.proofs.ExtentLemmas.{bodies_all}

pub expanded_acts-append : (known : List (List ℕ × Callee)) (h : Hiding) (xs ys : List Act)
    → expanded_acts known h (acts (xs ++ ys)) ≡ expanded_acts known h (acts xs) ++ expanded_acts known h (acts ys)
expanded_acts-append known h [] ys = refl
expanded_acts-append known h (x ∷ xs) ys =
    ap (λ r. expanded_act known h x ++ r) (expanded_acts-append known h xs ys)
    ∙ sym (append_assoc (expanded_act known h x) (expanded_acts known h (acts xs)) (expanded_acts known h (acts ys)))

-- a statement is appended that becomes the same as this one
pub adds_one : (known : List (List ℕ × Callee)) (old new : List Act) (a b : Act) → new ≡ old ++ b ∷ [] → ((h : Hiding) → expanded_act known h b ≡ expanded_act known h a) → AddsSame known old a new
adds_one known old new a b is same = λ h.
    ap (λ xs. expanded_acts known h (acts xs)) is ∙ expanded_acts-append known h old (b ∷ [])
    ∙ ap (λ xs. expanded_acts known h (acts old) ++ xs) (append-nil (expanded_act known h b) ∙ same h)

-- nothing is appended for a call that adds nothing
pub adds_none : (known : List (List ℕ × Callee)) (old : List Act) (w : Word) (es : Trees) (o : Option Callee) → o ≡ declared_as known w.name → ((h : Hiding) → body_called h w es o ≡ [])
    → AddsSame known old (run_procedure w es) old
adds_none known old w es o is none = λ h.
    sym (ap (λ xs. expanded_acts known h (acts old) ++ xs) (ap (body_called h w es) (sym is) ∙ none h) ∙ append-nil (expanded_acts known h (acts old)))

-- a call of a procedure without parameters and without statements
pub nothing_called : (h : Hiding) (w : Word) (es : Trees) (c : Callee) → c.params ≡ 0 → c.body ≡ [] → body_called h w es (Some c) ≡ []
nothing_called h w es c bare empty = ap (λ n. assigned h w.place c.first (first_trees n es) ++ c.body) bare ∙ empty

-- a statement that has no block and runs no procedure
abbrev pub is_simple : Act → Bool
is_simple (set w e) = true
is_simple (set_item w i e) = true
is_simple (append w e) = true
is_simple (take_last w b) = true
is_simple (clear w) = true
is_simple (call_alone w es) = true
is_simple (if_then e a) = false
is_simple (if_else e a b) = false
is_simple (for_next w from to step a next) = false
is_simple (while_do e a) = false
is_simple (run_procedure w es) = false

-- ---- copies of statements, where nothing is hidden

module _ (known : List (List ℕ × Callee)) (g : Hiding) (none : g ≡ nothing_hidden) (old new : List Act) where
  pub adds_if_then : (e : Tree) (a b : Acts) → BecomesSame known b a → new ≡ old ++ if_then (renamed_expr g e) b ∷ [] → AddsSame known old (if_then e a) new
  adds_if_then e a b same is =
      adds_one known old new (if_then e a) (if_then (renamed_expr g e) b) is λ h.
      ap (λ f. if_then (renamed_expr h f) (acts (expanded_acts known h b)) ∷ []) (nothing-renamed g none e)
      ∙ ap (λ xs. if_then (renamed_expr h e) (acts xs) ∷ []) (same h)

  pub adds_if_else : (e : Tree) (a b c d : Acts) → BecomesSame known b a → BecomesSame known d c → new ≡ old ++ if_else (renamed_expr g e) b d ∷ [] → AddsSame known old (if_else e a c) new
  adds_if_else e a b c d same also is =
      adds_one known old new (if_else e a c) (if_else (renamed_expr g e) b d) is λ h.
      ap (λ f. if_else (renamed_expr h f) (acts (expanded_acts known h b)) (acts (expanded_acts known h d)) ∷ []) (nothing-renamed g none e)
      ∙ ap (λ xs. if_else (renamed_expr h e) (acts xs) (acts (expanded_acts known h d)) ∷ []) (same h)
      ∙ ap (λ xs. if_else (renamed_expr h e) (acts (expanded_acts known h a)) (acts xs) ∷ []) (also h)

  pub adds_for_next : (w next : Word) (from to : Tree) (step : Option Step) (a b : Acts) → BecomesSame known b a
      → new ≡ old ++ for_next (renamed g w) (renamed_expr g from) (renamed_expr g to) step b (renamed g next) ∷ [] → AddsSame known old (for_next w from to step a next) new
  adds_for_next w next from to step a b same is =
      adds_one known old new (for_next w from to step a next) (for_next (renamed g w) (renamed_expr g from) (renamed_expr g to) step b (renamed g next)) is λ h.
      ap (λ v. for_next (renamed h v) (renamed_expr h (renamed_expr g from)) (renamed_expr h (renamed_expr g to)) step (acts (expanded_acts known h b)) (renamed h (renamed g next)) ∷ []) (nothing-moved g none w)
      ∙ ap (λ e. for_next (renamed h w) (renamed_expr h e) (renamed_expr h (renamed_expr g to)) step (acts (expanded_acts known h b)) (renamed h (renamed g next)) ∷ []) (nothing-renamed g none from)
      ∙ ap (λ e. for_next (renamed h w) (renamed_expr h from) (renamed_expr h e) step (acts (expanded_acts known h b)) (renamed h (renamed g next)) ∷ []) (nothing-renamed g none to)
      ∙ ap (λ v. for_next (renamed h w) (renamed_expr h from) (renamed_expr h to) step (acts (expanded_acts known h b)) (renamed h v) ∷ []) (nothing-moved g none next)
      ∙ ap (λ xs. for_next (renamed h w) (renamed_expr h from) (renamed_expr h to) step (acts xs) (renamed h next) ∷ []) (same h)

  pub adds_while_do : (e : Tree) (a b : Acts) → BecomesSame known b a → new ≡ old ++ while_do (renamed_expr g e) b ∷ [] → AddsSame known old (while_do e a) new
  adds_while_do e a b same is =
      adds_one known old new (while_do e a) (while_do (renamed_expr g e) b) is λ h.
      ap (λ f. while_do (renamed_expr h f) (acts (expanded_acts known h b)) ∷ []) (nothing-renamed g none e)
      ∙ ap (λ xs. while_do (renamed_expr h e) (acts xs) ∷ []) (same h)

  pub adds_run : (w v : Word) (es : Trees) → ((h : Hiding) → body_called h v es (declared_as known v.name) ≡ body_called h w es (declared_as known w.name))
      → new ≡ old ++ run_procedure v (renamed_args g es) ∷ [] → AddsSame known old (run_procedure w es) new
  adds_run w v es same is =
      adds_one known old new (run_procedure w es) (run_procedure v (renamed_args g es)) is λ h.
      ap (λ fs. expanded_act known h (run_procedure v fs)) (nothing-renamed_args g none es) ∙ same h

  -- a statement without a block that runs no procedure
  pub adds_simple : (a : Act) → is_simple a ≡ true → new ≡ old ++ renamed_simple g a → AddsSame known old a new
  adds_simple (set w e) some is =
      adds_one known old new (set w e) (set (renamed g w) (renamed_expr g e)) is λ h.
      ap (λ v. set (renamed h v) (renamed_expr h (renamed_expr g e)) ∷ []) (nothing-moved g none w) ∙ ap (λ f. set (renamed h w) (renamed_expr h f) ∷ []) (nothing-renamed g none e)
  adds_simple (set_item w i e) some is =
      adds_one known old new (set_item w i e) (set_item (renamed g w) (renamed_expr g i) (renamed_expr g e)) is λ h.
      ap (λ v. set_item (renamed h v) (renamed_expr h (renamed_expr g i)) (renamed_expr h (renamed_expr g e)) ∷ []) (nothing-moved g none w)
      ∙ ap (λ f. set_item (renamed h w) (renamed_expr h f) (renamed_expr h (renamed_expr g e)) ∷ []) (nothing-renamed g none i)
      ∙ ap (λ f. set_item (renamed h w) (renamed_expr h i) (renamed_expr h f) ∷ []) (nothing-renamed g none e)
  adds_simple (append w e) some is =
      adds_one known old new (append w e) (append (renamed g w) (renamed_expr g e)) is λ h.
      ap (λ v. append (renamed h v) (renamed_expr h (renamed_expr g e)) ∷ []) (nothing-moved g none w) ∙ ap (λ f. append (renamed h w) (renamed_expr h f) ∷ []) (nothing-renamed g none e)
  adds_simple (take_last w b) some is =
      adds_one known old new (take_last w b) (take_last (renamed g w) (renamed g b)) is λ h.
      ap (λ v. take_last (renamed h v) (renamed h (renamed g b)) ∷ []) (nothing-moved g none w) ∙ ap (λ v. take_last (renamed h w) (renamed h v) ∷ []) (nothing-moved g none b)
  adds_simple (clear w) some is =
      adds_one known old new (clear w) (clear (renamed g w)) is λ h. ap (λ v. clear (renamed h v) ∷ []) (nothing-moved g none w)
  adds_simple (call_alone w es) some is =
      adds_one known old new (call_alone w es) (call_alone w (renamed_args g es)) is λ h. ap (λ fs. call_alone w (renamed_args h fs) ∷ []) (nothing-renamed_args g none es)
  adds_simple (if_then e a) some is = absurd (cc)
  adds_simple (if_else e a b) some is = absurd (cc)
  adds_simple (for_next w from to step a next) some is = absurd (cc)
  adds_simple (while_do e a) some is = absurd (cc)
  adds_simple (run_procedure w es) some is = absurd (cc)

-- ---- blocks

-- one more statement of a block
pub live_next : (known : List (List ℕ × Callee)) (stmts : List Stmt) (i : ℕ) (s : Stmt) (old new : List Act) → i < length stmts → s ≡ get_or stmts i s
    → AddsSame known old (act_of s) new → BecomesSame known (acts old) (acts_of (take i stmts)) → BecomesSame known (acts new) (acts_of (take (i + 1) stmts))
live_next known stmts i s old new within is adds same = λ h.
    adds h ∙ ap (λ xs. xs ++ expanded_act known h (act_of s)) (same h)
    ∙ ap (λ xs. expanded_acts known h (acts_of (take i stmts)) ++ xs) (sym (append-nil (expanded_act known h (act_of s))))
    ∙ sym (expanded_acts-append known h (map act_of (take i stmts)) (act_of s ∷ []))
    ∙ ap (λ xs. expanded_acts known h (acts xs)) (sym (map-append act_of (take i stmts) (s ∷ [])))
    ∙ ap (λ t. expanded_acts known h (acts_of (take i stmts ++ t ∷ []))) is
    ∙ ap (λ ss. expanded_acts known h (acts_of ss)) (sym (take_more stmts i s within))

pub live_end : (known : List (List ℕ × Callee)) (stmts : List Stmt) (i : ℕ) (new : Acts) → length stmts ≤ i → BecomesSame known new (acts_of (take i stmts)) → BecomesSame known new (acts_of stmts)
live_end known stmts i new past same = λ h. same h ∙ ap (λ ss. expanded_acts known h (acts_of ss)) (take_all i stmts past)

-- ---- procedures

push-declared : {A : Type 0} (given : List (List ℕ × A) → Procedure → A) (known : List (List ℕ × A)) (ps : List Procedure) (p : Procedure)
    → declared_in_order given known (ps ++ p ∷ []) ≡ declared_in_order given known ps ++ (p.name.name, given (declared_in_order given known ps) p) ∷ []
push-declared given known [] p = refl
push-declared given known (q ∷ qs) p = push-declared given (known ++ (q.name.name, given known q) ∷ []) qs p

-- a procedure, by its parameters and its body
abbrev called : List (List ℕ × Callee) → List Word → Acts → Callee
called known ws body =
    let first : ℕ = sum_by (λ c. c.1.params) known in
    record { first = first; params = length ws; body = expanded_acts known (record { first = first; params = ws }) body }

callee_same : (known : List (List ℕ × Callee)) (p q : Procedure) → p.params ≡ q.params → BecomesSame known p.body q.body → callee known p ≡ callee known q
callee_same known p q params same =
    let first : ℕ = sum_by (λ c. c.1.params) known in
    ap (λ ws. called known ws p.body) params
    ∙ ap (λ xs. record { first = first; params = length q.params; body = xs }) (same (record { first = first; params = q.params }))

-- one more procedure is copied
pub live_more : (procs live new : List Proc) (i : ℕ) (p q : Proc) → i < length procs → p ≡ get_or procs i p → bodies_of live ≡ take i (bodies_of procs) → new ≡ live ++ q ∷ []
    → q.name ≡ p.name → q.params ≡ p.params → BecomesSame (take i (bodies_of procs)) (acts_of q.body) (acts_of p.body) → bodies_of new ≡ take (i + 1) (bodies_of procs)
live_more procs live new i p q within is so_far pushed name params same =
    let known : List (List ℕ × Callee) = take i (bodies_of procs) in
    ap bodies_of pushed ∙ ap (declared_in_order callee []) (map-append procedure_of live (q ∷ []))
    ∙ push-declared callee [] (map procedure_of live) (procedure_of q)
    ∙ ap (λ ks. ks ++ (q.name.name, callee ks (procedure_of q)) ∷ []) so_far
    ∙ ap (λ c. known ++ (q.name.name, c) ∷ []) (callee_same known (procedure_of q) (procedure_of p) params same)
    ∙ ap (λ (w : Word). known ++ (w.name, callee known (procedure_of p)) ∷ []) name
    ∙ sym (one_more callee procs i p within is)

-- procedures that become the same have as many parameters
pub same_count : (procs live : List Proc) → bodies_of live ≡ bodies_of procs → parameter_count (map procedure_of live) ≡ parameter_count (map procedure_of procs)
same_count procs live same =
    let n : ℕ = length procs in
    let lengths : length live ≡ length procs = sym (length-declared_in_order callee live) ∙ ap length same ∙ length-declared_in_order callee procs in
    sym (count_all live n (omega (arith, lengths)))
    ∙ ap (λ ks. sum_by (λ (c : List ℕ × Callee). c.1.params) (take n ks)) same
    ∙ count_all procs n (omega arith)

-- a script's statements, with calls that become the same
pub whole_becomes : (procs : List Proc) (n : ℕ) (a new b whole : Acts) (ps : List Procedure) → length procs ≤ n → map procedure_of procs ≡ ps → new ≡ a → b ≡ whole
    → BecomesSame (take n (bodies_of procs)) a b → BecomesSame (callees ps) new whole
whole_becomes procs n a new b whole ps past are is_new is_whole same = λ h.
    let known : take n (bodies_of procs) ≡ callees ps = bodies_all procs n past ∙ ap callees are in
    sym (ap (λ (ks : List (List ℕ × Callee)). expanded_acts ks h new) known) ∙ ap (expanded_acts (take n (bodies_of procs)) h) is_new ∙ same h
    ∙ ap (λ (ks : List (List ℕ × Callee)). expanded_acts ks h b) known ∙ ap (expanded_acts (callees ps) h) is_whole
