-- What is written so far, and what is left.
use Rattle.std.proofs.Common.{◌≡◌, ℕ, suc, ◌+◌, ◌<◌, ◌≤◌, List, [], ◌∷◌, ◌++◌, length, drop, get_or, Option, Some, Result, Ok, Err, ap, sym, ◌∙◌, arith, append_assoc}
use Rattle.std.specs.Prelude.{IfOk}
use Rattle.std.proofs.lemmas.List.{append-nil, drop_all}
use Rattle.ts_trees.specs.declared.procedure.Proc.{Proc}
use Rattle.ts_trees.specs.declared.stmt.Stmt.{Stmt}
use Rattle.ts_trees.specs.declared.word.Word.{Word}
use Rattle.ts_trees.specs.Seen.{act_of, acts_of, acts}
use Rattle.ts_trees.specs.Tree.{Trees, Act}
use Rattle.ts_checked.proofs.ListLemmas.{drop_item}
use Rattle.ts_procs.specs.declared.pending.Pending.{Pending}
use Rattle.ts_proc_renaming.specs.Renaming.{Hiding, assigned}
use Rattle.ts_proc_expansion.specs.Expansion.{Callee, callee, first_trees, body_called, expanded_act, expanded_acts}
use Rattle.ts_proc_expansion.specs.Extent.{acts_depth}
use Rattle.ts_procs.specs.Pending.{acts_left, left_on, steps_left, steps_on}
use Rattle.ts_proc_expansion.proofs.ExtentLemmas.{acts_depth-append}

-- the statements from one on: what it becomes, and the rest
pub block_from : (known : List (List ℕ × Callee)) (h : Hiding) (stmts : List Stmt) (i : ℕ) (s : Stmt) → i < length stmts → s ≡ get_or stmts i s
    → expanded_acts known h (acts_of (drop i stmts)) ≡ expanded_act known h (act_of s) ++ expanded_acts known h (acts_of (drop (i + 1) stmts))
block_from known h stmts i s within is = ap (λ ss. expanded_acts known h (acts_of ss)) (drop_item stmts i s within is)

-- one more statement is written, with the body that it called
pub block_next : (old more new body becomes rest left whole : List Act) → new ≡ more ++ body → more ++ body ≡ old ++ becomes → left ≡ becomes ++ rest → old ++ left ≡ whole
    → new ++ rest ≡ whole
block_next old more new body becomes rest left whole done wrote splits so_far =
    ap (λ xs. xs ++ rest) (done ∙ wrote) ∙ append_assoc old becomes rest ∙ ap (λ xs. old ++ xs) (sym splits) ∙ so_far

-- all statements are written
pub block_end : (known : List (List ℕ × Callee)) (h : Hiding) (stmts : List Stmt) (i : ℕ) (new whole : List Act) → length stmts ≤ i
    → new ++ expanded_acts known h (acts_of (drop i stmts)) ≡ whole → new ≡ whole
block_end known h stmts i new whole past so_far =
    sym (ap (λ ss. new ++ expanded_acts known h (acts_of ss)) (drop_all i stmts past) ∙ append-nil new) ∙ so_far

-- what stands within a part nests no deeper than the whole
pub part_depth : (whole front part rest : List Act) (depth : ℕ) → front ++ (part ++ rest) ≡ whole → acts_depth (acts whole) ≤ depth → acts_depth (acts part) ≤ depth
part_depth whole front part rest depth is within =
    omega (arith, within, ap (λ xs. acts_depth (acts xs)) is, acts_depth-append front (part ++ rest), acts_depth-append part rest)

-- the last one on a stack comes first
pub left_on_push : (procs : List Proc) (ps : List Pending) (p : Pending) → left_on procs (ps ++ p ∷ []) ≡ acts_left procs p ++ left_on procs ps
left_on_push procs [] p = sym (append-nil (acts_left procs p))
left_on_push procs (q ∷ qs) p = ap (λ xs. xs ++ acts_left procs q) (left_on_push procs qs p) ∙ append_assoc (acts_left procs p) (left_on procs qs) (acts_left procs q)

pub steps_on_push : (procs : List Proc) (ps : List Pending) (p : Pending) → steps_on procs (ps ++ p ∷ []) ≡ steps_on procs ps + steps_left procs p
steps_on_push procs [] p = omega arith
steps_on_push procs (q ∷ qs) p = let more : steps_on procs (qs ++ p ∷ []) ≡ steps_on procs qs + steps_left procs p = steps_on_push procs qs p in omega (arith, more)

-- a statement of a block, and a body behind it, nest no deeper than the block
pub block_part : (known : List (List ℕ × Callee)) (h : Hiding) (stmts : List Stmt) (i : ℕ) (s : Stmt) (old whole : List Act) (depth : ℕ) → i < length stmts → s ≡ get_or stmts i s
    → old ++ expanded_acts known h (acts_of (drop i stmts)) ≡ whole → acts_depth (acts whole) ≤ depth → acts_depth (acts (expanded_act known h (act_of s))) ≤ depth
block_part known h stmts i s old whole depth within is before shallow =
    part_depth whole old (expanded_act known h (act_of s)) (expanded_acts known h (acts_of (drop (i + 1) stmts))) depth
    (sym (ap (λ xs. old ++ xs) (block_from known h stmts i s within is)) ∙ before) shallow

-- what stands on a stack: the first statement of its last body, the others of that body, and those below; or those below alone
pub popped : (procs : List Proc) (stack below : List Pending) (p rest : Pending) (front : List Act) → stack ≡ below ++ p ∷ [] → acts_left procs p ≡ front ++ acts_left procs rest
    → left_on procs stack ≡ (front ++ acts_left procs rest) ++ left_on procs below
popped procs stack below p rest front are first =
    ap (left_on procs) are ∙ left_on_push procs below p ∙ ap (λ xs. xs ++ left_on procs below) first

pub popped_none : (procs : List Proc) (stack below : List Pending) (p : Pending) → stack ≡ below ++ p ∷ [] → acts_left procs p ≡ [] → left_on procs stack ≡ left_on procs below
popped_none procs stack below p are none = ap (left_on procs) are ∙ left_on_push procs below p ∙ ap (λ xs. xs ++ left_on procs below) none

-- fewer steps are left without a stack's last body, and once a statement of it is written
pub fewer_below : (procs : List Proc) (stack below : List Pending) (p : Pending) → stack ≡ below ++ p ∷ [] → steps_on procs below < steps_on procs stack
fewer_below procs stack below p are =
    let all : steps_on procs stack ≡ steps_on procs below + steps_left procs p = ap (steps_on procs) are ∙ steps_on_push procs below p in
    omega (arith, all)

pub fewer : (procs : List Proc) (stack below : List Pending) (p rest : Pending) (a b new : ℕ) → stack ≡ below ++ p ∷ [] → steps_left procs p ≡ a + steps_left procs rest → b < a
    → new ≡ (steps_on procs below + steps_left procs rest) + b → new < steps_on procs stack
fewer procs stack below p rest a b new are first less pushed =
    let all : steps_on procs stack ≡ steps_on procs below + steps_left procs p = ap (steps_on procs) are ∙ steps_on_push procs below p in
    omega (arith, all, first, less, pushed)

-- a step of the stack: the first statement of its last body is written, and the others and that statement's own body are put back
pub stack_next : (front rest below body old new stack top : List Act) → stack ≡ (front ++ rest) ++ below → top ≡ body ++ (rest ++ below) → new ++ body ≡ old ++ front
    → new ++ top ≡ old ++ stack
stack_next front rest below body old new stack top are tops wrote =
    ap (λ xs. new ++ xs) tops ∙ sym (append_assoc new body (rest ++ below)) ∙ ap (λ xs. xs ++ (rest ++ below)) wrote
    ∙ append_assoc old front (rest ++ below) ∙ ap (λ xs. old ++ xs) (sym (append_assoc front rest below) ∙ sym are)

-- what stands first on a stack, and what is put back, nest no deeper than all
pub front_depth : (front rest below stack : List Act) (depth : ℕ) → stack ≡ (front ++ rest) ++ below → acts_depth (acts stack) ≤ depth → acts_depth (acts front) ≤ depth
front_depth front rest below stack depth are shallow =
    omega (arith, shallow, ap (λ xs. acts_depth (acts xs)) are, acts_depth-append (front ++ rest) below, acts_depth-append front rest)

pub top_depth : (front rest below body stack top : List Act) (depth : ℕ) → stack ≡ (front ++ rest) ++ below → top ≡ body ++ (rest ++ below) → acts_depth (acts stack) ≤ depth
    → acts_depth (acts body) ≤ depth → acts_depth (acts top) ≤ depth
top_depth front rest below body stack top depth are tops shallow b =
    omega (
      arith,
      b,
      shallow,
      ap (λ xs. acts_depth (acts xs)) are,
      ap (λ xs. acts_depth (acts xs)) tops,
      acts_depth-append (front ++ rest) below,
      acts_depth-append front rest,
      acts_depth-append body (rest ++ below),
      acts_depth-append rest below,
    )

-- the depth of what is left of a `do` is at most that of what it becomes
pub called_shallow : (h : Hiding) (w : Word) (es : Trees) (callee : Callee) (o : Option Callee) (body : List Act) → o ≡ Some callee → body ≡ callee.body
    → acts_depth (acts body) ≤ acts_depth (acts (body_called h w es o))
called_shallow h w es callee o body called is =
    omega (
      arith,
      ap (λ xs. acts_depth (acts xs)) is,
      ap (λ o. acts_depth (acts (body_called h w es o))) called,
      acts_depth-append (assigned h w.place callee.first (first_trees callee.params es)) callee.body,
    )

-- the steps of what is left of a `do` are fewer than those of the `do`
pub called_steps : (here there body : ℕ) → here ≡ body → there ≡ body → suc here < suc (suc there)
called_steps here there body is was = omega arith

-- a result within a bound is within a greater one
pub within_more : {A E : Type 0} (result : Result A E) (size : A → ℕ) (n m : ℕ) → n ≤ m → IfOk result (λ x. size x ≤ n) → IfOk result (λ x. size x ≤ m)
within_more (Ok x) size n m more h = omega arith
within_more (Err e) size n m more h = tt
