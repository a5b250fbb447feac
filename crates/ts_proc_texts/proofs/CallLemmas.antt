-- The tokens of what a `do` becomes: the assignments of its arguments, and the body of its procedure.
use Rattle.std.proofs.Common.{◌≡◌, ℕ, suc, ◌+◌, ◌<◌, ◌≤◌, List, [], ◌++◌, length, get_or, take, drop, Option, Some, refl, ap, sym, ◌∙◌, arith}
use Rattle.std.specs.Prelude.{min, unwrap_or}
use Rattle.std.proofs.lemmas.List.{append-nil, drop_all}
use Rattle.ts_trees.specs.declared.expr.Expr.{Expr}
use Rattle.ts_trees.specs.declared.procedure.Proc.{Proc}
use Rattle.ts_trees.specs.declared.stmt.Stmt.{Stmt}
use Rattle.ts_trees.specs.declared.word.Word.{Word}
use Rattle.ts_trees.specs.Seen.{tree_of, trees_of, acts, acts_of, procedure_of}
use Rattle.ts_trees.specs.Spelling.{act_spelled, acts_spelled}
use Rattle.ts_trees.specs.Tree.{Act, set}
use Rattle.ts_checked.proofs.ListLemmas.{drop_item}
use Rattle.ts_proc_renaming.specs.Renaming.{Hiding, parameter_name, renamed_expr, assigned}
use Rattle.ts_proc_renaming.proofs.WrittenLemmas.{word_at}
use Rattle.ts_proc_expansion.specs.Expansion.{Callee, callee, body_called}
use Rattle.ts_proc_expansion.specs.Plan.{bodies_of}
use Rattle.ts_proc_expansion.proofs.CalleeLemmas.{count_before}
use Rattle.ts_proc_expansion.proofs.CalledLemmas.{call_written, body_left}
use Rattle.ts_proc_texts.specs.Hidings.{hiding_at}
use Rattle.ts_proc_texts.specs.Rest.{block_tokens}
use Rattle.ts_proc_texts.specs.Size.{body_size, acts_size, block_size, sizes_of_bodies}
use Rattle.ts_proc_texts.proofs.HidingLemmas.{hiding_at-place}
use Rattle.ts_proc_texts.proofs.TokenLemmas.{acts_spelled-append}

-- the assignments of all arguments, before the first; from one on; and past the last
pub assigned_first : (h : Hiding) (place first : ℕ) (args : List Expr)
    → acts_spelled (acts (assigned h place first (trees_of args))) ≡ acts_spelled (acts (assigned h place (first + 0) (trees_of args)))
assigned_first h place first args = let e : first ≡ first + 0 = omega arith in ap (λ k. acts_spelled (acts (assigned h place k (trees_of args)))) e

pub assigned_from : (h : Hiding) (place first i : ℕ) (args : List Expr) (x : Expr) (name : List ℕ) → i < length args → x ≡ get_or args i x → name ≡ parameter_name (first + i)
    → acts_spelled (acts (assigned h place (first + i) (trees_of (drop i args))))
    ≡ act_spelled (set (word_at place name) (renamed_expr h (tree_of x))) ++ acts_spelled (acts (assigned h place (first + (i + 1)) (trees_of (drop (i + 1) args))))
assigned_from h place first i args x name within is named =
    let next : (first + i) + 1 ≡ first + (i + 1) = omega arith in
    let rest : List Expr = drop (i + 1) args in
    ap (λ es. acts_spelled (acts (assigned h place (first + i) (trees_of es)))) (drop_item args i x within is)
    ∙ ap (λ n. act_spelled (set (word_at place n) (renamed_expr h (tree_of x))) ++ acts_spelled (acts (assigned h place ((first + i) + 1) (trees_of rest)))) (sym named)
    ∙ ap (λ k. act_spelled (set (word_at place name) (renamed_expr h (tree_of x))) ++ acts_spelled (acts (assigned h place k (trees_of rest)))) next

pub assigned_past : (h : Hiding) (place first i : ℕ) (args : List Expr) → length args ≤ i → acts_spelled (acts (assigned h place (first + i) (trees_of (drop i args)))) ≡ []
assigned_past h place first i args past = ap (λ es. acts_spelled (acts (assigned h place (first + i) (trees_of es)))) (drop_all i args past)

-- what is left of a call once its arguments are assigned
pub called_tokens : (procs : List Proc) (h : Hiding) (w : Word) (args : List Expr) (o : Option Callee) (i : ℕ) (p : Proc) (first m : ℕ) (stmts : List Stmt)
    → o ≡ Some (callee (take i (bodies_of procs)) (procedure_of p)) → i < length procs → p ≡ get_or procs i p → first ≡ count_before procs i
    → m ≡ min (length args) (length p.params) → stmts ≡ p.body
    → acts_spelled (acts (body_called h w (trees_of args) o)) ≡ acts_spelled (acts (assigned h w.place first (trees_of (take m args)))) ++ (block_tokens procs i stmts ++ [])
called_tokens procs h w args o i p first m stmts called within is number least are =
    let this : Callee = callee (take i (bodies_of procs)) (procedure_of p) in
    let front : List Act = assigned h w.place first (trees_of (take m args)) in
    let left : block_tokens procs i stmts ≡ acts_spelled (acts this.body) =
    ap (λ xs. acts_spelled (acts xs)) (body_left procs i p stmts (hiding_at procs i) (hiding_at-place procs i p within is) are) in
    ap (λ xs. acts_spelled (acts xs)) (sym (call_written h w args this o first m this.body [] front called number least refl refl))
    ∙ acts_spelled-append front this.body
    ∙ ap (λ ks. acts_spelled (acts front) ++ ks) (sym (append-nil (block_tokens procs i stmts) ∙ left))

-- its body is smaller than the call
pub called_smaller : (procs : List Proc) (o : Option ℕ) (i : ℕ) (p : Proc) (stmts : List Stmt) → o ≡ Some (body_size (take i (sizes_of_bodies procs)) (procedure_of p)) → stmts ≡ p.body
    → suc (block_size procs i stmts + 0) < suc (suc (unwrap_or o 0))
called_smaller procs o i p stmts called are =
    let here : block_size procs i stmts ≡ acts_size (take i (sizes_of_bodies procs)) (acts_of p.body) = ap (λ ss. acts_size (take i (sizes_of_bodies procs)) (acts_of ss)) are in
    let there : unwrap_or o 0 ≡ acts_size (take i (sizes_of_bodies procs)) (acts_of p.body) = ap (λ o. unwrap_or o 0) called in
    omega (arith, here, there)
