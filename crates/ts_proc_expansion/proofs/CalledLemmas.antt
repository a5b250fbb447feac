-- What a `do` becomes that is written: the assignments of its arguments, and its procedure's body.
use Rattle.std.proofs.Common.{◌≡◌, ℕ, suc, zero, ◌+◌, List, [], ◌∷◌, ◌++◌, length, take, Option, Some, ap, sym, ◌∙◌, arith, append_assoc}
use Rattle.std.specs.Prelude.{min}
use Rattle.ts_trees.specs.declared.expr.Expr.{Expr}
use Rattle.ts_trees.specs.declared.procedure.Proc.{Proc}
use Rattle.ts_trees.specs.declared.stmt.Stmt.{Stmt}
use Rattle.ts_trees.specs.declared.word.Word.{Word}
use Rattle.ts_trees.specs.Seen.{tree_of, trees_of, acts_of, procedure_of}
use Rattle.ts_trees.specs.Tree.{Act, tree_then}
use Rattle.ts_proc_renaming.specs.Renaming.{Hiding, assigned}
use Rattle.ts_proc_expansion.specs.Expansion.{Callee, callee, first_trees, body_called, expanded_acts}
use Rattle.ts_proc_expansion.specs.Plan.{bodies_of}
use Rattle.ts_proc_expansion.proofs.CalleeLemmas.{count_before}

-- as many arguments as there are parameters, as a list and as trees
pub first_trees-min : (n m : ℕ) (es : List Expr) → m ≡ min (length es) n → trees_of (take m es) ≡ first_trees n (trees_of es)
first_trees-min zero m es is = let none : m ≡ 0 = omega (arith, is) in ap (λ k. trees_of (take k es)) none
first_trees-min (suc n) m [] is = let none : m ≡ 0 = omega (arith, is) in ap (λ k. trees_of (take k [])) none
first_trees-min (suc n) zero (e ∷ es) is = absurd (omega (arith, is))
first_trees-min (suc n) (suc m) (e ∷ es) is = ap (λ ts. tree_then (tree_of e) ts) (first_trees-min n m es (omega (arith, is)))

-- a `do` whose arguments are assigned becomes that and its procedure's body
pub call_written : (h : Hiding) (w : Word) (args : List Expr) (callee : Callee) (o : Option Callee) (first m : ℕ) (body old new : List Act) → o ≡ Some callee → first ≡ callee.first
    → m ≡ min (length args) callee.params → body ≡ callee.body → new ≡ old ++ assigned h w.place first (trees_of (take m args))
    → new ++ body ≡ old ++ body_called h w (trees_of args) o
call_written h w args callee o first m body old new called is_first is_m is_body wrote =
    ap (λ xs. xs ++ body) (wrote ∙ ap (λ k. old ++ assigned h w.place k (trees_of (take m args))) is_first
    ∙ ap (λ ts. old ++ assigned h w.place callee.first ts) (first_trees-min callee.params m args is_m))
    ∙ append_assoc old (assigned h w.place callee.first (first_trees callee.params (trees_of args))) body
    ∙ ap (λ xs. old ++ (assigned h w.place callee.first (first_trees callee.params (trees_of args)) ++ xs)) is_body
    ∙ ap (λ o. old ++ body_called h w (trees_of args) o) (sym called)

-- the hidden names, by their two parts
abbrev pub hides : ℕ → List Word → Hiding
hides n ws = record { first = n; params = ws }

-- what is left of a procedure's body at first
pub body_left : (procs : List Proc) (i : ℕ) (p : Proc) (stmts : List Stmt) (h : Hiding) → h ≡ record { first = count_before procs i; params = p.params } → stmts ≡ p.body
    → expanded_acts (take i (bodies_of procs)) h (acts_of stmts) ≡ (callee (take i (bodies_of procs)) (procedure_of p)).body
body_left procs i p stmts h hides are =
    ap (λ h. expanded_acts (take i (bodies_of procs)) h (acts_of stmts)) hides
    ∙ ap (λ ss. expanded_acts (take i (bodies_of procs)) (record { first = count_before procs i; params = p.params }) (acts_of ss)) are
