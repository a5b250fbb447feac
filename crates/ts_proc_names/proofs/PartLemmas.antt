-- What an answer says of a whole, by what it says of the parts.
use Rattle.std.proofs.Common.{◌≡◌, ℕ, ◌+◌, ◌<◌, ◌≤◌, List, [], ◌∷◌, ◌++◌, length, drop, get_or, Option, Some, None, Result, Ok, Err, ap, sym, ◌∙◌}
use Rattle.std.specs.Prelude.{IsErrAnd, is_some}
use Rattle.std.specs.Result.{result_err}
use Rattle.std.proofs.lemmas.List.{drop_all}
use Rattle.ts_trees.specs.declared.expr.Expr.{Expr}
use Rattle.ts_trees.specs.declared.script.Decl.{Decl}
use Rattle.ts_trees.specs.declared.stmt.Stmt.{Stmt}
use Rattle.ts_trees.specs.declared.word.Word.{Word}
use Rattle.ts_trees.specs.Seen.{tree_of, trees_of, act_of, acts_of}
use Rattle.ts_trees.specs.Tree.{Tree, Act}
use Rattle.ts_checked.proofs.ListLemmas.{drop_item}
use Rattle.ts_proc_names.specs.declared.fault.ProcFault.{ProcFault}
use Rattle.ts_proc_names.specs.declared.fault.ProcFault.TheVariants.{Again, NoMemory}
use Rattle.ts_proc_names.specs.Places.{place_of_name}
use Rattle.ts_proc_names.specs.NameFaults.{◌<|>◌, refused_if, word_fault, expr_fault, args_fault, act_fault, acts_fault, params_fault, decls_fault}
use Rattle.ts_proc_names.specs.Passing.{NamesPass}

-- the refusal of the first part is that of the whole
pub refused_first : {A : Type 0} (fault : ProcFault) (result : Result A ProcFault) (a b : Option ProcFault) → IsErrAnd result (λ y. y ≡ fault) → Some fault ≡ a
    → result_err result ≡ (a <|> b)
refused_first fault (Ok x) a b is h = absurd is
refused_first fault (Err y) a b is h = ap (λ z. Some z) is ∙ ap (λ o. o <|> b) h

-- where nothing is refused of the first part, the second one decides
pub passed_first : {A : Type 0} (result : Result A ProcFault) (a b : Option ProcFault) → None ≡ a → result_err result ≡ b → result_err result ≡ (a <|> b)
passed_first result a b none h = h ∙ ap (λ o. o <|> b) none

-- an answer for an expression is that for the tree that it is, and so for a statement
pub tree_passes : {A : Type 0} (result : Result A ProcFault) {a b : Tree} → a ≡ b → result_err result ≡ expr_fault b → result_err result ≡ expr_fault a
tree_passes result is h = h ∙ sym (ap expr_fault is)

pub act_passes : {A : Type 0} (known : List (List ℕ × ℕ)) (result : Result A ProcFault) {a b : Act} → a ≡ b → result_err result ≡ act_fault known b
    → result_err result ≡ act_fault known a
act_passes known result is h = h ∙ sym (ap (act_fault known) is)

-- an answer for an expression is that for an equal one, and so for arguments
pub expr_passes : {A : Type 0} (result : Result A ProcFault) {x y : Expr} → y ≡ x → result_err result ≡ expr_fault (tree_of y) → result_err result ≡ expr_fault (tree_of x)
expr_passes result is h = h ∙ ap (λ e. expr_fault (tree_of e)) is

pub args_pass : {A : Type 0} (result : Result A ProcFault) {xs ys : List Expr} → ys ≡ xs → result_err result ≡ args_fault (trees_of ys) → result_err result ≡ args_fault (trees_of xs)
args_pass result is h = h ∙ ap (λ es. args_fault (trees_of es)) is

-- an answer for one part is that for an equal one
pub passed_as : {A : Type 0} (result : Result A ProcFault) (a b : Option ProcFault) → a ≡ b → result_err result ≡ b → result_err result ≡ a
passed_as result a b is h = h ∙ sym is

-- where memory may be wanted, too
pub passes : {A : Type 0} (result : Result A ProcFault) (part : Option ProcFault) → result_err result ≡ part → NamesPass result part
passes (Ok x) part h = sym h
passes (Err NoMemory) part h = tt
passes (Err fault) part h = sym h

-- the statements from one on
pub acts_from : (known : List (List ℕ × ℕ)) (stmts : List Stmt) (i : ℕ) (s : Stmt) → i < length stmts → s ≡ get_or stmts i s
    → acts_fault known (acts_of (drop i stmts)) ≡ (act_fault known (act_of s) <|> acts_fault known (acts_of (drop (i + 1) stmts)))
acts_from known stmts i s within is = ap (λ ss. acts_fault known (acts_of ss)) (drop_item stmts i s within is)

pub acts_next : (known : List (List ℕ × ℕ)) (stmts : List Stmt) (i : ℕ) (s : Stmt) → i < length stmts → s ≡ get_or stmts i s → None ≡ act_fault known (act_of s)
    → acts_fault known (acts_of (drop i stmts)) ≡ acts_fault known (acts_of (drop (i + 1) stmts))
acts_next known stmts i s within is none = acts_from known stmts i s within is ∙ ap (λ o. o <|> acts_fault known (acts_of (drop (i + 1) stmts))) (sym none)

pub acts_end : (known : List (List ℕ × ℕ)) (stmts : List Stmt) (i : ℕ) → length stmts ≤ i → acts_fault known (acts_of (drop i stmts)) ≡ None
acts_end known stmts i past = ap (λ ss. acts_fault known (acts_of ss)) (drop_all i stmts past)

-- the arguments from one on
pub args_from : (args : List Expr) (i : ℕ) (e : Expr) → i < length args → e ≡ get_or args i e
    → args_fault (trees_of (drop i args)) ≡ (expr_fault (tree_of e) <|> args_fault (trees_of (drop (i + 1) args)))
args_from args i e within is = ap (λ es. args_fault (trees_of es)) (drop_item args i e within is)

pub args_next : (args : List Expr) (i : ℕ) (e : Expr) → i < length args → e ≡ get_or args i e → None ≡ expr_fault (tree_of e)
    → args_fault (trees_of (drop i args)) ≡ args_fault (trees_of (drop (i + 1) args))
args_next args i e within is none = args_from args i e within is ∙ ap (λ o. o <|> args_fault (trees_of (drop (i + 1) args))) (sym none)

pub args_end : (args : List Expr) (i : ℕ) → length args ≤ i → args_fault (trees_of (drop i args)) ≡ None
args_end args i past = ap (λ es. args_fault (trees_of es)) (drop_all i args past)

-- the declarations from one on
pub decls_from : (decls : List Decl) (i : ℕ) (d : Decl) → i < length decls → d ≡ get_or decls i d
    → decls_fault (drop i decls) ≡ (word_fault d.word <|> decls_fault (drop (i + 1) decls))
decls_from decls i d within is = ap decls_fault (drop_item decls i d within is)

pub decls_next : (decls : List Decl) (i : ℕ) (d : Decl) → i < length decls → d ≡ get_or decls i d → None ≡ word_fault d.word
    → decls_fault (drop i decls) ≡ decls_fault (drop (i + 1) decls)
decls_next decls i d within is none = decls_from decls i d within is ∙ ap (λ o. o <|> decls_fault (drop (i + 1) decls)) (sym none)

pub decls_end : (decls : List Decl) (i : ℕ) → length decls ≤ i → decls_fault (drop i decls) ≡ None
decls_end decls i past = ap decls_fault (drop_all i decls past)

-- the parameters from one on
abbrev pub params_rest : List (List ℕ) → Word → List Word → Option ProcFault
params_rest seen w ws = refused_if (is_some (place_of_name seen w.name)) (Again w.name w.place) <|> params_fault (seen ++ w.name ∷ []) ws

pub params_from : (seen : List (List ℕ)) (params : List Word) (i : ℕ) (w : Word) → i < length params → w ≡ get_or params i w
    → params_fault seen (drop i params) ≡ (word_fault w <|> params_rest seen w (drop (i + 1) params))
params_from seen params i w within is = ap (params_fault seen) (drop_item params i w within is)

pub params_end : (seen : List (List ℕ)) (params : List Word) (i : ℕ) → length params ≤ i → params_fault seen (drop i params) ≡ None
params_end seen params i past = ap (params_fault seen) (drop_all i params past)
