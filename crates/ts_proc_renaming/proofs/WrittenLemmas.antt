-- What comes after the statements that were written before.
use Rattle.std.proofs.Common.{◌≡◌, ℕ, ◌+◌, ◌<◌, ◌≤◌, List, [], ◌∷◌, ◌++◌, length, get_or, drop, ap, sym, ◌∙◌, subst, map, arith, append_assoc}
use Rattle.std.specs.Prelude.{Result, Ok, Err, OnOk, MatchResult, IsErrAnd}
use Rattle.std.proofs.lemmas.List.{map-append, append-nil, drop_all}
use Rattle.ts_trees.specs.declared.expr.Expr.{Expr}
use Rattle.ts_trees.specs.declared.stmt.Stmt.{Stmt}
use Rattle.ts_trees.specs.declared.stmt.Stmt.TheVariants.{Set}
use Rattle.ts_trees.specs.declared.word.Word.{Word}
use Rattle.ts_trees.specs.Seen.{tree_of, trees_of, act_of}
use Rattle.ts_trees.specs.Tree.{Act, set}
use Rattle.ts_checked.proofs.ListLemmas.{drop_item}
use Rattle.ts_trees.proofs.SeenLemmas.{act_set}
use Rattle.ts_proc_renaming.specs.Renaming.{Hiding, parameter_name, renamed_expr, renamed_simple, assigned}

-- a statement is appended, or not for want of memory
pub pushed : {E : Type 0} (r : Result (Unit {0}) E) (old new : List Stmt) (s : Stmt) (a : Act) → MatchResult r (λ _. new ≡ old ++ s ∷ []) (λ _. new ≡ old) → act_of s ≡ a
    → OnOk r (map act_of new ≡ map act_of old ++ a ∷ [])
pushed (Ok _) old new s a is made = ap (map act_of) is ∙ map-append act_of old (s ∷ []) ∙ ap (λ b. map act_of old ++ b ∷ []) made
pushed (Err e) old new s a same made = tt

-- a statement without a block is appended, renamed
pub pushed_simple : {E : Type 0} (h : Hiding) (r : Result (Unit {0}) E) (old new : List Stmt) (from to : Stmt) (a b : Act)
    → MatchResult r (λ _. new ≡ old ++ to ∷ []) (λ _. new ≡ old) → act_of from ≡ a → renamed_simple h a ≡ b ∷ [] → act_of to ≡ b
    → OnOk r (map act_of new ≡ map act_of old ++ renamed_simple h (act_of from))
pushed_simple h r old new from to a b moved seen becomes made =
    subst (λ (bs : List Act). OnOk r (map act_of new ≡ map act_of old ++ bs)) (sym (ap (renamed_simple h) seen ∙ becomes)) (pushed r old new to b moved made)

-- at an exit the error that was met is returned
pub failed : {A E : Type 0} (result : Result A E) (e : E) → IsErrAnd result (λ y. y ≡ e) → result ≡ Err e
failed (Ok x) e is = absurd is
failed (Err y) e is = ap Err is

-- the assignments of all arguments, before the first
pub assigned_begin : (h : Hiding) (place first : ℕ) (args : List Expr) (old : List Stmt)
    → map act_of old ++ assigned h place (first + 0) (trees_of args) ≡ map act_of old ++ assigned h place first (trees_of args)
assigned_begin h place first args old = let e : first + 0 ≡ first = omega arith in ap (λ k. map act_of old ++ assigned h place k (trees_of args)) e

abbrev pub word_at : ℕ → List ℕ → Word
word_at place name = record { name = name; place = place }

-- one more argument is assigned
pub assigned_next : (h : Hiding) (place first i : ℕ) (args : List Expr) (x value : Expr) (name : List ℕ) (old new : List Stmt) → i < length args → x ≡ get_or args i x
    → name ≡ parameter_name (first + i) → tree_of value ≡ renamed_expr h (tree_of x) → new ≡ old ++ Set (word_at place name) value ∷ []
    → map act_of new ++ assigned h place (first + (i + 1)) (trees_of (drop (i + 1) args)) ≡ map act_of old ++ assigned h place (first + i) (trees_of (drop i args))
assigned_next h place first i args x value name old new within is named made pushed =
    let rest : List Act = assigned h place (first + (i + 1)) (trees_of (drop (i + 1) args)) in
    let s : Stmt = Set (word_at place name) value in
    let a : Act = set (word_at place (parameter_name (first + i))) (renamed_expr h (tree_of x)) in
    let seen : act_of s ≡ a = act_set (word_at place name) value ∙ ap (λ n. set (word_at place n) (tree_of value)) named ∙ ap (set (word_at place (parameter_name (first + i)))) made in
    let next : first + (i + 1) ≡ (first + i) + 1 = omega arith in
    ap (λ ss. map act_of ss ++ rest) pushed ∙ ap (λ xs. xs ++ rest) (map-append act_of old (s ∷ []))
    ∙ append_assoc (map act_of old) (act_of s ∷ []) rest ∙ ap (λ b. map act_of old ++ (b ∷ rest)) seen
    ∙ ap (λ k. map act_of old ++ (a ∷ assigned h place k (trees_of (drop (i + 1) args)))) next
    ∙ ap (λ es. map act_of old ++ assigned h place (first + i) (trees_of es)) (sym (drop_item args i x within is))

-- all arguments are assigned
pub assigned_end : (h : Hiding) (place first i : ℕ) (args : List Expr) (new : List Stmt) → length args ≤ i
    → map act_of new ≡ map act_of new ++ assigned h place (first + i) (trees_of (drop i args))
assigned_end h place first i args new past =
    sym (append-nil (map act_of new)) ∙ ap (λ es. map act_of new ++ assigned h place (first + i) (trees_of es)) (sym (drop_all i args past))
