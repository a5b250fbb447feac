-- The tokens of what a statement becomes: its head, its blocks and its end.
use Rattle.std.proofs.Common.{◌≡◌, ℕ, List, [], ◌∷◌, ◌++◌, Some, None, refl, ap, sym, ◌∙◌, append_assoc, take}
use Rattle.std.proofs.lemmas.List.{append-nil}
use Rattle.ts_trees.specs.declared.procedure.Proc.{Proc}
use Rattle.ts_trees.specs.declared.expr.Expr.{Expr}
use Rattle.ts_trees.specs.declared.stmt.Stmt.{Stmt}
use Rattle.ts_trees.specs.declared.stmt.ForHead.{ForHead}
use Rattle.ts_trees.specs.declared.stmt.Stmt.TheVariants as does
use Rattle.ts_trees.specs.declared.token.TokenKind.{TokenKind}
use Rattle.ts_trees.specs.declared.token.TokenKind.TheVariants as kind
use Rattle.ts_trees.specs.declared.word.Word.{Word}
use Rattle.ts_trees.specs.Seen.{tree_of, act_of, acts_of, acts}
use Rattle.ts_trees.specs.Spelling.{name, spelled, step_spelled, act_spelled, acts_spelled}
use Rattle.ts_trees.specs.Tree.{Tree, number, variable, item, size, message_item, message_size, call, negative, inverse, two, paren, Trees, no_trees, tree_then, Act, set, set_item, append, take_last, clear, call_alone, if_then, if_else, for_next, while_do, run_procedure}
use Rattle.ts_trees.proofs.SeenLemmas.{act_if_then, act_if_else, act_for_next, act_while_do}
use Rattle.ts_syntax.specs.Naming.{named_expr, named_args, named_act}
use Rattle.ts_syntax.specs.Print.{head_spelled}
use Rattle.ts_proc_renaming.specs.Renaming.{Hiding, renamed, renamed_expr, renamed_args}
use Rattle.ts_proc_expansion.specs.Expansion.{Callee, expanded_act, expanded_acts}
use Rattle.ts_proc_expansion.specs.Plan.{bodies_of}
use Rattle.ts_proc_texts.specs.Hidings.{hiding_at}
use Rattle.ts_proc_texts.specs.Rest.{IsSimple, block_tokens}

-- an expression that is printed with other names is the renamed one
mutual
  pub expr_renamed : (h : Hiding) (e : Tree) → named_expr (renamed h) e ≡ renamed_expr h e
  expr_renamed h (number n) = refl
  expr_renamed h (variable w) = refl
  expr_renamed h (item w e) = ap (item (renamed h w)) (expr_renamed h e)
  expr_renamed h (size w) = refl
  expr_renamed h (message_item e) = ap message_item (expr_renamed h e)
  expr_renamed h message_size = refl
  expr_renamed h (call w es) = ap (call w) (args_renamed h es)
  expr_renamed h (negative e) = ap negative (expr_renamed h e)
  expr_renamed h (inverse e) = ap inverse (expr_renamed h e)
  expr_renamed h (two o l r) = ap (λ e. two o e (named_expr (renamed h) r)) (expr_renamed h l) ∙ ap (two o (renamed_expr h l)) (expr_renamed h r)
  expr_renamed h (paren e) = ap paren (expr_renamed h e)

  args_renamed : (h : Hiding) (es : Trees) → named_args (renamed h) es ≡ renamed_args h es
  args_renamed h no_trees = refl
  args_renamed h (tree_then e es) = ap (λ f. tree_then f (named_args (renamed h) es)) (expr_renamed h e) ∙ ap (tree_then (renamed_expr h e)) (args_renamed h es)

-- the same where other hidings are the same
pub expr_at : (h g : Hiding) (e : Tree) → g ≡ h → renamed_expr h e ≡ named_expr (renamed g) e
expr_at h g e is = ap (λ k. renamed_expr k e) (sym is) ∙ sym (expr_renamed g e)

pub acts_spelled-append : (xs ys : List Act) → acts_spelled (acts (xs ++ ys)) ≡ acts_spelled (acts xs) ++ acts_spelled (acts ys)
acts_spelled-append [] ys = refl
acts_spelled-append (x ∷ xs) ys =
    ap (λ (ks : List TokenKind). act_spelled x ++ ks) (acts_spelled-append xs ys) ∙ sym (append_assoc (act_spelled x) (acts_spelled (acts xs)) (acts_spelled (acts ys)))

one_act : (a b : Act) → a ≡ b → act_spelled a ≡ acts_spelled (acts (b ∷ []))
one_act a b is = ap act_spelled is ∙ sym (append-nil (act_spelled b))

-- a statement without a block that is printed with other names
simple_named : (known : List (List ℕ × Callee)) (h : Hiding) (a : Act) → IsSimple a → act_spelled (named_act (renamed h) a) ≡ acts_spelled (acts (expanded_act known h a))
simple_named known h (set w e) s = one_act _ _ (ap (set (renamed h w)) (expr_renamed h e))
simple_named known h (set_item w i e) s =
    one_act _ _ (ap (λ j. set_item (renamed h w) j (named_expr (renamed h) e)) (expr_renamed h i) ∙ ap (set_item (renamed h w) (renamed_expr h i)) (expr_renamed h e))
simple_named known h (append w e) s = one_act _ _ (ap (append (renamed h w)) (expr_renamed h e))
simple_named known h (take_last w b) s = one_act (take_last (renamed h w) (renamed h b)) (take_last (renamed h w) (renamed h b)) refl
simple_named known h (clear w) s = one_act (clear (renamed h w)) (clear (renamed h w)) refl
simple_named known h (call_alone w es) s = one_act _ _ (ap (call_alone w) (args_renamed h es))
simple_named known h (if_then e a) s = absurd s
simple_named known h (if_else e a b) s = absurd s
simple_named known h (for_next w from to step a next) s = absurd s
simple_named known h (while_do e a) s = absurd s
simple_named known h (run_procedure w es) s = absurd s

pub simple_at : (known : List (List ℕ × Callee)) (h g : Hiding) (a : Act) → g ≡ h → IsSimple a → acts_spelled (acts (expanded_act known h a)) ≡ act_spelled (named_act (renamed g) a)
simple_at known h g a is simple = ap (λ k. acts_spelled (acts (expanded_act known k a))) (sym is) ∙ sym (simple_named known g a simple)

-- a statement of a block, and those behind it
pub block_first : (procs : List Proc) (place : ℕ) (stmts more : List Stmt) (s : Stmt) (close : List TokenKind) → stmts ≡ s ∷ more
    → block_tokens procs place stmts ++ close
    ≡ acts_spelled (acts (expanded_act (take place (bodies_of procs)) (hiding_at procs place) (act_of s))) ++ (block_tokens procs place more ++ close)
block_first procs place stmts more s close are =
    let this : List Act = expanded_act (take place (bodies_of procs)) (hiding_at procs place) (act_of s) in
    ap (λ ss. block_tokens procs place ss ++ close) are
    ∙ ap (λ ks. ks ++ close) (acts_spelled-append this (expanded_acts (take place (bodies_of procs)) (hiding_at procs place) (acts_of more)))
    ∙ append_assoc (acts_spelled (acts this)) (block_tokens procs place more) close

-- an `if` without `else`
pub if_then_becomes : (known : List (List ℕ × Callee)) (h : Hiding) (e : Expr) (a : List Stmt)
    → acts_spelled (acts (expanded_act known h (act_of (does.If e a None))))
    ≡ (kind.If ∷ spelled (renamed_expr h (tree_of e)) ++ (kind.Then ∷ [])) ++ (acts_spelled (acts (expanded_acts known h (acts_of a))) ++ (kind.End ∷ kind.If ∷ []))
if_then_becomes known h e a =
    let test : List TokenKind = spelled (renamed_expr h (tree_of e)) in
    let block : List TokenKind = acts_spelled (acts (expanded_acts known h (acts_of a))) ++ (kind.End ∷ kind.If ∷ []) in
    ap (λ s. acts_spelled (acts (expanded_act known h s))) (act_if_then e a)
    ∙ append-nil (kind.If ∷ test ++ (kind.Then ∷ block))
    ∙ sym (ap (λ z. kind.If ∷ z) (append_assoc test (kind.Then ∷ []) block))

-- and with one
pub if_else_becomes : (known : List (List ℕ × Callee)) (h : Hiding) (e : Expr) (a b : List Stmt)
    → acts_spelled (acts (expanded_act known h (act_of (does.If e a (Some b)))))
    ≡ (kind.If ∷ spelled (renamed_expr h (tree_of e)) ++ (kind.Then ∷ [])) ++ (acts_spelled (acts (expanded_acts known h (acts_of a)))
    ++ (kind.Else ∷ acts_spelled (acts (expanded_acts known h (acts_of b))) ++ (kind.End ∷ kind.If ∷ [])))
if_else_becomes known h e a b =
    let test : List TokenKind = spelled (renamed_expr h (tree_of e)) in
    let blocks : List TokenKind = acts_spelled (acts (expanded_acts known h (acts_of a))) ++ (kind.Else ∷ acts_spelled (acts (expanded_acts known h (acts_of b))) ++ (kind.End ∷ kind.If ∷ [])) in
    ap (λ s. acts_spelled (acts (expanded_act known h s))) (act_if_else e a b)
    ∙ append-nil (kind.If ∷ test ++ (kind.Then ∷ blocks))
    ∙ sym (ap (λ z. kind.If ∷ z) (append_assoc test (kind.Then ∷ []) blocks))

-- a `while`
pub while_becomes : (known : List (List ℕ × Callee)) (h : Hiding) (e : Expr) (a : List Stmt)
    → acts_spelled (acts (expanded_act known h (act_of (does.While e a))))
    ≡ (kind.While ∷ spelled (renamed_expr h (tree_of e))) ++ (acts_spelled (acts (expanded_acts known h (acts_of a))) ++ (kind.End ∷ kind.While ∷ []))
while_becomes known h e a =
    ap (λ s. acts_spelled (acts (expanded_act known h s))) (act_while_do e a)
    ∙ append-nil (kind.While ∷ spelled (renamed_expr h (tree_of e)) ++ (acts_spelled (acts (expanded_acts known h (acts_of a))) ++ (kind.End ∷ kind.While ∷ [])))

-- the head of a `for`, by its parts
pub head_parts : (h : Hiding) (d : ForHead)
    → head_spelled (renamed h) d ≡ kind.For ∷ name (renamed h d.var) ∷ kind.Eq ∷ spelled (renamed_expr h (tree_of d.from)) ++ (kind.To ∷ spelled (renamed_expr h (tree_of d.to)) ++ step_spelled d.step)
head_parts h d =
    ap (λ e. kind.For ∷ name (renamed h d.var) ∷ kind.Eq ∷ spelled e ++ (kind.To ∷ spelled (named_expr (renamed h) (tree_of d.to)) ++ step_spelled d.step)) (expr_renamed h (tree_of d.from))
    ∙ ap (λ e. kind.For ∷ name (renamed h d.var) ∷ kind.Eq ∷ spelled (renamed_expr h (tree_of d.from)) ++ (kind.To ∷ spelled e ++ step_spelled d.step)) (expr_renamed h (tree_of d.to))

-- a `for`
pub for_becomes : (known : List (List ℕ × Callee)) (h : Hiding) (d : ForHead) (a : List Stmt) (v : Word)
    → acts_spelled (acts (expanded_act known h (act_of (does.For d a v))))
    ≡ head_spelled (renamed h) d ++ (acts_spelled (acts (expanded_acts known h (acts_of a))) ++ (kind.Next ∷ name (renamed h v) ∷ []))
for_becomes known h d a v =
    let rest : List TokenKind = acts_spelled (acts (expanded_acts known h (acts_of a))) ++ kind.Next ∷ name (renamed h v) ∷ [] in
    let to : List TokenKind = spelled (renamed_expr h (tree_of d.to)) in
    let from : List TokenKind = spelled (renamed_expr h (tree_of d.from)) in
    ap (λ s. acts_spelled (acts (expanded_act known h s))) (act_for_next d a v)
    ∙ append-nil (kind.For ∷ name (renamed h d.var) ∷ kind.Eq ∷ from ++ (kind.To ∷ to ++ (step_spelled d.step ++ rest)))
    ∙ sym (ap (λ z. kind.For ∷ name (renamed h d.var) ∷ kind.Eq ∷ z)
    (append_assoc from (kind.To ∷ (to ++ step_spelled d.step)) rest ∙ ap (λ z. from ++ (kind.To ∷ z)) (append_assoc to (step_spelled d.step) rest)))
    ∙ ap (λ z. z ++ rest) (sym (head_parts h d))
