-- How a tree of the program is seen, node by node.
use Rattle.std.proofs.Common.{◌≡◌, ℕ, List, [], ◌∷◌, ◌++◌, Some, None, sym, ap, ◌∙◌, append_assoc}
use Rattle.std.specs.declared.boxed.Box.{Box}
use Rattle.std.specs.declared.alloc.Global.{Global}
use Rattle.ts_checked.specs.declared.bin_op.BinOp.{BinOp}
use Rattle.ts_trees.specs.declared.word.Word.{Word}
use Rattle.ts_trees.specs.declared.expr.Expr.{Expr}
use Rattle.ts_trees.specs.declared.token.TokenKind.TheVariants as kind
use Rattle.ts_trees.specs.declared.token.TokenKind.{TokenKind}
use Rattle.ts_trees.specs.declared.expr.Expr.TheOpen.{Expr-F}
use Rattle.ts_trees.specs.declared.expr.Expr.TheVariants as of
use Rattle.ts_trees.specs.declared.expr.Expr.TheFolds.{fold-roll-Expr}
use Rattle.ts_trees.specs.Tree.{Tree, number, variable, item, size, message_item, message_size, call, negative, inverse, two, paren}
use Rattle.ts_trees.specs.declared.stmt.Stmt.{Stmt}
use Rattle.ts_trees.specs.declared.stmt.ForHead.{ForHead}
use Rattle.ts_trees.specs.declared.stmt.Stmt.TheOpen.{Stmt-F}
use Rattle.ts_trees.specs.declared.stmt.Stmt.TheVariants as does
use Rattle.ts_trees.specs.declared.stmt.Stmt.TheFolds.{fold-roll-Stmt}
use Rattle.ts_trees.specs.Tree.{Act, set, set_item, append, take_last, clear, call_alone, if_then, if_else, for_next, while_do, run_procedure}
use Rattle.ts_trees.specs.Spelling.{name, act_spelled, acts_spelled, spelled, step_spelled}
use Rattle.ts_trees.specs.Seen.{tree_step, tree_of, trees_of, act_step, act_of, acts_of}

pub tree_number : (n : ℕ) → tree_of (of.Num n) ≡ number n
tree_number n = ap tree_of (sym (of.rolls-Num n)) ∙ fold-roll-Expr Tree tree_step (Expr-F.Num n)

pub tree_variable : (w : Word) → tree_of (of.Var w) ≡ variable w
tree_variable w = ap tree_of (sym (of.rolls-Var w)) ∙ fold-roll-Expr Tree tree_step (Expr-F.Var w)

pub tree_item : (w : Word) (e : Box Expr Global) → tree_of (of.Item w e) ≡ item w (tree_of e.value)
tree_item w e = ap tree_of (sym (of.rolls-Item w e)) ∙ fold-roll-Expr Tree tree_step (Expr-F.Item w e)

pub tree_size : (w : Word) → tree_of (of.Size w) ≡ size w
tree_size w = ap tree_of (sym (of.rolls-Size w)) ∙ fold-roll-Expr Tree tree_step (Expr-F.Size w)

pub tree_message_item : (e : Box Expr Global) → tree_of (of.MsgItem e) ≡ message_item (tree_of e.value)
tree_message_item e = ap tree_of (sym (of.rolls-MsgItem e)) ∙ fold-roll-Expr Tree tree_step (Expr-F.MsgItem e)

pub tree_message_size : tree_of of.MsgSize ≡ message_size
tree_message_size = ap tree_of (sym of.rolls-MsgSize) ∙ fold-roll-Expr Tree tree_step Expr-F.MsgSize

pub tree_call : (w : Word) (es : List Expr) → tree_of (of.Call w es) ≡ call w (trees_of es)
tree_call w es = ap tree_of (sym (of.rolls-Call w es)) ∙ fold-roll-Expr Tree tree_step (Expr-F.Call w es)

pub tree_negative : (e : Box Expr Global) → tree_of (of.Neg e) ≡ negative (tree_of e.value)
tree_negative e = ap tree_of (sym (of.rolls-Neg e)) ∙ fold-roll-Expr Tree tree_step (Expr-F.Neg e)

pub tree_inverse : (e : Box Expr Global) → tree_of (of.Not e) ≡ inverse (tree_of e.value)
tree_inverse e = ap tree_of (sym (of.rolls-Not e)) ∙ fold-roll-Expr Tree tree_step (Expr-F.Not e)

pub tree_two : (o : BinOp) (l r : Box Expr Global) → tree_of (of.Two o l r) ≡ two o (tree_of l.value) (tree_of r.value)
tree_two o l r = ap tree_of (sym (of.rolls-Two o l r)) ∙ fold-roll-Expr Tree tree_step (Expr-F.Two o l r)

pub tree_paren : (e : Box Expr Global) → tree_of (of.Paren e) ≡ paren (tree_of e.value)
tree_paren e = ap tree_of (sym (of.rolls-Paren e)) ∙ fold-roll-Expr Tree tree_step (Expr-F.Paren e)

pub act_set : (w : Word) (e : Expr) → act_of (does.Set w e) ≡ set w (tree_of e)
act_set w e = ap act_of (sym (does.rolls-Set w e)) ∙ fold-roll-Stmt Act act_step (Stmt-F.Set w e)

pub act_set_item : (w : Word) (i e : Expr) → act_of (does.SetItem w i e) ≡ set_item w (tree_of i) (tree_of e)
act_set_item w i e = ap act_of (sym (does.rolls-SetItem w i e)) ∙ fold-roll-Stmt Act act_step (Stmt-F.SetItem w i e)

pub act_append : (w : Word) (e : Expr) → act_of (does.Append w e) ≡ append w (tree_of e)
act_append w e = ap act_of (sym (does.rolls-Append w e)) ∙ fold-roll-Stmt Act act_step (Stmt-F.Append w e)

pub act_take_last : (w b : Word) → act_of (does.Take w b) ≡ take_last w b
act_take_last w b = ap act_of (sym (does.rolls-Take w b)) ∙ fold-roll-Stmt Act act_step (Stmt-F.Take w b)

pub act_clear : (w : Word) → act_of (does.Clear w) ≡ clear w
act_clear w = ap act_of (sym (does.rolls-Clear w)) ∙ fold-roll-Stmt Act act_step (Stmt-F.Clear w)

pub act_call_alone : (w : Word) (es : List Expr) → act_of (does.Do w es) ≡ call_alone w (trees_of es)
act_call_alone w es = ap act_of (sym (does.rolls-Do w es)) ∙ fold-roll-Stmt Act act_step (Stmt-F.Do w es)

pub act_if_then : (e : Expr) (a : List Stmt) → act_of (does.If e a None) ≡ if_then (tree_of e) (acts_of a)
act_if_then e a = ap act_of (sym (does.rolls-If e a None)) ∙ fold-roll-Stmt Act act_step (Stmt-F.If e a None)

pub act_if_else : (e : Expr) (a b : List Stmt) → act_of (does.If e a (Some b)) ≡ if_else (tree_of e) (acts_of a) (acts_of b)
act_if_else e a b = ap act_of (sym (does.rolls-If e a (Some b))) ∙ fold-roll-Stmt Act act_step (Stmt-F.If e a (Some b))

pub act_for_next : (h : ForHead) (a : List Stmt) (v : Word) → act_of (does.For h a v) ≡ for_next h.var (tree_of h.from) (tree_of h.to) h.step (acts_of a) v
act_for_next h a v = ap act_of (sym (does.rolls-For h a v)) ∙ fold-roll-Stmt Act act_step (Stmt-F.For h a v)

pub act_while_do : (e : Expr) (a : List Stmt) → act_of (does.While e a) ≡ while_do (tree_of e) (acts_of a)
act_while_do e a = ap act_of (sym (does.rolls-While e a)) ∙ fold-roll-Stmt Act act_step (Stmt-F.While e a)

pub act_run_procedure : (w : Word) (es : List Expr) → act_of (does.Run w es) ≡ run_procedure w (trees_of es)
act_run_procedure w es = ap act_of (sym (does.rolls-Run w es)) ∙ fold-roll-Stmt Act act_step (Stmt-F.Run w es)
