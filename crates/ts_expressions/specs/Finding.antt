-- What is found of what was found before: the same faults, and lack of memory.
use Rattle.std.specs.Prelude.{◌≡◌, List, Result, Ok, Err}
use Rattle.std.proofs.Common.{Bor}
use Rattle.std.specs.Result.{IsErrAnd}
use Rattle.std.specs.declared.alloc.Global.{Global}
use Rattle.std.specs.declared.boxed.Box.{Box}
use Rattle.ts_expressions.specs.Boxed.{boxed_tree}
use Rattle.ts_trees.specs.declared.halt.Halt.{Halt}
use Rattle.ts_trees.specs.declared.halt.Halt.TheVariants as halt
use Rattle.ts_checked.specs.declared.bin_op.BinOp.{BinOp}
use Rattle.ts_trees.specs.declared.expr.Expr.{Expr}
use Rattle.ts_trees.specs.declared.token.Token.{Token}
use Rattle.ts_trees.specs.declared.word.Word.{Word}
use Rattle.ts_trees.specs.Seen.{trees_of}
use Rattle.ts_trees.specs.Tree.{Tree, two, call}

abbrev pub Found : Type 0
Found = Result (Box Expr Global × Bor (List Token)) Halt

-- a node, if there was memory for it
abbrev pub Made : {E : Type 0} → Result (Box Expr Global) E → List Token → Found → Type 0
Made (Ok e) ts (Ok y) = (y.0 ≡ e) × (y.1.now ≡ ts)
Made (Ok e) ts (Err f) = ⊥
Made (Err e) ts r = IsErrAnd r (λ f. f ≡ halt.Memory)

-- to the right of an operator and of this tree
abbrev pub Joined : BinOp → Tree → Found → Found → Type 0
Joined o l (Ok x) (Ok y) = (boxed_tree y.0 ≡ two o l (boxed_tree x.0)) × (y.1.now ≡ x.1.now)
Joined o l (Ok x) (Err f) = f ≡ halt.Memory
Joined o l (Err e) r = IsErrAnd r (λ f. f ≡ e)

-- a call of this function
abbrev pub MadeCall : Word → Result (List Expr × Bor (List Token)) Halt → Found → Type 0
MadeCall w (Ok x) (Ok y) = (boxed_tree y.0 ≡ call w (trees_of x.0)) × (y.1.now ≡ x.1.now)
MadeCall w (Ok x) (Err f) = f ≡ halt.Memory
MadeCall w (Err e) r = IsErrAnd r (λ f. f ≡ e)
