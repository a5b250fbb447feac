use Rattle.std.proofs.Common.{◌≡◌, negsuc, IfOk, refl, ap, subst, ◌∙◌}
use Rattle.std.specs.Int.{int_wrap}
use Rattle.mate_num.specs.declared.id.BufId.{BufId}
use Rattle.ts_checked.specs.Checked.{checked_tree}
use Rattle.ts_checked.specs.Expression.{Num, Neg}
use Rattle.ts_checked.specs.Statement.{Block, Append}
use Rattle.ts_fold.specs.Folded.{folded}
use Rattle.callers_language.specs.Scripts.{only}
use Rattle.callers_language.proofs.folds.the_lowest_number_is_its_own_negative.Goals as goal

wrapped : (p : BufId) → folded (only (Append p (Neg (Num (negsuc 32767))))) ≡ only (Append p (Num (negsuc 32767)))
unfolding int_wrap
wrapped p = refl

pub returns : goal.returns
returns c =
    subst (λ (tree : Block). IfOk c.fold.result (λ new. checked_tree new ≡ tree)) (ap folded c.requires ∙ wrapped c.args.buffer) c.fold.ensures.tree
