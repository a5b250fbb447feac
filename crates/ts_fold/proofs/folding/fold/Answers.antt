use Rattle.std.proofs.Common.{◌≡◌, ◌∙◌, ap, sym, subst}
use Rattle.std.specs.Prelude.{IsTrue}
use Rattle.mate_num.specs.declared.shape.Shape.{Shape}
use Rattle.ts_checked.specs.Checked.{checked_shape, checked_tree}
use Rattle.ts_checked.specs.Right.{is_right}
use Rattle.ts_checked.specs.Statement.{Block, block}
use Rattle.ts_checked.specs.TreeOf.{block_tree}
use Rattle.ts_fold.specs.Folded.{folded}
use Rattle.ts_fold.specs.Laws.{RunsAs, UsesNoMore, TakesNoMore}
use Rattle.ts_fold.proofs.StatementLemmas.{RunsAs-folded, UsesNoMore-folded, TakesNoMore-folded, right-folded}
use Rattle.ts_fold.proofs.folding.fold.Goals as goal

pub new-requires : goal.new-requires
new-requires c =
    let tree : Block = checked_tree c.args.script.now in
    let seen : block_tree c.in_ok-body.body ≡ folded tree = ap block c.in_ok-body.ensures ∙ ap folded c.body.ensures.tree in
    let shape : c.copy.result ≡ checked_shape c.args.script.now = c.copy.ensures ∙ c.shape.ensures in
    let P : Block → Type 0 = λ t. IsTrue (is_right c.copy.result t) in
    let Q : Shape → Type 0 = λ s. IsTrue (is_right s (folded tree)) in
    subst P (sym seen) (subst Q (sym shape) (right-folded (checked_shape c.args.script.now) tree c.body.ensures.right))

pub returns-clause-runs : goal.returns-clause-runs
returns-clause-runs c =
    let tree : Block = checked_tree c.args.script.now in
    let seen : checked_tree c.new.result ≡ folded tree = c.new.ensures.body ∙ ap block c.in_ok-body.ensures ∙ ap folded c.body.ensures.tree in
    let P : Block → Type 0 = λ t. RunsAs tree t in
    subst P (sym seen) (RunsAs-folded tree)

pub returns-clause-uses : goal.returns-clause-uses
returns-clause-uses c =
    let tree : Block = checked_tree c.args.script.now in
    let seen : checked_tree c.new.result ≡ folded tree = c.new.ensures.body ∙ ap block c.in_ok-body.ensures ∙ ap folded c.body.ensures.tree in
    let P : Block → Type 0 = λ t. UsesNoMore (checked_shape c.args.script.now) tree t in
    subst P (sym seen) (UsesNoMore-folded (checked_shape c.args.script.now) tree)

pub returns-clause-room : goal.returns-clause-room
returns-clause-room c =
    let tree : Block = checked_tree c.args.script.now in
    let seen : checked_tree c.new.result ≡ folded tree = c.new.ensures.body ∙ ap block c.in_ok-body.ensures ∙ ap folded c.body.ensures.tree in
    let P : Block → Type 0 = λ t. TakesNoMore tree t in
    subst P (sym seen) (TakesNoMore-folded tree)
