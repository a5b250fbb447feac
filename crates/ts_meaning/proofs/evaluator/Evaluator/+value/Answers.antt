use Rattle.std.proofs.Common.{rules, FitsSigned, ◌≡◌, ◌∙◌, [], map, ap, sym, arith}
use Rattle.std.specs.Int.{w16}
use Rattle.std.proofs.lemmas.Int.{to_z-of_z}
use Rattle.ts_checked.specs.Expression.{arguments}
use Rattle.ts_checked.specs.TreeOf.{expr_tree, args_trees}
use Rattle.ts_checked.specs.declared.checked_expr.CExpr.{the_lemmas}
use Rattle.ts_semantics.specs.Meaning.{values_of}
use Rattle.ts_meaning.specs.Follows.{state_of}
use Rattle.ts_meaning.proofs.ArgumentLemmas.{gathered, gathered_item, gathered_end}
use Rattle.ts_meaning.proofs.evaluator.Evaluator.+value.Goals as goal

pub values-loop-arg-preserved : goal.values-loop-arg-preserved
values-loop-arg-preserved t c =
    let fits : FitsSigned w16 c.in_ok-value.value = search rules in (
      c.loop-arg.invariant.0
          ∙ gathered_item c.as_slice-arg-items.result.now c.loop-arg.arg-index c.arg-item.result c.loop-arg.values.items c.push_within_ten.new.values.items
          c.in_ok-value.value (state_of c.loop-arg.self) (state_of c.value.new.self) c.arg-item.is (omega arith) c.in_ok-value.ensures.follows
          (simp to_z-of_z at c.push_within_ten.ensures.values),
      c.value.ensures.turns ∙ c.loop-arg.invariant.1,
      c.push_within_ten.ensures.fits,
    )

pub values-returns-clause-follows : goal.values-returns-clause-follows
values-returns-clause-follows t c =
    let seen : args_trees c.args.args.now ≡ map expr_tree c.args.args.now.items.items = search (rules, the_lemmas) in
    ap (λ zs. gathered [] (values_of (arguments zs) (state_of c.args.self.now))) (seen ∙ ap (map expr_tree) (sym c.as_slice-arg-items.ensures.value))
    ∙ c.loop-arg.invariant.0
    ∙ gathered_end c.as_slice-arg-items.result.now c.loop-arg.arg-index c.loop-arg.values (state_of c.loop-arg.self) (omega arith) c.loop-arg.invariant.2
