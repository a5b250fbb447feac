use Rattle.std.proofs.Common.{◌∙◌, sym, refl, true, false}
use Rattle.ts_trees.specs.Seen.{tree_of}
use Rattle.ts_checker.specs.Checks.{checked_expr, checked_head}
use Rattle.ts_checker.specs.Seen.{checked_head_of, scope_names}
use Rattle.ts_checker.proofs.RefusalLemmas.{refused_part, refused_by}
use Rattle.ts_checker.proofs.stmts.for_head.Goals as goal

pub returns-in_err-from : goal.returns-in_err-from
returns-in_err-from c =
    let n = scope_names c.args.scope.now in
    let h = c.args.head.now in
    refused_part checked_head_of c.in_err-from.field-0.0 c.from_residual-in_err-from.result (checked_expr n true (tree_of h.from)) (checked_head n h.var (tree_of h.from) (tree_of h.to) h.step)
    (λ f refused. rw (sym c.variable.ensures ∙ c.in_ok-var.was, refused) refl) c.from_residual-in_err-from.ensures.1 c.in_err-from.ensures

pub returns-in_err-to : goal.returns-in_err-to
returns-in_err-to c =
    let n = scope_names c.args.scope.now in
    let h = c.args.head.now in
    refused_part checked_head_of c.in_err-to.field-0.0 c.from_residual-in_err-to.result (checked_expr n false (tree_of h.to)) (checked_head n h.var (tree_of h.from) (tree_of h.to) h.step)
    (λ f refused. rw (sym c.variable.ensures ∙ c.in_ok-var.was, c.in_ok-from.ensures, refused) refl) c.from_residual-in_err-to.ensures.1 c.in_err-to.ensures

pub returns-in_err-var : goal.returns-in_err-var
returns-in_err-var c =
    let h = c.args.head.now in
    refused_by checked_head_of c.in_err-var.field-0.0 c.from_residual.result (checked_head (scope_names c.args.scope.now) h.var (tree_of h.from) (tree_of h.to) h.step)
    (rw (sym c.variable.ensures ∙ c.in_err-var.was) refl) c.from_residual.ensures.1

pub returns-in_err-step : goal.returns-in_err-step
returns-in_err-step c =
    let h = c.args.head.now in
    refused_by checked_head_of c.in_err-step.field-0.0 c.from_residual-in_err-step.result (checked_head (scope_names c.args.scope.now) h.var (tree_of h.from) (tree_of h.to) h.step)
    (rw (sym c.variable.ensures ∙ c.in_ok-var.was, c.in_ok-from.ensures, c.in_ok-to.ensures, sym c.step_size.ensures ∙ c.in_err-step.was) refl) c.from_residual-in_err-step.ensures.1
