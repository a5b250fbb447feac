use Rattle.std.proofs.Common.{◌∙◌, Option}
use Rattle.ts_trees.specs.declared.expr.Expr.{Expr}
use Rattle.ts_trees.specs.declared.stmt.Step.{Step}
use Rattle.ts_trees.specs.Seen.{tree_of}
use Rattle.ts_trees.specs.Machine.{in_to}
use Rattle.ts_statements.specs.Simple.{Bound, limit_due, limit_read, limited, Limit}
use Rattle.ts_trees.proofs.Parts.{halts}
use Rattle.ts_statements.proofs.head.limit.Goals as goal

pub returns-in_err-step-clause-reads : goal.returns-in_err-step-clause-reads
returns-in_err-step-clause-reads c =
    halts (Option Step) (Expr × Option Step) Limit Bound c.args.tokens.now c.in_ok-to.rest.now
    (λ k. limit_read k.bound k.to) (λ s k. limited k.bound k.to s) (λ k. limit_due k) (λ x k. limited k (tree_of x.0) x.1)
    (λ k. record { bound = k; to = tree_of c.in_ok-to.to }) (λ k. c.in_ok-to.ensures.reads (in_to k.var k.from k.before k.frame))
    c.from_residual-in_err-step.result c.in_err-step.field-0.0 c.from_residual-in_err-step.ensures.1 c.in_err-step.ensures.reads

pub returns-clause-reads : goal.returns-clause-reads
returns-clause-reads c =
    λ k. c.in_ok-to.ensures.reads (in_to k.var k.from k.before k.frame) ∙ c.in_ok-step.ensures.reads (record { bound = k; to = tree_of c.in_ok-to.to })
