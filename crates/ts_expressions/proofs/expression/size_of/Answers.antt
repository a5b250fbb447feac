use Rattle.std.specs.declared.alloc.Global.{Global}
use Rattle.std.specs.declared.boxed.Box.{Box}
use Rattle.ts_expressions.specs.Boxed.{boxed_tree}
use Rattle.ts_trees.specs.declared.expr.Expr.{Expr}
use Rattle.ts_trees.specs.Machine.{Operand, size_opened, size_named}
use Rattle.ts_expressions.proofs.ExprLemmas.{message_sized, buffer_sized}
use Rattle.ts_trees.specs.Tree.{size, message_size}
use Rattle.ts_expressions.proofs.FindingLemmas.{made_reads}
use Rattle.ts_expressions.proofs.StoppingLemmas.{name_halts, size_unnamed}
use Rattle.ts_expressions.proofs.expression.size_of.Goals as goal

pub returns-in-Some-clause-reads : goal.returns-in-Some-clause-reads
returns-in-Some-clause-reads c =
    made_reads message_size c.args.tokens.now c.in-Some.rest.now (λ k. size_opened k) size_named (λ k. message_sized k c.in-Some.ensures) c.message_size.result c.message_size.ensures c.made.result c.made.ensures

pub returns-in_err-word-clause-reads : goal.returns-in_err-word-clause-reads
returns-in_err-word-clause-reads c =
    name_halts {X = Box Expr Global} {K = Operand} c.args.tokens.now c.args.tokens.now size_opened (λ e k. size_named (boxed_tree e) k)
    (λ n k. size_unnamed c.args.tokens.now k c.in_default.ensures n)
    c.from_residual.result c.in_err-word.field-0.0 c.from_residual.ensures.1 c.in_err-word.ensures

pub returns-clause-reads : goal.returns-clause-reads
returns-clause-reads c =
    made_reads (size c.in_ok-word.word) c.args.tokens.now c.in_ok-word.rest.now (λ k. size_opened k) size_named (λ k. buffer_sized k c.in_ok-word.ensures) c.buffer_size.result c.buffer_size.ensures c.made-2.result c.made-2.ensures
