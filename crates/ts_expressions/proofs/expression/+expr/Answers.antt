use Rattle.std.proofs.Common.{◌≡◌, ◌≤◌, Bor, List, length, refl, sym, ◌∙◌, ap, arith, Ok, Err, le_refl, lt_of_lt_of_le, lt_trans, le_of_lt, lit<, ◌<◌}
use Rattle.std.specs.declared.alloc.Global.{Global}
use Rattle.std.specs.declared.boxed.Box.{Box}
use Rattle.ts_expressions.specs.Boxed.{boxed_tree}
use Rattle.ts_trees.specs.declared.expr.Expr.{Expr}
use Rattle.ts_trees.specs.Seen.{trees_of}
use Rattle.ts_trees.specs.declared.token.Token.{Token}
use Rattle.ts_trees.specs.Spelling.{kinds}
use Rattle.ts_trees.specs.declared.token.TokenKind.TheVariants as kind
use Rattle.ts_trees.specs.Tree.{negative, variable, inverse, paren, item, message_item}
use Rattle.ts_checked.specs.declared.bin_op.BinOp.TheVariants as op
use Rattle.ts_trees.specs.Machine.{Operand, in_negative, named, sized, Whole, first_product, first_sum, first_compare, first_and, in_inverse, first_or, in_paren, in_item, in_message, want, want_inverse, message, sum_due, inverse_due, expr_due, give, have_product, have_sum, have_inverse, have_and, have}
use Rattle.ts_trees.specs.Parsing.{reads, noted_then, Caller, called_open, called, called_with}
use Rattle.ts_trees.proofs.Turns.{inverse_is_read, inverse_is_first}
use Rattle.ts_trees.proofs.Reading.{sign_read}
use Rattle.ts_trees.proofs.Parts.{halts, starts_shorter}
use Rattle.ts_expressions.proofs.ExprLemmas.{part_halts, starts_at, operand_read, not_read, and_read, item_read, message_begins, variable_read, comma_read, no_arguments, argument_due, trees_more, comparison_read}
use Rattle.ts_expressions.proofs.FindingLemmas.{paren_ended, item_ended, message_ended, call_ended, call_shorter, called_reads, called_shorter, made_reads, made_behind, ended_shorter, joined_behind, sign_shorter, or_joined, and_joined, sum_joined, product_joined, comparison_joined}
use Rattle.ts_expressions.proofs.OperatorLemmas.{product_read, sum_read, or_read, product_over, and_over, sum_alone, comparison_sign_read}
use Rattle.ts_expressions.proofs.ShorterLemmas.{untold, no_longer, shorter_still, shorter_behind, behind_one, lower, lowest, fewer, fewest, again}
use Rattle.ts_expressions.proofs.StoppingLemmas.{out_of_memory, sign_halts, box_missing}
use Rattle.ts_expressions.proofs.expression.+expr.Goals as goal

pub arguments-returns-in_default-after-clause-reads : goal.arguments-returns-in_default-after-clause-reads
arguments-returns-in_default-after-clause-reads t c =
    call_ended c.args.tokens.now c.loop-arg.args c.in-Ok.arg (c.append.new.args, c.in-Ok.behind)
    (trees_more c.loop-arg.args c.in-Ok.arg c.in_default-append.ensures refl)
    (λ k. c.loop-arg.invariant.1 k ∙ c.in-Ok.ensures.reads (called_with k (trees_of c.loop-arg.args)))
    c.in-Ok.ensures.over c.in_default-after.ensures c.closed_call.result c.closed_call.ensures

pub arguments-loop-arg-preserved : goal.arguments-loop-arg-preserved
arguments-loop-arg-preserved t c = (
  omega (arith, starts_shorter kind.Comma c.in-Some-after.ensures, c.in-Ok.ensures.shorter, c.loop-arg.invariant.0),
  λ k. c.loop-arg.invariant.1 k ∙ c.in-Ok.ensures.reads (called_with k (trees_of c.loop-arg.args))
      ∙ comma_read k (trees_of c.loop-arg.args) (boxed_tree c.in-Ok.arg) c.in-Some-after.ensures
      ∙ ap (λ x. reads c.in-Some-after.next.now (expr_due (called_with k x))) (sym (trees_more c.loop-arg.args c.in-Ok.arg c.in_default-append.ensures refl)),
)

pub behind_name-returns-in-Some-clause-reads : goal.behind_name-returns-in-Some-clause-reads
behind_name-returns-in-Some-clause-reads t c = called_reads c.args.word c.in-Some.ensures c.arguments.result c.arguments.ensures.reads c.called.result c.called.ensures

pub behind_name-returns-clause-reads : goal.behind_name-returns-clause-reads
behind_name-returns-clause-reads t c =
    made_reads (variable c.args.word) c.args.tokens.now c.args.tokens.now (λ k. named c.args.word k) (λ d k. give k d)
    (λ k. variable_read c.args.word k c.args.tokens.now c.in_default.ensures c.in_default-after.ensures)
    c.variable.result c.variable.ensures c.made.result c.made.ensures

pub conjunction-loop-behind-init : goal.conjunction-loop-behind-init
conjunction-loop-behind-init t c = (
  c.in_ok-left.ensures.shorter,
  λ k. c.in_ok-left.ensures.reads (first_and k) ∙ inverse_is_first (boxed_tree c.in_ok-left.left) k (kinds c.in_ok-left.rest.now) (noted_then c.in_ok-left.rest.now),
)

pub conjunction-loop-behind-preserved : goal.conjunction-loop-behind-preserved
conjunction-loop-behind-preserved t c = (
  lt_trans
      (joined_behind (λ z. length z < length c.in-Some.behind.now) op.And (boxed_tree c.loop-behind.left) c.inversion-in-Some.result c.inversion-in-Some.ensures.shorter (Ok (c.in_ok-longer.longer, c.in_ok-longer.then)) c.in_ok-longer.ensures)
      (lt_trans (starts_shorter kind.And c.in-Some.ensures) c.loop-behind.invariant.0),
  and_joined (boxed_tree c.loop-behind.left) c.args.tokens.now c.in-Some.behind.now
      (λ k. c.loop-behind.invariant.1 k ∙ and_read (boxed_tree c.loop-behind.left) k c.in-Some.ensures)
      c.inversion-in-Some.result c.inversion-in-Some.ensures.reads c.inversion-in-Some.ensures.shorter (Ok (c.in_ok-longer.longer, c.in_ok-longer.then)) c.in_ok-longer.ensures,
)

pub inversion-returns-in_default-clause-reads : goal.inversion-returns-in_default-clause-reads
inversion-returns-in_default-clause-reads t c = comparison_read c.args.tokens.now c.in_default.ensures c.comparison.result c.comparison.ensures.reads

pub inversion-returns-clause-reads : goal.inversion-returns-clause-reads
inversion-returns-clause-reads t c =
    made_reads (inverse (boxed_tree c.in_ok-of.of)) c.args.tokens.now c.in_ok-of.rest.now (λ k. want_inverse k) have_inverse
    (λ k. not_read k c.in-Some.ensures ∙ c.in_ok-of.ensures.reads (in_inverse k) ∙ inverse_is_read (boxed_tree c.in_ok-of.of) k (kinds c.in_ok-of.rest.now) (noted_then c.in_ok-of.rest.now))
    c.inverse.result c.inverse.ensures c.made.result c.made.ensures

pub disjunction-loop-behind-init : goal.disjunction-loop-behind-init
disjunction-loop-behind-init t c = (
  c.in_ok-left.ensures.shorter,
  λ k. c.in_ok-left.ensures.reads (first_or k) ∙ and_over (boxed_tree c.in_ok-left.left) (first_or k) c.in_ok-left.rest.now c.in_ok-left.ensures.over,
)

pub disjunction-loop-behind-preserved : goal.disjunction-loop-behind-preserved
disjunction-loop-behind-preserved t c = (
  lt_trans
      (joined_behind (λ z. length z < length c.in-Some.behind.now) op.Or (boxed_tree c.loop-behind.left) c.conjunction-in-Some.result c.conjunction-in-Some.ensures.shorter (Ok (c.in_ok-longer.longer, c.in_ok-longer.then)) c.in_ok-longer.ensures)
      (lt_trans (starts_shorter kind.Or c.in-Some.ensures) c.loop-behind.invariant.0),
  or_joined (boxed_tree c.loop-behind.left) c.args.tokens.now c.in-Some.behind.now
      (λ k. c.loop-behind.invariant.1 k ∙ or_read (boxed_tree c.loop-behind.left) k c.in-Some.ensures)
      c.conjunction-in-Some.result c.conjunction-in-Some.ensures.reads c.conjunction-in-Some.ensures.over (Ok (c.in_ok-longer.longer, c.in_ok-longer.then)) c.in_ok-longer.ensures,
)

pub sum-loop-op-init : goal.sum-loop-op-init
sum-loop-op-init t c = (
  c.in_ok-left.ensures.shorter,
  λ k. c.in_ok-left.ensures.reads (first_sum k) ∙ product_over (boxed_tree c.in_ok-left.left) (first_sum k) c.in_ok-left.rest.now c.in_ok-left.ensures.over,
)

pub sum-loop-op-preserved : goal.sum-loop-op-preserved
sum-loop-op-preserved t c = (
  lt_trans
      (joined_behind (λ z. length z < length c.in-Some.behind.now) c.in-Some.op (boxed_tree c.loop-op.left) c.product-in-Some.result c.product-in-Some.ensures.shorter (Ok (c.in_ok-longer.longer, c.in_ok-longer.then)) c.in_ok-longer.ensures)
      (lt_trans (sign_shorter c.in-Some.ensures) c.loop-op.invariant.0),
  sum_joined c.in-Some.op (boxed_tree c.loop-op.left) c.args.tokens.now c.in-Some.behind.now
      (λ k. c.loop-op.invariant.1 k ∙ sum_read (boxed_tree c.loop-op.left) k c.in-Some.ensures)
      c.product-in-Some.result c.product-in-Some.ensures.reads c.product-in-Some.ensures.over (Ok (c.in_ok-longer.longer, c.in_ok-longer.then)) c.in_ok-longer.ensures,
)

pub product-loop-op-preserved : goal.product-loop-op-preserved
product-loop-op-preserved t c = (
  lt_trans
      (joined_behind (λ z. length z < length c.in-Some.behind.now) c.in-Some.op (boxed_tree c.loop-op.left) c.operand-in-Some.result c.operand-in-Some.ensures.shorter (Ok (c.in_ok-longer.longer, c.in_ok-longer.then)) c.in_ok-longer.ensures)
      (lt_trans (sign_shorter c.in-Some.ensures) c.loop-op.invariant.0),
  product_joined c.in-Some.op (boxed_tree c.loop-op.left) c.args.tokens.now c.in-Some.behind.now
      (λ k. c.loop-op.invariant.1 k ∙ product_read (boxed_tree c.loop-op.left) k c.in-Some.ensures)
      c.operand-in-Some.result c.operand-in-Some.ensures.reads c.operand-in-Some.ensures.shorter (Ok (c.in_ok-longer.longer, c.in_ok-longer.then)) c.in_ok-longer.ensures,
)

pub comparison-returns-in_default-clause-reads : goal.comparison-returns-in_default-clause-reads
comparison-returns-in_default-clause-reads t c =
    λ k. c.in_ok-left.ensures.reads (first_compare k) ∙ sum_alone (boxed_tree c.in_ok-left.left) k c.in_ok-left.rest.now c.in_ok-left.ensures.over c.in_default.ensures

pub comparison-returns-clause-reads : goal.comparison-returns-clause-reads
comparison-returns-clause-reads t c =
    comparison_joined c.in-Some.op (boxed_tree c.in_ok-left.left) c.args.tokens.now c.in-Some.behind.now
    (λ k. c.in_ok-left.ensures.reads (first_compare k) ∙ comparison_sign_read (boxed_tree c.in_ok-left.left) k c.in-Some.ensures)
    c.sum-2.result c.sum-2.ensures.reads c.sum-2.ensures.over c.joined.result c.joined.ensures

pub disjunction-returns-in_err-left-clause-reads : goal.disjunction-returns-in_err-left-clause-reads
disjunction-returns-in_err-left-clause-reads t c =
    part_halts c.args.tokens.now c.args.tokens.now (λ k. want_inverse (first_and k)) have_and expr_due have first_or
    (λ k. refl)
    c.from_residual.result c.in_err-left.field-0.0 c.from_residual.ensures.1 c.in_err-left.ensures.reads

pub conjunction-returns-in_err-left-clause-reads : goal.conjunction-returns-in_err-left-clause-reads
conjunction-returns-in_err-left-clause-reads t c =
    part_halts c.args.tokens.now c.args.tokens.now want_inverse have_inverse (λ k. want_inverse (first_and k)) have_and first_and
    (λ k. refl)
    c.from_residual.result c.in_err-left.field-0.0 c.from_residual.ensures.1 c.in_err-left.ensures.reads

pub inversion-returns-in_err-of-clause-reads : goal.inversion-returns-in_err-of-clause-reads
inversion-returns-in_err-of-clause-reads t c =
    part_halts c.args.tokens.now c.in-Some.behind.now want_inverse have_inverse want_inverse have_inverse in_inverse
    (λ k. not_read k c.in-Some.ensures)
    c.from_residual.result c.in_err-of.field-0.0 c.from_residual.ensures.1 c.in_err-of.ensures.reads

pub comparison-returns-in_err-left-clause-reads : goal.comparison-returns-in_err-left-clause-reads
comparison-returns-in_err-left-clause-reads t c =
    part_halts c.args.tokens.now c.args.tokens.now (λ k. want (sum_due k)) have_sum (λ k. want (inverse_due k)) have_inverse first_compare
    (λ k. refl)
    c.from_residual.result c.in_err-left.field-0.0 c.from_residual.ensures.1 c.in_err-left.ensures.reads

pub sum-returns-in_err-left-clause-reads : goal.sum-returns-in_err-left-clause-reads
sum-returns-in_err-left-clause-reads t c =
    part_halts c.args.tokens.now c.args.tokens.now (λ k. want (first_product k)) have_product (λ k. want (sum_due k)) have_sum first_sum
    (λ k. refl)
    c.from_residual.result c.in_err-left.field-0.0 c.from_residual.ensures.1 c.in_err-left.ensures.reads

pub product-returns-in_err-left-clause-reads : goal.product-returns-in_err-left-clause-reads
product-returns-in_err-left-clause-reads t c =
    part_halts c.args.tokens.now c.args.tokens.now want (λ d k. give k d) (λ k. want (first_product k)) have_product first_product
    (λ k. refl)
    c.from_residual.result c.in_err-left.field-0.0 c.from_residual.ensures.1 c.in_err-left.ensures.reads

pub behind_open_box-returns-in_err-index-clause-reads : goal.behind_open_box-returns-in_err-index-clause-reads
behind_open_box-returns-in_err-index-clause-reads t c =
    part_halts c.args.tokens.now c.args.tokens.now (λ k. expr_due (in_item c.args.buffer k)) (λ d k. give k (item c.args.buffer d)) (λ k. expr_due (in_item c.args.buffer k)) (λ d k. give k d) (λ k. k) (λ k. refl)
    c.from_residual.result c.in_err-index.field-0.0 c.from_residual.ensures.1
    (item_ended c.args.buffer c.args.tokens.now c.disjunction.result c.disjunction.ensures.reads c.disjunction.ensures.over (Err c.in_err-index.field-0.0) c.in_err-index.ensures)

pub behind_message-returns-in_err-index-clause-reads : goal.behind_message-returns-in_err-index-clause-reads
behind_message-returns-in_err-index-clause-reads t c =
    part_halts c.args.tokens.now c.in_ok-rest.rest.now (λ k. expr_due (in_message k)) (λ d k. give k (message_item d)) message (λ d k. give k d) (λ k. k) (λ k. message_begins k c.in_ok-rest.ensures)
    c.from_residual-in_err-index.result c.in_err-index.field-0.0 c.from_residual-in_err-index.ensures.1
    (message_ended c.in_ok-rest.rest.now c.disjunction.result c.disjunction.ensures.reads c.disjunction.ensures.over (Err c.in_err-index.field-0.0) c.in_err-index.ensures)

pub behind_open-returns-in_err-of-clause-reads : goal.behind_open-returns-in_err-of-clause-reads
behind_open-returns-in_err-of-clause-reads t c =
    part_halts c.args.tokens.now c.args.tokens.now (λ k. expr_due (in_paren k)) (λ d k. give k (paren d)) (λ k. expr_due (in_paren k)) (λ d k. give k d) (λ k. k) (λ k. refl)
    c.from_residual.result c.in_err-of.field-0.0 c.from_residual.ensures.1
    (paren_ended c.args.tokens.now c.disjunction.result c.disjunction.ensures.reads c.disjunction.ensures.over (Err c.in_err-of.field-0.0) c.in_err-of.ensures)

pub arguments-returns-in-Some-clause-reads : goal.arguments-returns-in-Some-clause-reads
arguments-returns-in-Some-clause-reads t c =
    λ k. no_arguments k c.in-Some.ensures ∙ ap (λ z. reads c.in-Some.rest.now (called k (trees_of z))) (sym c.new-args.ensures)

pub arguments-returns-in-Err-clause-reads : goal.arguments-returns-in-Err-clause-reads
arguments-returns-in-Err-clause-reads t c =
    halts (Box Expr Global) (List Expr) Whole Caller c.args.tokens.now c.loop-arg.rest.now expr_due (λ e k. have (boxed_tree e) k) called_open (λ es k. called k (trees_of es))
    (λ k. called_with k (trees_of c.loop-arg.args)) c.loop-arg.invariant.1
    (Err c.in-Err.halt) c.in-Err.halt refl c.in-Err.ensures.reads

pub behind_name-returns-in-Some-after-clause-reads : goal.behind_name-returns-in-Some-after-clause-reads
behind_name-returns-in-Some-after-clause-reads t c = item_read c.args.word c.in-Some-after.ensures c.behind_open_box.result c.behind_open_box.ensures.reads

pub behind_open_box-returns-clause-reads : goal.behind_open_box-returns-clause-reads
behind_open_box-returns-clause-reads t c =
    made_reads (item c.args.buffer (boxed_tree c.in_ok-index.index)) c.args.tokens.now c.in_ok-index.rest.now (λ k. expr_due (in_item c.args.buffer k)) (λ d k. give k d)
    (item_ended c.args.buffer c.args.tokens.now c.disjunction.result c.disjunction.ensures.reads c.disjunction.ensures.over (Ok (c.in_ok-index.index, c.in_ok-index.rest)) c.in_ok-index.ensures)
    c.item.result c.item.ensures c.made.result c.made.ensures

pub behind_message-returns-in_err-rest-clause-reads : goal.behind_message-returns-in_err-rest-clause-reads
behind_message-returns-in_err-rest-clause-reads t c =
    sign_halts {X = Box Expr Global} {K = Operand} kind.OpenBox c.args.tokens.now c.args.tokens.now message (λ d k. give k (boxed_tree d)) (λ l k. box_missing c.args.tokens.now k l)
    c.from_residual.result c.in_err-rest.field-0.0 c.from_residual.ensures.1 c.in_err-rest.ensures

pub behind_message-returns-clause-reads : goal.behind_message-returns-clause-reads
behind_message-returns-clause-reads t c =
    let found = message_ended c.in_ok-rest.rest.now c.disjunction.result c.disjunction.ensures.reads c.disjunction.ensures.over (Ok (c.in_ok-index.index, c.in_ok-index.rest)) c.in_ok-index.ensures in
    made_reads (message_item (boxed_tree c.in_ok-index.index)) c.args.tokens.now c.in_ok-index.rest.now (λ k. message k) (λ d k. give k d) (λ k. message_begins k c.in_ok-rest.ensures ∙ found k)
    c.message_item.result c.message_item.ensures c.made.result c.made.ensures

pub behind_open-returns-clause-reads : goal.behind_open-returns-clause-reads
behind_open-returns-clause-reads t c =
    made_reads (paren (boxed_tree c.in_ok-of.of)) c.args.tokens.now c.in_ok-of.rest.now (λ k. expr_due (in_paren k)) (λ d k. give k d)
    (paren_ended c.args.tokens.now c.disjunction.result c.disjunction.ensures.reads c.disjunction.ensures.over (Ok (c.in_ok-of.of, c.in_ok-of.rest)) c.in_ok-of.ensures)
    c.paren.result c.paren.ensures c.made.result c.made.ensures

pub disjunction-returns-in_err-longer-clause-reads : goal.disjunction-returns-in_err-longer-clause-reads
disjunction-returns-in_err-longer-clause-reads t c =
    part_halts c.args.tokens.now c.args.tokens.now (λ k. expr_due k) have (λ k. expr_due k) have (λ k. k) (λ k. refl) c.from_residual-in_err-longer.result c.in_err-longer.field-0.0 c.from_residual-in_err-longer.ensures.1
    (or_joined (boxed_tree c.loop-behind.left) c.args.tokens.now c.in-Some.behind.now
    (λ k. c.loop-behind.invariant.1 k ∙ or_read (boxed_tree c.loop-behind.left) k c.in-Some.ensures)
    c.conjunction-in-Some.result c.conjunction-in-Some.ensures.reads c.conjunction-in-Some.ensures.over (Err c.in_err-longer.field-0.0) c.in_err-longer.ensures)

pub conjunction-returns-in_err-longer-clause-reads : goal.conjunction-returns-in_err-longer-clause-reads
conjunction-returns-in_err-longer-clause-reads t c =
    part_halts c.args.tokens.now c.args.tokens.now (λ k. want_inverse (first_and k)) have_and (λ k. want_inverse (first_and k)) have_and (λ k. k) (λ k. refl) c.from_residual-in_err-longer.result c.in_err-longer.field-0.0 c.from_residual-in_err-longer.ensures.1
    (and_joined (boxed_tree c.loop-behind.left) c.args.tokens.now c.in-Some.behind.now
    (λ k. c.loop-behind.invariant.1 k ∙ and_read (boxed_tree c.loop-behind.left) k c.in-Some.ensures)
    c.inversion-in-Some.result c.inversion-in-Some.ensures.reads c.inversion-in-Some.ensures.shorter (Err c.in_err-longer.field-0.0) c.in_err-longer.ensures)

pub sum-returns-in_err-longer-clause-reads : goal.sum-returns-in_err-longer-clause-reads
sum-returns-in_err-longer-clause-reads t c =
    part_halts c.args.tokens.now c.args.tokens.now (λ k. want (sum_due k)) have_sum (λ k. want (sum_due k)) have_sum (λ k. k) (λ k. refl) c.from_residual-in_err-longer.result c.in_err-longer.field-0.0 c.from_residual-in_err-longer.ensures.1
    (sum_joined c.in-Some.op (boxed_tree c.loop-op.left) c.args.tokens.now c.in-Some.behind.now
    (λ k. c.loop-op.invariant.1 k ∙ sum_read (boxed_tree c.loop-op.left) k c.in-Some.ensures)
    c.product-in-Some.result c.product-in-Some.ensures.reads c.product-in-Some.ensures.over (Err c.in_err-longer.field-0.0) c.in_err-longer.ensures)

pub product-returns-in_err-longer-clause-reads : goal.product-returns-in_err-longer-clause-reads
product-returns-in_err-longer-clause-reads t c =
    part_halts c.args.tokens.now c.args.tokens.now (λ k. want (first_product k)) have_product (λ k. want (first_product k)) have_product (λ k. k) (λ k. refl) c.from_residual-in_err-longer.result c.in_err-longer.field-0.0 c.from_residual-in_err-longer.ensures.1
    (product_joined c.in-Some.op (boxed_tree c.loop-op.left) c.args.tokens.now c.in-Some.behind.now
    (λ k. c.loop-op.invariant.1 k ∙ product_read (boxed_tree c.loop-op.left) k c.in-Some.ensures)
    c.operand-in-Some.result c.operand-in-Some.ensures.reads c.operand-in-Some.ensures.shorter (Err c.in_err-longer.field-0.0) c.in_err-longer.ensures)

-- ---- what is left behind a part

pub disjunction-returns-in_err-left-clause-over : goal.disjunction-returns-in_err-left-clause-over
disjunction-returns-in_err-left-clause-over t c = untold _ c.from_residual.result c.in_err-left.field-0.0 c.from_residual.ensures.1

pub disjunction-returns-in_err-left-clause-shorter : goal.disjunction-returns-in_err-left-clause-shorter
disjunction-returns-in_err-left-clause-shorter t c = untold _ c.from_residual.result c.in_err-left.field-0.0 c.from_residual.ensures.1

pub disjunction-returns-in_err-longer-clause-over : goal.disjunction-returns-in_err-longer-clause-over
disjunction-returns-in_err-longer-clause-over t c = untold _ c.from_residual-in_err-longer.result c.in_err-longer.field-0.0 c.from_residual-in_err-longer.ensures.1

pub disjunction-returns-in_err-longer-clause-shorter : goal.disjunction-returns-in_err-longer-clause-shorter
disjunction-returns-in_err-longer-clause-shorter t c = untold _ c.from_residual-in_err-longer.result c.in_err-longer.field-0.0 c.from_residual-in_err-longer.ensures.1

pub disjunction-returns-clause-reads : goal.disjunction-returns-clause-reads
disjunction-returns-clause-reads t c = c.loop-behind.invariant.1

pub disjunction-returns-clause-over : goal.disjunction-returns-clause-over
disjunction-returns-clause-over t c = c.in_default.ensures

pub disjunction-returns-clause-shorter : goal.disjunction-returns-clause-shorter
disjunction-returns-clause-shorter t c = c.loop-behind.invariant.0

pub disjunction-loop-behind-smaller : goal.disjunction-loop-behind-smaller
disjunction-loop-behind-smaller t c =
    lt_trans
    (joined_behind (λ z. length z < length c.in-Some.behind.now) op.Or (boxed_tree c.loop-behind.left) c.conjunction-in-Some.result c.conjunction-in-Some.ensures.shorter (Ok (c.in_ok-longer.longer, c.in_ok-longer.then)) c.in_ok-longer.ensures)
    (starts_shorter kind.Or c.in-Some.ensures)

pub conjunction-returns-in_err-left-clause-over : goal.conjunction-returns-in_err-left-clause-over
conjunction-returns-in_err-left-clause-over t c = untold _ c.from_residual.result c.in_err-left.field-0.0 c.from_residual.ensures.1

pub conjunction-returns-in_err-left-clause-shorter : goal.conjunction-returns-in_err-left-clause-shorter
conjunction-returns-in_err-left-clause-shorter t c = untold _ c.from_residual.result c.in_err-left.field-0.0 c.from_residual.ensures.1

pub conjunction-returns-in_err-longer-clause-over : goal.conjunction-returns-in_err-longer-clause-over
conjunction-returns-in_err-longer-clause-over t c = untold _ c.from_residual-in_err-longer.result c.in_err-longer.field-0.0 c.from_residual-in_err-longer.ensures.1

pub conjunction-returns-in_err-longer-clause-shorter : goal.conjunction-returns-in_err-longer-clause-shorter
conjunction-returns-in_err-longer-clause-shorter t c = untold _ c.from_residual-in_err-longer.result c.in_err-longer.field-0.0 c.from_residual-in_err-longer.ensures.1

pub conjunction-returns-clause-reads : goal.conjunction-returns-clause-reads
conjunction-returns-clause-reads t c = c.loop-behind.invariant.1

pub conjunction-returns-clause-over : goal.conjunction-returns-clause-over
conjunction-returns-clause-over t c = c.in_default.ensures

pub conjunction-returns-clause-shorter : goal.conjunction-returns-clause-shorter
conjunction-returns-clause-shorter t c = c.loop-behind.invariant.0

pub conjunction-loop-behind-smaller : goal.conjunction-loop-behind-smaller
conjunction-loop-behind-smaller t c =
    lt_trans
    (joined_behind (λ z. length z < length c.in-Some.behind.now) op.And (boxed_tree c.loop-behind.left) c.inversion-in-Some.result c.inversion-in-Some.ensures.shorter (Ok (c.in_ok-longer.longer, c.in_ok-longer.then)) c.in_ok-longer.ensures)
    (starts_shorter kind.And c.in-Some.ensures)

pub sum-returns-in_err-left-clause-over : goal.sum-returns-in_err-left-clause-over
sum-returns-in_err-left-clause-over t c = untold _ c.from_residual.result c.in_err-left.field-0.0 c.from_residual.ensures.1

pub sum-returns-in_err-left-clause-shorter : goal.sum-returns-in_err-left-clause-shorter
sum-returns-in_err-left-clause-shorter t c = untold _ c.from_residual.result c.in_err-left.field-0.0 c.from_residual.ensures.1

pub sum-returns-in_err-longer-clause-over : goal.sum-returns-in_err-longer-clause-over
sum-returns-in_err-longer-clause-over t c = untold _ c.from_residual-in_err-longer.result c.in_err-longer.field-0.0 c.from_residual-in_err-longer.ensures.1

pub sum-returns-in_err-longer-clause-shorter : goal.sum-returns-in_err-longer-clause-shorter
sum-returns-in_err-longer-clause-shorter t c = untold _ c.from_residual-in_err-longer.result c.in_err-longer.field-0.0 c.from_residual-in_err-longer.ensures.1

pub sum-returns-clause-reads : goal.sum-returns-clause-reads
sum-returns-clause-reads t c = c.loop-op.invariant.1

pub sum-returns-clause-over : goal.sum-returns-clause-over
sum-returns-clause-over t c = c.in_default.ensures

pub sum-returns-clause-shorter : goal.sum-returns-clause-shorter
sum-returns-clause-shorter t c = c.loop-op.invariant.0

pub sum-loop-op-smaller : goal.sum-loop-op-smaller
sum-loop-op-smaller t c =
    lt_trans
    (joined_behind (λ z. length z < length c.in-Some.behind.now) c.in-Some.op (boxed_tree c.loop-op.left) c.product-in-Some.result c.product-in-Some.ensures.shorter (Ok (c.in_ok-longer.longer, c.in_ok-longer.then)) c.in_ok-longer.ensures)
    (sign_shorter c.in-Some.ensures)

pub product-returns-in_err-left-clause-over : goal.product-returns-in_err-left-clause-over
product-returns-in_err-left-clause-over t c = untold _ c.from_residual.result c.in_err-left.field-0.0 c.from_residual.ensures.1

pub product-returns-in_err-left-clause-shorter : goal.product-returns-in_err-left-clause-shorter
product-returns-in_err-left-clause-shorter t c = untold _ c.from_residual.result c.in_err-left.field-0.0 c.from_residual.ensures.1

pub product-returns-in_err-longer-clause-over : goal.product-returns-in_err-longer-clause-over
product-returns-in_err-longer-clause-over t c = untold _ c.from_residual-in_err-longer.result c.in_err-longer.field-0.0 c.from_residual-in_err-longer.ensures.1

pub product-returns-in_err-longer-clause-shorter : goal.product-returns-in_err-longer-clause-shorter
product-returns-in_err-longer-clause-shorter t c = untold _ c.from_residual-in_err-longer.result c.in_err-longer.field-0.0 c.from_residual-in_err-longer.ensures.1

pub product-returns-clause-reads : goal.product-returns-clause-reads
product-returns-clause-reads t c = c.loop-op.invariant.1

pub product-returns-clause-over : goal.product-returns-clause-over
product-returns-clause-over t c = c.in_default.ensures

pub product-returns-clause-shorter : goal.product-returns-clause-shorter
product-returns-clause-shorter t c = c.loop-op.invariant.0

pub product-loop-op-smaller : goal.product-loop-op-smaller
product-loop-op-smaller t c =
    lt_trans
    (joined_behind (λ z. length z < length c.in-Some.behind.now) c.in-Some.op (boxed_tree c.loop-op.left) c.operand-in-Some.result c.operand-in-Some.ensures.shorter (Ok (c.in_ok-longer.longer, c.in_ok-longer.then)) c.in_ok-longer.ensures)
    (sign_shorter c.in-Some.ensures)

pub inversion-returns-in_err-of-clause-shorter : goal.inversion-returns-in_err-of-clause-shorter
inversion-returns-in_err-of-clause-shorter t c = untold _ c.from_residual.result c.in_err-of.field-0.0 c.from_residual.ensures.1

pub inversion-returns-in_default-clause-shorter : goal.inversion-returns-in_default-clause-shorter
inversion-returns-in_default-clause-shorter t c = c.comparison.ensures.shorter

pub inversion-returns-clause-shorter : goal.inversion-returns-clause-shorter
inversion-returns-clause-shorter t c =
    made_behind (λ z. length z < length c.args.tokens.now) c.in_ok-of.rest.now (lt_trans c.in_ok-of.ensures.shorter (starts_shorter kind.Not c.in-Some.ensures)) c.inverse.result c.made.result c.made.ensures

pub comparison-returns-in_err-left-clause-shorter : goal.comparison-returns-in_err-left-clause-shorter
comparison-returns-in_err-left-clause-shorter t c = untold _ c.from_residual.result c.in_err-left.field-0.0 c.from_residual.ensures.1

pub comparison-returns-in_default-clause-shorter : goal.comparison-returns-in_default-clause-shorter
comparison-returns-in_default-clause-shorter t c = c.in_ok-left.ensures.shorter

pub comparison-returns-clause-shorter : goal.comparison-returns-clause-shorter
comparison-returns-clause-shorter t c =
    joined_behind (λ z. length z < length c.args.tokens.now) c.in-Some.op (boxed_tree c.in_ok-left.left) c.sum-2.result
    (shorter_still c.args.tokens.now c.in-Some.behind.now (lt_trans (sign_shorter c.in-Some.ensures) c.in_ok-left.ensures.shorter) c.sum-2.result c.sum-2.ensures.shorter)
    c.joined.result c.joined.ensures

pub behind_open-returns-in_err-of-clause-shorter : goal.behind_open-returns-in_err-of-clause-shorter
behind_open-returns-in_err-of-clause-shorter t c = untold _ c.from_residual.result c.in_err-of.field-0.0 c.from_residual.ensures.1

pub behind_open-returns-clause-shorter : goal.behind_open-returns-clause-shorter
behind_open-returns-clause-shorter t c =
    made_behind (λ z. length z < length c.args.tokens.now) c.in_ok-of.rest.now (ended_shorter kind.Close c.args.tokens.now c.disjunction.result c.disjunction.ensures.shorter (Ok (c.in_ok-of.of, c.in_ok-of.rest)) c.in_ok-of.ensures) c.paren.result c.made.result c.made.ensures

pub behind_open_box-returns-in_err-index-clause-shorter : goal.behind_open_box-returns-in_err-index-clause-shorter
behind_open_box-returns-in_err-index-clause-shorter t c = untold _ c.from_residual.result c.in_err-index.field-0.0 c.from_residual.ensures.1

pub behind_open_box-returns-clause-shorter : goal.behind_open_box-returns-clause-shorter
behind_open_box-returns-clause-shorter t c =
    made_behind (λ z. length z < length c.args.tokens.now) c.in_ok-index.rest.now (ended_shorter kind.CloseBox c.args.tokens.now c.disjunction.result c.disjunction.ensures.shorter (Ok (c.in_ok-index.index, c.in_ok-index.rest)) c.in_ok-index.ensures) c.item.result c.made.result c.made.ensures

pub behind_message-returns-in_err-rest-clause-shorter : goal.behind_message-returns-in_err-rest-clause-shorter
behind_message-returns-in_err-rest-clause-shorter t c = untold _ c.from_residual.result c.in_err-rest.field-0.0 c.from_residual.ensures.1

pub behind_message-returns-in_err-index-clause-shorter : goal.behind_message-returns-in_err-index-clause-shorter
behind_message-returns-in_err-index-clause-shorter t c = untold _ c.from_residual-in_err-index.result c.in_err-index.field-0.0 c.from_residual-in_err-index.ensures.1

pub behind_message-returns-clause-shorter : goal.behind_message-returns-clause-shorter
behind_message-returns-clause-shorter t c =
    made_behind (λ z. length z < length c.args.tokens.now) c.in_ok-index.rest.now (lt_trans (ended_shorter kind.CloseBox c.in_ok-rest.rest.now c.disjunction.result c.disjunction.ensures.shorter (Ok (c.in_ok-index.index, c.in_ok-index.rest)) c.in_ok-index.ensures) (starts_shorter kind.OpenBox c.in_ok-rest.ensures)) c.message_item.result c.made.result c.made.ensures

-- ---- each part begins with less

pub disjunction-conjunction-requires : goal.disjunction-conjunction-requires
disjunction-conjunction-requires t c = (lower 5 6 (lit< tt) (le_refl _) c.decreases, tt)

pub disjunction-conjunction-requires-in-Some : goal.disjunction-conjunction-requires-in-Some
disjunction-conjunction-requires-in-Some t c = (lower 5 6 (lit< tt) (le_of_lt (lt_trans (starts_shorter kind.Or c.in-Some.ensures) c.loop-behind.invariant.0)) c.decreases, tt)

pub conjunction-inversion-requires : goal.conjunction-inversion-requires
conjunction-inversion-requires t c = (lower 4 5 (lit< tt) (le_refl _) c.decreases, tt)

pub conjunction-inversion-requires-in-Some : goal.conjunction-inversion-requires-in-Some
conjunction-inversion-requires-in-Some t c = (lower 4 5 (lit< tt) (le_of_lt (lt_trans (starts_shorter kind.And c.in-Some.ensures) c.loop-behind.invariant.0)) c.decreases, tt)

pub sum-product-requires : goal.sum-product-requires
sum-product-requires t c = (lower 1 2 (lit< tt) (le_refl _) c.decreases, tt)

pub sum-product-requires-in-Some : goal.sum-product-requires-in-Some
sum-product-requires-in-Some t c = (lower 1 2 (lit< tt) (le_of_lt (lt_trans (sign_shorter c.in-Some.ensures) c.loop-op.invariant.0)) c.decreases, tt)

pub product-operand-requires : goal.product-operand-requires
product-operand-requires t c = (lowest 1 (lit< tt) (le_refl _) c.decreases, tt)

pub product-operand-requires-in-Some : goal.product-operand-requires-in-Some
product-operand-requires-in-Some t c = (lowest 1 (lit< tt) (le_of_lt (lt_trans (sign_shorter c.in-Some.ensures) c.loop-op.invariant.0)) c.decreases, tt)

pub inversion-comparison-requires : goal.inversion-comparison-requires
inversion-comparison-requires t c = (lower 3 4 (lit< tt) (le_refl _) c.decreases, tt)

pub inversion-inversion-requires : goal.inversion-inversion-requires
inversion-inversion-requires t c = (again 4 (starts_shorter kind.Not c.in-Some.ensures) c.decreases, tt)

pub comparison-sum-requires : goal.comparison-sum-requires
comparison-sum-requires t c = (lower 2 3 (lit< tt) (le_refl _) c.decreases, tt)

pub comparison-sum-requires-2 : goal.comparison-sum-requires-2
comparison-sum-requires-2 t c = (lower 2 3 (lit< tt) (le_of_lt (lt_trans (sign_shorter c.in-Some.ensures) c.in_ok-left.ensures.shorter)) c.decreases, tt)

pub behind_name-arguments-requires : goal.behind_name-arguments-requires
behind_name-arguments-requires t c = (fewer 7 (lit< tt) (starts_shorter kind.Open c.in-Some.ensures) c.decreases, tt)

pub behind_name-behind_open_box-requires : goal.behind_name-behind_open_box-requires
behind_name-behind_open_box-requires t c = (fewer 7 (lit< tt) (starts_shorter kind.OpenBox c.in-Some-after.ensures) c.decreases, tt)

pub behind_open_box-disjunction-requires : goal.behind_open_box-disjunction-requires
behind_open_box-disjunction-requires t c = (lower 6 7 (lit< tt) (le_refl _) c.decreases, tt)

pub behind_open-disjunction-requires : goal.behind_open-disjunction-requires
behind_open-disjunction-requires t c = (lower 6 7 (lit< tt) (le_refl _) c.decreases, tt)

pub behind_message-disjunction-requires : goal.behind_message-disjunction-requires
behind_message-disjunction-requires t c = (fewer 6 (lit< tt) (starts_shorter kind.OpenBox c.in_ok-rest.ensures) c.decreases, tt)

pub arguments-disjunction-requires : goal.arguments-disjunction-requires
arguments-disjunction-requires t c = (lower 6 7 (lit< tt) (c.loop-arg.invariant.0) c.decreases, tt)

pub behind_name-returns-in-Some-clause-shorter : goal.behind_name-returns-in-Some-clause-shorter
behind_name-returns-in-Some-clause-shorter t c = called_shorter c.args.word c.in-Some.ensures c.arguments.result c.arguments.ensures.shorter c.called.result c.called.ensures

pub behind_name-returns-in-Some-after-clause-shorter : goal.behind_name-returns-in-Some-after-clause-shorter
behind_name-returns-in-Some-after-clause-shorter t c =
    no_longer c.args.tokens.now c.behind_open_box.result (shorter_still c.args.tokens.now c.in-Some-after.rest.now (starts_shorter kind.OpenBox c.in-Some-after.ensures) c.behind_open_box.result c.behind_open_box.ensures.shorter)

pub behind_name-returns-clause-shorter : goal.behind_name-returns-clause-shorter
behind_name-returns-clause-shorter t c = made_behind (λ z. length z ≤ length c.args.tokens.now) c.args.tokens.now (le_refl _) c.variable.result c.made.result c.made.ensures

pub arguments-returns-in-Some-clause-shorter : goal.arguments-returns-in-Some-clause-shorter
arguments-returns-in-Some-clause-shorter t c = starts_shorter kind.Close c.in-Some.ensures

pub arguments-returns-in_default-after-clause-shorter : goal.arguments-returns-in_default-after-clause-shorter
arguments-returns-in_default-after-clause-shorter t c =
    call_shorter c.args.tokens.now (c.append.new.args, c.in-Ok.behind) (lt_of_lt_of_le c.in-Ok.ensures.shorter c.loop-arg.invariant.0) c.closed_call.result c.closed_call.ensures

pub arguments-returns-in-Err-append-clause-reads : goal.arguments-returns-in-Err-append-clause-reads
arguments-returns-in-Err-append-clause-reads t c =
    out_of_memory {X = List Expr × Bor (List Token)} (λ x. (k : Caller) → reads c.args.tokens.now (called_open k) ≡ reads x.1.now (called k (trees_of x.0))) (λ more. (k : Caller) → reads c.args.tokens.now (called_open k) ≡ Err (kinds more))
    (Err c.in-Err-append.halt) c.in-Err-append.ensures

pub arguments-loop-arg-smaller : goal.arguments-loop-arg-smaller
arguments-loop-arg-smaller t c = lt_trans (starts_shorter kind.Comma c.in-Some-after.ensures) c.in-Ok.ensures.shorter

pub product-loop-op-init : goal.product-loop-op-init
product-loop-op-init t c = (c.in_ok-left.ensures.shorter, λ k. c.in_ok-left.ensures.reads (first_product k))

pub operand-returns-in_ok-of-in-Minus-clause-reads : goal.operand-returns-in_ok-of-in-Minus-clause-reads
operand-returns-in_ok-of-in-Minus-clause-reads t c =
    made_reads (negative (boxed_tree c.in_ok-of-in-Minus.of)) c.args.tokens.now c.in_ok-of-in-Minus.rest.now (λ k. want k) (λ d k. give k d)
    (λ k. sign_read kind.Minus (starts_at c.in-Some.first.now c.in-Some.ensures.cases.0 c.in-Minus.is) tt (want k) (want (in_negative k)) (λ p. refl) ∙ c.in_ok-of-in-Minus.ensures.reads (in_negative k))
    c.negative.result c.negative.ensures c.made.result c.made.ensures

pub operand-returns-in_ok-of-in-Minus-clause-shorter : goal.operand-returns-in_ok-of-in-Minus-clause-shorter
operand-returns-in_ok-of-in-Minus-clause-shorter t c =
    made_behind (λ z. length z < length c.args.tokens.now) c.in_ok-of-in-Minus.rest.now (lt_trans c.in_ok-of-in-Minus.ensures.shorter (behind_one c.in-Some.first.now c.in-Some.ensures.cases.0)) c.negative.result c.made.result c.made.ensures

pub operand-returns-in_err-of-in-Minus-clause-reads : goal.operand-returns-in_err-of-in-Minus-clause-reads
operand-returns-in_err-of-in-Minus-clause-reads t c =
    part_halts c.args.tokens.now c.in-Some.rest.now want (λ d k. give k d) want (λ d k. give k d) in_negative
    (λ k. sign_read kind.Minus (starts_at c.in-Some.first.now c.in-Some.ensures.cases.0 c.in-Minus.is) tt (want k) (want (in_negative k)) (λ p. refl))
    c.from_residual.result c.in_err-of-in-Minus.field-0.0 c.from_residual.ensures.1 c.in_err-of-in-Minus.ensures.reads

pub operand-returns-in_err-of-in-Minus-clause-shorter : goal.operand-returns-in_err-of-in-Minus-clause-shorter
operand-returns-in_err-of-in-Minus-clause-shorter t c = untold _ c.from_residual.result c.in_err-of-in-Minus.field-0.0 c.from_residual.ensures.1

pub operand-returns-in-Size-clause-reads : goal.operand-returns-in-Size-clause-reads
operand-returns-in-Size-clause-reads t c = operand_read c.args.tokens.now c.in-Some.rest.now (λ k. sized k) (λ k. sign_read kind.Size (starts_at c.in-Some.first.now c.in-Some.ensures.cases.0 c.in-Size.is) tt (want k) (sized k) (λ p. refl)) c.size.result c.size.ensures.reads

pub operand-returns-in-Size-clause-shorter : goal.operand-returns-in-Size-clause-shorter
operand-returns-in-Size-clause-shorter t c = shorter_still c.args.tokens.now c.in-Some.rest.now (behind_one c.in-Some.first.now c.in-Some.ensures.cases.0) c.size.result c.size.ensures.shorter

pub operand-returns-in-Msg-clause-reads : goal.operand-returns-in-Msg-clause-reads
operand-returns-in-Msg-clause-reads t c = operand_read c.args.tokens.now c.in-Some.rest.now (λ k. message k) (λ k. sign_read kind.Msg (starts_at c.in-Some.first.now c.in-Some.ensures.cases.0 c.in-Msg.is) tt (want k) (message k) (λ p. refl)) c.behind_message.result c.behind_message.ensures.reads

pub operand-returns-in-Msg-clause-shorter : goal.operand-returns-in-Msg-clause-shorter
operand-returns-in-Msg-clause-shorter t c = shorter_still c.args.tokens.now c.in-Some.rest.now (behind_one c.in-Some.first.now c.in-Some.ensures.cases.0) c.behind_message.result c.behind_message.ensures.shorter

pub operand-returns-in-Open-clause-reads : goal.operand-returns-in-Open-clause-reads
operand-returns-in-Open-clause-reads t c = operand_read c.args.tokens.now c.in-Some.rest.now (λ k. expr_due (in_paren k)) (λ k. sign_read kind.Open (starts_at c.in-Some.first.now c.in-Some.ensures.cases.0 c.in-Open.is) tt (want k) (expr_due (in_paren k)) (λ p. refl)) c.behind_open.result c.behind_open.ensures.reads

pub operand-returns-in-Open-clause-shorter : goal.operand-returns-in-Open-clause-shorter
operand-returns-in-Open-clause-shorter t c = shorter_still c.args.tokens.now c.in-Some.rest.now (behind_one c.in-Some.first.now c.in-Some.ensures.cases.0) c.behind_open.result c.behind_open.ensures.shorter

pub operand-returns-in-Name-clause-shorter : goal.operand-returns-in-Name-clause-shorter
operand-returns-in-Name-clause-shorter t c = shorter_behind c.args.tokens.now c.in-Some.rest.now (behind_one c.in-Some.first.now c.in-Some.ensures.cases.0) c.behind_name.result c.behind_name.ensures.shorter

pub operand-operand-requires : goal.operand-operand-requires
operand-operand-requires t c = (fewest (behind_one c.in-Some.first.now c.in-Some.ensures.cases.0) c.decreases, tt)

pub operand-behind_name-requires : goal.operand-behind_name-requires
operand-behind_name-requires t c = (fewest (behind_one c.in-Some.first.now c.in-Some.ensures.cases.0) c.decreases, tt)

pub operand-behind_message-requires : goal.operand-behind_message-requires
operand-behind_message-requires t c = (fewest (behind_one c.in-Some.first.now c.in-Some.ensures.cases.0) c.decreases, tt)

pub operand-behind_open-requires : goal.operand-behind_open-requires
operand-behind_open-requires t c = (fewer 7 (lit< tt) (behind_one c.in-Some.first.now c.in-Some.ensures.cases.0) c.decreases, tt)

pub arguments-loop-arg-init : goal.arguments-loop-arg-init
arguments-loop-arg-init t c = (
  le_refl _,
  λ k. argument_due k c.args.tokens.now c.in_default.ensures ∙ ap (λ z. reads c.args.tokens.now (expr_due (called_with k (trees_of z)))) (sym c.new-args.ensures),
)
