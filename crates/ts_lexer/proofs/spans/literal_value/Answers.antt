use Rattle.std.proofs.Common.{arith}
use Rattle.ts_lexer.proofs.ValueLemmas.{digit_at, over_by_product, over_by_sum, whole_value}
use Rattle.ts_lexer.proofs.spans.literal_value.Goals as goal

pub overflow_sub-byte : goal.overflow_sub-byte
overflow_sub-byte c = digit_at c.args.digits.now c.loop-byte.byte-index c.requires (omega arith)

pub returns-in_err-checked_mul : goal.returns-in_err-checked_mul
returns-in_err-checked_mul c =
    over_by_product c.args.digits.now c.loop-byte.byte-index c.loop-byte.value c.checked_mul.result c.from_residual.result c.loop-byte.invariant (omega arith) c.checked_mul.ensures
    c.in_err-checked_mul.was c.from_residual.ensures

pub returns-in_err-value : goal.returns-in_err-value
returns-in_err-value c =
    over_by_sum c.args.digits.now c.loop-byte.byte-index c.loop-byte.value c.in_ok-checked_mul.field-0 c.from.result c.checked_add.result c.from_residual-in_err-value.result c.loop-byte.invariant (omega arith)
    c.in_ok-checked_mul.ensures.1 c.from.ensures c.checked_add.ensures c.in_err-value.was c.from_residual-in_err-value.ensures

pub returns : goal.returns
returns c = whole_value c.args.digits.now c.loop-byte.byte-index c.loop-byte.value c.loop-byte.invariant (omega arith)
