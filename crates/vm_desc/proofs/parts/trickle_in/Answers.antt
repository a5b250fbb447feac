use Rattle.std.proofs.Common.{refl, IsTrue}
use Rattle.vm_shape.specs.Limits.{is_trickle}
use Rattle.vm_desc.specs.Fields.{seen_table}
use Rattle.vm_desc.specs.Reading.{trickle_at}
use Rattle.vm_desc.proofs.FieldLemmas.{allowed-holds}
use Rattle.vm_desc.proofs.ReadingLemmas.{refused_same, refused_rules, is_trickle-from}
use Rattle.vm_desc.proofs.parts.trickle_in.Goals as goal

pub returns-in_err-imin-clause-value : goal.returns-in_err-imin-clause-value
unfolding trickle_at
returns-in_err-imin-clause-value c =
    refused_same c.from_residual.result c.in_err-imin.field-0.0 (trickle_at (seen_table c.args.table)) c.from_residual.ensures.1
    (rw (← (rw c.within.ensures at c.in_err-imin.ensures.value)) refl)

pub returns-in_err-imin-clause-rules : goal.returns-in_err-imin-clause-rules
returns-in_err-imin-clause-rules c = refused_rules (λ t. IsTrue (is_trickle t)) c.from_residual.result c.in_err-imin.field-0.0 c.from_residual.ensures.1

pub returns-in_err-allowed-clause-value : goal.returns-in_err-allowed-clause-value
unfolding trickle_at
returns-in_err-allowed-clause-value c =
    refused_same c.from_residual-in_err-allowed.result c.in_err-allowed.field-0.0 (trickle_at (seen_table c.args.table)) c.from_residual-in_err-allowed.ensures.1
    (rw (← (rw c.within.ensures at c.in_ok-imin.ensures.value), ← c.in_err-allowed.ensures) refl)

pub returns-in_err-allowed-clause-rules : goal.returns-in_err-allowed-clause-rules
returns-in_err-allowed-clause-rules c = refused_rules (λ t. IsTrue (is_trickle t)) c.from_residual-in_err-allowed.result c.in_err-allowed.field-0.0 c.from_residual-in_err-allowed.ensures.1

pub returns-in_err-doublings-clause-value : goal.returns-in_err-doublings-clause-value
unfolding trickle_at
returns-in_err-doublings-clause-value c =
    refused_same c.from_residual-in_err-doublings.result c.in_err-doublings.field-0.0 (trickle_at (seen_table c.args.table)) c.from_residual-in_err-doublings.ensures.1
    (rw (← (rw c.within.ensures at c.in_ok-imin.ensures.value), ← c.in_ok-allowed.ensures, ← (rw c.within-2.ensures at c.in_err-doublings.ensures.value)) refl)

pub returns-in_err-doublings-clause-rules : goal.returns-in_err-doublings-clause-rules
returns-in_err-doublings-clause-rules c = refused_rules (λ t. IsTrue (is_trickle t)) c.from_residual-in_err-doublings.result c.in_err-doublings.field-0.0 c.from_residual-in_err-doublings.ensures.1

pub returns-in_err-allowed-2-clause-value : goal.returns-in_err-allowed-2-clause-value
unfolding trickle_at
returns-in_err-allowed-2-clause-value c =
    refused_same c.from_residual-in_err-allowed-2.result c.in_err-allowed-2.field-0.0 (trickle_at (seen_table c.args.table)) c.from_residual-in_err-allowed-2.ensures.1
    (rw (← (rw c.within.ensures at c.in_ok-imin.ensures.value), ← c.in_ok-allowed.ensures, ← (rw c.within-2.ensures at c.in_ok-doublings.ensures.value), ← (rw c.doubled.ensures at c.in_err-allowed-2.ensures)) refl)

pub returns-in_err-allowed-2-clause-rules : goal.returns-in_err-allowed-2-clause-rules
returns-in_err-allowed-2-clause-rules c = refused_rules (λ t. IsTrue (is_trickle t)) c.from_residual-in_err-allowed-2.result c.in_err-allowed-2.field-0.0 c.from_residual-in_err-allowed-2.ensures.1

pub returns-in_err-k-clause-value : goal.returns-in_err-k-clause-value
unfolding trickle_at
returns-in_err-k-clause-value c =
    refused_same c.from_residual-in_err-k.result c.in_err-k.field-0.0 (trickle_at (seen_table c.args.table)) c.from_residual-in_err-k.ensures.1
    (rw (← (rw c.within.ensures at c.in_ok-imin.ensures.value), ← c.in_ok-allowed.ensures, ← (rw c.within-2.ensures at c.in_ok-doublings.ensures.value), ← (rw c.doubled.ensures at c.in_ok-allowed-2.ensures), ← (rw c.within-3.ensures at c.in_err-k.ensures.value)) refl)

pub returns-in_err-k-clause-rules : goal.returns-in_err-k-clause-rules
returns-in_err-k-clause-rules c = refused_rules (λ t. IsTrue (is_trickle t)) c.from_residual-in_err-k.result c.in_err-k.field-0.0 c.from_residual-in_err-k.ensures.1

pub returns-clause-value : goal.returns-clause-value
unfolding trickle_at
returns-clause-value c = rw (← (rw c.within.ensures at c.in_ok-imin.ensures.value), ← c.in_ok-allowed.ensures, ← (rw c.within-2.ensures at c.in_ok-doublings.ensures.value), ← (rw c.doubled.ensures at c.in_ok-allowed-2.ensures), ← (rw c.within-3.ensures at c.in_ok-k.ensures.value)) refl

pub returns-clause-rules : goal.returns-clause-rules
returns-clause-rules c =
    is_trickle-from _ c.in_ok-imin.ensures.low c.in_ok-imin.ensures.high (allowed-holds _ _ c.in_ok-allowed.ensures)
    c.in_ok-doublings.ensures.high (allowed-holds _ _ (rw c.doubled.ensures at c.in_ok-allowed-2.ensures)) c.in_ok-k.ensures.low c.in_ok-k.ensures.high
