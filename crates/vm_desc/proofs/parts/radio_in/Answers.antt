use Rattle.std.proofs.Common.{refl, IsTrue}
use Rattle.vm_shape.specs.Limits.{is_radio}
use Rattle.vm_desc.specs.Fields.{seen_table}
use Rattle.vm_desc.specs.Reading.{radio_at}
use Rattle.vm_desc.proofs.ReadingLemmas.{refused_same, refused_rules, is_radio-from}
use Rattle.vm_desc.proofs.parts.radio_in.Goals as goal

pub returns-in_err-delay-clause-value : goal.returns-in_err-delay-clause-value
unfolding radio_at
returns-in_err-delay-clause-value c =
    refused_same c.from_residual.result c.in_err-delay.field-0.0 (radio_at (seen_table c.args.table)) c.from_residual.ensures.1
    (rw (← (rw c.within.ensures at c.in_err-delay.ensures.value)) refl)

pub returns-in_err-delay-clause-rules : goal.returns-in_err-delay-clause-rules
returns-in_err-delay-clause-rules c = refused_rules (λ r. IsTrue (is_radio r)) c.from_residual.result c.in_err-delay.field-0.0 c.from_residual.ensures.1

pub returns-in_err-gap-clause-value : goal.returns-in_err-gap-clause-value
unfolding radio_at
returns-in_err-gap-clause-value c =
    refused_same c.from_residual-in_err-gap.result c.in_err-gap.field-0.0 (radio_at (seen_table c.args.table)) c.from_residual-in_err-gap.ensures.1
    (rw (← (rw c.within.ensures at c.in_ok-delay.ensures.value), ← (rw c.within-2.ensures at c.in_err-gap.ensures.value)) refl)

pub returns-in_err-gap-clause-rules : goal.returns-in_err-gap-clause-rules
returns-in_err-gap-clause-rules c = refused_rules (λ r. IsTrue (is_radio r)) c.from_residual-in_err-gap.result c.in_err-gap.field-0.0 c.from_residual-in_err-gap.ensures.1

pub returns-clause-value : goal.returns-clause-value
unfolding radio_at
returns-clause-value c = rw (← (rw c.within.ensures at c.in_ok-delay.ensures.value), ← (rw c.within-2.ensures at c.in_ok-gap.ensures.value)) refl

pub returns-clause-rules : goal.returns-clause-rules
returns-clause-rules c = is_radio-from _ c.in_ok-delay.ensures.low c.in_ok-delay.ensures.high c.in_ok-gap.ensures.low c.in_ok-gap.ensures.high
