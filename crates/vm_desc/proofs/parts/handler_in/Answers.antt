use Rattle.std.proofs.Common.{refl, IsTrue}
use Rattle.toml.specs.View.{table_view}
use Rattle.vm_shape.specs.Limits.{is_handler}
use Rattle.vm_desc.specs.Reading.{handler_at}
use Rattle.vm_desc.proofs.ReadingLemmas.{refused_same, refused_rules, is_handler-from}
use Rattle.vm_desc.proofs.parts.handler_in.Goals as goal

pub returns-in_err-name-clause-value : goal.returns-in_err-name-clause-value
unfolding handler_at
returns-in_err-name-clause-value c =
    refused_same c.from_residual.result c.in_err-name.field-0.0 (handler_at (table_view c.args.table.now)) c.from_residual.ensures.1
    (rw (← (rw c.at.ensures at c.in_err-name.ensures.value)) refl)

pub returns-in_err-name-clause-rules : goal.returns-in_err-name-clause-rules
returns-in_err-name-clause-rules c = refused_rules (λ h. IsTrue (is_handler h)) c.from_residual.result c.in_err-name.field-0.0 c.from_residual.ensures.1

pub returns-in_err-kind-clause-value : goal.returns-in_err-kind-clause-value
unfolding handler_at
returns-in_err-kind-clause-value c =
    refused_same c.from_residual-in_err-kind.result c.in_err-kind.field-0.0 (handler_at (table_view c.args.table.now)) c.from_residual-in_err-kind.ensures.1
    (rw (← (rw c.at.ensures at c.in_ok-name.ensures.value), ← (rw c.at-2.ensures at c.in_err-kind.ensures)) refl)

pub returns-in_err-kind-clause-rules : goal.returns-in_err-kind-clause-rules
returns-in_err-kind-clause-rules c = refused_rules (λ h. IsTrue (is_handler h)) c.from_residual-in_err-kind.result c.in_err-kind.field-0.0 c.from_residual-in_err-kind.ensures.1

pub returns-in_err-contexts-clause-value : goal.returns-in_err-contexts-clause-value
unfolding handler_at
returns-in_err-contexts-clause-value c =
    refused_same c.from_residual-in_err-contexts.result c.in_err-contexts.field-0.0 (handler_at (table_view c.args.table.now)) c.from_residual-in_err-contexts.ensures.1
    (rw (← (rw c.at.ensures at c.in_ok-name.ensures.value), ← (rw c.at-2.ensures at c.in_ok-kind.ensures), ← (rw c.at-3.ensures at c.in_err-contexts.ensures.value)) refl)

pub returns-in_err-contexts-clause-rules : goal.returns-in_err-contexts-clause-rules
returns-in_err-contexts-clause-rules c = refused_rules (λ h. IsTrue (is_handler h)) c.from_residual-in_err-contexts.result c.in_err-contexts.field-0.0 c.from_residual-in_err-contexts.ensures.1

pub returns-in_err-kind-2-clause-value : goal.returns-in_err-kind-2-clause-value
unfolding handler_at
returns-in_err-kind-2-clause-value c =
    refused_same c.from_residual-in_err-kind-2.result c.in_err-kind-2.field-0.0 (handler_at (table_view c.args.table.now)) c.from_residual-in_err-kind-2.ensures.1
    (rw (← (rw c.at.ensures at c.in_ok-name.ensures.value), ← (rw c.at-2.ensures at c.in_ok-kind.ensures), ← (rw c.at-3.ensures at c.in_ok-contexts.ensures.value), ← (rw c.at-4.ensures at c.in_err-kind-2.ensures.value)) refl)

pub returns-in_err-kind-2-clause-rules : goal.returns-in_err-kind-2-clause-rules
returns-in_err-kind-2-clause-rules c = refused_rules (λ h. IsTrue (is_handler h)) c.from_residual-in_err-kind-2.result c.in_err-kind-2.field-0.0 c.from_residual-in_err-kind-2.ensures.1

pub returns-clause-value : goal.returns-clause-value
unfolding handler_at
returns-clause-value c = rw (← (rw c.at.ensures at c.in_ok-name.ensures.value), ← (rw c.at-2.ensures at c.in_ok-kind.ensures), ← (rw c.at-3.ensures at c.in_ok-contexts.ensures.value), ← (rw c.at-4.ensures at c.in_ok-kind-2.ensures.value)) refl

pub returns-clause-rules : goal.returns-clause-rules
returns-clause-rules c =
    is_handler-from record { name = c.in_ok-name.name; kind = c.in_ok-kind-2.kind; contexts = c.in_ok-contexts.contexts }
    c.in_ok-name.ensures.form c.in_ok-kind-2.ensures.rules c.in_ok-contexts.ensures.low c.in_ok-contexts.ensures.high
