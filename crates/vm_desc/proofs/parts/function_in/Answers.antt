use Rattle.std.proofs.Common.{refl, length, IsTrue}
use Rattle.toml.specs.View.{table_view}
use Rattle.vm_shape.specs.Limits.{is_function}
use Rattle.vm_desc.specs.Reading.{function_at}
use Rattle.vm_desc.proofs.ReadingLemmas.{refused_same, refused_rules, is_function-from}
use Rattle.vm_desc.proofs.parts.function_in.Goals as goal

pub returns-in_err-name-clause-value : goal.returns-in_err-name-clause-value
unfolding function_at
returns-in_err-name-clause-value c =
    refused_same c.from_residual.result c.in_err-name.field-0.0 (function_at c.args.devices.now (table_view c.args.table.now)) c.from_residual.ensures.1
    (rw (← (rw c.at.ensures at c.in_err-name.ensures.value)) refl)

pub returns-in_err-name-clause-rules : goal.returns-in_err-name-clause-rules
returns-in_err-name-clause-rules c = refused_rules (λ f. IsTrue (is_function (length c.args.devices.now) f)) c.from_residual.result c.in_err-name.field-0.0 c.from_residual.ensures.1

pub returns-in_err-kind-clause-value : goal.returns-in_err-kind-clause-value
unfolding function_at
returns-in_err-kind-clause-value c =
    refused_same c.from_residual-in_err-kind.result c.in_err-kind.field-0.0 (function_at c.args.devices.now (table_view c.args.table.now)) c.from_residual-in_err-kind.ensures.1
    (rw (← (rw c.at.ensures at c.in_ok-name.ensures.value), ← (rw c.at-2.ensures at c.in_err-kind.ensures)) refl)

pub returns-in_err-kind-clause-rules : goal.returns-in_err-kind-clause-rules
returns-in_err-kind-clause-rules c = refused_rules (λ f. IsTrue (is_function (length c.args.devices.now) f)) c.from_residual-in_err-kind.result c.in_err-kind.field-0.0 c.from_residual-in_err-kind.ensures.1

pub returns-in_err-kind-2-clause-value : goal.returns-in_err-kind-2-clause-value
unfolding function_at
returns-in_err-kind-2-clause-value c =
    refused_same c.from_residual-in_err-kind-2.result c.in_err-kind-2.field-0.0 (function_at c.args.devices.now (table_view c.args.table.now)) c.from_residual-in_err-kind-2.ensures.1
    (rw (← (rw c.at.ensures at c.in_ok-name.ensures.value), ← (rw c.at-2.ensures at c.in_ok-kind.ensures), ← (rw c.at-3.ensures at c.in_err-kind-2.ensures.value)) refl)

pub returns-in_err-kind-2-clause-rules : goal.returns-in_err-kind-2-clause-rules
returns-in_err-kind-2-clause-rules c = refused_rules (λ f. IsTrue (is_function (length c.args.devices.now) f)) c.from_residual-in_err-kind-2.result c.in_err-kind-2.field-0.0 c.from_residual-in_err-kind-2.ensures.1

pub returns-in_err-device-clause-value : goal.returns-in_err-device-clause-value
unfolding function_at
returns-in_err-device-clause-value c =
    refused_same c.from_residual-in_err-device.result c.in_err-device.field-0.0 (function_at c.args.devices.now (table_view c.args.table.now)) c.from_residual-in_err-device.ensures.1
    (rw (← (rw c.at.ensures at c.in_ok-name.ensures.value), ← (rw c.at-2.ensures at c.in_ok-kind.ensures), ← (rw c.at-3.ensures at c.in_ok-kind-2.ensures.value), ← (rw c.at-4.ensures at c.in_err-device.ensures.value)) refl)

pub returns-in_err-device-clause-rules : goal.returns-in_err-device-clause-rules
returns-in_err-device-clause-rules c = refused_rules (λ f. IsTrue (is_function (length c.args.devices.now) f)) c.from_residual-in_err-device.result c.in_err-device.field-0.0 c.from_residual-in_err-device.ensures.1

pub returns-in_err-latency-clause-value : goal.returns-in_err-latency-clause-value
unfolding function_at
returns-in_err-latency-clause-value c =
    refused_same c.from_residual-in_err-latency.result c.in_err-latency.field-0.0 (function_at c.args.devices.now (table_view c.args.table.now)) c.from_residual-in_err-latency.ensures.1
    (rw (← (rw c.at.ensures at c.in_ok-name.ensures.value), ← (rw c.at-2.ensures at c.in_ok-kind.ensures), ← (rw c.at-3.ensures at c.in_ok-kind-2.ensures.value), ← (rw c.at-4.ensures at c.in_ok-device.ensures.value), ← (rw c.at-5.ensures at c.in_err-latency.ensures.value)) refl)

pub returns-in_err-latency-clause-rules : goal.returns-in_err-latency-clause-rules
returns-in_err-latency-clause-rules c = refused_rules (λ f. IsTrue (is_function (length c.args.devices.now) f)) c.from_residual-in_err-latency.result c.in_err-latency.field-0.0 c.from_residual-in_err-latency.ensures.1

pub returns-clause-value : goal.returns-clause-value
unfolding function_at
returns-clause-value c = rw (← (rw c.at.ensures at c.in_ok-name.ensures.value), ← (rw c.at-2.ensures at c.in_ok-kind.ensures), ← (rw c.at-3.ensures at c.in_ok-kind-2.ensures.value), ← (rw c.at-4.ensures at c.in_ok-device.ensures.value), ← (rw c.at-5.ensures at c.in_ok-latency.ensures.value)) refl

pub returns-clause-rules : goal.returns-clause-rules
returns-clause-rules c =
    is_function-from (length c.args.devices.now) record { name = c.in_ok-name.name; kind = c.in_ok-kind-2.kind; device = c.in_ok-device.device; latency = c.in_ok-latency.latency }
    c.in_ok-name.ensures.form c.in_ok-kind-2.ensures.rules c.in_ok-device.ensures.rules
    c.in_ok-latency.ensures.low c.in_ok-latency.ensures.high
