use Rattle.std.proofs.Common.{refl}
use Rattle.toml.specs.View.{table_view}
use Rattle.vm_desc.specs.Openings.{IsOpening, seen_opening}
use Rattle.vm_desc.specs.Reading.{opening_at}
use Rattle.vm_desc.proofs.ReadingLemmas.{refused, refused_rules}
use Rattle.vm_desc.proofs.reading.opening.Goals as goal

pub returns-in_err-vm_id-clause-value : goal.returns-in_err-vm_id-clause-value
unfolding opening_at
returns-in_err-vm_id-clause-value c =
    refused seen_opening c.from_residual.result c.in_err-vm_id.field-0.0 (opening_at (table_view c.args.document.now)) c.from_residual.ensures.1
    (rw (← (rw c.at.ensures at c.in_err-vm_id.ensures.value)) refl)

pub returns-in_err-vm_id-clause-rules : goal.returns-in_err-vm_id-clause-rules
returns-in_err-vm_id-clause-rules c = refused_rules IsOpening c.from_residual.result c.in_err-vm_id.field-0.0 c.from_residual.ensures.1

pub returns-in_err-shared-clause-value : goal.returns-in_err-shared-clause-value
unfolding opening_at
returns-in_err-shared-clause-value c =
    refused seen_opening c.from_residual-in_err-shared.result c.in_err-shared.field-0.0 (opening_at (table_view c.args.document.now)) c.from_residual-in_err-shared.ensures.1
    (rw (← (rw c.at.ensures at c.in_ok-vm_id.ensures.value), rw c.at-2.ensures at c.in_err-shared.ensures.value) refl)

pub returns-in_err-shared-clause-rules : goal.returns-in_err-shared-clause-rules
returns-in_err-shared-clause-rules c = refused_rules IsOpening c.from_residual-in_err-shared.result c.in_err-shared.field-0.0 c.from_residual-in_err-shared.ensures.1

pub returns-in_err-buffers-clause-value : goal.returns-in_err-buffers-clause-value
unfolding opening_at
returns-in_err-buffers-clause-value c =
    refused seen_opening c.from_residual-in_err-buffers.result c.in_err-buffers.field-0.0 (opening_at (table_view c.args.document.now)) c.from_residual-in_err-buffers.ensures.1
    (rw (← (rw c.at.ensures at c.in_ok-vm_id.ensures.value), rw c.at-2.ensures at c.in_ok-shared.ensures.value, rw c.at-3.ensures at c.in_err-buffers.ensures.value) refl)

pub returns-in_err-buffers-clause-rules : goal.returns-in_err-buffers-clause-rules
returns-in_err-buffers-clause-rules c = refused_rules IsOpening c.from_residual-in_err-buffers.result c.in_err-buffers.field-0.0 c.from_residual-in_err-buffers.ensures.1

pub returns-in_err-devices-clause-value : goal.returns-in_err-devices-clause-value
unfolding opening_at
returns-in_err-devices-clause-value c =
    refused seen_opening c.from_residual-in_err-devices.result c.in_err-devices.field-0.0 (opening_at (table_view c.args.document.now)) c.from_residual-in_err-devices.ensures.1
    (rw (← (rw c.at.ensures at c.in_ok-vm_id.ensures.value), rw c.at-2.ensures at c.in_ok-shared.ensures.value, rw c.at-3.ensures at c.in_ok-buffers.ensures.value, rw c.at-4.ensures at c.in_err-devices.ensures.value) refl)

pub returns-in_err-devices-clause-rules : goal.returns-in_err-devices-clause-rules
returns-in_err-devices-clause-rules c = refused_rules IsOpening c.from_residual-in_err-devices.result c.in_err-devices.field-0.0 c.from_residual-in_err-devices.ensures.1

pub returns-in_err-turns-clause-value : goal.returns-in_err-turns-clause-value
unfolding opening_at
returns-in_err-turns-clause-value c =
    refused seen_opening c.from_residual-in_err-turns.result c.in_err-turns.field-0.0 (opening_at (table_view c.args.document.now)) c.from_residual-in_err-turns.ensures.1
    (rw (← (rw c.at.ensures at c.in_ok-vm_id.ensures.value), rw c.at-2.ensures at c.in_ok-shared.ensures.value, rw c.at-3.ensures at c.in_ok-buffers.ensures.value, rw c.at-4.ensures at c.in_ok-devices.ensures.value, ← (rw c.at-5.ensures at c.in_err-turns.ensures.value)) refl)

pub returns-in_err-turns-clause-rules : goal.returns-in_err-turns-clause-rules
returns-in_err-turns-clause-rules c = refused_rules IsOpening c.from_residual-in_err-turns.result c.in_err-turns.field-0.0 c.from_residual-in_err-turns.ensures.1

pub returns-in_err-quantum-clause-value : goal.returns-in_err-quantum-clause-value
unfolding opening_at
returns-in_err-quantum-clause-value c =
    refused seen_opening c.from_residual-in_err-quantum.result c.in_err-quantum.field-0.0 (opening_at (table_view c.args.document.now)) c.from_residual-in_err-quantum.ensures.1
    (rw (← (rw c.at.ensures at c.in_ok-vm_id.ensures.value), rw c.at-2.ensures at c.in_ok-shared.ensures.value, rw c.at-3.ensures at c.in_ok-buffers.ensures.value, rw c.at-4.ensures at c.in_ok-devices.ensures.value, ← (rw c.at-5.ensures at c.in_ok-turns.ensures.value), ← (rw c.at-6.ensures at c.in_err-quantum.ensures.value)) refl)

pub returns-in_err-quantum-clause-rules : goal.returns-in_err-quantum-clause-rules
returns-in_err-quantum-clause-rules c = refused_rules IsOpening c.from_residual-in_err-quantum.result c.in_err-quantum.field-0.0 c.from_residual-in_err-quantum.ensures.1

pub returns-clause-value : goal.returns-clause-value
unfolding opening_at
returns-clause-value c = rw (← (rw c.at.ensures at c.in_ok-vm_id.ensures.value), rw c.at-2.ensures at c.in_ok-shared.ensures.value, rw c.at-3.ensures at c.in_ok-buffers.ensures.value, rw c.at-4.ensures at c.in_ok-devices.ensures.value, ← (rw c.at-5.ensures at c.in_ok-turns.ensures.value), ← (rw c.at-6.ensures at c.in_ok-quantum.ensures.value)) refl

pub returns-clause-rules : goal.returns-clause-rules
returns-clause-rules c = record {
  vm_id = c.in_ok-vm_id.ensures.high;
  few_shared = c.in_ok-shared.ensures.few;
  each_shared = c.in_ok-shared.ensures.form;
  few_buffers = c.in_ok-buffers.ensures.few;
  each_buffer = c.in_ok-buffers.ensures.form;
  few_devices = c.in_ok-devices.ensures.few;
  each_device = c.in_ok-devices.ensures.form;
  turns = c.in_ok-turns.ensures.high;
  quantum_low = c.in_ok-quantum.ensures.low;
  quantum_high = c.in_ok-quantum.ensures.high;
}
