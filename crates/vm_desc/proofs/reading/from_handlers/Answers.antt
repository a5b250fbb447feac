use Rattle.std.proofs.Common.{refl}
use Rattle.toml.specs.View.{table_view}
use Rattle.vm_shape.specs.Limits.{Parts}
use Rattle.vm_shape.specs.Whole.{parts_of}
use Rattle.vm_desc.specs.Openings.{seen_opening}
use Rattle.vm_desc.specs.Reading.{from_handlers_at}
use Rattle.vm_desc.specs.Reading.{ruled}
use Rattle.vm_desc.proofs.ReadingLemmas.{Keeps, is_valid-from, refused}
use Rattle.vm_desc.proofs.reading.from_handlers.Goals as goal

pub returns-in_err-handlers : goal.returns-in_err-handlers
unfolding from_handlers_at ruled
returns-in_err-handlers c =
    refused parts_of c.from_residual.result c.in_err-handlers.field-0.0 (from_handlers_at (seen_opening c.args.opening) (table_view c.args.document.now)) c.from_residual.ensures.1
    (rw (rw c.at.ensures at c.in_err-handlers.ensures.value) refl)

pub returns-in_err-functions : goal.returns-in_err-functions
unfolding from_handlers_at ruled
returns-in_err-functions c =
    refused parts_of c.from_residual-in_err-functions.result c.in_err-functions.field-0.0 (from_handlers_at (seen_opening c.args.opening) (table_view c.args.document.now)) c.from_residual-in_err-functions.ensures.1
    (rw (rw c.at.ensures at c.in_ok-handlers.ensures.value, rw c.at-2.ensures at c.in_err-functions.ensures.value) refl)

pub returns-in_err-trickle : goal.returns-in_err-trickle
unfolding from_handlers_at ruled
returns-in_err-trickle c =
    refused parts_of c.from_residual-in_err-trickle.result c.in_err-trickle.field-0.0 (from_handlers_at (seen_opening c.args.opening) (table_view c.args.document.now)) c.from_residual-in_err-trickle.ensures.1
    (rw (rw c.at.ensures at c.in_ok-handlers.ensures.value, rw c.at-2.ensures at c.in_ok-functions.ensures.value, ← c.in_err-trickle.ensures.value) refl)

pub returns-in_err-radio : goal.returns-in_err-radio
unfolding from_handlers_at ruled
returns-in_err-radio c =
    refused parts_of c.from_residual-in_err-radio.result c.in_err-radio.field-0.0 (from_handlers_at (seen_opening c.args.opening) (table_view c.args.document.now)) c.from_residual-in_err-radio.ensures.1
    (rw (rw c.at.ensures at c.in_ok-handlers.ensures.value, rw c.at-2.ensures at c.in_ok-functions.ensures.value, ← c.in_ok-trickle.ensures.value, ← c.in_err-radio.ensures.value) refl)

pub returns-in_err-few_contexts : goal.returns-in_err-few_contexts
unfolding from_handlers_at ruled
returns-in_err-few_contexts c =
    refused parts_of c.from_residual-in_err-few_contexts.result c.in_err-few_contexts.field-0.0 (from_handlers_at (seen_opening c.args.opening) (table_view c.args.document.now)) c.from_residual-in_err-few_contexts.ensures.1
    (rw (rw c.at.ensures at c.in_ok-handlers.ensures.value, rw c.at-2.ensures at c.in_ok-functions.ensures.value, ← c.in_ok-trickle.ensures.value, ← c.in_ok-radio.ensures.value, ← c.in_err-few_contexts.ensures.value) refl)

pub returns-in_err-no_repeat : goal.returns-in_err-no_repeat
unfolding from_handlers_at ruled
returns-in_err-no_repeat c =
    refused parts_of c.from_residual-in_err-no_repeat.result c.in_err-no_repeat.field-0.0 (from_handlers_at (seen_opening c.args.opening) (table_view c.args.document.now)) c.from_residual-in_err-no_repeat.ensures.1
    (rw (rw c.at.ensures at c.in_ok-handlers.ensures.value, rw c.at-2.ensures at c.in_ok-functions.ensures.value, ← c.in_ok-trickle.ensures.value, ← c.in_ok-radio.ensures.value, ← c.in_ok-few_contexts.ensures.value, ← c.in_err-no_repeat.ensures.value) refl)

pub returns-in_err-in_time : goal.returns-in_err-in_time
unfolding from_handlers_at ruled
returns-in_err-in_time c =
    refused parts_of c.from_residual-in_err-in_time.result c.in_err-in_time.field-0.0 (from_handlers_at (seen_opening c.args.opening) (table_view c.args.document.now)) c.from_residual-in_err-in_time.ensures.1
    (rw (rw c.at.ensures at c.in_ok-handlers.ensures.value, rw c.at-2.ensures at c.in_ok-functions.ensures.value, ← c.in_ok-trickle.ensures.value, ← c.in_ok-radio.ensures.value, ← c.in_ok-few_contexts.ensures.value, ← c.in_ok-no_repeat.ensures.value, ← (rw c.len.ensures.value at c.in_err-in_time.ensures.value)) refl)

pub returns : goal.returns
unfolding from_handlers_at ruled
returns c = rw (rw c.at.ensures at c.in_ok-handlers.ensures.value, rw c.at-2.ensures at c.in_ok-functions.ensures.value, ← c.in_ok-trickle.ensures.value, ← c.in_ok-radio.ensures.value, ← c.in_ok-few_contexts.ensures.value, ← c.in_ok-no_repeat.ensures.value, ← (rw c.len.ensures.value at c.in_ok-in_time.ensures.value)) refl

pub invariant_of-result : goal.invariant_of-result
invariant_of-result c =
    let p : Parts = record {
      vm_id = c.args.opening.vm_id;
      handlers = c.in_ok-handlers.handlers.items;
      functions = c.in_ok-functions.functions.items;
      shared = c.args.opening.shared.items;
      buffers = c.args.opening.buffers.items;
      devices = c.args.opening.devices.items;
      turns = c.args.opening.turns;
      quantum = c.args.opening.quantum;
      trickle = c.in_ok-trickle.trickle;
      radio = c.in_ok-radio.radio;
    } in
    let keeps : Keeps p = record {
      vm_id = c.requires.vm_id;
      some_handlers = c.in_ok-handlers.ensures.some;
      few_handlers = c.in_ok-handlers.ensures.few;
      each_handler = c.in_ok-handlers.ensures.rules;
      few_contexts = c.in_ok-few_contexts.ensures.few;
      few_functions = c.in_ok-functions.ensures.few;
      each_function = c.in_ok-functions.ensures.rules;
      few_shared = c.requires.few_shared;
      each_shared = c.requires.each_shared;
      few_buffers = c.requires.few_buffers;
      each_buffer = c.requires.each_buffer;
      few_devices = c.requires.few_devices;
      each_device = c.requires.each_device;
      turns = c.requires.turns;
      quantum_low = c.requires.quantum_low;
      quantum_high = c.requires.quantum_high;
      trickle = c.in_ok-trickle.ensures.rules;
      radio = c.in_ok-radio.ensures.rules;
      distinct = c.in_ok-no_repeat.ensures.none;
      timely = rw (← c.len.ensures.value) c.in_ok-in_time.ensures.timely;
    } in
    record { valid = is_valid-from p keeps }
