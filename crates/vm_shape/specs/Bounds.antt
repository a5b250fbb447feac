-- The lengths and ranges that every description keeps, each by its name.
use Rattle.std.specs.Prelude.{◌≡◌, ◌≤◌, ◌%◌, length, IsTrue, None}
use Rattle.std.specs.List.{list_all}
use Rattle.mate_num.specs.declared.bounds.TheConstants.{SHARED_MAX, BUFFERS_MAX, DEVICES_MAX, FUNCTIONS_MAX, HANDLERS_MAX, CONTEXTS_MAX, HOUR}
use Rattle.vm_shape.specs.declared.settings.TheConstants.{DOUBLINGS_MAX}
use Rattle.vm_shape.specs.Names.{is_name}
use Rattle.vm_shape.specs.Limits.{is_handler, is_function, longest, round_time, duplicate_of}
use Rattle.vm_shape.specs.Whole.{parts_of, context_count}
use Rattle.vm_shape.specs.declared.description.Description.{Description}

pub record HasBounds (d : Description) : Type 0 where
  pub vm_id : d.vm_id ≤ 4294967295
  pub handlers_low : 1 ≤ length d.handlers.items
  pub handlers_high : length d.handlers.items ≤ HANDLERS_MAX
  pub contexts_low : 1 ≤ context_count d
  pub contexts_high : context_count d ≤ CONTEXTS_MAX
  pub functions_high : length d.functions.items ≤ FUNCTIONS_MAX
  pub shared_high : length d.shared.items ≤ SHARED_MAX
  pub buffers_high : length d.buffers.items ≤ BUFFERS_MAX
  pub devices_high : length d.devices.items ≤ DEVICES_MAX
  pub turns_high : d.turns ≤ 1000000
  pub quantum_low : 1 ≤ d.quantum
  pub quantum_high : d.quantum ≤ 10000
  pub imin_low : 2 ≤ d.trickle.imin
  pub imin_high : d.trickle.imin ≤ 60000
  pub imin_even : d.trickle.imin % 2 ≡ 0
  pub doublings_high : d.trickle.doublings ≤ DOUBLINGS_MAX
  pub longest_high : longest d.trickle ≤ HOUR
  pub k_low : 1 ≤ d.trickle.k
  pub k_high : d.trickle.k ≤ 255
  pub delay_low : 1 ≤ d.radio.delay
  pub delay_high : d.radio.delay ≤ 10000
  pub gap_low : 1 ≤ d.radio.gap
  pub gap_high : d.radio.gap ≤ 10000
  -- a round of all handlers' packets fits the longest interval
  pub round_fits : round_time (length d.handlers.items) d.radio ≤ longest d.trickle

-- what each item of a list keeps
pub record HasItems (d : Description) : Type 0 where
  pub each_handler : IsTrue (list_all is_handler d.handlers.items)
  pub each_function : IsTrue (list_all (is_function (length d.devices.items)) d.functions.items)
  pub each_shared : IsTrue (list_all is_name d.shared.items)
  pub each_buffer : IsTrue (list_all is_name d.buffers.items)
  pub each_device : IsTrue (list_all is_name d.devices.items)
  -- no name is twice in its list
  pub distinct : duplicate_of (parts_of d) ≡ None
