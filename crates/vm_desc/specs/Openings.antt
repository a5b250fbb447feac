-- What was read of the keys before the handlers, and the rules that it keeps.
use Rattle.std.specs.Prelude.{◌≡◌, ◌≤◌, length, true}
use Rattle.std.specs.List.{list_all}
use Rattle.mate_num.specs.declared.bounds.TheConstants.{SHARED_MAX, BUFFERS_MAX, DEVICES_MAX}
use Rattle.vm_shape.specs.Names.{is_name}
use Rattle.vm_desc.specs.Reading as reading
use Rattle.vm_desc.specs.declared.opening.Opening.{Opening}

abbrev pub seen_opening : Opening → reading.Opening
seen_opening o = record {
  vm_id = o.vm_id;
  shared = o.shared.items;
  buffers = o.buffers.items;
  devices = o.devices.items;
  turns = o.turns;
  quantum = o.quantum;
}

pub record IsOpening (o : Opening) : Type 0 where
  pub vm_id : o.vm_id ≤ 4294967295
  pub few_shared : length o.shared.items ≤ SHARED_MAX
  pub each_shared : list_all is_name o.shared.items ≡ true
  pub few_buffers : length o.buffers.items ≤ BUFFERS_MAX
  pub each_buffer : list_all is_name o.buffers.items ≡ true
  pub few_devices : length o.devices.items ≤ DEVICES_MAX
  pub each_device : list_all is_name o.devices.items ≡ true
  pub turns : o.turns ≤ 1000000
  pub quantum_low : 1 ≤ o.quantum
  pub quantum_high : o.quantum ≤ 10000
