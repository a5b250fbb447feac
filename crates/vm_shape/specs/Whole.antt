-- A description as its parts, and the built-in one.
use Rattle.std.specs.Prelude.{ℕ, [], ◌∷◌, codes, IsTrue}
use Rattle.vm_shape.specs.Limits.{Parts, parts, context_sum, is_valid}
use Rattle.vm_shape.specs.declared.handler.HandlerKind.TheVariants.{Plain}
use Rattle.vm_shape.specs.declared.description.Description.{Description}

abbrev pub parts_of : Description → Parts
parts_of d =
    parts d.vm_id d.handlers.items d.functions.items d.shared.items d.buffers.items d.devices.items d.turns d.quantum d.trickle d.radio

-- how many contexts a machine has
abbrev pub context_count : Description → ℕ
context_count d = context_sum d.handlers.items

-- the built-in machine: one handler `main`, the shared variables `a` to `d`, and the settings that hold if none are given
abbrev pub builtin_parts : Parts
builtin_parts = record {
  vm_id = 1;
  handlers = record { name = codes "main"; kind = Plain; contexts = 1 } ∷ [];
  functions = [];
  shared = codes "a" ∷ codes "b" ∷ codes "c" ∷ codes "d" ∷ [];
  buffers = [];
  devices = [];
  turns = 10000;
  quantum = 16;
  trickle = record { imin = 1000; doublings = 4; k = 2 };
  radio = record { delay = 5; gap = 50 };
}

-- the description of parts that keep the rules
abbrev pub described : (p : Parts) → IsTrue (is_valid p) → Description
described p valid = record {
  vm_id = p.vm_id;
  handlers = record { items = p.handlers };
  functions = record { items = p.functions };
  shared = record { items = p.shared };
  buffers = record { items = p.buffers };
  devices = record { items = p.devices };
  turns = p.turns;
  quantum = p.quantum;
  trickle = p.trickle;
  radio = p.radio;
  valid = valid;
}
