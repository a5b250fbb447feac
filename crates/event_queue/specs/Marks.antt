-- Marks of the near slots, a bit for each.
use Rattle.std.specs.Prelude.{ℕ, ◌/◌, ◌%◌, slice_index}
use Rattle.std.specs.Int.{bit_at}
use Rattle.event_queue.specs.declared.marks.Marks.{Marks}
use Rattle.event_queue.specs.declared.marks.TheConstants.{BITS}

-- 1 if the slot is marked, and else 0
abbrev pub mark_at : Marks → ℕ → ℕ
mark_at m slot = bit_at (slice_index m.words (slot / BITS)) (slot % BITS)
