-- Stores: what the shared variables and buffers hold, what is read there, and what a change leaves.
use Rattle.std.specs.Prelude.{ℕ, ◌-◌, ℤ, pos, negsuc, List, [], ◌∷◌, ◌++◌, Result, Ok, Err, length, take, replicate, slice_get, slice_index_or, slice_set, nat_lt, if◌then◌else◌}
use Rattle.std.specs.Option.{ok_or}
use Rattle.arrayvec.specs.ArrayVec.{ArrayVec}
use Rattle.mate_num.specs.declared.bounds.TheConstants.{PAYLOAD_MAX}
use Rattle.mate_num.specs.declared.store.Store.{Store}
use Rattle.mate_num.specs.declared.call.FaultKind.{FaultKind}
use Rattle.mate_num.specs.declared.call.FaultKind.TheVariants.{Index, BufferFull, BufferEmpty}

-- the values xs as they are in a buffer or a message
abbrev pub payload : List ℤ → ArrayVec ℤ
payload xs = record { items = xs }

-- 0 in each shared variable, and each buffer empty, for these numbers of them
abbrev pub zero_store : ℕ → ℕ → Store
zero_store shared buffers =
    record { shared = record { items = replicate shared (pos 0) }; buffers = record { items = replicate buffers (payload []) } }

-- the value of a shared variable, and 0 if there is no such variable
abbrev pub value_at : Store → ℕ → ℤ
value_at s var = slice_index_or s.shared.items var (pos 0)

-- the values in a buffer, and none if there is no such buffer
abbrev pub buffer_at : Store → ℕ → List ℤ
buffer_at s buf = (slice_index_or s.buffers.items buf (payload [])).items

-- s with that value in a shared variable; s itself if there is no such variable
abbrev pub set_value : Store → ℕ → ℤ → Store
set_value s var value = record { shared = record { items = slice_set s.shared.items var value }; buffers = s.buffers }

-- s with those values in a buffer; s itself if there is no such buffer
abbrev pub set_buffer : Store → ℕ → List ℤ → Store
set_buffer s buf values = record { shared = s.shared; buffers = record { items = slice_set s.buffers.items buf (payload values) } }

-- the value at an index, from 0 to the size less 1, or the fault Index
abbrev pub item_of : List ℤ → ℤ → Result ℤ FaultKind
item_of values (pos i) = ok_or (slice_get values i) Index
item_of values (negsuc i) = Err Index

-- the values with another one at an index, from 0 to the size less 1, or the fault Index
abbrev pub item_set : List ℤ → ℤ → ℤ → Result (List ℤ) FaultKind
item_set values (pos i) value = if nat_lt i (length values) then Ok (slice_set values i value) else Err Index
item_set values (negsuc i) value = Err Index

-- the values and one more, or the fault BufferFull if there is no room
abbrev pub appended : List ℤ → ℤ → Result (List ℤ) FaultKind
appended values value = if nat_lt (length values) PAYLOAD_MAX then Ok (values ++ value ∷ []) else Err BufferFull

-- the last value, or the fault BufferEmpty
abbrev pub last_of : List ℤ → Result ℤ FaultKind
last_of values = ok_or (slice_get values (length values - 1)) BufferEmpty

-- the values but the last one
abbrev pub without_last : List ℤ → List ℤ
without_last values = take (length values - 1) values
