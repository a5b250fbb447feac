-- One block of values: `SHARED_MAX` shared variables, and then room for `PAYLOAD_MAX` values in each buffer.
use Rattle.std.specs.Prelude.{ℕ, ◌+◌, ◌*◌, ℤ, List, [], ◌∷◌, take, drop, slice_index}
use Rattle.arrayvec.specs.ArrayVec.{ArrayVec}
use Rattle.mate_num.specs.declared.bounds.TheConstants.{PAYLOAD_MAX, SHARED_MAX}

-- where the values of a buffer begin
abbrev pub start_of : ℕ → ℕ
start_of buf = SHARED_MAX + buf * PAYLOAD_MAX

-- the values of a buffer
abbrev pub values_of : List ℤ → List ℕ → ℕ → List ℤ
values_of values lengths buf = take (slice_index lengths buf) (drop (start_of buf) values)

-- the buffers with these lengths, each with its values at the front of `PAYLOAD_MAX` places
abbrev pub rows : List ℕ → List ℤ → List (ArrayVec ℤ)
rows [] values = []
rows (n ∷ lengths) values = record { items = take n values } ∷ rows lengths (drop PAYLOAD_MAX values)
