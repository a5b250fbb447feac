-- Counts that are kept in a u64, and stay at its last value.
use Rattle.std.specs.Prelude.{ℕ, ◌+◌, ◌-◌, ◌^◌, ◌≤◌, min}

-- the count after one more
abbrev pub one_more : ℕ → ℕ
one_more count = min (count + 1) (2 ^ 64 - 1)

-- a count rose, or stays at the last value of a u64
abbrev pub Rose : ℕ → ℕ → Type 0
Rose before now = one_more before ≤ now
