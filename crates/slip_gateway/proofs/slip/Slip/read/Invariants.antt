use Rattle.std.proofs.Common.{◌≤◌, ◌+◌, drop, take}
use Rattle.std.specs.Prelude.{count_by, vec_len, vec_capacity}
use Rattle.slip_gateway.specs.Stream.{is_end_byte}
use Rattle.slip_gateway.proofs.FedLemmas.{HasRead}
use Rattle.slip_gateway.proofs.slip.Slip.read.Given as goal

-- the bytes so far are read, and there is room for the frames that the rest closes
abbrev pub invariant-loop-byte : goal.invariant-loop-byte
invariant-loop-byte l =
    HasRead l.initial.self l.self l.initial.into.items l.into.items (take l.byte-index l.piece)
    × (vec_len l.into + count_by is_end_byte (drop l.byte-index l.piece) ≤ vec_capacity l.into)
