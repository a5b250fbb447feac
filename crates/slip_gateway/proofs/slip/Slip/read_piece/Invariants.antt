use Rattle.std.proofs.Common.{take}
use Rattle.slip_gateway.specs.Fed.{IsBehind}
use Rattle.slip_gateway.proofs.slip.Slip.read_piece.Given as goal

-- the bytes so far are read
abbrev pub invariant-loop-byte : goal.invariant-loop-byte
invariant-loop-byte l = IsBehind l.self (take l.byte-index l.piece)
