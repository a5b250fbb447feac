use Rattle.std.proofs.Common.{◌≡◌, ◌+◌, ◌-◌, ◌≤◌, length}
use Rattle.mate_code.specs.Code.{decoded, decoded_from}
use Rattle.mate_code.proofs.DecodeLoop.{with_front}
use Rattle.mate_code.proofs.decoding.read_all.Given as goal

abbrev pub invariant-instrs : goal.invariant-instrs
invariant-instrs l = record {
  so_far : with_front l.instrs (decoded_from (length l.bytes - length l.instrs) l.table l.place l.rest) ≡ decoded l.table l.bytes;
  ends : l.place + length l.rest ≡ length l.bytes;
  count : length l.instrs + length l.rest ≤ length l.bytes;
}

abbrev pub decreases-instrs : goal.decreases-instrs
decreases-instrs l = length l.rest
