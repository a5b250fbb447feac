-- What was read so far is what the file gave, and no more than may be read.
use Rattle.std.proofs.Common.{◌≤◌, ◌+◌, ◌-◌, length}
use Rattle.std.specs.Io.KnownBytes.{Consumes}
use Rattle.mate_files.specs.declared.files.TheConstants.{FILE_MAX}
use Rattle.mate_files.proofs.os_files.read_front.Given as goal

abbrev pub invariant-loop-bytes : goal.invariant-loop-bytes
invariant-loop-bytes g l = record {
  short : length l.bytes.items ≤ FILE_MAX + 1;
  bytes : Consumes (g.F.Read.remaining l.initial.file) (g.F.Read.remaining l.file) l.bytes.items;
}

abbrev pub decreases-loop-bytes : goal.decreases-loop-bytes
decreases-loop-bytes g l = FILE_MAX + 1 - length l.bytes.items
