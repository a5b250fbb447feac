use Rattle.std.proofs.Common.{take}
use Rattle.std.specs.Prelude.{All, ℤ}
use Rattle.arrayvec.specs.ArrayVec.{ArrayVec}
use Rattle.mate_journal.specs.Entries.{AreValues}
use Rattle.journal_laws.proofs.ranges.buffers_are_in_range.Given as goal

abbrev pub invariant-loop-buffer : goal.invariant-loop-buffer
invariant-loop-buffer l = All (λ (b : ArrayVec ℤ). AreValues b.items) (take l.buffer-index l.buffers)
