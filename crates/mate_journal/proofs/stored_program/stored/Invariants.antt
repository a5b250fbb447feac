use Rattle.std.proofs.Common.{◌≡◌, take}
use Rattle.mate_journal.proofs.stored_program.stored.Given as goal

abbrev pub invariant-loop-program : goal.invariant-loop-program
invariant-loop-program l = l.copies ≡ take l.program-index l.programs
