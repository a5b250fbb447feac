use Rattle.std.proofs.Common.{length}
use Rattle.script_reader.specs.Draft.{world_progress_of, AreTables}
use Rattle.script_reader.proofs.LineEnd.{IsAtWorldLine}
use Rattle.script_reader.proofs.reader.world_script.Given as goal

abbrev pub invariant-lines : goal.invariant-lines
invariant-lines l = IsAtWorldLine l.desc l.bytes l.number (world_progress_of l.draft) l.lines × AreTables l.draft.linked l.draft.places l.draft.world

abbrev pub decreases-lines : goal.decreases-lines
decreases-lines l = length l.lines
