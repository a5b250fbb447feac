use Rattle.std.proofs.Common.{length}
use Rattle.script_steps.specs.NodeReader.{progress_of}
use Rattle.script_steps.proofs.NodeLemmas.{IsAtLine}
use Rattle.script_steps.proofs.node.node_script.Given as goal

abbrev pub invariant-lines : goal.invariant-lines
invariant-lines l = IsAtLine l.desc l.bytes l.number (progress_of l.reader) l.lines

abbrev pub decreases-lines : goal.decreases-lines
decreases-lines l = length l.lines
