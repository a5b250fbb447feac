use Rattle.std.proofs.Common.{length}
use Rattle.report_text.specs.Steps.{IsAt}
use Rattle.report_text.proofs.text.read_lines.Given as goal

abbrev pub invariant-loop-line : goal.invariant-loop-line
invariant-loop-line l = IsAt l.desc l.bytes l.left l.parts

abbrev pub decreases-loop-line : goal.decreases-loop-line
decreases-loop-line l = length l.left
