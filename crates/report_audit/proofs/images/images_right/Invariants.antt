use Rattle.report_audit.proofs.ImageLemmas.{Settles}
use Rattle.report_audit.proofs.images.images_right.Given as goal

abbrev pub invariant-loop-stamped : goal.invariant-loop-stamped
invariant-loop-stamped l = Settles l.programs l.log l.held l.stamped-index
