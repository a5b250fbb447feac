use Rattle.audit_programs.proofs.KeptLemmas.{CatchesUp}
use Rattle.audit_programs.proofs.kept.KeptRun.catch_up.Given as goal

abbrev pub invariant-loop-i : goal.invariant-loop-i
invariant-loop-i l = CatchesUp l.code l.turns l.calls l.i l.fn.self l.self
