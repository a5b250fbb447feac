use Rattle.audit_programs.specs.Kept.{AreKept}
use Rattle.report_audit.proofs.FoldLemmas.{Stands}
use Rattle.report_audit.proofs.runs.first_failed_of.Given as goal

abbrev pub invariant-loop-place : goal.invariant-loop-place
invariant-loop-place l = record { stands : Stands l.trial l.place l.roll l.store l.last l.shown l.granted; runs : AreKept l.trial.desc.now l.runs }
