use Rattle.std.proofs.Common.{◌≡◌, replicate, None}
use Rattle.audit_programs.proofs.table.ReadyPrograms.new.Given as goal

abbrev pub invariant-loop-place : goal.invariant-loop-place
invariant-loop-place l = l.programs.items ≡ replicate l._place None
