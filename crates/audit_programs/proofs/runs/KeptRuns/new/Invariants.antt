use Rattle.std.proofs.Common.{ℕ, None}
use Rattle.std.specs.Prelude.{IfSome, slice_index_or}
use Rattle.vm_shape.specs.declared.description.Description.{Description}
use Rattle.audit_programs.specs.Kept.{IsKept}
use Rattle.audit_programs.proofs.runs.KeptRuns.new.Given as goal

abbrev pub invariant-loop-context : goal.invariant-loop-context
invariant-loop-context l = (d : Description) (place : ℕ) → IfSome (slice_index_or l.runs.items place None) (IsKept d)
