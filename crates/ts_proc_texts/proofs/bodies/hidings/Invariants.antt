use Rattle.std.proofs.Common.{◌≡◌, length}
use Rattle.ts_proc_texts.specs.Hidings.{AreHidings}
use Rattle.ts_proc_texts.proofs.bodies.hidings.Given as goal

-- those of the bodies so far
abbrev pub invariant-loop-place : goal.invariant-loop-place
invariant-loop-place l = record { each : length l.hidden.items ≡ l.place; are : AreHidings l.plan.heads.procs.now l.hidden.items }
