use Rattle.std.proofs.Common.{◌≡◌, length, take}
use Rattle.ts_proc_expansion.specs.Plan.{bodies_of}
use Rattle.ts_proc_expansion.specs.Targets.{AreTargets}
use Rattle.ts_proc_expansion.proofs.live.live_procs.Given as goal

-- the procedures so far become the same, and have targets
abbrev pub invariant-loop-place : goal.invariant-loop-place
invariant-loop-place l =
    record {
      same : bodies_of l.live.items ≡ take l.place (bodies_of l.plan.heads.procs.now);
      each : length l.targets.items ≡ l.place;
      are : AreTargets l.plan.heads.procs.now l.targets.items;
    }
