-- The targets that verification goes on with.
use Rattle.std.specs.Prelude.{ℕ, ◌<◌, ⊤}
use Rattle.mate_code.specs.declared.flow.Flow.TheVariants.{Next, Ends, Branches, Jumps, Returns}
use Rattle.mate_code.specs.declared.flow.Flow.{Flow}

-- the target, if there is one, is below the limit
abbrev pub IsTargetBelow : ℕ → Flow → Type 0
IsTargetBelow limit Next = ⊤
IsTargetBelow limit Ends = ⊤
IsTargetBelow limit (Branches target) = target < limit
IsTargetBelow limit (Jumps target) = target < limit
IsTargetBelow limit (Returns target) = target < limit
