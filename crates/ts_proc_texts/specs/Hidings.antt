-- The names that are hidden in the body of each procedure.
use Rattle.std.specs.Prelude.{◌≡◌, ℕ, List, take, sum_by, Option, Some, None, slice_get}
use Rattle.ts_trees.specs.declared.procedure.Proc.{Proc}
use Rattle.ts_proc_renaming.specs.declared.hidden.Hidden.{Hidden}
use Rattle.ts_proc_renaming.specs.Hidden.{hiding_of}
use Rattle.ts_proc_renaming.specs.Renaming.{Hiding, nothing_hidden}
use Rattle.ts_proc_expansion.specs.Plan.{bodies_of}

-- those of a procedure whose first parameter has this number; nothing is hidden in the script's own statements
abbrev pub hiding_in : ℕ → Option Proc → Hiding
hiding_in first None = nothing_hidden
hiding_in first (Some p) = record { first = first; params = p.params }

-- those of the procedure at a place
abbrev pub hiding_at : List Proc → ℕ → Hiding
hiding_at procs i = hiding_in (sum_by (λ c. c.1.params) (take i (bodies_of procs))) (slice_get procs i)

abbrev pub AreHidings : List Proc → List Hidden → Type 0
AreHidings procs hs = (i : ℕ) (h : Hidden) → slice_get hs i ≡ Some h → hiding_of h ≡ hiding_at procs i
