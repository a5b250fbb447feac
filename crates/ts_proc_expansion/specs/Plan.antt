-- What the program's plan of an expansion means.
use Rattle.std.specs.Prelude.{ℕ, List, map}
use Rattle.ts_trees.specs.declared.procedure.Proc.{Proc}
use Rattle.ts_trees.specs.Seen.{procedure_of}
use Rattle.ts_proc_expansion.specs.Expansion.{Callee, callees}

-- what the procedures become
abbrev pub bodies_of : List Proc → List (List ℕ × Callee)
bodies_of procs = callees (map procedure_of procs)

-- the number of each procedure's first parameter
abbrev pub firsts_of : List (List ℕ × Callee) → List ℕ
firsts_of known = map (λ c. c.1.first) known
