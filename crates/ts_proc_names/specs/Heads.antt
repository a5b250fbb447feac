-- The heads of procedures.
use Rattle.std.specs.Prelude.{ℕ, ◌+◌, List, [], ◌∷◌, length, map}
use Rattle.ts_trees.specs.declared.procedure.Proc.{Proc}
use Rattle.ts_trees.specs.Tree.{Procedure}

-- the name of each procedure, with the number of its parameters
abbrev pub heads_of : List Proc → List (List ℕ × ℕ)
heads_of procs = map (λ p. (p.name.name, length p.params)) procs

-- how many parameters procedures have
abbrev pub parameter_count : List Procedure → ℕ
parameter_count [] = 0
parameter_count (p ∷ ps) = length p.params + parameter_count ps
