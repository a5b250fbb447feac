-- What the procedures of a script give, each by those declared before it.
use Rattle.std.specs.Prelude.{ℕ, List, [], ◌∷◌, ◌++◌}
use Rattle.ts_trees.specs.Tree.{Procedure}

-- what each procedure gives, beside its name, after what is known before
abbrev pub declared_in_order : {A : Type 0} → (List (List ℕ × A) → Procedure → A) → List (List ℕ × A) → List Procedure → List (List ℕ × A)
declared_in_order given known [] = known
declared_in_order given known (p ∷ ps) = declared_in_order given (known ++ (p.name.name, given known p) ∷ []) ps
