-- Node scripts of one or two lines that name files.
use Rattle.std.specs.Prelude.{ℕ, List, [], ◌∷◌}
use Rattle.script_steps.specs.Steps.{NodeScript}
use Rattle.script_steps.specs.declared.steps.Step.TheVariants.{Install, Load}

-- `install` of the first handler, as version 1
abbrev pub installing : List ℕ → NodeScript
installing name = record { steps = Install (record { 0 = 0 }) 1 0 ∷ []; files = name ∷ [] }

-- and of another file as version 2
abbrev pub installing_two : List ℕ → List ℕ → NodeScript
installing_two first second = record {
  steps = Install (record { 0 = 0 }) 1 0 ∷ Install (record { 0 = 0 }) 2 1 ∷ [];
  files = first
      ∷ second ∷ [];
}

-- `load`
abbrev pub loading : List ℕ → NodeScript
loading name = record { steps = Load 0 ∷ []; files = name ∷ [] }
