-- The steps that name files name them in order, each file once.
use Rattle.std.specs.Prelude.{◌≡◌, ℕ, ◌+◌, List, [], ◌∷◌, length, Option, Some, None}
use Rattle.script_steps.specs.Steps.{NodeScript}
use Rattle.script_steps.specs.declared.steps.Step.{Step}
use Rattle.script_steps.specs.declared.steps.Step.TheVariants as step

-- the position of the file that a step names
abbrev pub file_of : Step → Option ℕ
file_of (step.Install handler version program) = Some program
file_of (step.Load program) = Some program
file_of _ = None

-- a step after n files names the next one, or none; and this holds of the number of files then
abbrev pub NamesNext : Option ℕ → ℕ → (ℕ → Type 0) → Type 0
NamesNext None n Then = Then n
NamesNext (Some k) n Then = (k ≡ n) × Then (n + 1)

-- after n files, the steps name the files from the n-th on, and the number of files is `total` at the end
abbrev pub IsNumbered : ℕ → List Step → ℕ → Type 0
IsNumbered n [] total = n ≡ total
IsNumbered n (x ∷ xs) total = NamesNext (file_of x) n (λ m. IsNumbered m xs total)

-- a script names its files in order
abbrev pub NamesInOrder : NodeScript → Type 0
NamesInOrder script = IsNumbered 0 script.steps (length script.files)
