-- What has one answer, unless memory runs out, if the files are steady.
use Rattle.std.specs.Prelude.{◌≡◌, Some, true, Result, Ok, Err, ◌⊎◌}
use Rattle.mate_files.specs.Files.{Names}
use Rattle.command_steps.specs.Parts.{Folder}
use Rattle.command_refusals.specs.declared.refusal.Refusal.{Refusal}
use Rattle.command_refusals.specs.declared.refusal.Refusal.TheVariants.{NoMemory}

-- two answers are the same, unless memory runs out
abbrev pub Alike : {A : Type 0} → (A → A → Type 0) → Result A Refusal → Result A Refusal → Type 0
Alike R (Ok a) (Ok b) = R a b
Alike R (Ok a) (Err r) = r ≡ NoMemory
Alike R (Err r) (Ok b) = r ≡ NoMemory
Alike R (Err r) (Err t) = (r ≡ t) ⊎ (r ≡ NoMemory) ⊎ (t ≡ NoMemory)

-- what one step may answer is alike what another may
abbrev pub AnswersAgree : {A : Type 0} → (A → A → Type 0) → (Result A Refusal → Type 0) → (Result A Refusal → Type 0) → Type 0
AnswersAgree {A} R p q = (x y : Result A Refusal) → p x → q y → Alike R x y

-- what the files hold is given, and they fail by that alone
abbrev pub steady : Names → Folder
steady names = record { told = Some names; steady = true }
