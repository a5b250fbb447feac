-- A machine that was boxed, and facts of files as they are later at its description.
use Rattle.std.proofs.Common.{◌≡◌, inl, inr, ℕ, Bool, List, Option, Result, Ok, Err, refl, sym, subst}
use Rattle.mate_files.specs.Files.{Names}
use Rattle.vm_shape.specs.declared.description.Description.{Description}
use Rattle.command_refusals.specs.declared.refusal.Refusal.{Refusal}
use Rattle.command_refusals.specs.declared.refusal.Refusal.TheVariants.{NoMemory}
use Rattle.command_steps.specs.Parts.{Folder, ReadsFiles, machine}
use Rattle.command_steps.specs.Steps.{stops}
use Rattle.command_steps.proofs.Laws.{moved}

-- the same machine is the word's
pub machine-same : (f : Folder) (word : List ℕ) (d e : Description) → machine f word (Ok d) → e ≡ d → machine f word (Ok e)
machine-same f word d e is same = subst (λ (x : Description). machine f word (Ok x)) (sym same) is

-- memory may be wanting for it
pub machine-wanting : (f : Folder) (word : List ℕ) (d : Description) → machine f word (Ok d) → machine f word (Err NoMemory)
machine-wanting f word d (inl is) = inl (is.0, refl)
machine-wanting f word d (inr is) = inr (is.0, stops NoMemory (inr refl) refl)

-- a fact at this description, of the files as they are later, is one at the machine, of the files as they were
pub at_machine : {A : Type 0} {told told' : Option Names} {steady steady' : Bool} {n n' : ℕ} {answer : Result A Refusal} (P : Folder → Description → Type 0) (d e : Description) → e ≡ d
    → ReadsFiles told steady n told' steady' n' answer → P (record { told = told'; steady = steady' }) e → P (record { told = told; steady = steady }) d
at_machine {told' = told'} {steady' = steady'} P d e same reads p =
    moved (λ f. P f d) reads (subst (λ (x : Description). P (record { told = told'; steady = steady' }) x) same p)
