-- What holds for a fault holds for its cause; and a refusal is the same of the script and of its expansion.
use Rattle.std.proofs.Common.{◌≡◌, ◌⊎◌, inl, inr, ℕ, List, Result, Ok, Err, subst}
use Rattle.std.specs.Prelude.{IsErrAnd}
use Rattle.ts_proc_names.specs.declared.named.PScript.{PScript}
use Rattle.ts_proc_names.specs.declared.fault.ProcFault.{ProcFault}
use Rattle.command_refusals.specs.ExpansionCauses.{expansion_fault}
use Rattle.command_refusals.specs.declared.cause.Cause.TheVariants as cause
use Rattle.command_refusals.specs.declared.expansion_cause.ExpansionCause.{ExpansionCause}
use Rattle.command_refusals.specs.declared.refusal.Refusal.{Refusal}
use Rattle.command_refusals.specs.declared.refusal.Refusal.TheVariants.{InFile, NoMemory}
use Rattle.command_steps.specs.Expansions.{RefusesExpansion, expansion_in}

pub told_as : (P : ProcFault → Type 0) (name : List ℕ) (fault : ProcFault) (r : Refusal) → P fault → RefusesExpansion name fault r
    → ((why : ExpansionCause) × P (expansion_fault why) × (r ≡ InFile name (cause.Expansion why))) ⊎ (r ≡ NoMemory)
told_as P name fault r p (inl x) = inl (x.0, subst P x.1 p, x.2)
told_as P name fault r p (inr is) = inr is

pub refused_in : (r : Refusal) (result : Result PScript Refusal) → IsErrAnd result (λ y. y ≡ r) → IsErrAnd (expansion_in result) (λ y. y ≡ r)
refused_in r (Ok s) is = absurd is
refused_in r (Err y) is = is
