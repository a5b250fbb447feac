-- Lists of different lengths aren't the same.
use Rattle.std.proofs.Common.{◌≡◌, ℤ, Bool, true, false, List, length, refl, ap}
use Rattle.std.specs.Prelude.{Decides}
use Rattle.mate_num.specs.declared.call.Call.{Call}
use Rattle.audit_rules.specs.Same.{same_values, same_calls}
use Rattle.audit_rules.proofs.SameLemmas.{values-Decides, calls-Decides}

refuted : {P : Type 0} (b : Bool) → Decides b P → (P → ⊥) → false ≡ b
refuted true told never = absurd (never (told.0 refl))
refuted false told never = refl

pub values-longer : (xs ys : List ℤ) → (length xs ≡ length ys → ⊥) → false ≡ same_values xs ys
values-longer xs ys differ = refuted (same_values xs ys) (values-Decides xs ys) (λ same. differ (ap (λ (zs : List ℤ). length zs) same))

pub calls-longer : (xs ys : List Call) → (length xs ≡ length ys → ⊥) → false ≡ same_calls xs ys
calls-longer xs ys differ = refuted (same_calls xs ys) (calls-Decides xs ys) (λ same. differ (ap (λ (zs : List Call). length zs) same))
