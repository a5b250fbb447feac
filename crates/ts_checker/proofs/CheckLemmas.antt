-- Checks one after another.
use Rattle.std.proofs.Common.{◌≡◌, Bool, true, false, Option, Some, None, Result, Ok, Err, refl, sym, ap, ◌∙◌}
use Rattle.std.specs.Prelude.{IfOk, IsErrAnd, MatchResult, ok_or}
use Rattle.ts_checker.specs.declared.fault.CheckFault.{CheckFault}
use Rattle.mate_num.specs.Results.{◌>>=◌}
use Rattle.ts_checker.specs.Refusal.{unless_refused}

-- what holds of all that a check gives, by what holds of what the check before it gives
pub bind_keeps : {A B : Type 0} (P : A → Type 0) (Q : B → Type 0) (r : Result A CheckFault) (next : A → Result B CheckFault)
    → IfOk r P → ((x : A) → P x → IfOk (next x) Q) → IfOk (r >>= next) Q
bind_keeps P Q (Ok x) next here go = go x here
bind_keeps P Q (Err e) next here go = tt

-- what a test that was demanded says
pub demand_holds : (b : Bool) (e : CheckFault) → IfOk (unless_refused b e) (λ _. b ≡ true)
demand_holds true e = refl
demand_holds false e = tt

-- what a look-up that was demanded found
pub ok_or_found : {A : Type 0} (o : Option A) (e : CheckFault) → IfOk (ok_or o e) (λ x. o ≡ Some x)
ok_or_found None e = tt
ok_or_found (Some x) e = refl

-- what is returned where a part of a check refused
pub refuses_with : {A B : Type 0} (P : A → Type 0) (e : CheckFault) (result : Result A CheckFault) (check : Result B CheckFault)
    → IsErrAnd result (λ y. y ≡ e) → check ≡ Err e → MatchResult result P (λ y. check ≡ Err y)
refuses_with P e (Ok x) check is h = absurd is
refuses_with P e (Err y) check is h = h ∙ ap Err (sym is)
