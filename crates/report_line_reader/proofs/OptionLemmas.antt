-- What an answer shows of the steps that gave it.
use Rattle.std.proofs.Common.{◌≡◌, ℕ, ◌<◌, Bool, true, false, cond, nat_lt, Option, Some, None, refl}
use Rattle.std.specs.Option.{option_and_then}
use Rattle.std.proofs.lemmas.Bool.{ltb-true}

-- a step of a chain gave a value, and the rest of the chain the answer
pub record Steps {A B : Type 0} (f : A → Option B) (o : Option A) (b : B) : Type 0 where
  pub step : A
  pub was : o ≡ Some step
  pub gives : f step ≡ Some b

pub steps : {A B : Type 0} (f : A → Option B) (o : Option A) (b : B) → option_and_then f o ≡ Some b → Steps f o b
steps f None b h = absurd cc
steps f (Some a) b h = record { step = a; was = refl; gives = h }

-- a value came where a test held
pub when_some : {A : Type 0} (test : Bool) (o : Option A) (a : A) → cond test o None ≡ Some a → (test ≡ true) × (o ≡ Some a)
when_some true o a h = (refl, h)
when_some false o a h = absurd cc

pub below_some : (n limit m : ℕ) → cond (nat_lt n limit) (Some n) None ≡ Some m → (n < limit) × (n ≡ m)
below_some n limit m h =
    let parts = when_some (nat_lt n limit) (Some n) m h in
    (ltb-true n limit parts.0, cc (parts.1))
