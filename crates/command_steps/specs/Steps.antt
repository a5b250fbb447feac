-- A command is its steps, in the order in which it refuses.
use Rattle.std.specs.Prelude.{◌≡◌, Result, Ok, Err, ◌⊎◌}
use Rattle.command_refusals.specs.declared.refusal.Refusal.{Refusal}
use Rattle.command_refusals.specs.declared.refusal.Refusal.TheVariants.{NoMemory}

-- a value for which this holds; or memory runs out
abbrev pub obtained : {A : Type 0} → (A → Type 0) → Result A Refusal → Type 0
obtained Is (Ok a) = Is a
obtained Is (Err r) = r ≡ NoMemory

-- a value for which the test holds; or why it fails, which is the refusal; or memory runs out
abbrev pub judged : {A E : Type 0} → (A → Type 0) → (E → Type 0) → (E → Refusal) → Result A Refusal → Type 0
judged Is IsNot refusal (Ok a) = Is a
judged {E} Is IsNot refusal (Err r) = ((e : E) × IsNot e × (r ≡ refusal e)) ⊎ (r ≡ NoMemory)

-- a step gives a value, and the answer is that of the steps after it; or it gives a refusal, and that is the answer
pub data Then {A B : Type 0} (step : Result A Refusal → Type 0) (next : A → Result B Refusal
    → Type 0) (answer : Result B Refusal) : Type 0 where
  goes_on : (a : A) → step (Ok a) → next a answer → Then step next answer
  stops : (r : Refusal) → step (Err r) → answer ≡ Err r → Then step next answer

infixr 1 ◌▸◌
abbrev pub ◌▸◌ : {A B : Type 0} → (Result A Refusal → Type 0) → (A → Result B Refusal → Type 0) → Result B Refusal → Type 0
(step ▸ next) answer = Then step next answer
