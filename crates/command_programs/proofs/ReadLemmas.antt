-- What the answers of calls that read files say.
use Rattle.std.proofs.Common.{◌≡◌, ◌∙◌, ℕ, List, Result, Ok, Err, subst, inl, inr}
use Rattle.std.specs.Prelude.{IsErrAnd, IfOk}
use Rattle.command_refusals.specs.declared.refusal.Refusal.{Refusal}
use Rattle.command_steps.specs.Parts.{IsUnreadAnswer}
use Rattle.command_steps.specs.Steps.{obtained}
use Rattle.command_programs.specs.Scripts.{script_text}
use Rattle.script_steps.specs.Steps.{NodeScript}
use Rattle.vm_shape.specs.declared.description.Description.{Description}

-- what is asked of a value is not asked of a refusal
pub if-err : {A : Type 0} (P : A → Type 0) (r : Refusal) (answer : Result A Refusal) → IsErrAnd answer (λ y. y ≡ r) → IfOk answer P
if-err P r (Ok a) is = absurd is
if-err P r (Err y) is = tt

-- a `?` hands on want of memory
pub obtained-stops : {A B : Type 0} (P : A → Type 0) (Q : B → Type 0) (r : Refusal) (answer : Result B Refusal) → obtained P (Err r) → IsErrAnd answer (λ y. y ≡ r) → obtained Q answer
obtained-stops P Q r (Ok b) wants is = absurd is
obtained-stops P Q r (Err y) wants is = is ∙ wants

-- what is obtained is something else too
pub obtained-weaker : {A : Type 0} (P Q : A → Type 0) (answer : Result A Refusal) → ((a : A) → P a → Q a) → obtained P answer → obtained Q answer
obtained-weaker P Q (Ok a) then is = then a is
obtained-weaker P Q (Err r) then wants = wants

-- want of memory is no file that can't be read
pub obtained-read : {A : Type 0} (P : A → Type 0) (answer : Result A Refusal) → obtained P answer → IsUnreadAnswer answer → ⊥
obtained-read P (Ok a) is unread = unread
obtained-read {A} P (Err r) wants unread = let Q : Refusal → Type 0 = λ y. IsUnreadAnswer {A = A} (Err y) in subst Q wants unread

-- a script is no answer that a file can't be read
pub script-read : (d : Description) (bytes : List ℕ) (answer : Result NodeScript Refusal) → script_text d bytes answer → IsUnreadAnswer answer → ⊥
script-read d bytes (Ok s) text unread = unread
script-read d bytes (Err r) (inl why) unread = let P : Refusal → Type 0 = λ y. IsUnreadAnswer {A = NodeScript} (Err y) in subst P why.2 unread
script-read d bytes (Err r) (inr wants) unread = let P : Refusal → Type 0 = λ y. IsUnreadAnswer {A = NodeScript} (Err y) in subst P wants unread
