-- The laws of steps that proofs of commands cite.
use Rattle.std.proofs.Common.{◌≡◌, ◌⊎◌, inl, inr, ℕ, Bool, List, Option, Result, Ok, Err, sym, ap, subst, ◌∙◌, arith}
use Rattle.std.specs.Prelude.{IsErrAnd}
use Rattle.command_steps.specs.Steps.{Then, stops}
use Rattle.command_steps.specs.Parts.{Folder, ReadsFiles, IsUnreadCause, IsUnreadAnswer}
use Rattle.mate_files.specs.Files.{Names}
use Rattle.mate_files.proofs.SinkLemmas.{Rose-after}
use Rattle.command_refusals.specs.declared.refusal.Refusal.{Refusal}
use Rattle.command_refusals.specs.declared.cause.Cause.{Cause}
use Rattle.command_refusals.specs.declared.refusal.Refusal.TheVariants.{Usage, BadDescription, BadScript, InFile, BadStream, Refuted, LogFull, SinkFault, NoMemory}

-- a step that gives a refusal ends the command with it, as a `?` does
pub stops_by : {A B : Type 0} {step : Result A Refusal → Type 0} {next : A → Result B Refusal → Type 0} (r : Refusal) (answer : Result B Refusal)
    → step (Err r) → IsErrAnd answer (λ y. y ≡ r) → Then step next answer
stops_by r (Ok b) refused is = absurd is
stops_by r (Err y) refused is = stops r refused (ap Err is)

-- a fact of the files as they are later is a fact of them as they were
pub moved : {A : Type 0} {told told' : Option Names} {steady steady' : Bool} {n n' : ℕ} {answer : Result A Refusal} (P : Folder → Type 0)
    → ReadsFiles told steady n told' steady' n' answer → P (record { told = told'; steady = steady' }) → P (record { told = told; steady = steady })
moved {told} {steady} {steady' = steady'} P r p =
    subst (λ (s : Bool). P (record { told = told; steady = s })) r.same_steady
    (subst (λ (t : Option Names). P (record { told = t; steady = steady' })) r.same_told p)

-- a test that fails is the refusal, or memory is wanting for it
pub fails_as : {E : Type 0} {IsNot : E → Type 0} {refusal : E → Refusal} (e : E) (r : Refusal) → IsNot e → (r ≡ refusal e) ⊎ (r ≡ NoMemory)
    → ((e : E) × IsNot e × (r ≡ refusal e)) ⊎ (r ≡ NoMemory)
fails_as e r fails (inl is) = inl (e, fails, is)
fails_as e r fails (inr is) = inr is

-- ---- what calls leave of files

-- a refusal tells of a file that can't be read or doesn't, whatever was wanted
pub unread-as : (A B : Type 0) (r : Refusal) → IsUnreadAnswer {A = A} (Err r) → IsUnreadAnswer {A = B} (Err r)
unread-as A B Usage unread = unread
unread-as A B (BadDescription why) unread = unread
unread-as A B (BadScript line why) unread = unread
unread-as A B (InFile name why) unread = unread
unread-as A B (BadStream place) unread = unread
unread-as A B (Refuted why) unread = unread
unread-as A B LogFull unread = unread
unread-as A B SinkFault unread = unread
unread-as A B NoMemory unread = unread

-- a refusal of a file for another cause
pub told-read : (A : Type 0) (name : List ℕ) (why : Cause) (r : Refusal) → (r ≡ InFile name why) ⊎ (r ≡ NoMemory) → (IsUnreadCause why → ⊥) → IsUnreadAnswer {A = A} (Err r) → ⊥
told-read A name why r (inl is) other unread = let P : Refusal → Type 0 = λ y. IsUnreadAnswer {A = A} (Err y) in other (subst P is unread)
told-read A name why r (inr wants) other unread = let P : Refusal → Type 0 = λ y. IsUnreadAnswer {A = A} (Err y) in subst P wants unread

pub judged-read : (A : Type 0) {E : Type 0} {IsNot : E → Type 0} (name : List ℕ) (told : E → Cause) (r : Refusal) → ((e : E) × IsNot e × (r ≡ InFile name (told e))) ⊎ (r ≡ NoMemory)
    → ((e : E) → IsUnreadCause (told e) → ⊥) → IsUnreadAnswer {A = A} (Err r) → ⊥
judged-read A name told r (inl x) other unread = told-read A name (told x.0) r (inl x.2) (other x.0) unread
judged-read A name told r (inr wants) other unread = let P : Refusal → Type 0 = λ y. IsUnreadAnswer {A = A} (Err y) in subst P wants unread

-- an answer that doesn't tell of a file
pub reads-as : {A B : Type 0} {told told' : Option Names} {steady steady' : Bool} {n n' : ℕ} {x : Result A Refusal} {y : Result B Refusal}
    → ReadsFiles told steady n told' steady' n' x → (IsUnreadAnswer y → ⊥) → ReadsFiles told steady n told' steady' n' y
reads-as r never = record { same_told = r.same_told; same_steady = r.same_steady; later = r.later; counted = λ unread. absurd (never unread) }

-- the answer of a `?`
pub reads-err : {A B : Type 0} {told told' : Option Names} {steady steady' : Bool} {n n' : ℕ} (r : Refusal) (answer : Result B Refusal)
    → ReadsFiles {A = A} told steady n told' steady' n' (Err r) → IsErrAnd answer (λ y. y ≡ r) → ReadsFiles told steady n told' steady' n' answer
reads-err r (Ok b) reads is = absurd is
reads-err {A} {B} {told} {told' = told'} {steady} {steady' = steady'} {n} {n' = n'} r (Err y) reads is =
    let P : Refusal → Type 0 = λ z. ReadsFiles {A = B} told steady n told' steady' n' (Err z) in
    subst P (sym is) (record { same_told = reads.same_told; same_steady = reads.same_steady; later = reads.later; counted = λ unread. reads.counted (unread-as B A r unread) })

-- a call after another one
pub reads-then : {A B : Type 0} {told told' told'' : Option Names} {steady steady' steady'' : Bool} {n n' n'' : ℕ} {x : Result A Refusal} {y : Result B Refusal}
    → ReadsFiles told steady n told' steady' n' x → ReadsFiles told' steady' n' told'' steady'' n'' y → ReadsFiles told steady n told'' steady'' n'' y
reads-then {n} {n' = n'} {n'' = n''} f g = record {
  same_told = g.same_told ∙ f.same_told;
  same_steady = g.same_steady ∙ f.same_steady;
  later = let p = f.later in let q = g.later in omega (arith, p, q);
  counted = λ unread. Rose-after n n' n'' f.later (g.counted unread);
}
