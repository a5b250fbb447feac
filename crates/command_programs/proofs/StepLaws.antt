-- The laws of the loop over a script's steps.
use Rattle.std.proofs.Common.{◌≡◌, inr, refl, true, false, Ok, Err, None, Some, [], ℕ, suc, ◌+◌, ◌<◌, ◌≤◌, Bool, List, ◌∷◌, ◌++◌, get_or, drop, length, option_to_list, Option, Result, sym, ◌∙◌, ap, subst, add-one, drop-cons}
use Rattle.vm_shape.specs.declared.description.Description.{Description}
use Rattle.mate_journal.specs.declared.program.Program.{Program}
use Rattle.command_refusals.specs.declared.refusal.Refusal.{Refusal}
use Rattle.command_refusals.specs.declared.refusal.Refusal.TheVariants.{NoMemory}
use Rattle.command_steps.specs.Parts.{Folder}
use Rattle.command_steps.specs.Steps.{Then, goes_on, stops, obtained, ◌▸◌}
use Rattle.command_programs.specs.Programs.{names_file, step_program, programs_after, script_programs, Owing}
use Rattle.script_steps.specs.Steps.{NodeScript}
use Rattle.script_steps.specs.declared.steps.Step.{Step}
use Rattle.script_steps.specs.declared.steps.Step.TheVariants as step
use Rattle.std.specs.Prelude.{All, IfSome, IsErrAnd}
use Rattle.std.proofs.lemmas.List.{append-nil, drop_all}
use Rattle.std.proofs.lemmas.List.Elements.{All-nil, All-cons, All-append}

-- at the step of a place, what it gives and what follows is what is left
pub at_step : (f : Folder) (d : Description) (fold : Bool) (script : NodeScript) (ps : List Program) (i : ℕ) (x y : Step) → i < length script.steps
    → x ≡ get_or script.steps i y → Owing f d fold script ps (drop i script.steps) → (answer : Result (List Program) Refusal)
    → Then (step_program f d fold script.files x) (λ o. programs_after f d fold script.files (ps ++ option_to_list o) (drop (i + 1) script.steps)) answer
    → script_programs f d fold script answer
at_step f d fold script ps i x y low is owing answer step =
    let e : drop i script.steps ≡ get_or script.steps i y ∷ drop (suc i) script.steps = drop-cons script.steps i y low in
    let h : x ∷ drop (i + 1) script.steps ≡ drop i script.steps =
    ap (λ (s : Step). s ∷ drop (i + 1) script.steps) is ∙ ap (λ (k : ℕ). get_or script.steps i y ∷ drop k script.steps) (add-one i) ∙ sym e in
    owing.owed answer (subst (λ (xs : List Step). programs_after f d fold script.files ps xs answer) h step)

-- past the last step, the programs are all
pub at_end : (f : Folder) (d : Description) (fold : Bool) (script : NodeScript) (ps : List Program) (i : ℕ) → length script.steps ≤ i → Owing f d fold script ps (drop i script.steps)
    → script_programs f d fold script (Ok ps)
at_end f d fold script ps i past owing =
    let nothing : drop i script.steps ≡ [] = drop_all i script.steps past in
    owing.owed (Ok ps) (subst (λ (l : List Step). programs_after f d fold script.files ps l (Ok ps)) (sym nothing) refl)

-- memory may be wanting at any step
pub step_wants : (f : Folder) (d : Description) (fold : Bool) (names : List (List ℕ)) (x : Step) → step_program f d fold names x (Err NoMemory)
step_wants f d fold names (step.Install h version k) = stops NoMemory (stops NoMemory (stops NoMemory (inr refl) refl) refl) refl
step_wants f d fold names (step.Load k) = stops NoMemory (stops NoMemory (stops NoMemory (inr refl) refl) refl) refl
step_wants f d fold names _ = refl

-- a step that names no file gives no program
pub gives-nothing : (f : Folder) (d : Description) (fold : Bool) (names : List (List ℕ)) (x : Step) → names_file x ≡ false → step_program f d fold names x (Ok None)
gives-nothing f d fold names (step.Install h version k) is = absurd (let e : true ≡ false = is in cc)
gives-nothing f d fold names (step.Load k) is = absurd (let e : true ≡ false = is in cc)
gives-nothing f d fold names _ is = refl

-- a step that names a program
abbrev pub named_program : (Result Program Refusal → Type 0) → Result (Option Program) Refusal → Type 0
named_program given = given ▸ λ p. obtained (λ o. o ≡ Some p)

-- it answers with its refusal, as a `?` does
pub gives-stops : (given : Result Program Refusal → Type 0) (e : Refusal) (answer : Result (Option Program) Refusal) → given (Err e) → IsErrAnd answer (λ y. y ≡ e) → named_program given answer
gives-stops given e (Ok o) h is = absurd is
gives-stops given e (Err r) h is = stops e h (ap (λ (x : Refusal). Err x) is)

-- it gives one
pub gives-one : (given : Result Program Refusal → Type 0) (p : Program) → named_program given (Ok (Some p)) → given (Ok p)
gives-one given p (goes_on q is same) = let e : q ≡ p = cc in subst (λ (x : Program). given (Ok x)) e is
gives-one given p (stops r is clash) = cc

pub gives-no_none : (given : Result Program Refusal → Type 0) → named_program given (Ok None) → ⊥
gives-no_none given (goes_on q is same) = cc
gives-no_none given (stops r is clash) = cc

-- one more, if there is one
pub All-with : {A : Type 0} (P : A → Type 0) (xs : List A) (o : Option A) → All P xs → IfSome o P → All P (xs ++ option_to_list o)
All-with P xs None all one = subst (All P) (sym (append-nil xs)) all
All-with P xs (Some x) all one = All-append P xs (x ∷ []) all (All-cons P x [] one (All-nil P))
