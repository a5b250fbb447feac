-- The programs of a script's steps are those of its lines.
use Rattle.std.proofs.Common.{◌≡◌, ℕ, ◌+◌, Bool, List, [], ◌∷◌, ◌++◌, length, Option, Some, None, option_to_list, Ok, refl, sym, ◌∙◌, ap, subst}
use Rattle.std.specs.Prelude.{All, IsSome, IsNone, IsSomeAnd, slice_get}
use Rattle.std.proofs.lemmas.List.{append-nil, append_assoc, length_push}
use Rattle.std.proofs.lemmas.List.Elements.{All-nil, All-cons}
use Rattle.ts_checked.specs.Statement.{Block}
use Rattle.ts_checker.specs.Accepted.{IsAccepted}
use Rattle.capsule_codec.specs.Image.{CapsuleParts}
use Rattle.mate_code.specs.Run.{Code}
use Rattle.command_steps.specs.SourceCode.{IsCompiledOf}
use Rattle.command_steps.specs.declared.code.CompiledScript.{CompiledScript}
use Rattle.vm_shape.specs.Shapes.{shape_of}
use Rattle.vm_shape.specs.declared.description.Description.{Description}
use Rattle.mate_journal.specs.declared.program.Program.{Program}
use Rattle.command_steps.specs.CapsuleFiles.{capsule}
use Rattle.command_steps.proofs.CapsuleLemmas.{SpelledSteps, spelled-steps}
use Rattle.command_steps.specs.Parts.{Folder}
use Rattle.command_steps.specs.Sources.{source}
use Rattle.command_steps.specs.Steps.{goes_on, stops}
use Rattle.node_programs.specs.ScriptSteps.{IsProgramOf}
use Rattle.command_programs.specs.Numbers.{file_of, NamesNext, IsNumbered}
use Rattle.command_programs.specs.Programs.{installed, loaded, name_at, step_program, programs_after}
use Rattle.command_programs.proofs.StepLaws.{gives-one, gives-no_none}
use Rattle.script_steps.specs.declared.steps.Step.{Step}
use Rattle.script_steps.specs.declared.steps.Step.TheVariants as step

-- ---- what a file gives

-- a source that has code has a tree, which its bytes mean
pub record HasTree (d : Description) (fold : Bool) (c : CompiledScript) : Type 0 where
  pub bytes : List ℕ
  pub tree : Block
  pub accepted : IsAccepted d bytes tree
  pub compiled : IsCompiledOf (shape_of d) fold tree c

pub source-tree : (f : Folder) (d : Description) (fold : Bool) (name : List ℕ) (c : CompiledScript) → source f d fold name (Ok c) → HasTree d fold c
source-tree f d fold name c (goes_on bytes read (goes_on tree accepted is)) = record { bytes = bytes.items; tree = tree; accepted = accepted; compiled = is }
source-tree f d fold name c (goes_on bytes read (stops r is_refused is)) = cc
source-tree f d fold name c (stops r unread is) = cc

-- a capsule stands in a text
pub capsule-text : (f : Folder) (d : Description) (name : List ℕ) (x : CapsuleParts × Code) → capsule f d name (Ok x) → (text : List ℕ) × SpelledSteps d text x
capsule-text f d name x (goes_on bytes read is) = (bytes.items, spelled-steps d bytes.items x is)
capsule-text f d name x (stops r unread is) = cc

-- ---- steps

-- this is the program that the step names, if it names one
abbrev IsOfStep : Step → Option Program → Type 0
IsOfStep x None = (file_of x ≡ None) × ((ps : List Program) → IsProgramOf ps x)
IsOfStep x (Some p) = (k : ℕ) × (file_of x ≡ Some k) × ((ps : List Program) → slice_get ps k ≡ Some p → IsProgramOf ps x)

step-is : (f : Folder) (d : Description) (fold : Bool) (names : List (List ℕ)) (x : Step) (o : Option Program) → step_program f d fold names x (Ok o) → IsOfStep x o
step-is f d fold names (step.Install h version k) (Some p) given = by (gives-one (installed f d fold h version (name_at names k)) p given) where
  by : installed f d fold h version (name_at names k) (Ok p) → IsOfStep (step.Install h version k) (Some p)
  by (goes_on c compiled is) = (
    k,
    refl,
    λ ps at. subst (λ (q : Option Program). IsSomeAnd q (λ p. IsSome p.source × (p.handler ≡ h) × (p.version ≡ version))) (sym at)
        (subst (λ (s : _). IsSome s) (sym is.source) refl, is.handler, is.version_is),
  )
  by (stops r refused is) = cc
step-is f d fold names (step.Install h version k) None given = absurd (gives-no_none (installed f d fold h version (name_at names k)) given)
step-is f d fold names (step.Load k) (Some p) given = by (gives-one (loaded f d (name_at names k)) p given) where
  by : loaded f d (name_at names k) (Ok p) → IsOfStep (step.Load k) (Some p)
  by (goes_on c spelled is) =
      (k, refl, λ ps at. subst (λ (q : Option Program). IsSomeAnd q (λ p. IsNone p.source)) (sym at) (subst (λ (s : _). IsNone s) (sym is.source) refl))
  by (stops r refused is) = cc
step-is f d fold names (step.Load k) None given = absurd (gives-no_none (loaded f d (name_at names k)) given)
step-is f d fold names (step.Post h payload) None given = (refl, λ ps. tt)
step-is f d fold names (step.Post h payload) (Some p) given = cc
step-is f d fold names (step.Step ctx n) None given = (refl, λ ps. tt)
step-is f d fold names (step.Step ctx n) (Some p) given = cc
step-is f d fold names step.Run None given = (refl, λ ps. tt)
step-is f d fold names step.Run (Some p) given = cc
step-is f d fold names (step.Answer ctx value) None given = (refl, λ ps. tt)
step-is f d fold names (step.Answer ctx value) (Some p) given = cc
step-is f d fold names step.Show None given = (refl, λ ps. tt)
step-is f d fold names step.Show (Some p) given = cc
step-is f d fold names step.Reset None given = (refl, λ ps. tt)
step-is f d fold names step.Reset (Some p) given = cc

slice_get-seam : {A : Type 0} (xs : List A) (y : A) (ys : List A) → slice_get (xs ++ y ∷ ys) (length xs) ≡ Some y
slice_get-seam [] y ys = refl
slice_get-seam (x ∷ xs) y ys = slice_get-seam xs y ys

-- the programs of steps behind others
pub record AreMade (done : List Program) (steps : List Step) (total : ℕ) (ps : List Program) : Type 0 where
  pub more : List Program
  pub is : ps ≡ done ++ more
  pub each : All (IsProgramOf ps) steps
  pub count : length ps ≡ total

pub are_made : (f : Folder) (d : Description) (fold : Bool) (names : List (List ℕ)) (done : List Program) (steps : List Step) (total : ℕ) (ps : List Program)
    → IsNumbered (length done) steps total → programs_after f d fold names done steps (Ok ps) → AreMade done steps total ps
are_made f d fold names done [] total ps numbered is =
    record { more = []; is = is ∙ sym (append-nil done); each = All-nil (IsProgramOf ps); count = ap (λ (l : List Program). length l) is ∙ numbered }
are_made f d fold names done (x ∷ xs) total ps numbered (stops r refused is) = cc
are_made f d fold names done (x ∷ xs) total ps numbered (goes_on o step rest) =
    by o (step-is f d fold names x o step) rest (λ before. are_made f d fold names before xs total ps)
  where
    by : (o : Option Program) → IsOfStep x o → programs_after f d fold names (done ++ option_to_list o) xs (Ok ps)
        → ((before : List Program) → IsNumbered (length before) xs total → programs_after f d fold names before xs (Ok ps) → AreMade before xs total ps) → AreMade done (x ∷ xs) total ps
    by None is rest later =
        let left : IsNumbered (length done) xs total = subst (λ (q : Option ℕ). NamesNext q (length done) (λ m. IsNumbered m xs total)) is.0 numbered in
        let made = later done left (subst (λ (l : List Program). programs_after f d fold names l xs (Ok ps)) (append-nil done) rest) in
        record { more = made.more; is = made.is; each = All-cons (IsProgramOf ps) x xs (is.1 ps) made.each; count = made.count }
    by (Some p) is rest later =
        let left : (is.0 ≡ length done) × IsNumbered (length done + 1) xs total = subst (λ (q : Option ℕ). NamesNext q (length done) (λ m. IsNumbered m xs total)) is.1 numbered in
        let made = later (done ++ p ∷ []) (subst (λ (n : ℕ). IsNumbered n xs total) (sym (length_push done p)) left.1) rest in
        let whole : ps ≡ done ++ p ∷ made.more = made.is ∙ append_assoc done (p ∷ []) made.more in
        let at : slice_get ps is.0 ≡ Some p =
        ap (λ (k : ℕ). slice_get ps k) left.0 ∙ ap (λ (l : List Program). slice_get l (length done)) whole ∙ slice_get-seam done p made.more in
        record { more = p ∷ made.more; is = whole; each = All-cons (IsProgramOf ps) x xs (is.2 ps at) made.each; count = made.count }
