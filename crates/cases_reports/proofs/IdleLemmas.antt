-- A script that only turns an idle context can be run with no programs.
use Rattle.std.proofs.Common.{◌≡◌, ℕ, ◌≤◌, List, [], ◌∷◌, ◌++◌, length, get_or, All, sym, ap, subst, arith, ◌∙◌}
use Rattle.std.specs.Prelude.{AllPairs}
use Rattle.std.proofs.lemmas.List.Elements.{All-push}
use Rattle.vm_shape.specs.declared.description.Description.{Description}
use Rattle.vm_shape.specs.Whole.{context_count}
use Rattle.script_steps.specs.declared.steps.Step.{Step}
use Rattle.script_steps.specs.declared.steps.Step.TheVariants as step
use Rattle.script_steps.specs.Steps.{NodeScript, IsRightStep, Rises}
use Rattle.node_programs.specs.ScriptSteps.{IsProgramOf, AreProgramsOf}
use Rattle.cases_reports.specs.Idle.{IsIdleStep, IsIdleScript}

idle-right : (d : Description) → 1 ≤ context_count d → (s : Step) → IsIdleStep s → IsRightStep d 0 s
idle-right d some (step.Step ctx n) is = let a = is.0 in let b = is.1 in record { context_high = omega arith; low = omega arith; high = omega arith }
idle-right d some step.Show is = tt
idle-right d some _ is = absurd is

idle-program : (s : Step) → IsIdleStep s → IsProgramOf [] s
idle-program (step.Step ctx n) is = tt
idle-program step.Show is = tt
idle-program _ is = absurd is

idle-rises : (s : Step) → IsIdleStep s → (later : Step) → Rises s later
idle-rises (step.Step ctx n) is later = tt
idle-rises step.Show is later = tt
idle-rises _ is later = absurd is

all-idle : (P : Step → Type 0) → ((s : Step) → IsIdleStep s → P s) → (steps : List Step) → All IsIdleStep steps → All P steps
all-idle P by steps are = λ k d small. by (get_or steps k d) (are k d small)

all-rise : (steps : List Step) → All IsIdleStep steps → AllPairs Rises steps
all-rise steps are = λ i j d before small. idle-rises (get_or steps i d) (are i d (omega arith)) (get_or steps j d)

pub idle_programs : (d : Description) → 1 ≤ context_count d → (script : NodeScript) → IsIdleScript script → AreProgramsOf d script []
idle_programs d some script idle =
    let P : List (List ℕ) → Type 0 = λ files. All (IsRightStep d (length files)) script.steps in
    record {
      steps = record { each = subst P (sym idle.files) (all-idle (IsRightStep d 0) (idle-right d some) script.steps idle.each); rising = all-rise script.steps idle.each };
      programs = λ k p small. absurd (omega arith);
      count = ap length (sym idle.files);
      each = all-idle (IsProgramOf []) idle-program script.steps idle.each;
    }

pub idle_pushed : (old next : NodeScript) (s : Step) → IsIdleScript old → IsIdleStep s → next.steps ≡ old.steps ++ s ∷ [] → next.files ≡ old.files → IsIdleScript next
idle_pushed old next s idle is steps files =
    let P : List Step → Type 0 = λ l. All IsIdleStep l in
    record { files = files ∙ idle.files; each = subst P (sym steps) (All-push IsIdleStep old.steps s idle.each is) }
