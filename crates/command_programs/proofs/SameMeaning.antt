-- The same programs make the same steps of a script, and mean the same.
use Rattle.std.proofs.Common.{◌≡◌, ℕ, zero, suc, ◌==◌, Bool, true, false, List, [], ◌∷◌, map, Option, Some, None, refl, ◌∙◌, ap}
use Rattle.std.specs.Prelude.{ℤ, ◌&&◌, if◌then◌else◌}
use Rattle.std.specs.Str.{bytes_eq}
use Rattle.arrayvec.specs.ArrayVec.{ArrayVec}
use Rattle.mate_num.specs.declared.id.HandlerId.{HandlerId}
use Rattle.mate_num.specs.declared.shape.Shape.{Shape}
use Rattle.mate_num.specs.declared.store.Store.{Store}
use Rattle.ts_semantics.specs.Meaning.{run_of}
use Rattle.ts_semantics.specs.Uses.{script_uses}
use Rattle.ts_checked.specs.Statement.{Block}
use Rattle.ts_checked.specs.Checked.{ScriptTree}
use Rattle.mate_journal.specs.Machine.{HeldProgram}
use Rattle.mate_journal.specs.declared.program.Program.{Program}
use Rattle.node_programs.specs.Sources.{held_as, is_held_as, source_in, run_from, uses_from, meaning_by}
use Rattle.node_programs.specs.ScriptSteps.{program_at, step_of, steps_of}
use Rattle.mate_journal.specs.NodeScript as node
use Rattle.script_steps.specs.Steps.{NodeScript}
use Rattle.script_steps.specs.declared.steps.Step.{Step}
use Rattle.script_steps.specs.declared.steps.Step.TheVariants as step
use Rattle.vm_shape.specs.Shapes.{shape_of}
use Rattle.vm_shape.specs.declared.description.Description.{Description}
use Rattle.command_programs.specs.SamePrograms.{SameSource, SameProgram, SamePrograms}

-- functions with the same values are the same
same_at : {A B : Type 0} (f g : A → B) → ((x : A) → f x ≡ g x) → f ≡ g
same_at f g each = λ i. λ x. each x i

-- ---- steps

held-same : (p q : Program) → SameProgram p q → held_as p ≡ held_as q
held-same p q same =
    ap (λ (h : HandlerId). let x : HeldProgram = record { handler = h; version = p.version; image = p.image } in x) same.handler
    ∙ ap (λ (n : ℕ). let x : HeldProgram = record { handler = q.handler; version = n; image = p.image } in x) same.version
    ∙ ap (λ (i : ArrayVec ℕ). let x : HeldProgram = record { handler = q.handler; version = q.version; image = i } in x) same.image

at-same : (ps qs : List Program) → SamePrograms ps qs → (k : ℕ) → program_at ps k ≡ program_at qs k
at-same [] [] same k = refl
at-same [] (q ∷ qs) same k = absurd same
at-same (p ∷ ps) [] same k = absurd same
at-same (p ∷ ps) (q ∷ qs) same zero = held-same p q same.0
at-same (p ∷ ps) (q ∷ qs) same (suc k) = at-same ps qs same.1 k

-- the programs at all places
pub places-same : (ps qs : List Program) → SamePrograms ps qs → program_at ps ≡ program_at qs
places-same ps qs same = same_at (program_at ps) (program_at qs) (at-same ps qs same)

step-same : (ps qs : List Program) → SamePrograms ps qs → (x : Step) → step_of ps x ≡ step_of qs x
step-same ps qs same (step.Install h version k) = ap node.Install (at-same ps qs same k)
step-same ps qs same (step.Load k) = ap node.Install (at-same ps qs same k)
step-same ps qs same _ = refl

pub steps-same : (s : NodeScript) (ps qs : List Program) → SamePrograms ps qs → steps_of s ps ≡ steps_of s qs
steps-same s ps qs same = ap (λ (f : Step → node.Step). map f s.steps) (same_at (step_of ps) (step_of qs) (step-same ps qs same))

-- ---- meaning

-- they are held as the same programs
pub is_held-same : (p q : Program) → SameProgram p q → (h : HeldProgram) → is_held_as h p ≡ is_held_as h q
is_held-same p q same h =
    ap (λ (x : HandlerId). (h.handler.0 == x.0) && ((h.version == p.version) && bytes_eq h.image.items p.image.items)) same.handler
    ∙ ap (λ (n : ℕ). (h.handler.0 == q.handler.0) && ((h.version == n) && bytes_eq h.image.items p.image.items)) same.version
    ∙ ap (λ (i : ArrayVec ℕ). (h.handler.0 == q.handler.0) && ((h.version == q.version) && bytes_eq h.image.items i.items)) same.image

source-same : (ps qs : List Program) → SamePrograms ps qs → (h : HeldProgram) → SameSource (source_in ps h) (source_in qs h)
source-same [] [] same h = tt
source-same [] (q ∷ qs) same h = absurd same
source-same (p ∷ ps) [] same h = absurd same
source-same (p ∷ ps) (q ∷ qs) same h = by (is_held_as h p) (is_held_as h q) (is_held-same p q same.0 h) (source-same ps qs same.1 h) where
  by : (a b : Bool) → a ≡ b → SameSource (source_in ps h) (source_in qs h) → SameSource (if a then p.source else source_in ps h) (if b then q.source else source_in qs h)
  by true true is later = same.0.source
  by true false is later = cc
  by false true is later = cc
  by false false is later = later

run-same : (shape : Shape) (a b : Option ScriptTree) → SameSource a b → (h : HeldProgram) (store : Store) (payload : ArrayVec ℤ) (answers : List ℤ) (turns : ℕ) → run_from shape a h store payload answers turns ≡ run_from shape b h store payload answers turns
run-same shape None None same h store payload answers turns = refl
run-same shape None (Some b) same h store payload answers turns = absurd same
run-same shape (Some a) None same h store payload answers turns = absurd same
run-same shape (Some a) (Some b) same h store payload answers turns = ap (λ (tree : Block). run_of tree store payload answers turns) same

uses-same : (shape : Shape) (a b : Option ScriptTree) → SameSource a b → (h : HeldProgram) → uses_from shape a h ≡ uses_from shape b h
uses-same shape None None same h = refl
uses-same shape None (Some b) same h = absurd same
uses-same shape (Some a) None same h = absurd same
uses-same shape (Some a) (Some b) same h = ap (λ (tree : Block). script_uses shape tree) same

pub meaning-same : (d : Description) (ps qs : List Program) → SamePrograms ps qs → meaning_by d ps ≡ meaning_by d qs
meaning-same d ps qs same = λ i. record (meaning_by d ps) {
  run = λ h store payload answers turns. run-same (shape_of d) (source_in ps h) (source_in qs h) (source-same ps qs same h) h store payload answers turns i;
  uses = λ h. uses-same (shape_of d) (source_in ps h) (source_in qs h) (source-same ps qs same h) h i;
}
