-- The commands `sim` and `gen` have one answer.
use Rattle.std.proofs.Common.{◌≡◌, ℕ, suc, ◌<◌, Bool, List, [], ◌∷◌, ◌++◌, length, Option, Some, Ok, Result, refl, sym, ◌∙◌, ap, subst, arith}
use Rattle.std.specs.Prelude.{slice_get, IsSomeAnd}
use Rattle.std.specs.Global.{Vec}
use Rattle.command_laws.specs.SameText.{SameText, IsSameWorld}
use Rattle.command_laws.proofs.OneOutput.{output_agrees}
use Rattle.command_laws.proofs.OneText.{WorldsHaveOneReport}
use Rattle.script_reader.specs.Source.{source_of}
use Rattle.report_laws.specs.Ending.{EndsByItself}
use Rattle.mate_cli.specs.Runs.{run_output}
use Rattle.mate_cli.specs.Worlds.{sim, run_of_number, made_run}
use Rattle.command_documents.specs.Owed.{Owed}
use Rattle.command_documents.specs.declared.output.Run.TheVariants as run
use Rattle.mate_files.specs.Files.{Names}
use Rattle.mate_journal.specs.Machine.{Meaning, HeldProgram}
use Rattle.mate_journal.specs.NodeScript.{RunEnd}
use Rattle.mate_journal.specs.declared.program.Program.{Program}
use Rattle.mate_journal.specs.declared.report.Report.{Report}
use Rattle.mate_num.specs.declared.id.HandlerId.{HandlerId}
use Rattle.command_refusals.specs.declared.refusal.Refusal.{Refusal}
use Rattle.command_steps.specs.OneAnswer.{AnswersAgree, steady}
use Rattle.command_steps.specs.SourceCode.{IsCompiledOf}
use Rattle.command_steps.specs.Steps.{◌▸◌}
use Rattle.command_steps.proofs.AcceptanceLemmas.{one_tree}
use Rattle.command_steps.proofs.CodeLemmas.{one-code}
use Rattle.command_steps.proofs.OneAnswer.{then_agrees, judged_agrees, machine_agrees, SameBytes, file_agrees}
use Rattle.command_steps.proofs.OneSource.{SameCompiled}
use Rattle.node_programs.specs.ScriptSteps.{program_at}
use Rattle.node_programs.specs.Sources.{meaning_by}
use Rattle.report_writer.specs.Brief.{brief}
use Rattle.command_programs.specs.SamePrograms.{SameProgram, SamePrograms}
use Rattle.command_programs.proofs.OnePrograms.{obtained_agrees, programs_agree, installed_same}
use Rattle.command_programs.proofs.SameMeaning.{meaning-same, places-same}
use Rattle.script_steps.specs.declared.fault.Cause.{Cause}
use Rattle.ts_checked.specs.Statement.{Block}
use Rattle.vm_shape.specs.Shapes.{shape_of}
use Rattle.vm_shape.specs.declared.description.Description.{Description}
use Rattle.command_programs.specs.Injected.{installs, world_programs}
use Rattle.command_programs.specs.Made.{IsMadeOf, AreOf, AreOfVersions, IsMade, made}
use Rattle.command_programs.specs.WorldFiles.{IsBadWorld, world_text, world}
use Rattle.command_programs.specs.declared.made.MadeWorld.{MadeWorld}
use Rattle.script_reader.specs.WorldScript.{world_script_in}
use Rattle.world_rules.specs.Report.{IsWorldReport}
use Rattle.world_rules.specs.World.{world_of, World as Rules}
use Rattle.script_steps.specs.declared.world.World.{World}
use Rattle.world_run_laws.specs.Promise.{IsReportOfWorld}
use Rattle.world_run_laws.specs.SourceWorld.{source_world}

-- ---- the run

module _ (law : WorldsHaveOneReport) (d : Description) (w : World) (ps qs : List Program) (same : SamePrograms ps qs) where
  world-same : source_world d w ps ≡ source_world d w qs
  world-same =
      ap (λ (m : Meaning). world_of d m w (program_at ps)) (meaning-same d ps qs same)
      ∙ ap (λ (programs : ℕ → HeldProgram). world_of d (meaning_by d qs) w programs) (places-same ps qs same)

  brief_once : (how how' : RunEnd) (r r' : Report) → EndsByItself how → EndsByItself how' → IsReportOfWorld d w ps how r → IsReportOfWorld d w qs how' r' → brief d r ≡ brief d r'
  brief_once how how' r r' itself itself' is is' =
      (law d w ps is.right.world how how' r r' itself itself' is.run (subst (λ (x : Rules). IsWorldReport x how' r') (sym world-same) is'.run)).0.brief

  run_same : IsSameWorld d d w w ps qs
  run_same = record { machine = refl; world = refl; meaning = world-same }

  outputs_agree : (short : Bool) → AnswersAgree SameText (run_output short (run.World d w ps)) (run_output short (run.World d w qs))
  outputs_agree short = output_agrees d (IsReportOfWorld d w ps) (IsReportOfWorld d w qs) (run.World d w ps) (run.World d w qs) brief_once run_same short

-- ---- sim

pub world_text_agrees : (d : Description) (bytes : List ℕ) → AnswersAgree ◌≡◌ (world_text d bytes) (world_text d bytes)
world_text_agrees d bytes = judged_agrees ◌≡◌ _ _ _ one not same where
  one : (a b : World) → world_script_in d bytes ≡ Ok a → world_script_in d bytes ≡ Ok b → a ≡ b
  one a b p q = cc

  not : (a : World) (e : ℕ × Cause) → world_script_in d bytes ≡ Ok a → IsBadWorld d bytes e → ⊥
  not a e p q = cc

  same : (e h : ℕ × Cause) → IsBadWorld d bytes e → IsBadWorld d bytes h → e ≡ h
  same e h p q =
      let line : e.0 ≡ h.0 = cc in
      let cause : e.1 ≡ h.1 = cc in
      ap (λ (n : ℕ). let x : ℕ × Cause = (n, e.1) in x) line ∙ ap (λ (c : Cause). let x : ℕ × Cause = (h.0, c) in x) cause

world_agrees : (names : Names) (d : Description) (name : List ℕ) → AnswersAgree ◌≡◌ (world (steady names) d name) (world (steady names) d name)
world_agrees names d name =
    then_agrees SameBytes ◌≡◌ _ _ _ _ (file_agrees names name)
    (λ a b e. subst (λ (bytes : List ℕ). AnswersAgree ◌≡◌ (world_text d a.items) (world_text d bytes)) (same a b e) (world_text_agrees d a.items)) where
      same : (a b : Vec ℕ) → SameBytes a b → a.items ≡ b.items
      same a b e = e

pub sim_agrees : WorldsHaveOneReport → (names : Names) (fold short : Bool) (vm name : List ℕ) → AnswersAgree SameText (sim (steady names) fold short vm name) (sim (steady names) fold short vm name)
sim_agrees law names fold short vm name =
    then_agrees ◌≡◌ SameText _ _ _ _ (machine_agrees names vm)
    (λ a b e. subst (λ (d : Description). AnswersAgree SameText (after_machine a) (after_machine d)) e (with_machine a)) where
      after_world : Description → World → Result Owed Refusal → Type 0
      after_world d w = world_programs (steady names) d fold w ▸ λ ps. run_output short (run.World d w ps)

      after_machine : Description → Result Owed Refusal → Type 0
      after_machine d = world (steady names) d name ▸ after_world d

      with_world : (d : Description) (w : World) → AnswersAgree SameText (after_world d w) (after_world d w)
      with_world d w = then_agrees SamePrograms SameText _ _ _ _ (programs_agree names d fold (installs w)) (λ ps qs same. outputs_agree law d w ps qs same short)

      with_machine : (d : Description) → AnswersAgree SameText (after_machine d) (after_machine d)
      with_machine d =
          then_agrees ◌≡◌ SameText _ _ _ _ (world_agrees names d name)
          (λ a b e. subst (λ (w : World). AnswersAgree SameText (after_world d a) (after_world d w)) e (with_world d a))

-- ---- gen

made_same : (d : Description) (fold : Bool) (h : HandlerId) (version : ℕ) (bytes : List ℕ) (p q : Program) → IsMadeOf d fold h version bytes p → IsMadeOf d fold h version bytes q → SameProgram p q
made_same d fold h version bytes p q a b = installed_same d h version a.script b.script same p q a.installed b.installed where
  of : IsCompiledOf (shape_of d) fold a.tree b.script
  of = subst (λ (tree : Block). IsCompiledOf (shape_of d) fold tree b.script) (sym (one_tree d bytes a.tree b.tree a.accepted b.accepted)) b.compiled

  same : SameCompiled a.script b.script
  same = record {
    tree = a.compiled.tree_is ∙ sym of.tree_is;
    code = one-code (shape_of d) fold a.tree a.script.code b.script.code a.compiled.code_is of.code_is;
  }

lists_same : (ps qs : List Program) → length ps ≡ length qs → ((k : ℕ) → k < length ps → (p q : Program) → slice_get ps k ≡ Some p → slice_get qs k ≡ Some q → SameProgram p q) → SamePrograms ps qs
lists_same [] [] count each = tt
lists_same [] (q ∷ qs) count each = absurd (omega (arith, count))
lists_same (p ∷ ps) [] count each = absurd (omega (arith, count))
lists_same (p ∷ ps) (q ∷ qs) count each = (each 0 (omega arith) p q refl refl, lists_same ps qs (omega (arith, count)) (λ k low. each (suc k) (omega (arith, low))))

both_same : (ps qs ps' qs' : List Program) → SamePrograms ps qs → SamePrograms ps' qs' → SamePrograms (ps ++ ps') (qs ++ qs')
both_same [] [] ps' qs' same later = later
both_same [] (q ∷ qs) ps' qs' same later = absurd same
both_same (p ∷ ps) [] ps' qs' same later = absurd same
both_same (p ∷ ps) (q ∷ qs) ps' qs' same later = (same.0, both_same ps qs ps' qs' same.1 later)

of_same : (d : Description) (fold : Bool) (version : ℕ) (bytes : List ℕ) (n : ℕ) (ps qs : List Program) → AreOf d fold version bytes n ps → AreOf d fold version bytes n qs → SamePrograms ps qs
of_same d fold version bytes n ps qs a b = lists_same ps qs (a.count ∙ sym b.count) (λ k low p q at at'.
    let count = a.count in
    let below : k < n = omega (arith, low, count) in
    made_same d fold (record { 0 = k }) version bytes p q (at-place ps k p at (a.each k below)) (at-place qs k q at' (b.each k below))) where
      at-place : (l : List Program) (k : ℕ) (x : Program) → slice_get l k ≡ Some x → IsSomeAnd (slice_get l k) (IsMadeOf d fold (record { 0 = k }) version bytes) → IsMadeOf d fold (record { 0 = k }) version bytes x
      at-place l k x at is = subst (λ (o : Option Program). IsSomeAnd o (IsMadeOf d fold (record { 0 = k }) version bytes)) at is

versions_same : (d : Description) (fold : Bool) (ps qs : List Program) → AreOfVersions d fold ps → AreOfVersions d fold qs → SamePrograms ps qs
versions_same d fold ps qs a b =
    subst (λ (l : List Program). SamePrograms l qs) (sym a.is) (subst (λ (l : List Program). SamePrograms (a.first ++ a.second) l) (sym b.is)
    (both_same a.first b.first a.second b.second (of_same d fold 1 (source_of d 1) (length d.handlers.items) a.first b.first a.are_first b.are_first)
    (of_same d fold 2 (source_of d 2) (length d.handlers.items) a.second b.second a.are_second b.are_second)))

-- one world, with the same programs
record SameMade (m n : MadeWorld) : Type 0 where
  world : m.world ≡ n.world
  programs : SamePrograms m.programs n.programs

made_agrees : (d : Description) (fold : Bool) (number : ℕ) → AnswersAgree SameMade (made d fold number) (made d fold number)
made_agrees d fold number = obtained_agrees SameMade (IsMade d fold number) (IsMade d fold number)
    (λ m n a b. record { world = a.world ∙ sym b.world; programs = versions_same d fold m.programs n.programs a.programs b.programs })

pub gen_agrees : WorldsHaveOneReport → (names : Names) (fold short : Bool) (number : ℕ) (vm : List ℕ) → AnswersAgree SameText (made_run (steady names) fold short number vm) (made_run (steady names) fold short number vm)
gen_agrees law names fold short number vm =
    then_agrees ◌≡◌ SameText _ _ _ _ (machine_agrees names vm)
    (λ a b e. subst (λ (d : Description). AnswersAgree SameText (run_of_number fold short a number) (run_of_number fold short d number)) e (with_machine a)) where
      with_machine : (d : Description) → AnswersAgree SameText (run_of_number fold short d number) (run_of_number fold short d number)
      with_machine d =
          then_agrees SameMade SameText _ _ _ _ (made_agrees d fold number)
          (λ m n same. subst (λ (w : World). AnswersAgree SameText (run_output short (run.World d m.world m.programs)) (run_output short (run.World d w n.programs))) same.world
          (outputs_agree law d m.world m.programs n.programs same.programs short))
