-- A source has one answer.
use Rattle.std.proofs.Common.{◌≡◌, ℕ, Bool, List, sym, ◌∙◌, ap, subst, arith}
use Rattle.std.specs.Global.{Vec}
use Rattle.arrayvec.specs.ArrayVec.{ArrayVec}
use Rattle.mate_num.specs.declared.shape.Shape.{Shape}
use Rattle.ts_checked.specs.Statement.{Block}
use Rattle.ts_compiler.specs.Compiled.{IsUncompiled}
use Rattle.ts_compiler.specs.declared.fault.CompileFault.{CompileFault}
use Rattle.ts_compiler.specs.declared.fault.CompileFault.TheVariants.{StackDepth, TooLong}
use Rattle.ts_checker.specs.Accepted.{IsAccepted}
use Rattle.command_steps.proofs.CodeLemmas.{one-code}
use Rattle.command_steps.proofs.AcceptanceLemmas.{one_tree, one_refusal, apart}
use Rattle.command_steps.specs.SourceCode.{IsCodeOf, IsCompiledOf, compiled_tree}
use Rattle.command_steps.specs.declared.code.CompiledScript.{CompiledScript}
use Rattle.vm_shape.specs.Shapes.{shape_of}
use Rattle.vm_shape.specs.declared.description.Description.{Description}
use Rattle.mate_files.specs.Files.{Names}
use Rattle.command_refusals.specs.SourceCauses.{IsBadSource}
use Rattle.command_refusals.proofs.CauseLemmas.{refusal_told, refused-by, refusal_told-once}
use Rattle.command_refusals.specs.declared.source_cause.SourceCause.{SourceCause}
use Rattle.command_steps.specs.OneAnswer.{AnswersAgree, steady}
use Rattle.command_steps.specs.Sources.{accepted, compiled, compiled_bytes, source}
use Rattle.command_steps.proofs.OneAnswer.{then_agrees, judged_agrees, SameBytes, file_agrees}

accepted_agrees : (d : Description) (name bytes : List ℕ) → AnswersAgree ◌≡◌ (accepted d name bytes) (accepted d name bytes)
accepted_agrees d name bytes = judged_agrees ◌≡◌ _ _ _ (one_tree d bytes) not same where
  not : (a : Block) (e : SourceCause) → IsAccepted d bytes a → IsBadSource d bytes e → ⊥
  not a e p q = apart d bytes a (refusal_told e) p (refused-by d bytes e q)

  same : (e h : SourceCause) → IsBadSource d bytes e → IsBadSource d bytes h → e ≡ h
  same e h p q = refusal_told-once e h (one_refusal d bytes (refusal_told e) (refusal_told h) (refused-by d bytes e p) (refused-by d bytes h q))

-- ---- code

compiles_apart : (shape : Shape) (fold : Bool) (tree : Block) (code : ArrayVec ℕ) (e : CompileFault) → IsCodeOf shape fold tree code → IsUncompiled (compiled_tree fold tree) e → ⊥
compiles_apart shape fold tree code (StackDepth need) p q = omega (arith, p.need, q.0)
compiles_apart shape fold tree code (TooLong size) p q = omega (arith, p.size, q.1)

compiles_once : (tree : Block) (e h : CompileFault) → IsUncompiled tree e → IsUncompiled tree h → e ≡ h
compiles_once tree (StackDepth m) (StackDepth n) p q = ap StackDepth (p.1 ∙ sym q.1)
compiles_once tree (StackDepth m) (TooLong n) p q = absurd (omega (arith, p.0, q.0))
compiles_once tree (TooLong m) (StackDepth n) p q = absurd (omega (arith, p.0, q.0))
compiles_once tree (TooLong m) (TooLong n) p q = ap TooLong (p.2 ∙ sym q.2)

-- the same tree, with the same code
pub record SameCompiled (a b : CompiledScript) : Type 0 where
  pub tree : a.script.tree ≡ b.script.tree
  pub code : a.code ≡ b.code

compiled_agrees : (d : Description) (fold : Bool) (name : List ℕ) (tree : Block) → AnswersAgree SameCompiled (compiled d fold name tree) (compiled d fold name tree)
compiled_agrees d fold name tree = judged_agrees SameCompiled _ _ _ one not same where
  one : (a b : CompiledScript) → IsCompiledOf (shape_of d) fold tree a → IsCompiledOf (shape_of d) fold tree b → SameCompiled a b
  one a b p q = record {
    tree = p.tree_is ∙ sym q.tree_is;
    code = one-code (shape_of d) fold tree a.code b.code p.code_is q.code_is;
  }

  not : (a : CompiledScript) (e : CompileFault) → IsCompiledOf (shape_of d) fold tree a → IsUncompiled (compiled_tree fold tree) e → ⊥
  not a e p q = compiles_apart (shape_of d) fold tree a.code e p.code_is q

  same : (e h : CompileFault) → IsUncompiled (compiled_tree fold tree) e → IsUncompiled (compiled_tree fold tree) h → e ≡ h
  same e h p q = compiles_once (compiled_tree fold tree) e h p q

compiled_bytes_agrees : (d : Description) (fold : Bool) (name bytes : List ℕ) → AnswersAgree SameCompiled (compiled_bytes d fold name bytes) (compiled_bytes d fold name bytes)
compiled_bytes_agrees d fold name bytes =
    then_agrees ◌≡◌ SameCompiled _ _ _ _ (accepted_agrees d name bytes)
    (λ a b e. subst (λ (tree : Block). AnswersAgree SameCompiled (compiled d fold name a) (compiled d fold name tree)) e (compiled_agrees d fold name a))

pub source_agrees : (names : Names) (d : Description) (fold : Bool) (name : List ℕ) → AnswersAgree SameCompiled (source (steady names) d fold name) (source (steady names) d fold name)
source_agrees names d fold name =
    then_agrees SameBytes SameCompiled _ _ _ _ (file_agrees names name)
    (λ a b e. subst (λ (bytes : List ℕ). AnswersAgree SameCompiled (compiled_bytes d fold name a.items) (compiled_bytes d fold name bytes)) (same a b e) (compiled_bytes_agrees d fold name a.items)) where
      same : (a b : Vec ℕ) → SameBytes a b → a.items ≡ b.items
      same a b e = e
