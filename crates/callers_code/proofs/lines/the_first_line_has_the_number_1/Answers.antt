use Rattle.std.proofs.Common.{◌≡◌, ◌⊎◌, List, [], ◌∷◌, Result, Ok, Err, MatchResult, refl, subst, inl, inr}
use Rattle.vm_shape.specs.declared.description.Description.{Description}
use Rattle.script_steps.specs.declared.fault.Cause.TheVariants.{Word}
use Rattle.script_steps.specs.declared.fault.ScriptFault.{ScriptFault}
use Rattle.script_steps.specs.declared.fault.ScriptFault.TheVariants.{BadLine, NoMemory}
use Rattle.script_steps.specs.NodeScript.{node_script_in, after_line, a_line, behind, behind_others}
use Rattle.script_steps.specs.Steps.{NodeScript}
use Rattle.script_steps.specs.Script.{AnswersScript}
use Rattle.callers_code.proofs.lines.the_first_line_has_the_number_1.Goals as goal

-- no line begins with the word `x`
refused : (d : Description) → node_script_in d (120 ∷ []) ≡ Err (BadLine 1 Word)
unfolding node_script_in after_line a_line behind behind_others
refused d = refl

first : (r : Result NodeScript ScriptFault) → AnswersScript r (Err (BadLine 1 Word))
    → MatchResult r (λ _. ⊥) (λ fault. (fault ≡ BadLine 1 Word) ⊎ (fault ≡ NoMemory))
first (Ok script) e = cc
first (Err (BadLine line cause)) e = inl cc
first (Err NoMemory) e = inr refl

pub returns : goal.returns
returns c = first c.node_script.result (subst (AnswersScript c.node_script.result) (refused c.args.desc.now) c.node_script.ensures.value)
