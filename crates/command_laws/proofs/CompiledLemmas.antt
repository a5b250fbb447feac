-- What is compiled of an expansion's text runs as the source with procedures does.
use Rattle.std.proofs.Common.{◌≡◌, ℕ, Bool, List, Ok, ◌∙◌, ap, subst}
use Rattle.vm_shape.specs.Shapes.{shape_of}
use Rattle.vm_shape.specs.declared.description.Description.{Description}
use Rattle.ts_trees.specs.Tree.{Source}
use Rattle.ts_checked.specs.Statement.{Block}
use Rattle.ts_syntax.specs.Line.{script_line}
use Rattle.ts_checker.specs.Accepted.{IsAccepted}
use Rattle.ts_semantics.specs.Translation.{code_of}
use Rattle.ts_proc_names.specs.Named.{written_of}
use Rattle.ts_proc_names.specs.declared.named.PScript.{PScript}
use Rattle.ts_proc_expansion.specs.Expansion.{expansion}
use Rattle.ts_proc_laws.specs.FrameLaw.{RunsWithFrames}
use Rattle.ts_proc_texts.specs.Reading.{IsProcedureText}
use Rattle.command_steps.specs.Expansions.{expanded_bytes}
use Rattle.command_steps.specs.SourceCode.{compiled_tree, IsCompiledOf, MeansTree}
use Rattle.command_steps.specs.Sources.{compiled_bytes}
use Rattle.command_steps.specs.Steps.{goes_on, stops}
use Rattle.command_steps.specs.declared.code.CompiledScript.{CompiledScript}
use Rattle.command_steps.proofs.CodeLemmas.{means-accepted}
use Rattle.command_laws.specs.CompiledText.{CompilesAsSource}
use Rattle.command_laws.specs.ExpansionText.{expansion_text, TextMeansIt}

-- the source that was expanded
record IsExpanded (bytes : List ℕ) (plain : Source) : Type 0 where
  script : PScript
  text : IsProcedureText bytes (written_of script)
  expands : plain ≡ expansion (written_of script)

expanded_of : (from bytes : List ℕ) (plain : Source) → expanded_bytes from bytes (Ok plain) → IsExpanded bytes plain
expanded_of from bytes plain (goes_on s reads expands) = record { script = s; text = reads; expands = expands.0 }
expanded_of from bytes plain (stops r refused is) = cc

-- the tree that was compiled
record IsCompiledTree (machine : Description) (fold : Bool) (text : List ℕ) (c : CompiledScript) : Type 0 where
  tree : Block
  accepted : IsAccepted machine text tree
  compiled : IsCompiledOf (shape_of machine) fold tree c

compiled_of : (machine : Description) (fold : Bool) (to text : List ℕ) (c : CompiledScript) → compiled_bytes machine fold to text (Ok c) → IsCompiledTree machine fold text c
compiled_of machine fold to text c (goes_on tree accepted compiled) = record { tree = tree; accepted = accepted; compiled = compiled }
compiled_of machine fold to text c (stops r refused is) = cc

pub compiles_as_source : ((bytes : List ℕ) (script : PScript) → IsProcedureText bytes (written_of script) → TextMeansIt (written_of script)) → CompilesAsSource
compiles_as_source law machine fold from to bytes plain c expands compiles =
    let e : IsExpanded bytes plain = expanded_of from bytes plain expands in
    let t : IsCompiledTree machine fold (script_line plain) c = compiled_of machine fold to (script_line plain) c compiles in
    let accepted : IsAccepted machine (expansion_text (written_of e.script)) t.tree =
    subst (λ (bs : List ℕ). IsAccepted machine bs t.tree) (ap script_line e.expands) t.accepted in
    let means : MeansTree (shape_of machine) fold t.tree = means-accepted machine fold (script_line plain) t.tree c.code t.accepted t.compiled.code_is in
    let frames : RunsWithFrames machine (written_of e.script) t.tree = law bytes e.script e.text machine t.tree accepted in
    record {
      source = written_of e.script;
      text = e.text;
      runs = record {
        code = code_of (compiled_tree fold t.tree);
        marks = t.compiled.code_is.verified.0;
        verified = t.compiled.code_is.verified.1;
        runs = λ store msg answers turns. means.runs store msg answers turns ∙ frames store msg answers turns;
      };
    }
