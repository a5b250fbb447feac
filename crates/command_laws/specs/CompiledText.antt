-- What the step of `compile` makes of the text that the step of `expand` gives.
use Rattle.std.specs.Prelude.{◌≡◌, ℕ, ℤ, Bool, List, Ok}
use Rattle.arrayvec.specs.ArrayVec.{ArrayVec}
use Rattle.mate_num.specs.declared.store.Store.{Store}
use Rattle.vm_shape.specs.Shapes.{shape_of}
use Rattle.vm_shape.specs.declared.description.Description.{Description}
use Rattle.mate_code.specs.BytesVerification.{bytes_verification}
use Rattle.mate_code.specs.Run.{Code, code_run}
use Rattle.mate_code.specs.Verification.{Marks}
use Rattle.ts_trees.specs.Tree.{ProcedureSource, Source}
use Rattle.ts_syntax.specs.Line.{script_line}
use Rattle.ts_proc_laws.specs.Frames.{run_with_frames}
use Rattle.ts_proc_texts.specs.Reading.{IsProcedureText}
use Rattle.command_steps.specs.Expansions.{expanded_bytes}
use Rattle.command_steps.specs.Sources.{compiled_bytes}
use Rattle.command_steps.specs.declared.code.CompiledScript.{CompiledScript}

-- the verifier finds code in the bytes that runs as the source with procedures does with frames
pub record RunsAsFrames (machine : Description) (s : ProcedureSource) (bytes : ArrayVec ℕ) : Type 0 where
  pub code : Code
  pub marks : Marks
  pub verified : bytes_verification (shape_of machine) bytes.items ≡ Ok (code, marks)
  pub runs : (store : Store) (msg : ArrayVec ℤ) (answers : List ℤ) (turns : ℕ)
      → code_run (shape_of machine) code store msg answers turns ≡ run_with_frames machine s store msg answers turns

-- the bytes spell a source with procedures, as which the code runs
pub record IsCodeOfText (machine : Description) (bytes : List ℕ) (code : ArrayVec ℕ) : Type 0 where
  pub source : ProcedureSource
  pub text : IsProcedureText bytes source
  pub runs : RunsAsFrames machine source code

-- what is compiled of the text that was written of the expansion, folded or not
abbrev pub CompilesAsSource : Type 0
CompilesAsSource =
    (machine : Description) (fold : Bool) (from to bytes : List ℕ) (plain : Source) (c : CompiledScript) →
    expanded_bytes from bytes (Ok plain) → compiled_bytes machine fold to (script_line plain) (Ok c) →
    IsCodeOfText machine bytes c.code
