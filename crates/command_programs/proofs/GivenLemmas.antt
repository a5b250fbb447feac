-- The programs that the files of a right script give are right, and each is of its line.
use Rattle.std.proofs.Common.{◌≡◌, ◌≤◌, ◌++◌, ℕ, Bool, true, false, List, [], ◌∷◌, length, Option, Some, None, option_to_list, Result, Ok, Err, refl, sym, ap, subst, arith}
use Rattle.std.specs.Prelude.{All, IfSome, not, nat_lt, if◌then◌else◌}
use Rattle.std.specs.Result.{result_unwrap_or}
use Rattle.std.proofs.lemmas.List.Elements.{All-nil, All-head, All-tail}
use Rattle.arrayvec.specs.ArrayVec.{ArrayVec}
use Rattle.hex.specs.Hex.{IsBytes, decode_of}
use Rattle.hex.specs.declared.error.FromHexError.{FromHexError}
use Rattle.hex.proofs.HexLemmas.{decode_of-ok}
use Rattle.mate_num.specs.declared.id.HandlerId.{HandlerId}
use Rattle.mate_num.specs.declared.shape.Shape.{Shape}
use Rattle.mate_code.specs.Code.{code_bytes}
use Rattle.mate_code.specs.Run.{size_of_code}
use Rattle.mate_code.specs.Table.{table_of}
use Rattle.mate_code.proofs.BytesVerificationLemmas.{bytes-AreVerified, size_of_code-placed}
use Rattle.ts_checked.specs.Statement.{Block}
use Rattle.ts_compiler.specs.Compiled.{IsCompiled}
use Rattle.ts_semantics.specs.Translation as translation
use Rattle.capsule_codec.specs.HexText.{trimmed, is_hex, bytes_of_digits, image_in}
use Rattle.capsule_codec.specs.declared.hex_text.HexFault.TheVariants.{BadHex, TooLong}
use Rattle.capsule_codec.specs.Image.{CapsuleParts, IsCapsule}
use Rattle.capsule_codec.proofs.ImageLemmas.{capsule_is}
use Rattle.vm_shape.specs.Shapes.{shape_of}
use Rattle.vm_shape.specs.declared.description.Description.{Description}
use Rattle.vm_shape.proofs.DescriptionLemmas.{bounds_of}
use Rattle.script_steps.specs.Steps.{NodeScript, IsRightInstall, IsRightStep, IsRightSteps}
use Rattle.script_steps.specs.declared.steps.Step.{Step}
use Rattle.script_steps.specs.declared.steps.Step.TheVariants as step
use Rattle.mate_journal.specs.declared.program.Program.{Program}
use Rattle.command_steps.specs.Parts.{Folder}
use Rattle.command_steps.specs.SourceCode.{IsCodeOf, compiled_tree}
use Rattle.command_steps.specs.Steps.{goes_on, stops}
use Rattle.command_steps.proofs.CodeLemmas.{filled}
use Rattle.node_programs.specs.Right.{IsRightProgram}
use Rattle.node_programs.specs.ScriptSteps.{AreProgramsOf}
use Rattle.command_programs.specs.Numbers.{NamesInOrder}
use Rattle.command_programs.specs.Programs.{installed, loaded, name_at, step_program, programs_after, script_programs}
use Rattle.command_programs.proofs.EachLemmas.{HasTree, source-tree, capsule-text, are_made}
use Rattle.command_programs.proofs.RightLemmas.{IsRightProgram-compiled, IsRightProgram-loaded}
use Rattle.command_programs.proofs.StepLaws.{All-with, gives-one}

-- ---- bytes

decoded-bytes : (digits : List ℕ) (r : Result (List ℕ) FromHexError) → decode_of digits ≡ r → IsBytes (result_unwrap_or r [])
decoded-bytes digits (Ok bytes) is = (decode_of-ok digits bytes is).3
decoded-bytes digits (Err fault) is = λ i. omega arith

-- the numbers of an image that a text spells are bytes
image-bytes : (text : List ℕ) (image : ArrayVec ℕ) → image_in text ≡ Ok image → IsBytes image.items
image-bytes text image is = by (not (is_hex digits)) (nat_lt 2112 (length digits)) is where
  digits : List ℕ
  digits = trimmed text

  read : ArrayVec ℕ
  read = record { items = bytes_of_digits digits }

  by : (b c : Bool) → (if b then Err BadHex else if c then Err TooLong else Ok read) ≡ Ok image → IsBytes image.items
  by true c e = cc
  by false true e = cc
  by false false e = let same : read ≡ image = cc in subst (λ (i : ArrayVec ℕ). IsBytes i.items) same (decoded-bytes digits (decode_of digits) refl)

-- compiled code has a byte
code-low : (shape : Shape) (fold : Bool) (tree : Block) (code : ArrayVec ℕ) → IsCodeOf shape fold tree code → 1 ≤ length code.items
code-low shape fold tree code is =
    let new : Block = compiled_tree fold tree in
    let bytes : ArrayVec ℕ = record { items = code_bytes (table_of shape) (translation.script_code new) } in
    let compiled : IsCompiled shape new bytes = record { need = is.need; size = is.size; code = refl } in
    let one : 1 ≤ length bytes.items = filled shape new bytes compiled in
    let size : size_of_code (translation.code_of new) ≡ length code.items = (bytes-AreVerified shape code.items (translation.code_of new) is.verified.0 is.bytes is.verified.1).size in
    let same : size_of_code (translation.code_of new) ≡ length bytes.items = size_of_code-placed (table_of shape) 0 (translation.script_code new) in
    omega (arith, one, size, same)

-- ---- steps

module _ (f : Folder) (d : Description) (fold : Bool) (names : List (List ℕ)) where
  right-installed : (h : HandlerId) (version file : ℕ) (name : List ℕ) (p : Program) → IsRightInstall d (length names) h.0 version file → installed f d fold h version name (Ok p) → IsRightProgram d p
  right-installed h version file name p right (goes_on c compiled is) =
      let tree : HasTree d fold c = source-tree f d fold name c compiled in
      let code = tree.compiled.code_is in
      let bounds = bounds_of d in
      let id = bounds.vm_id in
      let handlers = bounds.handlers_high in
      let handler = right.handler_high in
      let version_high = right.version_high in
      let parts : CapsuleParts = record { vm_id = d.vm_id; handler = h.0; version = version; code = c.code.items } in
      let fits : IsCapsule parts = record {
        vm_id = omega (arith, id);
        handler = omega (arith, handler, handlers);
        version_low = right.version_low;
        version_high = omega (arith, version_high);
        code_low = code-low (shape_of d) fold tree.tree c.code code;
        code_high = (bytes-AreVerified (shape_of d) c.code.items (translation.code_of (compiled_tree fold tree.tree)) code.verified.0 code.bytes code.verified.1).fits;
        code = code.bytes;
      } in
      IsRightProgram-compiled d fold tree.bytes tree.tree c parts p tree.accepted tree.compiled fits (record { vm_id = refl; handler = right.handler_high }) refl
      (sym (ap (λ (x : HandlerId). x.0) is.handler)) (sym is.version_is) is.source is.image
  right-installed h version file name p right (stops r refused is) = cc

  right-loaded : (name : List ℕ) (p : Program) → loaded f d name (Ok p) → IsRightProgram d p
  right-loaded name p (goes_on c spelled is) =
      let text = capsule-text f d name c spelled in
      let read = capsule_is d text.1.image.items c.0 (image-bytes text.0 text.1.image text.1.spelled) text.1.decoded in
      IsRightProgram-loaded d c.1 text.1.marks c.0 p text.1.accepted read.1 read.2 (sym is.handler) (sym is.version_is) is.source is.image
  right-loaded name p (stops r refused is) = cc

  right-step : (x : Step) (o : Option Program) → IsRightStep d (length names) x → step_program f d fold names x (Ok o) → IfSome o (IsRightProgram d)
  right-step (step.Install h version k) (Some p) right given = right-installed h version k (name_at names k) p right (gives-one (installed f d fold h version (name_at names k)) p given)
  right-step (step.Install h version k) None right given = tt
  right-step (step.Load k) (Some p) right given = right-loaded (name_at names k) p (gives-one (loaded f d (name_at names k)) p given)
  right-step (step.Load k) None right given = tt
  right-step (step.Post h payload) (Some p) right given = cc
  right-step (step.Post h payload) None right given = tt
  right-step (step.Step ctx n) (Some p) right given = cc
  right-step (step.Step ctx n) None right given = tt
  right-step step.Run (Some p) right given = cc
  right-step step.Run None right given = tt
  right-step (step.Answer ctx value) (Some p) right given = cc
  right-step (step.Answer ctx value) None right given = tt
  right-step step.Show (Some p) right given = cc
  right-step step.Show None right given = tt
  right-step step.Reset (Some p) right given = cc
  right-step step.Reset None right given = tt

  right-after : (ps qs : List Program) (xs : List Step) → All (IsRightStep d (length names)) xs → All (IsRightProgram d) ps → programs_after f d fold names ps xs (Ok qs) → All (IsRightProgram d) qs
  right-after ps qs [] steps all is = subst (All (IsRightProgram d)) (sym is) all
  right-after ps qs (x ∷ xs) steps all (stops r refused is) = cc
  right-after ps qs (x ∷ xs) steps all (goes_on o given rest) =
      right-after (ps ++ option_to_list o) qs xs (All-tail (IsRightStep d (length names)) x xs steps)
      (All-with (IsRightProgram d) ps o all (right-step x o (All-head (IsRightStep d (length names)) x xs steps) given)) rest

pub given-right : (f : Folder) (d : Description) (fold : Bool) (s : NodeScript) (ps : List Program) → IsRightSteps d s → NamesInOrder s → script_programs f d fold s (Ok ps) → AreProgramsOf d s ps
given-right f d fold s ps right numbered given =
    let made = are_made f d fold s.files [] s.steps (length s.files) ps numbered given in
    record {
      steps = right;
      programs = right-after f d fold s.files [] ps s.steps right.each (All-nil (IsRightProgram d)) given;
      count = made.count;
      each = made.each;
    }
