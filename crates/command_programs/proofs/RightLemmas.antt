-- Programs that come from files are right.
use Rattle.std.proofs.Common.{◌≡◌, ℕ, Bool, true, false, List, [], Option, None, Result, Ok, Err, refl, sym, ◌∙◌, ap, subst}
use Rattle.std.specs.Result.{result_unwrap_or}
use Rattle.mate_num.specs.Results.{result_map}
use Rattle.std.specs.Prelude.{IsOk, IfSome, drop, length, if◌then◌else◌, nat_lt}
use Rattle.arrayvec.specs.ArrayVec.{ArrayVec}
use Rattle.mate_num.specs.declared.bounds.TheConstants.{CODE_MAX}
use Rattle.mate_num.specs.declared.shape.Shape.{Shape}
use Rattle.mate_code.specs.declared.decoding.DecodeFault.{DecodeFault}
use Rattle.mate_code.specs.declared.decoding.DecodeFault.TheVariants.{BadOpcode, CutShort}
use Rattle.mate_code.specs.BytesVerification.{bytes_verification, of_decoded}
use Rattle.mate_code.specs.Code.{decoded}
use Rattle.mate_code.specs.CodeUses.{uses_of as code_uses}
use Rattle.mate_code.specs.Run.{Code, code_run}
use Rattle.mate_code.specs.Table.{table_of}
use Rattle.mate_code.specs.declared.fault.VerifyFault.{VerifyFault}
use Rattle.mate_code.specs.declared.fault.VerifyFault.TheVariants.{TooLong}
use Rattle.mate_code.specs.Verification.{Marks, verification}
use Rattle.ts_checked.specs.Statement.{Block}
use Rattle.ts_checker.specs.Accepted.{IsAccepted}
use Rattle.ts_semantics.specs.Meaning.{run_of}
use Rattle.ts_semantics.specs.Uses.{script_uses}
use Rattle.ts_semantics.specs.Translation as translation
use Rattle.capsule_codec.specs.Image.{CapsuleParts, capsule_image, IsCapsule, IsOfMachine}
use Rattle.command_steps.specs.SourceCode.{IsCompiledOf, MeansTree, compiled_tree}
use Rattle.command_steps.specs.declared.code.CompiledScript.{CompiledScript}
use Rattle.command_steps.proofs.CodeLemmas.{means-accepted}
use Rattle.vm_shape.specs.Shapes.{shape_of}
use Rattle.vm_shape.specs.declared.description.Description.{Description}
use Rattle.mate_journal.specs.declared.program.Program.{Program}
use Rattle.node_state.specs.Meaning.{image_code}
use Rattle.node_programs.specs.Right.{IsSourceOf, IsRightProgram}

-- verified bytes spell the code
code-if : (b : Bool) (n : ℕ) (shape : Shape) (code : Code) (marks : Marks) (r : Result Code DecodeFault) → (if b then Err (TooLong n) else of_decoded shape r) ≡ Ok (code, marks) → result_unwrap_or r [] ≡ code
code-if true n shape code marks r is = cc
code-if false n shape code marks (Ok found) is = by (verification shape found) is where
  by : (v : Result Marks VerifyFault) → result_map {B = Code × Marks} (λ marks. (found, marks)) v ≡ Ok (code, marks) → found ≡ code
  by (Ok other) is = let pair : (found, other) ≡ (code, marks) = cc in ap (λ (p : Code × Marks). p.0) pair
  by (Err refusal) is = cc
code-if false n shape code marks (Err (BadOpcode place)) is = cc
code-if false n shape code marks (Err (CutShort place)) is = cc

-- the image's code stands behind its first 16 bytes
code-behind : (c : CapsuleParts) → drop 16 (capsule_image c) ≡ c.code
code-behind c = refl

-- the code of the image of a capsule with these bytes
image-code : (shape : Shape) (c : CapsuleParts) (image : ArrayVec ℕ) (code : Code) (marks : Marks) → image.items ≡ capsule_image c → bytes_verification shape c.code ≡ Ok (code, marks) → image_code shape image ≡ code
unfolding image_code
image-code shape c image code marks is verified =
    ap (λ (bs : List ℕ). result_unwrap_or (decoded (table_of shape) (drop 16 bs)) []) is
    ∙ ap (λ (bs : List ℕ). result_unwrap_or (decoded (table_of shape) bs) []) (code-behind c)
    ∙ code-if (nat_lt CODE_MAX (length c.code)) (length c.code) shape code marks (decoded (table_of shape) c.code) verified

IsOk-by : {A E : Type 0} (r : Result A E) (a : A) → r ≡ Ok a → IsOk r
IsOk-by {A} {E} r a is = subst (λ (x : Result A E). IsOk x) (sym is) refl

-- the compiled script is the source of its code
source-of_code : (shape : Shape) (fold : Bool) (tree : Block) (x : CompiledScript) (c : CapsuleParts) (image : ArrayVec ℕ) → MeansTree shape fold tree → IsCompiledOf shape fold tree x → c.code ≡ x.code.items → image.items ≡ capsule_image c
    → IsSourceOf shape (image_code shape image) x.script
source-of_code shape fold tree x c image means is bytes image_is =
    let verified : bytes_verification shape c.code ≡ Ok (translation.code_of (compiled_tree fold tree), is.code_is.verified.0) = ap (bytes_verification shape) bytes ∙ is.code_is.verified.1 in
    let code_is : image_code shape image ≡ translation.code_of (compiled_tree fold tree) = image-code shape c image (translation.code_of (compiled_tree fold tree)) is.code_is.verified.0 image_is verified in
    let R : Code → Type 0 = λ code. (store : _) (msg : _) (answers : _) (turns : _) → code_run shape code store msg answers turns ≡ run_of (compiled_tree fold tree) store msg answers turns in
    record {
      shape_is = is.shape_is;
      runs = λ store msg answers turns.
          subst R (sym code_is) means.plays store msg answers turns ∙ ap (λ (t : Block). run_of t store msg answers turns) (sym is.tree_is);
      uses = ap (code_uses shape) code_is ∙ means.uses ∙ ap (script_uses shape) (sym is.tree_is);
    }

-- the program of a compiled script
pub IsRightProgram-compiled : (d : Description) (fold : Bool) (bytes : List ℕ) (tree : Block) (x : CompiledScript) (c : CapsuleParts) (p : Program) → IsAccepted d bytes tree → IsCompiledOf (shape_of d) fold tree x → IsCapsule c → IsOfMachine d c → c.code ≡ x.code.items
    → c.handler ≡ p.handler.0 → c.version ≡ p.version → p.source ≡ Option.Some x.script → p.image.items ≡ capsule_image c → IsRightProgram d p
IsRightProgram-compiled d fold bytes tree x c p accepted is capsule machine code_is handler version source image = record {
  capsule = c;
  is_capsule = capsule;
  of_machine = machine;
  handler = handler;
  version = version;
  image = image;
  verified = IsOk-by (bytes_verification (shape_of d) c.code) _ (ap (bytes_verification (shape_of d)) code_is ∙ is.code_is.verified.1);
  source = subst (λ (o : _). IfSome o (IsSourceOf (shape_of d) (image_code (shape_of d) p.image))) (sym source)
      (source-of_code (shape_of d) fold tree x c p.image (means-accepted d fold bytes tree x.code accepted is.code_is) is code_is image);
}

-- the program of a capsule that the verifier takes
pub IsRightProgram-loaded : (d : Description) (code : Code) (marks : Marks) (c : CapsuleParts) (p : Program) → bytes_verification (shape_of d) c.code ≡ Ok (code, marks) → IsCapsule c → IsOfMachine d c
    → c.handler ≡ p.handler.0 → c.version ≡ p.version → p.source ≡ None → p.image.items ≡ capsule_image c → IsRightProgram d p
IsRightProgram-loaded d code marks c p accepted capsule machine handler version source image = record {
  capsule = c;
  is_capsule = capsule;
  of_machine = machine;
  handler = handler;
  version = version;
  image = image;
  verified = IsOk-by (bytes_verification (shape_of d) c.code) (code, marks) accepted;
  source = subst (λ (o : _). IfSome o (IsSourceOf (shape_of d) (image_code (shape_of d) p.image))) (sym source) tt;
}
