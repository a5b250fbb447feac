-- The code of a tree, and of one that was folded before it was compiled.
use Rattle.std.proofs.Common.{◌≡◌, ℕ, ◌+◌, ◌≤◌, List, [], ◌∷◌, ◌++◌, length, Bool, true, false, refl, sym, ap, ◌∙◌, subst, arith}
use Rattle.std.specs.Prelude.{IsTrue}
use Rattle.std.proofs.lemmas.Grind.{flat_map-append}
use Rattle.std.proofs.lemmas.List.{length-append}
use Rattle.std.proofs.lemmas.List.Concat.{flat_map-cons}
use Rattle.arrayvec.specs.ArrayVec.{ArrayVec}
use Rattle.mate_num.specs.declared.shape.Shape.{Shape}
use Rattle.mate_code.proofs.BytesVerificationLemmas.{bytes-AreVerified}
use Rattle.mate_code.specs.Code.{AreBytes, instr_bytes, instrs_of, code_bytes}
use Rattle.mate_code.specs.Table.{Layout, table_of}
use Rattle.mate_code.specs.declared.instr.Instr.TheVariants.{Halt}
use Rattle.ts_checked.specs.Right.{is_right}
use Rattle.ts_checked.specs.Statement.{Block}
use Rattle.ts_semantics.specs.Laws.{RunsAsItsScript}
use Rattle.ts_semantics.specs.Translation.{block_code, code_of}
use Rattle.ts_semantics.proofs.RunScripts.{accepted-RunsAsItsScript}
use Rattle.ts_semantics.proofs.UsesLemmas.{UsesAsItsScript-script_code}
use Rattle.ts_semantics.proofs.VerifiedLemmas.{IsAccepted-script_code}
use Rattle.ts_compiler.specs.Compiled.{IsCompiled, IsUncompiled, AreAccepted}
use Rattle.ts_compiler.specs.declared.fault.CompileFault.{CompileFault}
use Rattle.ts_fold.specs.Folded.{folded}
use Rattle.ts_fold.specs.Laws.{RunsAs, UsesNoMore}
use Rattle.ts_fold.proofs.StatementLemmas.{RunsAs-folded, UsesNoMore-folded, right-folded}
use Rattle.ts_checker.specs.Accepted.{IsAccepted}
use Rattle.ts_checker.proofs.RightLemmas.{checked-right}
use Rattle.vm_shape.specs.Shapes.{shape_of}
use Rattle.vm_shape.specs.declared.description.Description.{Description}
use Rattle.command_steps.specs.SourceCode.{compiled_tree, IsCodeOf, MeansTree}

-- what the compiler promises of the code of a tree
pub record IsCompiledAs (shape : Shape) (tree : Block) (code : ArrayVec ℕ) : Type 0 where
  pub compiled : IsCompiled shape tree code
  pub bytes : AreBytes code.items
  pub verified : AreAccepted shape tree code

pub plain_code : (s shape : Shape) (tree : Block) (code : ArrayVec ℕ) → s ≡ shape → IsCompiledAs s tree code → IsCodeOf shape false tree code
plain_code s shape tree code shape_is is =
    let all : IsCompiledAs shape tree code = subst (λ (x : Shape). IsCompiledAs x tree code) shape_is is in
    record { need = all.compiled.need; size = all.compiled.size; bytes = all.bytes; verified = all.verified }

-- the compiled tree is the folded one, on a machine of the accepted script's shape
pub folded_code : (s shape : Shape) (tree new : Block) (code : ArrayVec ℕ) → s ≡ shape → new ≡ folded tree → IsCompiledAs s new code → IsCodeOf shape true tree code
folded_code s shape tree new code shape_is tree_is is =
    let all : IsCompiledAs shape (folded tree) code =
    subst (λ (t : Block). IsCompiledAs shape t code) tree_is (subst (λ (x : Shape). IsCompiledAs x new code) shape_is is) in
    record { need = all.compiled.need; size = all.compiled.size; bytes = all.bytes; verified = all.verified }

pub folded_no_code : (tree new : Block) (fault : CompileFault) → new ≡ folded tree → IsUncompiled new fault → IsUncompiled (compiled_tree true tree) fault
folded_no_code tree new fault tree_is none = subst (λ (t : Block). IsUncompiled t fault) tree_is none

-- the code of a tree has one encoding
encoded : (shape : Shape) (fold : Bool) (tree : Block) (code : ArrayVec ℕ) → IsCodeOf shape fold tree code → code.items ≡ code_bytes (table_of shape) (instrs_of (code_of (compiled_tree fold tree)))
encoded shape fold tree code is =
    sym (bytes-AreVerified shape code.items (code_of (compiled_tree fold tree)) is.verified.0 is.bytes is.verified.1).is_decoded.encoding

pub one-code : (shape : Shape) (fold : Bool) (tree : Block) (a b : ArrayVec ℕ) → IsCodeOf shape fold tree a → IsCodeOf shape fold tree b → a ≡ b
one-code shape fold tree a b p q =
    ap (λ (bytes : List ℕ). let v : ArrayVec ℕ = record { items = bytes } in v) (encoded shape fold tree a p ∙ sym (encoded shape fold tree b q))

-- a script's code has its halt
pub filled : (shape : Shape) (tree : Block) (code : ArrayVec ℕ) → IsCompiled shape tree code → 1 ≤ length code.items
filled shape tree code is =
    let t : Layout = table_of shape in
    let front : List ℕ = code_bytes t (block_code 0 tree) in
    let halt : List ℕ = code_bytes t (Halt ∷ []) in
    let whole : code.items ≡ front ++ halt = is.code ∙ flat_map-append (instr_bytes t) (block_code 0 tree) (Halt ∷ []) in
    let size : length code.items ≡ length front + length halt = ap length whole ∙ length-append front halt in
    let one : length halt ≡ length (instr_bytes t Halt ++ code_bytes t []) = ap length (flat_map-cons (instr_bytes t) Halt []) in
    omega arith

-- ---- what follows of code

-- an accepted tree is right for its machine, and so is the one that is compiled
right-accepted : (d : Description) (bytes : List ℕ) (tree : Block) → IsAccepted d bytes tree → IsTrue (is_right (shape_of d) tree)
right-accepted d bytes tree accepted = checked-right d accepted.source (shape_of d) tree refl accepted.checks

right-compiled : (shape : Shape) (fold : Bool) (tree : Block) → IsTrue (is_right shape tree) → IsTrue (is_right shape (compiled_tree fold tree))
right-compiled shape true tree right = right-folded shape tree right
right-compiled shape false tree right = right

runs-compiled : (fold : Bool) (tree : Block) → RunsAs tree (compiled_tree fold tree)
runs-compiled true tree = RunsAs-folded tree
runs-compiled false tree = λ store msg answers turns. refl

uses-compiled : (shape : Shape) (fold : Bool) (tree : Block) → UsesNoMore shape tree (compiled_tree fold tree)
uses-compiled shape true tree = UsesNoMore-folded shape tree
uses-compiled shape false tree = record { reads = λ r h. h; writes = λ r h. h }

pub means-right : (shape : Shape) (fold : Bool) (tree : Block) (code : ArrayVec ℕ) → IsTrue (is_right shape tree) → IsCodeOf shape fold tree code → MeansTree shape fold tree
means-right shape fold tree code right is =
    let new : Block = compiled_tree fold tree in
    let right_new : IsTrue (is_right shape new) = right-compiled shape fold tree right in
    let plays : RunsAsItsScript shape new = accepted-RunsAsItsScript shape new right_new (IsAccepted-script_code shape new right_new is.need) in
    record {
      plays = plays;
      runs = λ store msg answers turns. plays store msg answers turns ∙ runs-compiled fold tree store msg answers turns;
      uses = UsesAsItsScript-script_code shape new;
      no_more = uses-compiled shape fold tree;
    }

pub means-accepted : (d : Description) (fold : Bool) (bytes : List ℕ) (tree : Block) (code : ArrayVec ℕ) → IsAccepted d bytes tree → IsCodeOf (shape_of d) fold tree code → MeansTree (shape_of d) fold tree
means-accepted d fold bytes tree code accepted is = means-right (shape_of d) fold tree code (right-accepted d bytes tree accepted) is
