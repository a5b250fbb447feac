-- The code of an accepted tree, which is folded before it is compiled or isn't.
use Rattle.std.specs.Prelude.{◌≡◌, ◌≤◌, ℕ, ℤ, Bool, true, false, List, Result, Ok, Err}
use Rattle.arrayvec.specs.ArrayVec.{ArrayVec}
use Rattle.mate_num.specs.declared.bounds.TheConstants.{CODE_MAX, STACK_MAX}
use Rattle.mate_num.specs.declared.shape.Shape.{Shape}
use Rattle.mate_num.specs.declared.store.Store.{Store}
use Rattle.mate_code.specs.Code.{AreBytes}
use Rattle.mate_code.specs.Run.{code_run}
use Rattle.ts_checked.specs.Statement.{Block}
use Rattle.ts_semantics.specs.Meaning.{run_of}
use Rattle.ts_semantics.specs.Laws.{RunsAsItsScript, UsesAsItsScript}
use Rattle.ts_semantics.specs.Translation.{code_of, script_need, script_size}
use Rattle.ts_compiler.specs.Compiled.{IsUncompiled, AreAccepted}
use Rattle.ts_compiler.specs.declared.fault.CompileFault.{CompileFault}
use Rattle.ts_fold.specs.Folded.{folded}
use Rattle.ts_fold.specs.Laws.{UsesNoMore}
use Rattle.command_steps.specs.declared.code.CompiledScript.{CompiledScript}
use Rattle.command_steps.specs.declared.code.CodeFault.{CodeFault}
use Rattle.command_steps.specs.declared.code.CodeFault.TheVariants.{NoMemory, Uncompiled}

-- the tree that is compiled: the folded one if that is asked
abbrev pub compiled_tree : Bool → Block → Block
compiled_tree true tree = folded tree
compiled_tree false tree = tree

-- Code of an accepted tree: the compiled tree's stack has at most `STACK_MAX` values, its code has room, and these are the bytes as which
-- the verifier takes it. It takes no other bytes as this code (`one-code` of `proofs/CodeLemmas`).
pub record IsCodeOf (shape : Shape) (fold : Bool) (tree : Block) (code : ArrayVec ℕ) : Type 0 where
  pub need : script_need (compiled_tree fold tree) ≤ STACK_MAX
  pub size : script_size (compiled_tree fold tree) ≤ CODE_MAX
  pub bytes : AreBytes code.items
  pub verified : AreAccepted shape (compiled_tree fold tree) code

-- the compiled script of an accepted tree, with its code
pub record IsCompiledOf (shape : Shape) (fold : Bool) (tree : Block) (c : CompiledScript) : Type 0 where
  pub shape_is : c.script.shape ≡ shape
  pub tree_is : c.script.tree ≡ compiled_tree fold tree
  pub code_is : IsCodeOf shape fold tree c.code

-- the compiled script of an accepted tree, or why there is none; only a fold takes memory
abbrev pub GivesCode : Shape → Bool → Block → Result CompiledScript CodeFault → Type 0
GivesCode shape fold tree (Ok c) = IsCompiledOf shape fold tree c
GivesCode shape fold tree (Err (Uncompiled fault)) = IsUncompiled (compiled_tree fold tree) fault
GivesCode shape fold tree (Err NoMemory) = fold ≡ true

-- ---- what follows of it

-- the code of the compiled tree runs as the accepted one, whatever the store, the message, the answers and the turns are
abbrev pub RunsAsAccepted : Shape → Bool → Block → Type 0
RunsAsAccepted shape fold tree =
    (store : Store) (msg : ArrayVec ℤ) (answers : List ℤ) (turns : ℕ) →
    code_run shape (code_of (compiled_tree fold tree)) store msg answers turns ≡ run_of tree store msg answers turns

-- The code of the compiled tree runs as that tree and as the accepted one; it uses what the compiled tree uses, which is nothing more
-- than the accepted one does.
pub record MeansTree (shape : Shape) (fold : Bool) (tree : Block) : Type 0 where
  pub plays : RunsAsItsScript shape (compiled_tree fold tree)
  pub runs : RunsAsAccepted shape fold tree
  pub uses : UsesAsItsScript shape (compiled_tree fold tree)
  pub no_more : UsesNoMore shape tree (compiled_tree fold tree)
