-- What the code of a checked tree does.
use Rattle.std.specs.Prelude.{◌≡◌, ℕ, ℤ, List, length}
use Rattle.arrayvec.specs.ArrayVec.{ArrayVec}
use Rattle.mate_num.specs.declared.shape.Shape.{Shape}
use Rattle.mate_num.specs.declared.store.Store.{Store}
use Rattle.mate_code.specs.CodeUses.{uses_of as code_uses}
use Rattle.mate_code.specs.Code.{code_bytes}
use Rattle.mate_code.specs.Run.{code_run}
use Rattle.mate_code.specs.Table.{AreInTable, table_of}
use Rattle.mate_code.specs.Verification.{Marks, IsVerified}
use Rattle.ts_checked.specs.Statement.{Block}
use Rattle.ts_semantics.specs.Meaning.{run_of}
use Rattle.ts_semantics.specs.Uses.{script_uses}
use Rattle.ts_semantics.specs.Translation.{code_of, script_code, script_size}

-- the code runs as the script does, whatever the store, the message, the answers and the turns are
abbrev pub RunsAsItsScript : Shape → Block → Type 0
RunsAsItsScript shape tree =
    (store : Store) (msg : ArrayVec ℤ) (answers : List ℤ) (turns : ℕ) →
    code_run shape (code_of tree) store msg answers turns ≡ run_of tree store msg answers turns

-- the code reads and writes what the script does
abbrev pub UsesAsItsScript : Shape → Block → Type 0
UsesAsItsScript shape tree = code_uses shape (code_of tree) ≡ script_uses shape tree

-- the code is verified, with some marks
abbrev pub IsVerifiedScript : Shape → Block → Type 0
IsVerifiedScript shape tree = (marks : Marks) × IsVerified shape (code_of tree) marks

-- each instruction is in the machine's table, and the bytes are as many as was said
pub record IsEncodable (shape : Shape) (tree : Block) : Type 0 where
  pub in_table : AreInTable (table_of shape) (script_code tree)
  pub size : length (code_bytes (table_of shape) (script_code tree)) ≡ script_size tree
