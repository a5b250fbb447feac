-- What the compiler gives for a script.
use Rattle.std.specs.Prelude.{◌≡◌, ℕ, ◌<◌, ◌≤◌, Result, Ok, Err}
use Rattle.arrayvec.specs.ArrayVec.{ArrayVec}
use Rattle.mate_num.specs.declared.bounds.TheConstants.{CODE_MAX, STACK_MAX}
use Rattle.mate_num.specs.declared.shape.Shape.{Shape}
use Rattle.mate_code.specs.BytesVerification.{bytes_verification}
use Rattle.mate_code.specs.Code.{code_bytes}
use Rattle.mate_code.specs.Table.{table_of}
use Rattle.mate_code.specs.Verification.{Marks}
use Rattle.ts_checked.specs.Statement.{Block}
use Rattle.ts_semantics.specs.Translation.{script_code, script_size, script_need, code_of}
use Rattle.ts_compiler.specs.Parts.{capped}
use Rattle.ts_compiler.specs.declared.fault.CompileFault.{CompileFault}
use Rattle.ts_compiler.specs.declared.fault.CompileFault.TheVariants.{StackDepth, TooLong}

-- the script has code: it needs a stack of at most `STACK_MAX` values, its code has room, and these are the code's bytes
pub record IsCompiled (shape : Shape) (tree : Block) (bytes : ArrayVec ℕ) : Type 0 where
  pub need : script_need tree ≤ STACK_MAX
  pub size : script_size tree ≤ CODE_MAX
  pub code : bytes.items ≡ code_bytes (table_of shape) (script_code tree)

-- why the script has no code: it needs a deeper stack, or it doesn't, but its code is too long
abbrev pub IsUncompiled : Block → CompileFault → Type 0
IsUncompiled tree (StackDepth need) = (STACK_MAX < script_need tree) × (need ≡ capped (script_need tree))
IsUncompiled tree (TooLong size) = (script_need tree ≤ STACK_MAX) × (CODE_MAX < script_size tree) × (size ≡ capped (script_size tree))

-- what the result says; it says each exactly if it holds, since no two hold at once
abbrev pub Compiles : Shape → Block → Result (ArrayVec ℕ) CompileFault → Type 0
Compiles shape tree (Ok code) = IsCompiled shape tree code
Compiles shape tree (Err fault) = IsUncompiled tree fault

-- the bytes are verified, and spell the code of the script
abbrev pub AreAccepted : Shape → Block → ArrayVec ℕ → Type 0
AreAccepted shape tree bytes = (marks : Marks) × (bytes_verification shape bytes.items ≡ Ok (code_of tree, marks))
