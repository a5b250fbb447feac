-- The parts of a script as the compiler measures and writes them.
use Rattle.std.specs.Prelude.{◌≡◌, ℕ, ℤ, ◌+◌, ◌≤◌, [], ◌++◌, ◌∷◌, min, List}
use Rattle.mate_num.specs.declared.bounds.TheConstants.{CODE_MAX}
use Rattle.mate_code.specs.declared.instr.Instr.{Instr}
use Rattle.mate_code.specs.declared.instr.Instr.TheVariants.{Jz, Jmp}
use Rattle.ts_checked.specs.Expression.{Expression}
use Rattle.ts_checked.specs.Statement.{Block}
use Rattle.ts_checked.specs.declared.checked_stmt.CVar.{CVar}
use Rattle.ts_semantics.specs.Translation.{size_of_instrs, get_code, set_code, within_code, expr_code, expr_size, block_code, block_size}

-- a number that stops at 1,000,000,000
abbrev pub capped : ℕ → ℕ
capped n = min n 1000000000

-- more instructions have room after those that were written
pub record HasRoom (written more : List Instr) : Type 0 where
  pub fits : size_of_instrs written + size_of_instrs more ≤ CODE_MAX

-- more instructions were written
pub record WritesInstrs (old more new : List Instr) : Type 0 where
  pub code : new ≡ old ++ more
  pub size : size_of_instrs new ≡ size_of_instrs old + size_of_instrs more

-- at a place, a test, and a part that runs if it is true: else it goes on `behind` bytes after the part
abbrev pub guarded_code : ℕ → Expression → Block → ℕ → List Instr
guarded_code place e a behind = expr_code e ++ Jz (place + expr_size e + 3 + block_size a + behind) ∷ block_code (place + expr_size e + 3) a

-- the first value of a `for`, and its test
abbrev pub head_code : CVar → Expression → Expression → ℤ → List Instr
head_code x from to step = expr_code from ++ set_code x ∷ get_code x ∷ (expr_code to ++ within_code step ∷ [])

-- at a place, a part that is passed by
abbrev pub other_code : ℕ → Block → List Instr
other_code place b = Jmp (place + 3 + block_size b) ∷ block_code (place + 3) b
