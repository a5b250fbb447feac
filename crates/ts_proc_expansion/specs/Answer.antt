-- What an expansion answers.
use Rattle.std.specs.Prelude.{◌≡◌, ◌≤◌, ◌<◌, ℕ, min, Result, Ok, Err, ⊤}
use Rattle.ts_trees.specs.declared.script.Script.{Script}
use Rattle.ts_trees.specs.Seen.{source_seen}
use Rattle.ts_trees.specs.Tree.{ProcedureSource}
use Rattle.ts_proc_names.specs.declared.fault.ProcFault.{ProcFault}
use Rattle.ts_proc_names.specs.declared.fault.ProcFault.TheVariants.{TooLarge, TooNested, NoMemory}
use Rattle.ts_proc_expansion.specs.declared.limits.TheConstants.{STATEMENTS_MAX, DEPTH_MAX}
use Rattle.ts_proc_expansion.specs.declared.extent.TheConstants.{COUNT_MAX}
use Rattle.ts_proc_expansion.specs.Expansion.{expansion}
use Rattle.ts_proc_expansion.specs.Extent.{acts_count, acts_depth}

-- the script is the expansion, which is within both limits
pub record IsExpansion (source : ProcedureSource) (script : Script) : Type 0 where
  pub is : source_seen script ≡ expansion source
  pub small : acts_count (expansion source).body ≤ STATEMENTS_MAX
  pub shallow : acts_depth (expansion source).body ≤ DEPTH_MAX

-- too many statements: their number, which stops at a million
pub record IsTooLarge (source : ProcedureSource) (count : ℕ) : Type 0 where
  pub large : STATEMENTS_MAX < acts_count (expansion source).body
  pub counts : count ≡ min COUNT_MAX (acts_count (expansion source).body)

-- few enough, in blocks that nest too deep
pub record IsTooNested (source : ProcedureSource) (depth : ℕ) : Type 0 where
  pub small : acts_count (expansion source).body ≤ STATEMENTS_MAX
  pub deep : DEPTH_MAX < acts_depth (expansion source).body
  pub counts : depth ≡ acts_depth (expansion source).body

-- the answer is the expansion, or why there is none; lack of memory says nothing
abbrev pub Expands : ProcedureSource → Result Script ProcFault → Type 0
Expands source (Ok script) = IsExpansion source script
Expands source (Err (TooLarge count)) = IsTooLarge source count
Expands source (Err (TooNested depth)) = IsTooNested source depth
Expands source (Err NoMemory) = ⊤
Expands source (Err _) = ⊥

-- within both limits
pub record IsWithin (source : ProcedureSource) : Type 0 where
  pub small : acts_count (expansion source).body ≤ STATEMENTS_MAX
  pub shallow : acts_depth (expansion source).body ≤ DEPTH_MAX

-- it is within them, or why it isn't; lack of memory says nothing
abbrev pub IsWithinOr : ProcedureSource → Result (Unit {0}) ProcFault → Type 0
IsWithinOr source (Ok _) = IsWithin source
IsWithinOr source (Err fault) = Expands source (Err fault)
