-- The law of an expansion: it runs as the script with frames does.
use Rattle.std.specs.Prelude.{◌≡◌, ℕ, ℤ, List, Ok}
use Rattle.arrayvec.specs.ArrayVec.{ArrayVec}
use Rattle.mate_num.specs.declared.store.Store.{Store}
use Rattle.vm_shape.specs.declared.description.Description.{Description}
use Rattle.ts_trees.specs.Seen.{source_seen}
use Rattle.ts_checked.specs.Statement.{Block}
use Rattle.ts_trees.specs.Tree.{ProcedureSource}
use Rattle.ts_trees.specs.declared.script.Script.{Script}
use Rattle.ts_checker.specs.Checks.{checked_source}
use Rattle.ts_semantics.specs.Meaning.{run_of}
use Rattle.ts_proc_expansion.specs.Answer.{IsExpansion}
use Rattle.ts_proc_expansion.specs.Expansion.{expansion}
use Rattle.ts_proc_laws.specs.Frames.{run_with_frames}

-- the tree gives the end, the store and the calls of the run with frames, whatever the store, the message, the answers and the turns are
abbrev pub RunsWithFrames : Description → ProcedureSource → Block → Type 0
RunsWithFrames machine source tree =
    (store : Store) (msg : ArrayVec ℤ) (answers : List ℤ) (turns : ℕ) →
    run_of tree store msg answers turns ≡ run_with_frames machine source store msg answers turns

-- if the checks accept the expansion for a machine, its tree does so
abbrev pub RunsAsExpanded : ProcedureSource → Type 0
RunsAsExpanded source =
    (machine : Description) (tree : Block) → checked_source machine (expansion source) ≡ Ok tree → RunsWithFrames machine source tree

-- the same of any plain script that is the expansion, as `expand` answers it and `check` takes it
abbrev pub RunsAsAnswered : ProcedureSource → Type 0
RunsAsAnswered source =
    (plain : Script) → IsExpansion source plain → (machine : Description) (tree : Block)
    → checked_source machine (source_seen plain) ≡ Ok tree →
    RunsWithFrames machine source tree
