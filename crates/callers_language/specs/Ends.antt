-- How the runs of a script with procedures end: with frames, and as its expansion.
use Rattle.std.specs.Prelude.{◌≡◌, ℕ, ℤ, List, Ok}
use Rattle.arrayvec.specs.ArrayVec.{ArrayVec}
use Rattle.mate_num.specs.declared.call.End.{End}
use Rattle.mate_num.specs.declared.store.Store.{Store}
use Rattle.vm_shape.specs.declared.description.Description.{Description}
use Rattle.ts_checked.specs.Statement.{Block}
use Rattle.ts_trees.specs.Tree.{ProcedureSource}
use Rattle.ts_checker.specs.Checks.{checked_source}
use Rattle.ts_semantics.specs.Meaning.{run_of}
use Rattle.ts_proc_expansion.specs.Expansion.{expansion}
use Rattle.ts_proc_laws.specs.Frames.{run_with_frames}

-- on every machine, each run with frames has this end
abbrev pub FramesEndIn : ProcedureSource → End → Type 0
FramesEndIn source end =
    (machine : Description) (store : Store) (msg : ArrayVec ℤ) (answers : List ℤ) (turns : ℕ) →
    (run_with_frames machine source store msg answers turns).end ≡ end

-- on every machine, each run of the checked expansion has this end
abbrev pub ExpansionEndsIn : ProcedureSource → End → Type 0
ExpansionEndsIn source end =
    (machine : Description) (tree : Block) → checked_source machine (expansion source) ≡ Ok tree →
    (store : Store) (msg : ArrayVec ℤ) (answers : List ℤ) (turns : ℕ) → (run_of tree store msg answers turns).end ≡ end
