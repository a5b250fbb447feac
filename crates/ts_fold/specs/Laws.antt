-- What folding keeps of a script: how it runs; and it uses nothing more, and takes no more room.
use Rattle.std.specs.Prelude.{◌≡◌, ℕ, ◌≤◌, ℤ, List, IsTrue}
use Rattle.arrayvec.specs.ArrayVec.{ArrayVec}
use Rattle.mate_num.specs.declared.resource.Resource.{Resource}
use Rattle.mate_num.specs.declared.shape.Shape.{Shape}
use Rattle.mate_num.specs.declared.store.Store.{Store}
use Rattle.ts_checked.specs.Statement.{Block}
use Rattle.ts_semantics.specs.Meaning.{run_of}
use Rattle.ts_semantics.specs.Uses.{script_uses}
use Rattle.ts_semantics.specs.Translation.{script_need, script_size}

-- the new tree runs as the old one: the end, the store and the calls are the same, whatever the store, the message,
-- the answers and the turns are
abbrev pub RunsAs : Block → Block → Type 0
RunsAs old new =
    (store : Store) (msg : ArrayVec ℤ) (answers : List ℤ) (turns : ℕ) →
    run_of new store msg answers turns ≡ run_of old store msg answers turns

-- on a machine of this shape the new tree reads and writes only what the old one does
pub record UsesNoMore (shape : Shape) (old new : Block) : Type 0 where
  pub reads : (r : Resource) → IsTrue ((script_uses shape new).reads r) → IsTrue ((script_uses shape old).reads r)
  pub writes : (r : Resource) → IsTrue ((script_uses shape new).writes r) → IsTrue ((script_uses shape old).writes r)

-- the new tree needs at most the stack that the old one needs, and its code takes at most as many bytes
pub record TakesNoMore (old new : Block) : Type 0 where
  pub need : script_need new ≤ script_need old
  pub size : script_size new ≤ script_size old
