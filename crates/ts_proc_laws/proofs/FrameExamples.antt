-- Runs with frames that compute to what they give.
use Rattle.std.proofs.Common.{◌≡◌, ℕ, ℤ, pos, [], ◌∷◌, Ok, refl}
use Rattle.mate_num.specs.declared.store.Store.{Store}
use Rattle.vm_shape.specs.declared.description.Description.{Description}
use Rattle.ts_trees.specs.declared.word.Word.{Word}
use Rattle.ts_checked.specs.declared.checked_stmt.CVar.TheVariants as var
use Rattle.ts_trees.specs.Tree.{variable, no_trees, tree_then, set, run_procedure, ProcedureSource}
use Rattle.ts_trees.specs.Seen.{acts}
use Rattle.ts_checker.specs.declared.scope.Symbol.TheVariants.{Variable}
use Rattle.ts_checker.specs.Names.{ScriptNames}
use Rattle.ts_semantics.specs.State.{begun_state}
use Rattle.ts_proc_laws.specs.Frames.{script_run}

abbrev word : ℕ → Word
word letter = record { name = letter ∷ []; place = 0 }

-- `shared a, b;` and the private variable `c`
abbrev names : Description → ScriptNames
names machine =
    record {
      machine = machine;
      declared = record { name = 97 ∷ []; symbol = Variable (var.Shared (record { 0 = 0 })) } ∷ record { name = 98 ∷ []; symbol = Variable (var.Shared (record { 0 = 1 })) }
          ∷ record { name = 99 ∷ []; symbol = Variable (var.Private 0) } ∷ [];
    }

abbrev store_with : ℤ → ℤ → Store
store_with a b = record { shared = record { items = a ∷ b ∷ [] }; buffers = record { items = [] } }

-- `proc f(n) a = n; end proc do f(b);`
abbrev giving : ProcedureSource
giving =
    record {
      decls = [];
      procs = record { name = word 102; params = word 110 ∷ []; body = acts (set (word 97) (variable (word 110)) ∷ []) } ∷ [];
      body = acts (run_procedure (word 102) (tree_then (variable (word 98)) no_trees) ∷ []);
    }

pub gives : (machine : Description) → (script_run (Ok (names machine)) giving (begun_state (store_with (pos 3) (pos 9)) (record { items = [] }) [] 10)).store ≡ store_with (pos 9) (pos 9)
gives machine = refl

-- a parameter `c` hides the private variable, which a procedure that it calls reaches, and it is gone behind the call:
-- `proc f(n) c = n; end proc proc g(c) do f(a); a = c; end proc do g(b); b = c;`
abbrev hiding : ProcedureSource
hiding =
    record {
      decls = [];
      procs = record { name = word 102; params = word 110 ∷ []; body = acts (set (word 99) (variable (word 110)) ∷ []) }
          ∷ record { name = word 103; params = word 99 ∷ []; body = acts (run_procedure (word 102) (tree_then (variable (word 97)) no_trees) ∷ set (word 97) (variable (word 99)) ∷ []) } ∷ [];
      body = acts (run_procedure (word 103) (tree_then (variable (word 98)) no_trees) ∷ set (word 98) (variable (word 99)) ∷ []);
    }

pub hides : (machine : Description) → (script_run (Ok (names machine)) hiding (begun_state (store_with (pos 3) (pos 9)) (record { items = [] }) [] 10)).store ≡ store_with (pos 9) (pos 3)
hides machine = refl
