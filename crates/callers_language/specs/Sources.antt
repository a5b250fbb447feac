-- Small sources as trees, and what a machine or a script has for their names.
use Rattle.std.specs.Prelude.{ℕ, List, [], ◌∷◌, Option, None, true, codes}
use Rattle.vm_shape.specs.declared.function.Function.{Function}
use Rattle.vm_shape.specs.declared.function.FunKind.TheVariants.{Act}
use Rattle.ts_trees.specs.Tree.{Tree, number, call, no_trees, call_alone, for_next, Source, no_acts, act_then}
use Rattle.ts_checked.specs.declared.checked_stmt.CVar.TheVariants as variable
use Rattle.ts_trees.specs.declared.script.Decl.{Decl}
use Rattle.ts_trees.specs.declared.script.DeclKind.TheVariants as kind
use Rattle.ts_trees.specs.declared.stmt.Step.{Step}
use Rattle.ts_trees.specs.declared.word.Word.{Word}
use Rattle.ts_checker.specs.declared.scope.Entry.{Entry}
use Rattle.ts_checker.specs.declared.scope.Symbol.TheVariants.{Variable}

-- a name at a place
abbrev pub word : List ℕ → ℕ → Word
word name place = record { name = name; place = place }

-- an actuator without a device, which takes `args` values
abbrev pub actuator : List ℕ → ℕ → Function
actuator name args = record { name = name; kind = Act args; device = None; latency = 1 }

-- `private NAME;`
abbrev pub private_named : List ℕ → Decl
private_named name = record { kind = kind.Private; word = word name 8; first = true }

-- what it makes known, as the private variable of this number
abbrev pub private_entry : List ℕ → ℕ → Entry
private_entry name index = record { name = name; symbol = Variable (variable.Private index) }

-- `private a; private b; ..` with nine names
abbrev pub nine_privates : List Decl
nine_privates =
    private_named (codes "a") ∷ private_named (codes "b") ∷ private_named (codes "c") ∷ private_named (codes "d")
    ∷ private_named (codes "e")
    ∷ private_named (codes "f") ∷ private_named (codes "g") ∷ private_named (codes "h") ∷ private_named (codes "i") ∷ []

-- `f();`
abbrev pub calling_f : Source
calling_f = record { decls = []; body = act_then (call_alone (word (codes "f") 0) no_trees) no_acts }

-- `private x; for x = 0 to LIMIT STEP next x`
abbrev pub for_x : Tree → Option Step → Source
for_x limit step =
    record {
      decls = private_named (codes "x") ∷ [];
      body = act_then (for_next (word (codes "x") 15) (number 0) limit step no_acts (word (codes "x") 40)) no_acts;
    }

-- `f()`, after `private x; for x = 0 to `
abbrev pub f_in_the_limit : Tree
f_in_the_limit = call (word (codes "f") 24) no_trees
