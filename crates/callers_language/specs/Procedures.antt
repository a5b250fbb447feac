-- Small scripts with procedures, of which contracts of other crates fix what becomes of them.
use Rattle.std.specs.Prelude.{ℕ, zero, suc, List, [], ◌∷◌, codes, true}
use Rattle.ts_trees.specs.Seen.{acts, trees}
use Rattle.ts_trees.specs.Tree.{Tree, number, variable, two, Act, set, while_do, run_procedure, Procedure, ProcedureSource}
use Rattle.ts_checked.specs.declared.bin_op.BinOp.TheVariants.{Div}
use Rattle.ts_trees.specs.declared.script.Decl.{Decl}
use Rattle.ts_trees.specs.declared.script.DeclKind.TheVariants.{Private}
use Rattle.ts_trees.specs.declared.word.Word.{Word}

-- a name, as the first of a text
abbrev pub named : List ℕ → Word
named name = record { name = name; place = 0 }

-- `private NAME;`
abbrev pub private_variable : List ℕ → Decl
private_variable name = record { kind = Private; word = named name; first = true }

-- `proc NAME(PARAMS) BODY end proc`
abbrev pub procedure_named : List ℕ → List Word → List Act → Procedure
procedure_named name params body = record { name = named name; params = params; body = acts body }

-- `do NAME(ARGS);`, as the first of a text
abbrev pub running : List ℕ → List Tree → Act
running name args = run_procedure record { name = name; place = 3 } (trees args)

-- `NAME = NUMBER;`, and `NAME = 1 / NAME;`
abbrev pub setting : List ℕ → ℕ → Act
setting name n = set (named name) (number n)

abbrev pub inverting : List ℕ → Act
inverting name = set (named name) (two Div (number 1) (variable (named name)))

-- these statements in n blocks, one inside the other
abbrev pub nested : ℕ → List Act → List Act
nested zero body = body
nested (suc n) body = while_do (number 0) (acts (nested n body)) ∷ []

-- `proc f(a) end proc do f();`
abbrev pub missing_argument : ProcedureSource
missing_argument =
    record {
      decls = [];
      procs = procedure_named (codes "f") (named (codes "a") ∷ []) [] ∷ [];
      body = acts (running (codes "f") [] ∷ []);
    }

-- `proc f(a) end proc proc g(b) end proc do g(7);`
abbrev pub two_parameters : ProcedureSource
two_parameters =
    record {
      decls = [];
      procs = procedure_named (codes "f") (named (codes "a") ∷ []) [] ∷ procedure_named (codes "g") (named (codes "b") ∷ []) [] ∷ [];
      body = acts (running (codes "g") (number 7 ∷ []) ∷ []);
    }

-- 20 blocks of a procedure within 20 of another one, which the script runs
abbrev pub nested_by_a_call : ProcedureSource
nested_by_a_call =
    record {
      decls = [];
      procs = procedure_named (codes "f") [] (nested 20 []) ∷ procedure_named (codes "g") [] (nested 20 (running (codes "f") [] ∷ [])) ∷ [];
      body = acts (running (codes "g") [] ∷ []);
    }

-- `private c; proc f(c) c = 1; end proc do f(2); c = 1 / c;`
abbrev pub hidden_variable : ProcedureSource
hidden_variable =
    record {
      decls = private_variable (codes "c") ∷ [];
      procs = procedure_named (codes "f") (named (codes "c") ∷ []) (setting (codes "c") 1 ∷ []) ∷ [];
      body = acts (running (codes "f") (number 2 ∷ []) ∷ inverting (codes "c") ∷ []);
    }

-- `proc f(n) end proc proc g(m) do f(1); m = 1 / m; end proc do g(0);`
abbrev pub inner_call : ProcedureSource
inner_call =
    record {
      decls = [];
      procs = procedure_named (codes "f") (named (codes "n") ∷ []) []
          ∷ procedure_named (codes "g") (named (codes "m") ∷ []) (running (codes "f") (number 1 ∷ []) ∷ inverting (codes "m") ∷ []) ∷ [];
      body = acts (running (codes "g") (number 0 ∷ []) ∷ []);
    }

-- `private c; proc f() end proc c = 1; do f(); c = 1 / c;`
abbrev pub kept_variable : ProcedureSource
kept_variable =
    record {
      decls = private_variable (codes "c") ∷ [];
      procs = procedure_named (codes "f") [] [] ∷ [];
      body = acts (setting (codes "c") 1 ∷ running (codes "f") [] ∷ inverting (codes "c") ∷ []);
    }

-- `proc f(n) end proc do f(0); _0 = 1 / _0;`
abbrev pub reserved_name : ProcedureSource
reserved_name =
    record {
      decls = [];
      procs = procedure_named (codes "f") (named (codes "n") ∷ []) [] ∷ [];
      body = acts (running (codes "f") (number 0 ∷ []) ∷ inverting (codes "_0") ∷ []);
    }
