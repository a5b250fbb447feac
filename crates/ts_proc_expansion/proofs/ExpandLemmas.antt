-- What the extent of an expansion says of it, and the script that is made of its parts.
use Rattle.std.proofs.Common.{◌≡◌, ℕ, ◌≤◌, List, ◌++◌, length, map, take, ap, ◌∙◌, arith}
use Rattle.ts_trees.specs.declared.procedure.Proc.{Proc}
use Rattle.ts_trees.specs.declared.script.Decl.{Decl}
use Rattle.ts_trees.specs.Seen.{acts, procedure_of}
use Rattle.ts_trees.specs.Tree.{Act, Acts, Procedure, ProcedureSource, Source}
use Rattle.ts_proc_names.specs.Heads.{parameter_count}
use Rattle.ts_proc_expansion.specs.declared.extent.Extent.{Extent}
use Rattle.ts_proc_renaming.specs.Renaming.{Hiding, nothing_hidden, parameter_decls}
use Rattle.ts_proc_expansion.specs.Expansion.{Callee, callees, expanded_acts, expansion}
use Rattle.ts_proc_expansion.specs.Extent.{acts_depth}
use Rattle.ts_proc_expansion.specs.Extents.{extent_of}
use Rattle.ts_proc_expansion.specs.Live.{BecomesSame}
use Rattle.ts_proc_expansion.specs.Plan.{bodies_of}
use Rattle.ts_proc_expansion.proofs.ExtentLemmas.{acts_depth-le, bodies_all}

-- what a script with procedures becomes, as a list
abbrev pub whole_of : ProcedureSource → List Act
whole_of s = expanded_acts (callees s.procs) nothing_hidden s.body

-- the program's parts are those of the script
pub whole_is : (procs : List Proc) (n : ℕ) (h : Hiding) (b : Acts) (s : ProcedureSource) → length procs ≤ n → h ≡ nothing_hidden → b ≡ s.body → map procedure_of procs ≡ s.procs
    → expanded_acts (take n (bodies_of procs)) h b ≡ whole_of s
whole_is procs n h b s past hides is_body are =
    ap (λ (known : List (List ℕ × Callee)). expanded_acts known h b) (bodies_all procs n past)
    ∙ ap (λ (h : Hiding). expanded_acts (bodies_of procs) h b) hides
    ∙ ap (λ (b : Acts). expanded_acts (bodies_of procs) nothing_hidden b) is_body
    ∙ ap (λ (ps : List Procedure). expanded_acts (callees ps) nothing_hidden s.body) are

-- and those of procedures and statements that become the same
pub whole_same : (procs : List Proc) (n : ℕ) (h : Hiding) (b : Acts) (s : ProcedureSource) → length procs ≤ n → h ≡ nothing_hidden → BecomesSame (callees s.procs) b s.body
    → bodies_of procs ≡ callees s.procs → expanded_acts (take n (bodies_of procs)) h b ≡ whole_of s
whole_same procs n h b s past hides becomes same =
    ap (λ (known : List (List ℕ × Callee)). expanded_acts known h b) (bodies_all procs n past ∙ same)
    ∙ ap (λ (h : Hiding). expanded_acts (callees s.procs) h b) hides ∙ becomes nothing_hidden

-- within the first limit, the depth is exact
pub exact_depth : (xs : List Act) (e : Extent) → e ≡ extent_of xs → e.count ≤ 10000 → e.depth ≡ acts_depth (acts xs)
exact_depth xs e is small = omega (arith, small, ap (λ (e : Extent). e.count) is, ap (λ (e : Extent). e.depth) is, acts_depth-le (acts xs))

-- a script of declarations and statements
abbrev pub script_of : List Decl → List Act → Source
script_of ds xs = record { decls = ds; body = acts xs }

pub expansion_made : (s : ProcedureSource) (ds : List Decl) (n : ℕ) (xs : List Act) → ds ≡ s.decls ++ parameter_decls 0 n → n ≡ parameter_count s.procs → xs ≡ whole_of s → script_of ds xs ≡ expansion s
expansion_made s ds n xs are count is =
    ap (λ ds. script_of ds xs) (are ∙ ap (λ n. s.decls ++ parameter_decls 0 n) count) ∙ ap (script_of (s.decls ++ parameter_decls 0 (parameter_count s.procs))) is
