use Rattle.std.proofs.Common.{◌≡◌, List, [], ◌∷◌, ◌++◌, map, refl, sym, ◌∙◌, ap}
use Rattle.ts_trees.specs.declared.procedure.Proc.{Proc}
use Rattle.ts_trees.specs.declared.script.Decl.{Decl}
use Rattle.ts_trees.specs.Seen.{procedure_of}
use Rattle.ts_trees.specs.Tree.{Procedure, no_acts}
use Rattle.ts_trees.specs.Machine.{main, block, proc_word, procedures}
use Rattle.ts_trees.specs.Parsing.{reads}
use Rattle.ts_trees.proofs.Parts.{halts}
use Rattle.ts_parser.proofs.ScriptLemmas.{proc_begins, main_begins}
use Rattle.ts_parser.proofs.procs.procedures.Goals as goal

pushed : (xs : List Proc) (p : Proc) → map procedure_of xs ++ procedure_of p ∷ [] ≡ map procedure_of (xs ++ p ∷ [])
pushed [] p = refl
pushed (x ∷ xs) p = ap (λ z. procedure_of x ∷ z) (pushed xs p)

pub returns-in_err-proc : goal.returns-in_err-proc
returns-in_err-proc c =
    halts Proc (List Proc) (List Decl × List Procedure) (List Decl) c.args.tokens.now c.in-Some.behind.now
    (λ k. proc_word k.0 k.1) (λ p k. procedures k.0 (k.1 ++ procedure_of p ∷ [])) (λ ds. procedures ds []) (λ ps ds. block no_acts (main ds (map procedure_of ps)))
    (λ ds. (ds, map procedure_of c.loop-behind.procs)) (λ ds. c.loop-behind.invariant ds ∙ proc_begins c.in-Some.ensures ds (map procedure_of c.loop-behind.procs))
    c.from_residual.result c.in_err-proc.field-0.0 c.from_residual.ensures.1 c.in_err-proc.ensures.reads

pub loop-behind-preserved : goal.loop-behind-preserved
loop-behind-preserved c =
    λ ds. c.loop-behind.invariant ds ∙ proc_begins c.in-Some.ensures ds (map procedure_of c.loop-behind.procs)
    ∙ c.in_ok-proc.ensures.reads (ds, map procedure_of c.loop-behind.procs)
    ∙ ap (λ z. reads c.in_ok-proc.then.now (procedures ds z)) (pushed c.loop-behind.procs c.in_ok-proc.proc ∙ ap (map procedure_of) (sym c.in_ok-push.ensures))

pub returns : goal.returns
returns c = λ ds. c.loop-behind.invariant ds ∙ main_begins c.loop-behind.rest.now c.in_default.ensures ds (map procedure_of c.loop-behind.procs)
