use Rattle.std.proofs.Common.{◌≡◌, List, [], map, Ok, Err, Bor, Result, refl, sym, ap, subst}
use Rattle.std.specs.Prelude.{IfOk}
use Rattle.ts_trees.specs.declared.dialect.Dialect.TheVariants as dialect
use Rattle.ts_trees.specs.declared.procedure.Proc.{Proc}
use Rattle.ts_trees.specs.declared.script.Decl.{Decl}
use Rattle.ts_trees.specs.declared.token.Token.{Token}
use Rattle.ts_trees.specs.Seen.{procedure_of}
use Rattle.ts_trees.specs.Tree.{no_acts}
use Rattle.ts_trees.specs.declared.halt.Halt.{Halt}
use Rattle.ts_trees.specs.Machine.{main, block, decls, procedures}
use Rattle.ts_trees.specs.Parsing.{reads, Reads}
use Rattle.ts_trees.proofs.Parts.{ends_as}
use Rattle.ts_parser.specs.Scripts.{script_frame, FewIn}
use Rattle.ts_parser.proofs.ScriptLemmas.{body_begins, procedures_begin}
use Rattle.ts_parser.proofs.procs.procedures_in.Goals as goal

any : (r : Result (List Proc × Bor (List Token)) Halt) → IfOk r (λ x. FewIn dialect.Procedures (map procedure_of x.0))
any (Ok x) = tt
any (Err e) = tt

pub returns-in-Plain-clause-reads : goal.returns-in-Plain-clause-reads
returns-in-Plain-clause-reads c =
    subst (λ d. (ds : List Decl) → reads c.args.tokens.now (decls d ds) ≡ reads c.args.tokens.now (block no_acts (script_frame d ds (map procedure_of c.new.result)))) (sym c.in-Plain.is)
    (λ ds. body_begins c.args.tokens.now c.requires ds)

pub returns-in-Plain-clause-few : goal.returns-in-Plain-clause-few
returns-in-Plain-clause-few c = subst (λ d. FewIn d (map procedure_of c.new.result)) (sym c.in-Plain.is) (ap (map procedure_of) c.new.ensures)

pub returns-in-Procedures-clause-reads : goal.returns-in-Procedures-clause-reads
returns-in-Procedures-clause-reads c =
    subst (λ d. Reads {X = List Proc} {K = List Decl} c.args.tokens.now (λ ds. decls d ds) (λ ps ds. block no_acts (script_frame d ds (map procedure_of ps))) c.procedures.result) (sym c.in-Procedures.is)
    (ends_as (List Proc) (List Decl) (List Decl) c.args.tokens.now c.args.tokens.now (λ ds. procedures ds []) (λ ps ds. block no_acts (main ds (map procedure_of ps)))
    (λ ds. decls dialect.Procedures ds) (λ ps ds. block no_acts (script_frame dialect.Procedures ds (map procedure_of ps))) (λ ds. ds) (λ ds. procedures_begin c.args.tokens.now c.requires ds) (λ x ms k. refl)
    c.procedures.result c.procedures.ensures)

pub returns-in-Procedures-clause-few : goal.returns-in-Procedures-clause-few
returns-in-Procedures-clause-few c = subst (λ d. IfOk c.procedures.result (λ x. FewIn d (map procedure_of x.0))) (sym c.in-Procedures.is) (any c.procedures.result)
