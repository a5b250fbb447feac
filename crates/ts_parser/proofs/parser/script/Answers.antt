use Rattle.std.proofs.Common.{List, map, ◌∙◌}
use Rattle.ts_trees.specs.declared.stmt.Stmt.{Stmt}
use Rattle.ts_trees.specs.declared.script.Decl.{Decl}
use Rattle.ts_trees.specs.declared.procedure.Proc.{Proc}
use Rattle.ts_trees.specs.Seen.{acts_of, procedure_of}
use Rattle.ts_trees.specs.Tree.{no_acts}
use Rattle.ts_trees.specs.Machine.{block, decls}
use Rattle.ts_statements.specs.Blocks.{FrameIn}
use Rattle.ts_parser.specs.Scripts.{script_frame}
use Rattle.ts_parser.proofs.ScriptLemmas.{script_halts, body_frame, script_read, script_left}
use Rattle.ts_parser.proofs.ParseLemmas.{some_left, none_left}
use Rattle.ts_parser.proofs.parser.script.Goals as goal

pub returns-in_err-procs : goal.returns-in_err-procs
returns-in_err-procs c =
    script_halts {X = List Proc} {K = List Decl} c.args.dialect c.args.tokens.now c.in_ok-decls.rest.now
    (λ ds. decls c.args.dialect ds) (λ ps ds. block no_acts (script_frame c.args.dialect ds (map procedure_of ps))) c.in_ok-decls.decls (c.in_ok-decls.ensures.reads c.args.dialect)
    c.from_residual-in_err-procs.result c.in_err-procs.field-0.0 c.from_residual-in_err-procs.ensures.1 c.in_err-procs.ensures.reads

pub returns-in_err-body : goal.returns-in_err-body
returns-in_err-body c =
    script_halts {X = List Stmt} {K = FrameIn c.args.dialect} c.args.dialect c.args.tokens.now c.in_ok-procs.rest.now
    (λ f. block no_acts f.frame) (λ b f. block (acts_of b) f.frame) (body_frame c.args.dialect c.in_ok-decls.decls (map procedure_of c.in_ok-procs.procs))
    (c.in_ok-decls.ensures.reads c.args.dialect ∙ c.in_ok-procs.ensures.reads c.in_ok-decls.decls)
    c.from_residual-in_err-body.result c.in_err-body.field-0.0 c.from_residual-in_err-body.ensures.1 c.in_err-body.ensures.reads

pub returns-then-not-is_empty : goal.returns-then-not-is_empty
returns-then-not-is_empty c =
    script_left c.args.dialect c.args.tokens.now c.in_ok-body.rest.now c.in_ok-decls.decls (map procedure_of c.in_ok-procs.procs) c.in_ok-body.body
    (record {
      begins = c.in_ok-decls.ensures.reads c.args.dialect ∙ c.in_ok-procs.ensures.reads c.in_ok-decls.decls
          ∙ c.in_ok-body.ensures.reads (body_frame c.args.dialect c.in_ok-decls.decls (map procedure_of c.in_ok-procs.procs));
      few = c.in_ok-procs.ensures.few;
    })
    c.in_ok-body.ensures.over (some_left c.in_ok-body.rest.now c.if-not-is_empty.ensures)

pub returns : goal.returns
returns c =
    script_read c.args.dialect c.args.tokens.now c.in_ok-body.rest.now c.in_ok-decls.decls (map procedure_of c.in_ok-procs.procs) c.in_ok-body.body
    (record {
      begins = c.in_ok-decls.ensures.reads c.args.dialect ∙ c.in_ok-procs.ensures.reads c.in_ok-decls.decls
          ∙ c.in_ok-body.ensures.reads (body_frame c.args.dialect c.in_ok-decls.decls (map procedure_of c.in_ok-procs.procs));
      few = c.in_ok-procs.ensures.few;
    })
    (none_left c.in_ok-body.rest.now c.if-not-is_empty.ensures)
