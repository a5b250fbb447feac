use Rattle.std.proofs.Common.{◌∙◌}
use Rattle.ts_parser.proofs.ScriptLemmas.{decl_begins, decls_halt}
use Rattle.ts_parser.proofs.decls.declarations.Goals as goal

pub returns-in_err-rest-clause-reads : goal.returns-in_err-rest-clause-reads
returns-in_err-rest-clause-reads c =
    decls_halt _ _ c.args.tokens.now c.in-Some.behind.now _ _ (λ d. c.loop-kind.invariant d ∙ decl_begins c.in-Some.ensures d c.loop-kind.all)
    c.from_residual.result c.in_err-rest.field-0.0 c.from_residual.ensures.1 c.in_err-rest.ensures.reads

pub loop-kind-preserved : goal.loop-kind-preserved
loop-kind-preserved c = λ d. c.loop-kind.invariant d ∙ decl_begins c.in-Some.ensures d c.loop-kind.all ∙ c.in_ok-rest.ensures.reads d
