use Rattle.std.proofs.Common.{length, sym, ◌∙◌, ap, arith}
use Rattle.ts_trees.specs.declared.token.TokenKind.TheVariants as kind
use Rattle.ts_trees.specs.Machine.{decl_more}
use Rattle.ts_trees.specs.Parsing.{reads}
use Rattle.ts_trees.proofs.Parts.{starts_shorter}
use Rattle.ts_parser.proofs.ScriptLemmas.{decl_named, decl_missing, decl_follows, name_halts, decl_closes}
use Rattle.ts_parser.proofs.decls.names.Goals as goal

pub returns-in_err-word-clause-reads : goal.returns-in_err-word-clause-reads
returns-in_err-word-clause-reads c =
    name_halts _ _ c.loop-word.rest.now (λ l d. c.loop-word.invariant.0 d ∙ decl_missing c.loop-word.rest.now l d c.args.kind c.loop-word.first c.loop-word.all)
    c.from_residual.result c.in_err-word.field-0.0 c.from_residual.ensures.1 c.in_err-word.ensures

pub returns-in_default-clause-reads : goal.returns-in_default-clause-reads
returns-in_default-clause-reads c =
    decl_closes c.args.tokens.now c.in_ok-word.behind.now _ c.args.kind _
    (λ d. c.loop-word.invariant.0 d ∙ decl_named c.in_ok-word.ensures d c.args.kind c.loop-word.first c.loop-word.all
    ∙ ap (λ z. reads c.in_ok-word.behind.now (decl_more d c.args.kind z)) (sym c.in_ok-push.ensures))
    c.in_default.ensures c.expect.result c.expect.ensures

pub loop-word-preserved : goal.loop-word-preserved
loop-word-preserved c = (
  λ d. c.loop-word.invariant.0 d ∙ decl_named c.in_ok-word.ensures d c.args.kind c.loop-word.first c.loop-word.all
      ∙ ap (λ z. reads c.in_ok-word.behind.now (decl_more d c.args.kind z)) (sym c.in_ok-push.ensures) ∙ decl_follows c.in-Some.ensures d c.args.kind _,
  omega (arith, starts_shorter kind.Comma c.in-Some.ensures, ap length c.in_ok-word.ensures.are, c.loop-word.invariant.1),
)
