use Rattle.std.proofs.Common.{List, [], ◌∷◌, refl, sym, subst}
use Rattle.ts_trees.specs.Faults.{IsUnexpected}
use Rattle.ts_trees.specs.Script.{IsScript}
use Rattle.ts_trees.specs.declared.dialect.Dialect.TheVariants.{Plain}
use Rattle.ts_trees.specs.declared.token.Token.{Token}
use Rattle.ts_trees.specs.declared.token.TokenKind.TheVariants as kind
use Rattle.callers_language.proofs.Verdicts.{only_unexpected, lone_sign}
use Rattle.callers_language.proofs.parses.a_fault_stands_where_its_token_begins.Goals as goal

pub returns : goal.returns
returns c =
    let stops : IsUnexpected IsScript c.args.tokens.now 4 3 =
    subst (λ (tokens : List Token). IsUnexpected IsScript tokens 4 3) (sym c.requires)
    (lone_sign 3 4 4 (c.machine_law.ensures.refused Plain (kind.Semi ∷ []) (0 ∷ []) (kind.Semi ∷ []) refl)) in
    only_unexpected c.verdict_law.ensures.one c.args.tokens.now 4 3 c.parse.result stops c.parse.ensures
