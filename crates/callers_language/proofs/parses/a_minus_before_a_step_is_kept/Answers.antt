use Rattle.std.proofs.Common.{List, [], ◌∷◌, true, refl, sym, subst}
use Rattle.ts_trees.specs.Cut.{token}
use Rattle.ts_trees.specs.Faults.{Spells}
use Rattle.ts_trees.specs.declared.token.Token.{Token}
use Rattle.ts_trees.specs.declared.token.TokenKind.TheVariants as kind
use Rattle.callers_language.specs.GrammarSources.{stepping, loop_by_three}
use Rattle.callers_language.proofs.Verdicts.{only_script}
use Rattle.callers_language.proofs.parses.a_minus_before_a_step_is_kept.Goals as goal

spelled_so : Spells (stepping (token kind.Minus 20 21 ∷ [])) (loop_by_three true)
spelled_so = record { derived = record { decls = tt; body = ((tt, tt, tt), tt) }; spells = refl; places = refl; within = refl }

pub returns : goal.returns
returns c =
    only_script c.verdict_law.ensures.one c.args.tokens.now 29 (loop_by_three true) c.parse.result
    (subst (λ (tokens : List Token). Spells tokens (loop_by_three true)) (sym c.requires) spelled_so) c.parse.ensures
