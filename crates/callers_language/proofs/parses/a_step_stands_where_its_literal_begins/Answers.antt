use Rattle.std.proofs.Common.{List, [], false, refl, sym, subst}
use Rattle.ts_trees.specs.Faults.{Spells}
use Rattle.ts_trees.specs.declared.token.Token.{Token}
use Rattle.callers_language.specs.GrammarSources.{stepping, loop_by_three}
use Rattle.callers_language.proofs.Verdicts.{only_script}
use Rattle.callers_language.proofs.parses.a_step_stands_where_its_literal_begins.Goals as goal

spelled_so : Spells (stepping []) (loop_by_three false)
spelled_so = record { derived = record { decls = tt; body = ((tt, tt, tt), tt) }; spells = refl; places = refl; within = refl }

pub returns : goal.returns
returns c =
    only_script c.verdict_law.ensures.one c.args.tokens.now 29 (loop_by_three false) c.parse.result
    (subst (λ (tokens : List Token). Spells tokens (loop_by_three false)) (sym c.requires) spelled_so) c.parse.ensures
