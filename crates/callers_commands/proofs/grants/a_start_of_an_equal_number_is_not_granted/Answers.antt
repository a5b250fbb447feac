use Rattle.std.proofs.Common.{◌∙◌, arith}
use Rattle.std.specs.Prelude.{nat_lt}
use Rattle.std.proofs.lemmas.Bool.{le-ltb}
use Rattle.callers_commands.proofs.AuditLemmas.{and_false}
use Rattle.callers_commands.proofs.grants.a_start_of_an_equal_number_is_not_granted.Goals as goal

pub returns : goal.returns
returns c = c.is_granted.ensures ∙ and_false _ _ (le-ltb c.args.inv c.args.inv (omega arith))
