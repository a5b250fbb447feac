use Rattle.std.proofs.Common.{◌∙◌, refl, sym}
use Rattle.slip_gateway.proofs.FedLemmas.{fresh-left}
use Rattle.slip_gateway.proofs.slip.Slip.close.Goals as goal

pub returns-then-is_fresh-clause-after : goal.returns-then-is_fresh-clause-after
returns-then-is_fresh-clause-after c = fresh-left c.args.self.now _ (sym c.is_fresh.ensures ∙ c.if-is_fresh.true) refl
