use Rattle.std.proofs.Common.{Bool, sym, ◌∙◌, ap}
use Rattle.std.specs.Prelude.{Some, None, if◌then◌else◌}
use Rattle.capsule_exchange.proofs.exchange.Exchange.complete.Goals as goal

pub returns-then-complete_into : goal.returns-then-complete_into
returns-then-complete_into c = λ n hs known.
    ap (λ (b : Bool). if b then Some c.complete_into.new.image else None) (sym c.if-complete_into.true) ∙ c.complete_into.ensures.image n hs (c.self.view_is ∙ known)

pub returns-else-complete_into : goal.returns-else-complete_into
returns-else-complete_into c = λ n hs known.
    ap (λ (b : Bool). if b then Some c.complete_into.new.image else None) (sym c.if-complete_into.false) ∙ c.complete_into.ensures.image n hs (c.self.view_is ∙ known)
