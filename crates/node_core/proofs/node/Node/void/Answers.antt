use Rattle.std.proofs.Common.{◌≡◌, ◌∷◌, [], subst, ◌∙◌}
use Rattle.mate_journal.specs.Journal.{Void}
use Rattle.node_open.specs.View.{NodeView, Tells}
use Rattle.node_open.specs.Calls.{Pacing}
use Rattle.node_open.proofs.CallLemmas.{places-told}
use Rattle.node_core.proofs.node.Node.void.Goals as goal

pub returns : goal.returns
returns c =
    let P : NodeView → Type 0 = λ v. Tells v c.void.new.self c.args.at (Pacing (λ _ told. told ≡ Void c.args.cause ∷ [])) in
    subst P c.self.view_is c.void.ensures

pub invariant_of-self : goal.invariant_of-self
invariant_of-self c =
    let n = c.self.inside.node in
    record { whole = c.void.ensures.gone ∙ c.self.invariant.whole; places = places-told n c.void.new.self c.args.at _ c.self.invariant.places c.void.ensures }
