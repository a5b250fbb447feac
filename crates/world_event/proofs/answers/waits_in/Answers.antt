use Rattle.std.proofs.Common.{◌≡◌, ℕ, sym, ◌∙◌, subst, eq-eqb}
use Rattle.node_open.specs.View.{heard_of}
use Rattle.world_event.proofs.AnswerLemmas.{same-number}
use Rattle.world_event.proofs.answers.waits_in.Goals as goal

pub returns-in-Some-clause-there : goal.returns-in-Some-clause-there
returns-in-Some-clause-there c = λ same.
    subst (λ (n : ℕ). ((heard_of c.args.node.now).invocations n).context ≡ c.args.ctx) (same-number c.in-Some.asked.inv c.args.inv same) c.in-Some.ensures.context

pub returns-in-Some-clause-found : goal.returns-in-Some-clause-found
returns-in-Some-clause-found c = λ apart waits there.
    eq-eqb c.in-Some.asked.inv c.args.inv (apart c.in-Some.asked.inv c.args.inv (record { fun = c.in-Some.asked.fun; args = c.in-Some.asked.args; waits = c.in-Some.ensures.waits }) waits (c.in-Some.ensures.context ∙ sym there))
