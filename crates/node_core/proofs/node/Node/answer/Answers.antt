use Rattle.std.proofs.Common.{◌≡◌, ℤ, to_z, of_z, w16, rules, subst, ◌∙◌}
use Rattle.std.specs.Prelude.{MatchResult}
use Rattle.mate_journal.specs.NodeScript.{AnswersCall}
use Rattle.node_calls.specs.Calls.{NobodyWaits}
use Rattle.node_open.specs.View.{NodeView, heard_of, Tells}
use Rattle.node_open.specs.Calls.{Pacing}
use Rattle.node_open.proofs.CallLemmas.{gone-either, places-either}
use Rattle.node_core.proofs.node.Node.answer.Goals as goal

pub returns : goal.returns
returns c =
    let whole : to_z w16 (of_z w16 c.args.value) ≡ c.args.value = search rules in
    let P : ℤ → NodeView → Type 0 = λ x v.
    MatchResult c.answer.result (λ _. Tells v c.answer.new.self c.args.at (Pacing (λ _. AnswersCall (heard_of v) c.args.ctx x)))
    (λ _. NobodyWaits (heard_of v) c.args.ctx × (c.answer.new.self ≡ v)) in
    subst (P c.args.value) c.self.view_is (subst (λ (x : ℤ). P x c.self.inside.node) whole c.answer.ensures)

pub invariant_of-self : goal.invariant_of-self
invariant_of-self c =
    let n = c.self.inside.node in
    let new = c.answer.new.self in
    record {
      whole = gone-either n new c.args.at c.answer.result _ _ c.answer.ensures ∙ c.self.invariant.whole;
      places = places-either n new c.args.at c.answer.result _ _ c.self.invariant.places c.answer.ensures;
    }
