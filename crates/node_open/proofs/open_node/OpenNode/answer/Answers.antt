-- The answer, or the same node.
use Rattle.std.proofs.Common.{◌≡◌, ℤ, to_z, of_z, w16, rules, subst, sym, ap}
use Rattle.std.specs.Prelude.{MatchResult}
use Rattle.mate_journal.specs.NodeScript.{AnswersCall}
use Rattle.node_state.specs.Keeps.{reading}
use Rattle.node_calls.specs.Calls.{RestsAgain, NobodyWaits}
use Rattle.vm_shape.specs.declared.description.Description.{Description}
use Rattle.node_state.specs.Starting.{Rests}
use Rattle.node_state.specs.Programs.{HeldPrograms}
use Rattle.node_open.specs.View.{heard_of, Tells}
use Rattle.node_open.specs.Calls.{Pacing}
use Rattle.node_open.proofs.PaceLemmas.{seen_as}
use Rattle.node_open.proofs.CallLemmas.{Tells-again, Rests-either, Seen-either}
use Rattle.node_open.proofs.open_node.OpenNode.answer.Goals as goal

pub answer_in-requires-clause-rests : goal.answer_in-requires-clause-rests
answer_in-requires-clause-rests c = subst (λ (d : Description). Rests d c.self.inside.parts) (sym c.description.ensures) c.self.invariant.rests

pub invariant_of-self : goal.invariant_of-self
invariant_of-self c =
    let n = c.self.inside in
    record { rests = Rests-either n.machine n.parts c.answer_in.new.parts c.args.at c.self.invariant.rests c.answer_in.ensures.gone (ap (λ (hs : HeldPrograms). hs.room) c.answer_in.ensures.handlers) c.answer_in.result _ _ (rw c.description.ensures at c.answer_in.ensures.answers) }

pub returns : goal.returns
returns c =
    let n = c.self.inside in
    let r = reading n.machine n.parts.log.all in
    let whole : to_z w16 (of_z w16 c.args.value) ≡ c.args.value = search rules in
    let P : ℤ → Type 0 = λ x. MatchResult c.answer_in.result (λ _. RestsAgain n.machine n.parts c.answer_in.new.parts c.args.at (AnswersCall r c.args.ctx x)) (λ _. NobodyWaits r c.args.ctx × (c.answer_in.new.parts ≡ n.parts)) in
    Seen-either n.machine n.parts c.answer_in.new.parts c.args.self.now c.answer_in.result _
    (λ v. Tells v (seen_as n.machine c.answer_in.new.parts) c.args.at (Pacing (λ _. AnswersCall (heard_of v) c.args.ctx c.args.value)))
    _ (λ v _. NobodyWaits (heard_of v) c.args.ctx) c.self.view_is
    (λ made. Tells-again n.machine n.parts c.answer_in.new.parts c.args.at c.self.invariant.rests c.answer_in.ensures.gone (ap (λ (hs : HeldPrograms). hs.room) c.answer_in.ensures.handlers) (AnswersCall r c.args.ctx c.args.value) made) (λ _ nobody. nobody) (subst P whole (rw c.description.ensures at c.answer_in.ensures.answers))
