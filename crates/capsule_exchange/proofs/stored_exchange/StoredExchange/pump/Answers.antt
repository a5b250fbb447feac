use Rattle.std.proofs.Common.{ℕ, ◌*◌, ◌<◌, length, Option, None, Some, sym, subst, ap, ◌∙◌}
use Rattle.std.specs.Prelude.{is_some}
use Rattle.std.specs.Option.{option_map}
use Rattle.packet_codec.specs.declared.packet.Packet.{Packet}
use Rattle.capsule_exchange.specs.Happenings.{fragment_for}
use Rattle.capsule_exchange.specs.Images.{AreImagesOf}
use Rattle.capsule_exchange.specs.Knowledge.{Knowledge, knowledge, with_sent}
use Rattle.capsule_exchange.proofs.AnswerLemmas.{fragment_is}
use Rattle.capsule_exchange.proofs.SummaryLemmas.{images_same}
use Rattle.capsule_exchange.proofs.stored_exchange.StoredExchange.pump.Goals as goal

pub invariant_of-self : goal.invariant_of-self
invariant_of-self c =
    let images = c.self.inside.images.items in
    images_same c.as_mut.result.now c.send.new.self images c.send.ensures.images c.send.ensures.handlers (subst (λ (k : Knowledge). AreImagesOf k images) (sym c.as_mut.ensures.value) c.self.invariant)

pub returns-in_err-slot-clause-learned : goal.returns-in_err-slot-clause-learned
returns-in_err-slot-clause-learned c = λ n before was.
    was ∙ ap (λ (o : Option ℕ). knowledge n (with_sent o before)) (sym c.in_err-slot.was ∙ c.next.ensures.next n before (c.as_ref.ensures ∙ c.self.view_is ∙ was))

pub returns-in_err-slot-clause-packet : goal.returns-in_err-slot-clause-packet
returns-in_err-slot-clause-packet c = λ n before was.
    c.from_residual.ensures ∙ ap (option_map (fragment_for before)) (sym c.in_err-slot.was ∙ c.next.ensures.next n before (c.as_ref.ensures ∙ c.self.view_is ∙ was))

pub returns-in_err-slot-clause-none : goal.returns-in_err-slot-clause-none
returns-in_err-slot-clause-none c = λ n before was.
    ap is_some c.from_residual.ensures ∙ ap is_some (sym c.in_err-slot.was) ∙ c.next.ensures.none n before (c.as_ref.ensures ∙ c.self.view_is ∙ was)

pub returns-clause-learned : goal.returns-clause-learned
returns-clause-learned c = λ n before was.
    c.send.ensures.learned n before (c.as_mut.ensures.value ∙ c.self.view_is ∙ was)
    ∙ ap (λ (o : Option ℕ). knowledge n (with_sent o before)) (sym c.in_ok-slot.was ∙ c.next.ensures.next n before (c.as_ref.ensures ∙ c.self.view_is ∙ was))

pub returns-clause-packet : goal.returns-clause-packet
returns-clause-packet c = λ n before was.
    let within = subst (λ (k : Knowledge). c.in_ok-slot.slot < 22 * length k.handlers) (c.as_ref.ensures ∙ sym c.as_mut.ensures.value) c.in_ok-slot.ensures.marked.0 in
    ap (λ (p : Packet). Some p) (fragment_is c.as_mut.result.now c.in_ok-slot.slot c.send.result within c.send.ensures.packet n before (c.as_mut.ensures.value ∙ c.self.view_is ∙ was))
    ∙ ap (option_map (fragment_for before)) (sym c.in_ok-slot.was ∙ c.next.ensures.next n before (c.as_ref.ensures ∙ c.self.view_is ∙ was))

pub returns-clause-none : goal.returns-clause-none
returns-clause-none c = λ n before was. ap is_some (sym c.in_ok-slot.was) ∙ c.next.ensures.none n before (c.as_ref.ensures ∙ c.self.view_is ∙ was)
