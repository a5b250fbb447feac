use Rattle.std.proofs.Common.{ℕ, Option, None, Some, sym, ap, ◌∙◌}
use Rattle.std.specs.Prelude.{is_some}
use Rattle.std.specs.Option.{option_map}
use Rattle.packet_codec.specs.declared.packet.Packet.{Packet}
use Rattle.capsule_exchange.specs.Happenings.{fragment_for}
use Rattle.capsule_exchange.specs.Knowledge.{knowledge, with_sent}
use Rattle.capsule_exchange.proofs.AnswerLemmas.{fragment_is}
use Rattle.capsule_exchange.proofs.SummaryLemmas.{images_same}
use Rattle.capsule_exchange.proofs.exchange.Exchange.pump.Goals as goal

pub invariant_of-self : goal.invariant_of-self
invariant_of-self c = images_same c.self.inside.progress c.send.new.self c.self.inside.images.items c.send.ensures.images c.send.ensures.handlers c.self.invariant

pub returns-in_err-slot-clause-learned : goal.returns-in_err-slot-clause-learned
returns-in_err-slot-clause-learned c = λ n before was.
    was ∙ ap (λ (o : Option ℕ). knowledge n (with_sent o before)) (sym c.in_err-slot.was ∙ c.next.ensures.next n before (c.self.view_is ∙ was))

pub returns-in_err-slot-clause-packet : goal.returns-in_err-slot-clause-packet
returns-in_err-slot-clause-packet c = λ n before was.
    c.from_residual.ensures ∙ ap (option_map (fragment_for before)) (sym c.in_err-slot.was ∙ c.next.ensures.next n before (c.self.view_is ∙ was))

pub returns-in_err-slot-clause-none : goal.returns-in_err-slot-clause-none
returns-in_err-slot-clause-none c = λ n before was.
    ap is_some c.from_residual.ensures ∙ ap is_some (sym c.in_err-slot.was) ∙ c.next.ensures.none n before (c.self.view_is ∙ was)

pub returns-clause-learned : goal.returns-clause-learned
returns-clause-learned c = λ n before was.
    c.send.ensures.learned n before (c.self.view_is ∙ was)
    ∙ ap (λ (o : Option ℕ). knowledge n (with_sent o before)) (sym c.in_ok-slot.was ∙ c.next.ensures.next n before (c.self.view_is ∙ was))

pub returns-clause-packet : goal.returns-clause-packet
returns-clause-packet c = λ n before was.
    ap (λ (p : Packet). Some p) (fragment_is c.self.inside.progress c.in_ok-slot.slot c.send.result c.in_ok-slot.ensures.marked.0 c.send.ensures.packet n before (c.self.view_is ∙ was))
    ∙ ap (option_map (fragment_for before)) (sym c.in_ok-slot.was ∙ c.next.ensures.next n before (c.self.view_is ∙ was))

pub returns-clause-none : goal.returns-clause-none
returns-clause-none c = λ n before was. ap is_some (sym c.in_ok-slot.was) ∙ c.next.ensures.none n before (c.self.view_is ∙ was)
