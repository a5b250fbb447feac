use Rattle.std.proofs.Common.{◌≡◌, ◌<◌, ℕ, Bool, List, ◌∷◌, length, inl, inr, Some, sym, ◌∙◌, ap, subst}
use Rattle.std.specs.Prelude.{None, if◌then◌else◌}
use Rattle.std.proofs.lemmas.Result.{on_ok_weaker}
use Rattle.capsule_exchange.specs.Happenings.{Hears, completed_by}
use Rattle.capsule_exchange.specs.Knowledge.{Whatever}
use Rattle.packet_codec.specs.declared.packet.Packet.{Packet}
use Rattle.world_state.specs.declared.effect.Effect.{Effect}
use Rattle.world_event.proofs.ImageLemmas.{completed-none, completed-handler}
use Rattle.world_event.proofs.HearLemmas.{fragment-silent, heard-silent, still-plain, does-image, does-fragment}
use Rattle.world_event.proofs.handling.hear_fragment.Goals as goal

pub complete_into-requires : goal.complete_into-requires
complete_into-requires c =
    let before = c.requires.is_open in
    let by_h : completed_by c.args.packet.now before.happened ≡ Some c.in-Some.handler = sym (c.hear-heard.ensures.complete before.handlers before.happened before.known) ∙ c.in-Some.is in
    subst (λ (n : ℕ). c.in-Some.handler.0 < n) (sym c.hear-heard.ensures.handlers)
    (completed-handler (length c.args.mote.now.exchange.handlers) c.args.packet.now before.happened c.in-Some.handler c.requires.packet by_h)

pub install-requires-clause-handler : goal.install-requires-clause-handler
install-requires-clause-handler c =
    let before = c.requires.is_open in
    let by_h : completed_by c.args.packet.now before.happened ≡ Some c.in-Some.handler = sym (c.hear-heard.ensures.complete before.handlers before.happened before.known) ∙ c.in-Some.is in
    subst (λ (n : ℕ). c.in-Some.handler.0 < n) (sym c.hear-heard.ensures.handlers)
    (completed-handler (length c.args.mote.now.exchange.handlers) c.args.packet.now before.happened c.in-Some.handler c.requires.packet by_h)

pub returns-in_default-clause-does : goal.returns-in_default-clause-does
returns-in_default-clause-does c =
    let before = c.requires.is_open in
    let silent = heard-silent before.handlers c.args.packet.now before.happened c.hear-heard.new.asks (fragment-silent c.args.version c.args.packet.now c.requires.fragment) (c.hear-heard.ensures.asks before.handlers before.happened before.known) in
    does-fragment c.args.at c.args.mote.now _ c.args.packet.now c.args.version c.hear-heard.new.self c.hear-heard.result.complete c.requires.tellable.timely c.requires.fragment c.hear-heard.ensures.complete
    c.in_default.is c.hear-heard.ensures.learned (still-plain c.args.effect.now c.hear-heard.new.asks c.requires.plain silent)

pub install-requires-clause-plain : goal.install-requires-clause-plain
install-requires-clause-plain c =
    let before = c.requires.is_open in
    still-plain c.args.effect.now c.hear-heard.new.asks c.requires.plain
    (heard-silent before.handlers c.args.packet.now before.happened c.hear-heard.new.asks (fragment-silent c.args.version c.args.packet.now c.requires.fragment) (c.hear-heard.ensures.asks before.handlers before.happened before.known))

pub returns-then-complete_into-clause-does : goal.returns-then-complete_into-clause-does
returns-then-complete_into-clause-does c =
    let old = c.args.mote.now in
    let h = c.in-Some.handler in
    let heard = c.hear-heard.new.self in
    let image = c.complete_into.new.image in
    let complete : Whatever old.exchange (λ n hs. Some h ≡ completed_by c.args.packet.now hs) = λ n hs known. sym c.in-Some.is ∙ c.hear-heard.ensures.complete n hs known in
    on_ok_weaker c.install.result
    (λ installs. does-image c.args.at old c.install.new.self c.install.new.effect c.args.packet.now c.args.version h image heard c.requires.fragment c.requires.packet complete c.hear-heard.ensures.learned (λ n hs known. ap (λ (b : Bool). if b then Some image else None) (sym c.if-complete_into.true) ∙ c.complete_into.ensures.image n hs known) installs) c.install.ensures

pub returns-clause-does : goal.returns-clause-does
returns-clause-does c =
    let before = c.requires.is_open in
    let by_h : completed_by c.args.packet.now before.happened ≡ Some c.in-Some.handler = sym (c.hear-heard.ensures.complete before.handlers before.happened before.known) ∙ c.in-Some.is in
    let learned = c.hear-heard.ensures.learned before.handlers before.happened before.known in
    absurd (completed-none c.args.packet.now before.happened c.in-Some.handler by_h
    (sym (ap (λ (b : Bool). if b then Some c.complete_into.new.image else None) (sym c.if-complete_into.false) ∙ c.complete_into.ensures.image before.handlers (Hears c.args.packet.now ∷ before.happened) learned)))

pub returns-in_default-clause-silent : goal.returns-in_default-clause-silent
returns-in_default-clause-silent c =
    let before = c.requires.is_open in
    heard-silent before.handlers c.args.packet.now before.happened c.hear-heard.new.asks (fragment-silent c.args.version c.args.packet.now c.requires.fragment) (c.hear-heard.ensures.asks before.handlers before.happened before.known)

pub returns-clause-silent : goal.returns-clause-silent
returns-clause-silent c =
    let before = c.requires.is_open in
    heard-silent before.handlers c.args.packet.now before.happened c.hear-heard.new.asks (fragment-silent c.args.version c.args.packet.now c.requires.fragment) (c.hear-heard.ensures.asks before.handlers before.happened before.known)

pub returns-then-complete_into-clause-silent : goal.returns-then-complete_into-clause-silent
returns-then-complete_into-clause-silent c =
    let items : Effect → List Packet = λ r. r.sends.items in
    on_ok_weaker c.install.result (λ done. elim done [ inl x ↦ ap items x.effect | inr x ↦ ap items x.effect ]) c.install.ensures
