use Rattle.std.proofs.Common.{◌≡◌, ℕ, [], length, refl, sym, ◌∙◌, subst}
use Rattle.std.specs.Prelude.{All}
use Rattle.std.proofs.lemmas.List.Elements.{All-nil, All-same}
use Rattle.std.proofs.lemmas.Result.{on_ok_weaker}
use Rattle.packet_codec.specs.Packet.{IsRightPacket}
use Rattle.packet_codec.specs.declared.packet.Packet.{Packet}
use Rattle.capsule_exchange.proofs.KnowledgeLemmas.{handler_count}
use Rattle.world_event.specs.Handling.{IsFragmentOf}
use Rattle.world_event.proofs.HearLemmas.{AsksNothing, heard-silent, still-plain, does-vector, does-status, does-message}
use Rattle.world_event.proofs.handling.hear.Goals as goal

pub returns-in-Vector-clause-does : goal.returns-in-Vector-clause-does
returns-in-Vector-clause-does c =
    does-vector c.args.at c.args.mote.now c.hear_vector.new.self c.hear_vector.new.effect c.args.packet.now c.in-Vector.versions c.requires.tellable.timely c.in-Vector.is c.hear_vector.ensures.hears

pub returns-in-Vector-clause-right : goal.returns-in-Vector-clause-right
returns-in-Vector-clause-right c =
    let before = c.requires.is_open in
    let count : before.handlers ≡ length c.args.desc.now.handlers.items = sym (handler_count c.args.mote.now.exchange before.handlers before.happened before.known) ∙ c.requires.handlers in
    subst (λ (n : ℕ). All (IsRightPacket n) c.hear_vector.new.effect.sends.items) count (c.hear_vector.ensures.asks before.handlers before.happened before.known before.is_open)

pub returns-in-Status-clause-does : goal.returns-in-Status-clause-does
returns-in-Status-clause-does c =
    let before = c.requires.is_open in
    let silent = heard-silent before.handlers c.args.packet.now before.happened c.hear.new.asks (subst AsksNothing (sym c.in-Status.is) tt) (c.hear.ensures.asks before.handlers before.happened before.known) in
    does-status c.args.at c.args.mote.now _ c.args.packet.now c.in-Status.handler c.in-Status.version c.in-Status.missing c.hear.new.self c.requires.tellable.timely c.in-Status.is c.hear.ensures.learned
    (still-plain c.args.effect.now c.hear.new.asks c.requires.plain silent)

pub returns-in-App-clause-does : goal.returns-in-App-clause-does
returns-in-App-clause-does c =
    let before = c.requires.is_open in
    let silent = heard-silent before.handlers c.args.packet.now before.happened c.hear-in-App.new.asks (subst AsksNothing (sym c.in-App.is) tt) (c.hear-in-App.ensures.asks before.handlers before.happened before.known) in
    on_ok_weaker c.post_received.result
    (λ told. does-message c.args.desc.now c.args.at c.args.mote.now c.post_received.new.mote _ c.args.packet.now c.in-App.payload c.hear-in-App.new.self c.requires.machine c.in-App.is c.hear-in-App.ensures.learned
    told (still-plain c.args.effect.now c.hear-in-App.new.asks c.requires.plain silent)) c.post_received.ensures

pub hear_fragment-requires-clause-packet : goal.hear_fragment-requires-clause-packet
hear_fragment-requires-clause-packet c = subst (λ (n : ℕ). IsRightPacket n c.args.packet.now) (sym c.requires.handlers) c.requires.packet

pub hear_fragment-requires-clause-fragment : goal.hear_fragment-requires-clause-fragment
hear_fragment-requires-clause-fragment c = subst (IsFragmentOf c.in-Fragment.version) (sym c.in-Fragment.is) refl

pub returns-in-Status-clause-right : goal.returns-in-Status-clause-right
returns-in-Status-clause-right c =
    let before = c.requires.is_open in
    let count : before.handlers ≡ length c.args.desc.now.handlers.items = sym (handler_count c.args.mote.now.exchange before.handlers before.happened before.known) ∙ c.requires.handlers in
    subst (λ (n : ℕ). All (IsRightPacket n) c.hear.new.asks.items) count (c.hear.ensures.right before.handlers before.happened before.known before.is_open)

pub returns-in-Fragment-clause-right : goal.returns-in-Fragment-clause-right
returns-in-Fragment-clause-right c =
    let Is : Packet → Type 0 = IsRightPacket (length c.args.desc.now.handlers.items) in
    on_ok_weaker c.hear_fragment.result (λ silent. All-same Is c.hear_fragment.new.effect.sends.items [] silent (All-nil Is)) c.hear_fragment.ensures.silent

pub returns-in-App-clause-right : goal.returns-in-App-clause-right
returns-in-App-clause-right c =
    let before = c.requires.is_open in
    let count : before.handlers ≡ length c.args.desc.now.handlers.items = sym (handler_count c.args.mote.now.exchange before.handlers before.happened before.known) ∙ c.requires.handlers in
    on_ok_weaker c.post_received.result
    (λ _. subst (λ (n : ℕ). All (IsRightPacket n) c.hear-in-App.new.asks.items) count (c.hear-in-App.ensures.right before.handlers before.happened before.known before.is_open)) c.post_received.ensures
