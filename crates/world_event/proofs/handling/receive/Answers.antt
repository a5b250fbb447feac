use Rattle.std.proofs.Common.{◌≡◌, ℕ, [], ◌∷◌, length, Result, Ok, Err, ◌∙◌, ap, subst}
use Rattle.std.proofs.lemmas.List.Elements.{All-nil, All-same}
use Rattle.std.proofs.lemmas.Result.{on_ok_weaker}
use Rattle.arrayvec.specs.ArrayVec.{ArrayVec}
use Rattle.mate_journal.specs.declared.air.Air.TheVariants.{Got}
use Rattle.packet_codec.specs.Packet.{IsRightPacket}
use Rattle.packet_codec.specs.declared.packet.Packet.{Packet}
use Rattle.world_rules.specs.Effect.{of_packet}
use Rattle.world_state.specs.declared.effect.Effect.{Effect}
use Rattle.world_event.specs.Handling.{DoesBy}
use Rattle.world_event.proofs.HearLemmas.{one-packet}
use Rattle.world_event.proofs.handling.receive.Goals as goal

pub returns-in-Some-clause-does : goal.returns-in-Some-clause-does
returns-in-Some-clause-does c =
    on_ok_weaker c.get.result (λ does packet right ranges bytes_are.
    let P : Packet → Type 0 = λ p. DoesBy c.args.at (λ w n. record (of_packet w n.exchange p) { first = Got c.args.number c.args.link.now.from ∷ [] }) c.args.mote.now c.get.new.mote c.get.new.effect in
    subst P (c.in-Some.ensures.only packet right ranges bytes_are) does) c.get.ensures.does

pub returns-in-Ok-clause-does : goal.returns-in-Ok-clause-does
returns-in-Ok-clause-does c =
    on_ok_weaker c.get-in-Ok.result (λ does packet right ranges bytes_are.
    let same : c.in-Ok.packet ≡ packet =
    one-packet c.decode.result c.in-Ok.packet packet c.in-Ok.is (c.decode.ensures.only packet right ranges (c.as_slice.ensures.value ∙ ap (λ (b : ArrayVec ℕ). b.items) c.bytes.ensures ∙ bytes_are)) in
    let P : Packet → Type 0 = λ p. DoesBy c.args.at (λ w n. record (of_packet w n.exchange p) { first = Got c.args.number c.args.link.now.from ∷ [] }) c.args.mote.now c.get-in-Ok.new.mote c.get-in-Ok.new.effect in
    subst P same does) c.get-in-Ok.ensures.does

pub get-requires-clause-packet : goal.get-requires-clause-packet
get-requires-clause-packet c = c.in-Some.ensures.right

pub get-requires-in-Ok-clause-packet : goal.get-requires-in-Ok-clause-packet
get-requires-in-Ok-clause-packet c = c.in-Ok.ensures.form.1

no-packet : {F : Type 0} (read : Result Packet F) (p : Packet) (f : F) → read ≡ Ok p → read ≡ Err f → ⊥
no-packet read p f first second = cc

pub returns-in-Err-clause-does : goal.returns-in-Err-clause-does
returns-in-Err-clause-does c = λ packet right ranges bytes_are.
    absurd (no-packet c.decode.result packet c.in-Err.field-0 (c.decode.ensures.only packet right ranges (c.as_slice.ensures.value ∙ ap (λ (b : ArrayVec ℕ). b.items) c.bytes.ensures ∙ bytes_are)) c.in-Err.is)

pub returns-in-Err-clause-right : goal.returns-in-Err-clause-right
returns-in-Err-clause-right c =
    let Is : Packet → Type 0 = IsRightPacket (length c.args.desc.now.handlers.items) in
    All-same Is c.args.effect.now.sends.items [] (ap (λ (r : Effect). r.sends.items) c.requires.plain) (All-nil Is)
