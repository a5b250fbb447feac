use Rattle.std.proofs.Common.{◌≡◌, ◌<◌, ℕ, List, [], length, Some, refl, sym, ◌∙◌, ap, subst, get_or, rules}
use Rattle.std.specs.Prelude.{ℤ, slice_get, All}
use Rattle.std.specs.Int.{w16}
use Rattle.std.proofs.lemmas.Int.{to_z-of_z}
use Rattle.std.proofs.lemmas.List.Elements.{All-nil, All-same}
use Rattle.std.proofs.lemmas.Option.{slice_get_read, slice_get-get_or}
use Rattle.std.proofs.lemmas.Result.{on_ok_weaker}
use Rattle.arrayvec.specs.ArrayVec.{ArrayVec}
use Rattle.packet_codec.specs.Packet.{IsRightPacket}
use Rattle.packet_codec.specs.declared.packet.Packet.{Packet}
use Rattle.radio_sim.specs.declared.shared_event.SharedEvent.{SharedEvent}
use Rattle.script_steps.specs.declared.world.Link.{Link}
use Rattle.script_steps.specs.declared.world.Planned.{Planned}
use Rattle.world_rules.specs.Effect.{of_line}
use Rattle.world_rules.specs.World.{Post}
use Rattle.world_state.specs.Motes.{plain_effect}
use Rattle.world_state.specs.declared.effect.Effect.{Effect}
use Rattle.world_event.specs.Handling.{IsFitEvent, DoesBy}
use Rattle.world_event.proofs.CauseLemmas.{HandlesEvent, handles-planned, handles-period, handles-fire, handles-expire, handles-pump, handles-due, handles-deliver}
use Rattle.world_event.proofs.LineLemmas.{does-post}
use Rattle.world_event.proofs.handling.handle.Goals as goal

pub returns-in-Planned-clause-handled : goal.returns-in-Planned-clause-handled
returns-in-Planned-clause-handled c =
    let d = c.args.desc.now in
    let script = c.args.world.now in
    let ps = c.args.programs.now in
    let old = c.args.mote.now in
    let new = c.follow.new.mote in
    let line = c.in-Planned.line in
    let x : Planned = c.index-as_slice-line.result in
    let R : SharedEvent → Type 0 = λ e. IsFitEvent d script old.timer c.args.at.time e in
    let below : line < length script.events = subst R c.in-Planned.is c.requires.event in
    let there : slice_get script.events line ≡ Some x = slice_get_read script.events (length script.events) line x refl below (c.index-as_slice-line.is ∙ ap (λ (xs : List Planned). get_or xs line x) c.as_slice.ensures) in
    let r = c.follow.new.effect in
    on_ok_weaker c.follow.result
    (λ does. subst (λ (e : SharedEvent). HandlesEvent d script ps e c.args.at old new r) (sym c.in-Planned.is) (handles-planned d script ps c.args.at old new r line x there does)) c.follow.ensures.does

pub returns-in-Period-clause-handled : goal.returns-in-Period-clause-handled
returns-in-Period-clause-handled c =
    let old = c.args.mote.now in
    let new = c.post.new.self in
    let r = c.args.effect.now in
    let h = c.in-Period.handler in
    let P : ArrayVec ℤ → Type 0 = λ payload. DoesBy c.args.at (λ _ _. of_line (Post h payload)) old new r in
    let A : List ℤ → ArrayVec ℤ = λ xs. record { items = xs } in
    on_ok_weaker c.post.result
    (λ told. subst (λ (e : SharedEvent). HandlesEvent c.args.desc.now c.args.world.now c.args.programs.now e c.args.at old new r) (sym c.in-Period.is)
    (handles-period c.args.desc.now c.args.world.now c.args.programs.now c.args.at old new r c.in-Period.node h
    (subst P (ap A c.new.ensures) (does-post c.args.at old new r h c.new.result told c.requires.plain)))) c.post.ensures

pub returns-in-Fire-clause-handled : goal.returns-in-Fire-clause-handled
returns-in-Fire-clause-handled c =
    subst (λ (e : SharedEvent). HandlesEvent c.args.desc.now c.args.world.now c.args.programs.now e c.args.at c.args.mote.now c.fire.new.self c.fire.new.effect) (sym c.in-Fire.is)
    (handles-fire c.args.desc.now c.args.world.now c.args.programs.now c.args.at c.args.mote.now c.fire.new.self c.fire.new.effect c.in-Fire.node c.requires.tellable.timely c.fire.ensures.same c.fire.ensures.effect)

pub returns-in-Expire-clause-handled : goal.returns-in-Expire-clause-handled
returns-in-Expire-clause-handled c =
    subst (λ (e : SharedEvent). HandlesEvent c.args.desc.now c.args.world.now c.args.programs.now e c.args.at c.args.mote.now c.expire.new.self c.expire.new.effect) (sym c.in-Expire.is)
    (handles-expire c.args.desc.now c.args.world.now c.args.programs.now c.args.at c.args.mote.now c.expire.new.self c.expire.new.effect c.in-Expire.node c.requires.tellable.timely c.expire.ensures.timer c.expire.ensures.effect)

pub returns-in-Pump-clause-handled : goal.returns-in-Pump-clause-handled
returns-in-Pump-clause-handled c =
    subst (λ (e : SharedEvent). HandlesEvent c.args.desc.now c.args.world.now c.args.programs.now e c.args.at c.args.mote.now c.pump.new.self c.pump.new.effect) (sym c.in-Pump.is)
    (handles-pump c.args.desc.now c.args.world.now c.args.programs.now c.args.at c.args.mote.now c.pump.new.self c.pump.new.effect c.in-Pump.node c.requires.tellable.timely c.pump.ensures.pumps)

pub returns-in-Due-clause-handled : goal.returns-in-Due-clause-handled
returns-in-Due-clause-handled c =
    let r = c.args.effect.now in
    on_ok_weaker c.answer.result
    (λ told. subst (λ (e : SharedEvent). HandlesEvent c.args.desc.now c.args.world.now c.args.programs.now e c.args.at c.args.mote.now c.answer.new.self r) (sym c.in-Due.is)
    (handles-due c.args.desc.now c.args.world.now c.args.programs.now c.args.at c.args.mote.now c.answer.new.self r c.in-Due.node c.in-Due.ctx c.in-Due.inv c.in-Due.value told c.requires.plain))
    (rw (to_z-of_z w16 c.in-Due.value (search rules)) at c.answer.ensures)

pub returns-in-Deliver-clause-handled : goal.returns-in-Deliver-clause-handled
returns-in-Deliver-clause-handled c =
    let d = c.args.desc.now in
    let script = c.args.world.now in
    let ps = c.args.programs.now in
    let old = c.args.mote.now in
    let new = c.receive.new.mote in
    let place = c.in-Deliver.link in
    let number = c.in-Deliver.number in
    let bytes = c.in-Deliver.bytes in
    let links : List Link = c.as_slice-in-Deliver.result.now in
    let x : Link = get_or links place (record { from = 0; to = 0; loss = 0 }) in
    let R : SharedEvent → Type 0 = λ e. IsFitEvent d script old.timer c.args.at.time e in
    let below : place < length script.links = subst R c.in-Deliver.is c.requires.event in
    let same : links ≡ script.links = c.as_slice-in-Deliver.ensures in
    let there : slice_get script.links place ≡ Some x =
    subst (λ (ls : List Link). slice_get script.links place ≡ Some (get_or ls place (record { from = 0; to = 0; loss = 0 }))) (sym same) (slice_get-get_or script.links place (record { from = 0; to = 0; loss = 0 }) below) in
    let r = c.receive.new.effect in
    on_ok_weaker c.receive.result
    (λ does. subst (λ (e : SharedEvent). HandlesEvent d script ps e c.args.at old new r) (sym c.in-Deliver.is) (handles-deliver d script ps c.args.at old new r place number bytes x there does)) c.receive.ensures.does

plain-right : (n : ℕ) (r : Effect) → r ≡ plain_effect → All (IsRightPacket n) r.sends.items
plain-right n r plain = All-same (IsRightPacket n) r.sends.items [] (ap (λ (x : Effect). x.sends.items) plain) (All-nil (IsRightPacket n))

pub returns-in-Planned-clause-right : goal.returns-in-Planned-clause-right
returns-in-Planned-clause-right c =
    let Is : Packet → Type 0 = IsRightPacket (length c.args.desc.now.handlers.items) in
    on_ok_weaker c.follow.result (λ silent. All-same Is c.follow.new.effect.sends.items [] silent (All-nil Is)) c.follow.ensures.silent

pub returns-in-Period-clause-right : goal.returns-in-Period-clause-right
returns-in-Period-clause-right c = on_ok_weaker c.post.result (λ _. plain-right _ c.args.effect.now c.requires.plain) c.post.ensures

pub returns-in-Fire-clause-right : goal.returns-in-Fire-clause-right
returns-in-Fire-clause-right c = subst (λ (n : ℕ). All (IsRightPacket n) c.fire.new.effect.sends.items) c.requires.handlers c.fire.ensures.right

pub returns-in-Expire-clause-right : goal.returns-in-Expire-clause-right
returns-in-Expire-clause-right c =
    let Is : Packet → Type 0 = IsRightPacket (length c.args.desc.now.handlers.items) in
    All-same Is c.expire.new.effect.sends.items [] (ap (λ (r : Effect). r.sends.items) c.expire.ensures.effect) (All-nil Is)

pub returns-in-Pump-clause-right : goal.returns-in-Pump-clause-right
returns-in-Pump-clause-right c = subst (λ (n : ℕ). All (IsRightPacket n) c.pump.new.effect.sends.items) c.requires.handlers c.pump.ensures.right

pub returns-in-Due-clause-right : goal.returns-in-Due-clause-right
returns-in-Due-clause-right c = on_ok_weaker c.answer.result (λ _. plain-right _ c.args.effect.now c.requires.plain) c.answer.ensures

pub returns-in-Deliver-clause-right : goal.returns-in-Deliver-clause-right
returns-in-Deliver-clause-right c = c.receive.ensures.right
