use Rattle.std.proofs.Common.{◌≡◌, Bool, true, false, ltb, length, get_or, ap, ◌∙◌, sym, arith}
use Rattle.std.proofs.lemmas.Bool.{lt-ltb, le-ltb}
use Rattle.std.proofs.lemmas.List.{append-nil}
use Rattle.arrayvec.specs.ArrayVec.{ArrayVec}
use Rattle.packet_codec.specs.declared.packet.Packet.{Packet}
use Rattle.capsule_exchange.proofs.KnowledgeLemmas.{asks_next}
use Rattle.capsule_exchange.proofs.handlers.ask_each.Goals as goal
use Rattle.capsule_exchange.proofs.handlers.ask_each.Goals.{then-versions-h, else-versions-h}

pub loop-h-preserved : goal.loop-h-preserved
loop-h-preserved c =
    let versions = c.args.versions.now in
    let states = c.args.states.now in
    let h = c.loop-h.h in
    let state = c.index-states-h.result in
    let next = λ (b : Bool) (is : ltb state.held (get_or versions h 0) ≡ b). asks_next versions states h state b (omega arith) c.index-states-h.is is in
    let before = c.loop-h.invariant in
    elim c.if-versions-h.branch [
      | then-versions-h w ↦ record {
        so_far = ap (λ (v : ArrayVec Packet). v.items) w.asks-is ∙ w.push.ensures.items ∙ cc (before.so_far, w.ask.ensures, next true (lt-ltb _ _ w.if-versions-h.true));
        few = (let h = before.few in omega (arith, ap (λ (v : ArrayVec Packet). length v.items) w.asks-is));
      }
      | else-versions-h w ↦ record {
        so_far = ap (λ (v : ArrayVec Packet). v.items) w.asks-is ∙ before.so_far ∙ sym (next false (le-ltb _ _ w.if-versions-h.false) ∙ append-nil _);
        few = (let h = before.few in omega (arith, ap (λ (v : ArrayVec Packet). length v.items) w.asks-is));
      }
    ]
