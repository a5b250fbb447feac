use Rattle.std.proofs.Common.{◌≡◌, Bool, List, ◌∷◌, Some, sym, ◌∙◌, ap, subst}
use Rattle.std.specs.Prelude.{Option, bytes_eq}
use Rattle.packet_codec.specs.declared.packet.Packet.{Packet}
use Rattle.trickle_timer.specs.Timer.{Timer, packet_event}
use Rattle.capsule_exchange.specs.Happenings.{Hears, held_versions, asks_after}
use Rattle.capsule_exchange.specs.Knowledge.{Knowledge, knowledge, Judges}
use Rattle.world_state.specs.declared.effect.Effect.{Effect}
use Rattle.world_state.specs.declared.mote.Mote.{Mote}
use Rattle.world_state.specs.Motes.{plain_effect, begins_with, counted_timer, begins_counted}
use Rattle.world_state.proofs.MoteLemmas.{judged}
use Rattle.world_state.proofs.mote.Mote.hear_vector.Goals as goal

pub returns-clause-hears : goal.returns-clause-hears
returns-clause-hears c = λ n hs versions knows is.
    let old = c.args.self.now in
    let J : Packet → Type 0 = λ p. Judges n p hs c.hear-heard.result.consistent in
    let judgement : c.hear-heard.result.consistent ≡ Some (bytes_eq versions.items (held_versions n hs)) =
    judged c.hear-heard.result.consistent versions.items (held_versions n hs) (subst J is (c.hear-heard.ensures.consistent n hs knows)) in
    let M : Timer → Knowledge → Mote = λ t k. record old { timer = t; exchange = k } in
    let E : Bool → List Packet → Effect = λ b ps. record plain_effect { begins = b; sends = record { items = ps } } in
    let counted = c.count-effect.ensures.timer in record {
      timer = ap (λ (m : Mote). m.timer) counted ∙ ap (λ (o : Option Bool). counted_timer old.timer c.args.at.time o) judgement;
      exchange = ap (λ (m : Mote). m.exchange) counted ∙ c.hear-heard.ensures.learned n hs knows ∙ ap (λ (p : Packet). knowledge n (Hears p ∷ hs)) is;
      same = counted ∙ ap (λ (m : Mote). M m.timer m.exchange) (sym counted);
      effect =
          ap (λ (e : Effect). record e { begins = c.count-effect.result; sends = c.hear-heard.new.asks }) c.requires.plain
          ∙ ap (λ (b : Bool). E b c.hear-heard.new.asks.items) (c.count-effect.ensures.begins ∙ ap (λ (o : Option Bool). begins_counted old.timer o) judgement)
          ∙ ap (λ (ps : List Packet). E (begins_with old.timer (packet_event (bytes_eq versions.items (held_versions n hs)))) ps) (c.hear-heard.ensures.asks n hs knows ∙ ap (λ (p : Packet). asks_after n p hs) is);
    }
