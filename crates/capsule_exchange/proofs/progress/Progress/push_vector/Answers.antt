use Rattle.std.proofs.Common.{◌≡◌, [], ◌∷◌, ◌++◌, ◌∙◌, List, length, map, ap}
use Rattle.std.specs.Prelude.{slice_set}
use Rattle.std.specs.List.{refill}
use Rattle.packet_codec.specs.declared.packet.Packet.{Packet}
use Rattle.packet_codec.specs.declared.packet.Packet.TheVariants.{Vector}
use Rattle.capsule_exchange.specs.declared.handler_state.HandlerState.{HandlerState}
use Rattle.capsule_exchange.specs.Knowledge.{Knowledge}
use Rattle.capsule_exchange.proofs.AnswerLemmas.{vector_told}
use Rattle.capsule_exchange.proofs.progress.Progress.push_vector.Goals as goal

pub returns-clause-value : goal.returns-clause-value
returns-clause-value c = λ n hs known.
    let held = λ (ss : List HandlerState). map (λ (s : HandlerState). s.held) ss in
    let none : Packet = Vector c.new.result in
    let told : Packet = Vector c.write_held.new.versions in
    let written = slice_set c.as_mut_slice.result.now 0 told in
    let pushed : c.push.new.self.items ≡ none ∷ [] = c.push.ensures.items ∙ ap (λ (ps : List Packet). ps ++ none ∷ []) c.requires in
    let lent : c.as_mut_slice.result.now ≡ none ∷ [] = c.as_mut_slice.ensures.value ∙ pushed in
    ap (λ (ps : List Packet). refill (length ps) ps written) pushed
    ∙ ap (λ (ps : List Packet). refill 1 (none ∷ []) (slice_set ps 0 told)) lent
    ∙ ap (λ (p : Packet). p ∷ [])
    (vector_told c.args.self.now c.write_held.new.versions (c.write_held.ensures ∙ ap held c.as_slice.ensures.value ∙ ap (λ (k : Knowledge). held k.handlers) c.self.view_is) n hs known)
