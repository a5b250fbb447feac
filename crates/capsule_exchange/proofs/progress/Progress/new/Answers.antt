use Rattle.std.proofs.Common.{length, ◌≡◌, ℕ, List, [], ◌∷◌, ◌++◌, map, None, sym, ap, ◌∙◌, arith}
use Rattle.std.specs.List.{range_with_len}
use Rattle.std.proofs.lemmas.List.Elements.{All-same, All-map}
use Rattle.std.proofs.lemmas.List.FromFn.{map-range_with_len_more}
use Rattle.capsule_exchange.specs.declared.handler_state.HandlerState.{HandlerState}
use Rattle.capsule_exchange.specs.Knowledge.{state_after}
use Rattle.capsule_exchange.specs.Sound.{IsSoundState}
use Rattle.capsule_exchange.proofs.SoundLemmas.{no_state_sound}
use Rattle.capsule_exchange.proofs.SummaryLemmas.{kept_now}
use Rattle.capsule_exchange.proofs.progress.Progress.new.Goals as goal

pub loop-preserved : goal.loop-preserved
loop-preserved c =
    let n = c.loop.counter in
    let before = c.loop.invariant in
    record {
      so_far = c.push.ensures.items
          ∙ ap (λ (ss : List HandlerState). ss ++ c.default.result ∷ []) before.so_far
          ∙ ap (λ (s : HandlerState). map (state_after []) (range_with_len 0 n) ++ s ∷ []) c.default.ensures
          ∙ sym (map-range_with_len_more (state_after []) 0 n n (omega arith));
      few = (let e = c.push.ensures.len in let h = before.few in omega arith);
    }

pub invariant_of-result : goal.invariant_of-result
invariant_of-result c =
    kept_now c.loop.states.items c.as_slice.result.now c.of-summary.result c.as_slice.ensures.value
    (let few = c.loop.invariant.few in omega (arith, ap length c.as_slice.ensures.value))
    (All-same IsSoundState c.loop.states.items (map (state_after []) (range_with_len 0 c.loop.counter)) c.loop.invariant.so_far
    (All-map IsSoundState (state_after []) (range_with_len 0 c.loop.counter) (λ k d below. no_state_sound))) c.of-summary.ensures

pub returns : goal.returns
returns c =
    let last : c.loop.counter ≡ c.args.handlers = omega arith in
    ap (λ (ss : List HandlerState). record { handlers = ss; last = None }) (c.loop.invariant.so_far ∙ ap (λ (n : ℕ). map (state_after []) (range_with_len 0 n)) last)
