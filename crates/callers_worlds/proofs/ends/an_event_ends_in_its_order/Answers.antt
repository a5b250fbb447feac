use Rattle.std.proofs.Common.{◌≡◌, ℕ, true, false, List, [], ◌∷◌, ◌++◌, map, ap, sym, ◌∙◌, ◌+◌, refl, Some, suc, length}
use Rattle.std.specs.Prelude.{◌==◌, slice_get}
use Rattle.std.proofs.lemmas.Bool.{ne_eqb}
use Rattle.world_rules.specs.Cause.{Cause, Expire, Period, Pump}
use Rattle.world_rules.specs.Effect.{begun_length, event_node}
use Rattle.world_rules.specs.State.{node_at, effect_at, is_some_length, schedules, of_time, left_due, next_period, new_interval, node_after, messages, sent_bytes}
use Rattle.world_rules.specs.World.{World}
use Rattle.world_air.specs.Air.{radio_event, aired_at}
use Rattle.world_run_laws.specs.Coming.{code_world}
use Rattle.callers_worlds.proofs.EndLemmas.{end_is_gone, by_first, a_period, by_fourth, a_pump, no_interval, after_first, sent_first}
use Rattle.radio_sim.specs.declared.shared_event.SharedEvent.{SharedEvent}
use Rattle.radio_sim.specs.declared.shared_event.SharedEvent.TheVariants as radio_kind
use Rattle.mate_journal.specs.declared.air.Air.{Air}
use Rattle.mate_journal.specs.declared.air.Air.TheVariants.{Sent}
use Rattle.mate_journal.specs.declared.air.Aired.{Aired}
use Rattle.callers_worlds.proofs.ends.an_event_ends_in_its_order.Goals as goal

pub returns-clause-interval : goal.returns-clause-interval
returns-clause-interval c = λ programs s m t is low apart begins due none.
    let w : World = code_world c.args.desc.now c.args.world.now programs in
    let finished = c.in_ok-finish.ensures programs s m is.time_is is.cause_is is.node_is is.taken is.settled in
    let begun : is_some_length (begun_length (node_at w s m) (effect_at w s m)) ≡ true = sym is.settled.effect.begins ∙ begins in
    let other : (t == m.time) ≡ false = ne_eqb t m.time apart in
    let here : s.due t ≡ Expire (event_node w m.cause) ∷ [] = due ∙ ap (λ (k : ℕ). Expire k ∷ []) (sym is.node_is) in
    finished.due t low
    ∙ ap (λ (left : List Cause). map (radio_event w) (left ++ of_time t (schedules w s m))) (end_is_gone (event_node w m.cause) (effect_at w s m) _ (t == m.time) (s.due t) begun other here)
    ∙ ap (λ (more : List Cause). map (radio_event w) more) none

pub returns-clause-period : goal.returns-clause-period
returns-clause-period c = λ programs s m h period before comes has.
    let w : World = code_world c.args.desc.now c.args.world.now programs in
    let is = before.is in
    let finished = c.in_ok-finish.ensures programs s m is.time_is is.cause_is is.node_is is.taken is.settled in
    let t : ℕ = m.time + period in
    ap (λ (events : List SharedEvent). slice_get events 0) (finished.due t before.in_time)
    ∙ by_first w t (left_due w s m t) (next_period w m.cause m.time) _ (record { time = t; cause = Period c.args.number h }) before.none_left
    (a_period w c.args.number m.time period h m.cause comes has) refl

pub returns-clause-pump : goal.returns-clause-pump
returns-clause-pump c = λ programs s m before first.
    let w : World = code_world c.args.desc.now c.args.world.now programs in
    let is = before.is in
    let finished = c.in_ok-finish.ensures programs s m is.time_is is.cause_is is.node_is is.taken is.settled in
    let t : ℕ = m.time + w.description.radio.gap in
    let node : ℕ = event_node w m.cause in
    ap (λ (events : List SharedEvent). slice_get events 0) (finished.due t before.in_time)
    ∙ by_fourth w t (left_due w s m t) (next_period w m.cause m.time) (new_interval node (begun_length (node_at w s m) (effect_at w s m)) (node_after w (node_at w s m) m).timer) _ _ _
    (record { time = t; cause = Pump node }) before.none_left first.no_period
    (no_interval node _ _ first.no_interval) first.no_deliveries (a_pump w node m.time _ first.falls_due) refl
    ∙ ap (λ (k : ℕ). Some (radio_kind.Pump k)) is.node_is

pub returns-clause-request : goal.returns-clause-request
returns-clause-request c = λ programs s m p is alone.
    let w : World = code_world c.args.desc.now c.args.world.now programs in
    let finished = c.in_ok-finish.ensures programs s m is.time_is is.cause_is is.node_is is.taken is.settled in
    let node : ℕ = event_node w m.cause in
    let rest : List Aired = map (aired_at c.args.at node) (after_first w node s p (messages w m.told)) in (
      rest,
      finished.air
          ∙ ap (λ (airs : List Air). c.args.radio.now.air ++ map (aired_at c.args.at node) airs)
          (sent_first w node s (effect_at w s m).first (begun_length (node_at w s m) (effect_at w s m)) (effect_at w s m).sends (messages w m.told) p alone.first alone.no_interval alone.sends)
          ∙ ap (λ (k : ℕ). c.args.radio.now.air ++ aired_at c.args.at k (Sent (suc (length s.senders)) (sent_bytes w p)) ∷ rest) is.node_is,
    )
