-- The pieces of an event's end on the radio, put together.
use Rattle.std.proofs.Common.{◌≡◌, ℕ, ◌≤◌, Bool, not, List, [], ◌∷◌, ◌++◌, map, drop, sym, ◌∙◌, ap, subst, append_assoc, append-nil}
use Rattle.std.specs.Prelude.{◌==◌, ◌&&◌, if◌then◌else◌}
use Rattle.std.specs.List.{filter}
use Rattle.std.specs.Option.{option_to_list}
use Rattle.std.proofs.lemmas.List.{map-append}
use Rattle.mate_num.specs.declared.call.Stamp.{Stamp}
use Rattle.mate_journal.specs.declared.air.Air.{Air}
use Rattle.mate_journal.specs.declared.air.Air.TheVariants as air
use Rattle.mate_journal.specs.declared.air.Aired.{Aired}
use Rattle.event_queue.specs.declared.queue.Timed.{Timed}
use Rattle.event_queue.specs.Agenda.{due_at}
use Rattle.packet_codec.specs.declared.packet.Packet.{Packet}
use Rattle.radio_sim.specs.declared.shared_event.SharedEvent.{SharedEvent}
use Rattle.radio_sim.specs.Radio.{Ether}
use Rattle.trickle_timer.specs.Timer.{Timer}
use Rattle.world_rules.specs.Cause.{Cause}
use Rattle.world_rules.specs.World.{World}
use Rattle.world_rules.specs.Effect.{begun_length, event_node, is_owing}
use Rattle.world_rules.specs.State.{Scheduled, Moment, WorldState, node_at, effect_at, packets_of, messages, air_made, sendings, schedules, left_due, after_moment, node_after, next_period, new_interval, new_pump, answers_due, still_pumps, timer_after, is_some_length, of_time}
use Rattle.world_air.specs.Air.{radio_event, timed_event, timed_events, aired_at, IsAirOf, EtherGrows, AreFitPackets, SendsAll, air_of_all, deliveries_of_all}
use Rattle.world_air.specs.Changes.{AddsToAir, AreNear, CancelsAll, if_begins, stays}
use Rattle.world_air.proofs.AirLemmas.{grows-both}
use Rattle.world_event.specs.Pieces.{length_of, interval_items, period_items, pump_items}
use Rattle.world_state.proofs.StandingLemmas.{due-timed, stands-added}
use Rattle.world_event.proofs.PieceLemmas.{ends_of, kept-are, period-is, interval-is, pump-is, begun-is}

-- ---- the whole event

-- whether an interval begins with the event, and the timer behind it
abbrev pub begins : World → WorldState → Moment → Bool
begins w s m = is_some_length (begun_length (node_at w s m) (effect_at w s m))

abbrev pub timer_next : World → WorldState → Moment → Timer
timer_next w s m = timer_after (node_at w s m) (effect_at w s m) m.time

-- what stands on the radio at the end of an event
pub record IsLeft (w : World) (s : WorldState) (m : Moment) (at : Stamp) (old new : Ether) : Type 0 where
  pub due : (t : ℕ) → t ≤ w.until → due_at t new.agenda.items ≡ map (radio_event w) ((after_moment w s m).due t)
  pub air : new.air ≡ old.air ++ map (aired_at at (event_node w m.cause)) (air_made w s m)
  pub gone : new.gone ≡ old.gone
  pub stands : IsAirOf w (after_moment w s m).senders new
  pub fit : AreFitPackets w (messages w m.told)
  pub until : new.agenda.until ≡ old.agenda.until
  pub now : new.agenda.now ≡ old.agenda.now

-- the pieces of an event, one behind the other
pub record HasPieces (w : World) (s : WorldState) (m : Moment) (at : Stamp) (old noted cancelled timed sent pumped new : Ether) : Type 0 where
  pub notes : AddsToAir old noted (map (aired_at at (event_node w m.cause)) (effect_at w s m).first ++ map (aired_at at (event_node w m.cause)) (if_begins (length_of (begins w s m) (timer_next w s m)))) []
  pub cancels : CancelsAll (event_node w m.cause) (ends_of (effect_at w s m) (begins w s m)) noted cancelled
  pub times : AddsToAir cancelled timed [] (period_items w.description (radio_event w m.cause) at.time ++ interval_items (begins w s m) (event_node w m.cause) (timer_next w s m))
  pub sends : SendsAll w (event_node w m.cause) at s.senders (packets_of w s m) timed sent
  pub pumps : AddsToAir sent pumped [] (pump_items w.description (event_node w m.cause) at.time (not (still_pumps m.cause (effect_at w s m) (node_at w s m)) && is_owing w (node_after w (node_at w s m) m).exchange))
  pub answers : AddsToAir pumped new [] (timed_events w (answers_due w (event_node w m.cause) at.time (node_after w (node_at w s m) m).reading (node_at w s m).called m.told))

-- what was due before them
pub record HasDues (w : World) (s : WorldState) (m : Moment) (old : Ether) : Type 0 where
  pub due : (t : ℕ) → t ≤ w.until → due_at t old.agenda.items ≡ map (radio_event w) (if t == m.time then drop 1 (s.due t) else s.due t)
  pub near : (t : ℕ) → t ≤ w.until → AreNear (due_at t old.agenda.items)
  pub until : old.agenda.until ≡ w.until

five : (w : World) (p i d u a : List Scheduled) → (timed_events w p ++ timed_events w i) ++ (timed_events w d ++ (timed_events w u ++ timed_events w a)) ≡ timed_events w (p ++ (i ++ (d ++ (u ++ a))))
five w p i d u a =
    append_assoc (timed_events w p) (timed_events w i) (timed_events w d ++ (timed_events w u ++ timed_events w a))
    ∙ sym (map-append (timed_event w) p (i ++ (d ++ (u ++ a)))
    ∙ ap (λ (xs : List (Timed SharedEvent)). timed_events w p ++ xs) (map-append (timed_event w) i (d ++ (u ++ a))
    ∙ ap (λ (xs : List (Timed SharedEvent)). timed_events w i ++ xs) (map-append (timed_event w) d (u ++ a)
    ∙ ap (λ (xs : List (Timed SharedEvent)). timed_events w d ++ xs) (map-append (timed_event w) u a))))

-- what is left where the event cancelled
left-there : (w : World) (s : WorldState) (m : Moment) (old mid new : Ether) (airs : List Aired) → HasDues w s m old → AddsToAir old mid airs []
    → CancelsAll (event_node w m.cause) (ends_of (effect_at w s m) (begins w s m)) mid new → (t : ℕ) → t ≤ w.until → due_at t new.agenda.items ≡ map (radio_event w) (left_due w s m t)
left-there w s m old mid new airs had adds cancels t le =
    let D : List Cause = if t == m.time then drop 1 (s.due t) else s.due t in
    let same : due_at t mid.agenda.items ≡ due_at t old.agenda.items = adds.grows.due t (subst (λ (u : ℕ). t ≤ u) (sym had.until) le) ∙ append-nil (due_at t old.agenda.items) in
    cancels.due t (subst AreNear (sym same) (had.near t le))
    ∙ ap (filter (stays (event_node w m.cause) (ends_of (effect_at w s m) (begins w s m)))) (same ∙ had.due t le)
    ∙ kept-are w (event_node w m.cause) (effect_at w s m) (begins w s m) (if t == m.time then drop 1 (s.due t) else s.due t)

-- what grows behind it
grown-there : (w : World) (s : WorldState) (m : Moment) (event : ℕ) (old noted cancelled timed sent pumped new : Ether) → HasPieces w s m (record { event = event; time = m.time }) old noted cancelled timed sent pumped new
    → EtherGrows cancelled new (map (aired_at (record { event = event; time = m.time }) (event_node w m.cause)) (air_of_all w (event_node w m.cause) (sendings w s (event_node w m.cause) (packets_of w s m)))) (timed_events w (schedules w s m))
grown-there w s m event old noted cancelled timed sent pumped new x =
    let at : Stamp = record { event = event; time = m.time } in
    let node : ℕ = event_node w m.cause in
    let n = node_at w s m in
    let next = node_after w (node_at w s m) m in
    let P : List Scheduled = next_period w m.cause m.time in
    let I : List Scheduled = new_interval node (begun_length (node_at w s m) (effect_at w s m)) next.timer in
    let D : List Scheduled = deliveries_of_all w node m.time (sendings w s node (packets_of w s m)) in
    let U : List Scheduled = new_pump w node m.time (not (still_pumps m.cause (effect_at w s m) (node_at w s m)) && is_owing w next.exchange) in
    let A : List Scheduled = answers_due w node m.time next.reading (node_at w s m).called m.told in
    let airs : List Aired = map (aired_at at node) (air_of_all w node (sendings w s node (packets_of w s m))) in
    let period = period-is w m.cause m.time in
    let interval = interval-is w node (begun_length (node_at w s m) (effect_at w s m)) next.timer in
    let pump = pump-is w node m.time (not (still_pumps m.cause (effect_at w s m) (node_at w s m)) && is_owing w next.exchange) in
    let all = grows-both cancelled timed new [] (airs ++ ([] ++ [])) _ _ x.times.grows (grows-both timed sent new airs ([] ++ []) _ _ x.sends.grows (grows-both sent pumped new [] [] _ _ x.pumps.grows x.answers.grows)) in
    let items : (period_items w.description (radio_event w m.cause) m.time ++ interval_items (begins w s m) node (timer_next w s m)) ++ (timed_events w D ++ (pump_items w.description node m.time (not (still_pumps m.cause (effect_at w s m) (node_at w s m)) && is_owing w next.exchange) ++ timed_events w A))
    ≡ timed_events w (P ++ (I ++ (D ++ (U ++ A)))) =
    ap (λ (xs : List (Timed SharedEvent)). (xs ++ interval_items (begins w s m) node (timer_next w s m)) ++ (timed_events w D ++ (pump_items w.description node m.time (not (still_pumps m.cause (effect_at w s m) (node_at w s m)) && is_owing w next.exchange) ++ timed_events w A))) period
    ∙ ap (λ (xs : List (Timed SharedEvent)). (timed_events w P ++ xs) ++ (timed_events w D ++ (pump_items w.description node m.time (not (still_pumps m.cause (effect_at w s m) (node_at w s m)) && is_owing w next.exchange) ++ timed_events w A))) interval
    ∙ ap (λ (xs : List (Timed SharedEvent)). (timed_events w P ++ timed_events w I) ++ (timed_events w D ++ (xs ++ timed_events w A))) pump
    ∙ five w P I D U A in
    let G : List Aired → List (Timed SharedEvent) → Type 0 = λ rs xs. EtherGrows cancelled new rs xs in
    subst (λ (rs : List Aired). G rs (timed_events w (schedules w s m))) (append-nil airs) (subst (λ (xs : List (Timed SharedEvent)). G (airs ++ []) xs) items all)

fit-behind : (w : World) (ps qs : List Packet) → AreFitPackets w (ps ++ qs) → AreFitPackets w qs
fit-behind w [] qs fit = fit
fit-behind w (p ∷ ps) qs fit = fit-behind w ps qs fit.1

-- the event put together, with its time's own stamp
left-stamped : (w : World) (s : WorldState) (m : Moment) (event : ℕ) (old noted cancelled timed sent pumped new : Ether) → HasDues w s m old → IsAirOf w s.senders old
    → HasPieces w s m (record { event = event; time = m.time }) old noted cancelled timed sent pumped new → IsLeft w s m (record { event = event; time = m.time }) old new
left-stamped w s m event old noted cancelled timed sent pumped new had stood x =
    let at : Stamp = record { event = event; time = m.time } in
    let node : ℕ = event_node w m.cause in
    let A : List Air → List Aired = map (aired_at (record { event = event; time = m.time }) (event_node w m.cause)) in
    let grown = grown-there w s m event old noted cancelled timed sent pumped new x in
    let until : cancelled.agenda.until ≡ old.agenda.until = x.cancels.until ∙ x.notes.grows.until in
    let flat : List Air = air_of_all w node (sendings w s node (packets_of w s m)) in
    let begun : List Air = map (λ l. air.Interval l) (option_to_list (begun_length (node_at w s m) (effect_at w s m))) in
    record {
      due = λ t le.
          grown.due t (subst (λ (u : ℕ). t ≤ u) (sym (until ∙ had.until)) le)
          ∙ ap (λ (es : List SharedEvent). es ++ due_at t (timed_events w (schedules w s m))) (left-there w s m old noted cancelled _ had x.notes x.cancels t le)
          ∙ ap (λ (es : List SharedEvent). map (radio_event w) (left_due w s m t) ++ es) (due-timed w t (schedules w s m))
          ∙ sym (map-append (radio_event w) (left_due w s m t) (of_time t (schedules w s m)));
      air =
          grown.air ∙ ap (λ (rs : List Aired). rs ++ map (aired_at at node) flat) (x.cancels.air ∙ x.notes.grows.air)
          ∙ append_assoc old.air (map (aired_at at node) (effect_at w s m).first ++ map (aired_at at node) (if_begins (length_of (begins w s m) (timer_next w s m)))) (map (aired_at at node) flat)
          ∙ ap (λ (bs : List Air). old.air ++ ((map (aired_at at node) (effect_at w s m).first ++ map (aired_at at node) bs) ++ map (aired_at at node) flat)) (begun-is (node_at w s m) (effect_at w s m) m.time)
          ∙ ap (λ (rs : List Aired). old.air ++ (rs ++ map (aired_at at node) flat)) (sym (map-append (aired_at at node) (effect_at w s m).first begun))
          ∙ ap (λ (rs : List Aired). old.air ++ rs) (sym (map-append (aired_at at node) ((effect_at w s m).first ++ begun) flat));
      gone = grown.gone ∙ x.cancels.gone ∙ x.notes.grows.gone;
      stands =
          stands-added w (after_moment w s m).senders pumped new [] _ x.answers
          (stands-added w (after_moment w s m).senders sent pumped [] _ x.pumps x.sends.stands);
      fit = fit-behind w (effect_at w s m).sends (messages w m.told) x.sends.fit;
      until = grown.until ∙ until;
      now = grown.now ∙ x.cancels.now ∙ x.notes.grows.now;
    }

pub left-by : (w : World) (s : WorldState) (m : Moment) (at : Stamp) (old noted cancelled timed sent pumped new : Ether) → m.time ≡ at.time → HasDues w s m old → IsAirOf w s.senders old
    → HasPieces w s m at old noted cancelled timed sent pumped new → IsLeft w s m at old new
left-by w s m at old noted cancelled timed sent pumped new same had stood =
    let path : record { event = at.event; time = m.time } ≡ at = λ i. record { event = at.event; time = same i } in
    subst (λ (a : Stamp). HasPieces w s m a old noted cancelled timed sent pumped new → IsLeft w s m a old new) path (left-stamped w s m at.event old noted cancelled timed sent pumped new had stood)
