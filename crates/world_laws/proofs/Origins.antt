-- Where the causes that are due come from; calls and their answers, packets and their arrivals.
use Rattle.std.proofs.Common.{◌≡◌, ◌≤◌, ℕ, zero, suc, ◌+◌, true, false, List, [], ◌∷◌, ◌++◌, Some, None, refl, sym, ◌∙◌, ap, subst, arith, inl, inr, ◌⊎◌, append_assoc}
use Rattle.std.specs.Prelude.{not, ◌&&◌, if◌then◌else◌, slice_get, ℤ}
use Rattle.std.specs.List.{flat_map, range_with_len}
use Rattle.std.proofs.lemmas.List.{append-nil}
use Rattle.arrayvec.specs.ArrayVec.{ArrayVec}
use Rattle.mate_num.specs.declared.id.FunId.{FunId}
use Rattle.mate_journal.specs.Journal.{JournalEntry, Posted, Dropped, Started, Asked, Answered, Ended, Installed, Reset, Seen, Void, NodeState}
use Rattle.packet_codec.specs.declared.packet.Packet.{Packet}
use Rattle.trickle_timer.specs.Timer.{Timer}
use Rattle.world_rules.specs.Cause.{Cause}
use Rattle.world_rules.specs.Cause as event
use Rattle.world_rules.specs.World.{World, links_from, latency_of}
use Rattle.world_rules.specs.Effect.{event_node, is_owing}
use Rattle.world_rules.specs.State.{Moment, WorldState, Scheduled, Sending, of_interval, new_interval, new_pump, next_period, still_pumps, deliveries, sendings, packets_of, is_lost, calls_in, answers_due, node_at, node_after, effect_at, schedules, start_node, lines_from, first_of, world_start, state}
use Rattle.world_rules.specs.Effect.{begun_length}
use Rattle.world_rules.specs.Run.{HaveCome, IsDone}
use Rattle.world_laws.specs.Causes.{HasEvent, IsCancelled}
use Rattle.world_laws.specs.Calls.{answer_for, CallsAreAnswered, WasCalled, AnswersWereCalled}
use Rattle.world_laws.specs.Arrivals.{sent_by, SentArrive, WasSent, ArrivalsWereSent}
use Rattle.mate_num.specs.Lists.{Among}
use Rattle.mate_num.proofs.ListLemmas.{among-left, among-right, among-append, among-flat_map, none-among}
use Rattle.world_laws.proofs.OfTime.{among-un_of_time, apart}
use Rattle.world_laws.proofs.Due.{at, due-from, due-new, kind, answer_scheduled, Source, period, interval, delivery, pump, answer, source}
use Rattle.world_laws.proofs.Points.{among-next, among-map_of, line-kind, period-kind}
use Rattle.world_laws.proofs.Comes.{come-along}

-- ---- origins

-- one of these events scheduled the cause for this time
record WasScheduled (w : World) (ms : List Moment) (t : ℕ) (c : Cause) : Type 0 where
  newer : List Moment
  moment : Moment
  older : List Moment
  split : ms ≡ newer ++ moment ∷ older
  among : Among (at t c) (schedules w (state w older) moment)

later-scheduled : (w : World) (m : Moment) (ms : List Moment) (t : ℕ) (c : Cause) → WasScheduled w ms t c → WasScheduled w (m ∷ ms) t c
later-scheduled w m ms t c was = record { newer = m ∷ was.newer; moment = was.moment; older = was.older; split = ap (λ (xs : List Moment). m ∷ xs) was.split; among = was.among }

origin : (w : World) (ms : List Moment) (t : ℕ) (c : Cause) → Among c ((state w ms).due t) → Among c ((world_start w).due t) ⊎ WasScheduled w ms t c
origin w [] t c a = inl a
origin w (m ∷ before) t c a = elim (due-from w (state w before) m t c a) [
  | inl old ↦ elim (origin w before t c old.0) [ inl first ↦ inl first | inr was ↦ inr (later-scheduled w m before t c was) ]
  | inr new ↦ inr (record { newer = []; moment = m; older = before; split = refl; among = new })
]

-- at the start there are lines, periods, points and ends
interval-kind : (i : ℕ) (timer : Timer) (x : Scheduled) → Among x (of_interval i timer) → (kind x.cause ≡ 2) ⊎ (kind x.cause ≡ 3)
interval-kind i timer x (inl e) = inl (ap (λ (y : Scheduled). kind y.cause) (sym e))
interval-kind i timer x (inr (inl e)) = inr (ap (λ (y : Scheduled). kind y.cause) (sym e))
interval-kind i timer x (inr (inr h)) = absurd h

start-kind : (w : World) (t : ℕ) (c : Cause) → Among c ((world_start w).due t) → kind c ≤ 3
start-kind w t c a = elim (among-append (at t c) (lines_from 0 w.plan) _ (among-un_of_time t c _ a)) [
  | inl line ↦ (let k : kind c ≡ 0 = line-kind (at t c) 0 w.plan line in omega (arith, k))
  | inr b ↦ let node = among-flat_map (first_of w) (at t c) (range_with_len 0 w.nodes) b in
      elim (among-append (at t c) (of_interval node.0 (start_node w node.0).timer) _ node.2) [
        | inl i ↦ elim (interval-kind node.0 (start_node w node.0).timer (at t c) i) [
          | inl k ↦ omega (arith, k)
          | inr k ↦ omega (arith, k)
        ]
        | inr p ↦ (let k : kind c ≡ 1 = period-kind w (at t c) node.0 p in omega (arith, k))
      ]
]

-- what comes, where its kind isn't of the start, was scheduled
came-from : (w : World) (before : List Moment) (x : Moment) → HaveCome w (x ∷ before) → (kind x.cause ≤ 3 → ⊥) → WasScheduled w before x.time x.cause
came-from w before x come later = elim (origin w before x.time x.cause (among-next (state w before) x.time x.cause come.1.next)) [
  | inl first ↦ absurd (later (start-kind w x.time x.cause first))
  | inr was ↦ was
]

-- ---- answers

-- a call's answer is among those that fall due
answer-among : (w : World) (node time : ℕ) (r : NodeState) (called : List FunId) (front rest : List JournalEntry) (n : ℕ) (f : FunId) (args : ArrayVec ℤ)
    → Among (answer_scheduled w node time r (called ++ calls_in front) n f) (answers_due w node time r called (front ++ Asked n f args ∷ rest))
answer-among w node time r called [] rest n f args = inl (ap (λ (fs : List FunId). answer_scheduled w node time r fs n f) (sym (append-nil called)))
answer-among w node time r called (Asked k g more ∷ front) rest n f args =
    inr (subst (λ (fs : List FunId). Among (answer_scheduled w node time r fs n f) (answers_due w node time r (called ++ g ∷ []) (front ++ Asked n f args ∷ rest))) (append_assoc called (g ∷ []) (calls_in front))
    (answer-among w node time r (called ++ g ∷ []) front rest n f args))
answer-among w node time r called (_ ∷ front) rest n f args = answer-among w node time r called front rest n f args

answer-scheduled : (w : World) (s : WorldState) (m : Moment) (front rest : List JournalEntry) (n : ℕ) (f : FunId) (args : ArrayVec ℤ) → m.told ≡ front ++ Asked n f args ∷ rest
    → Among (at (m.time + latency_of w f) (answer_for w s m front n f)) (schedules w s m)
answer-scheduled w s m front rest n f args is =
    among-right x (next_period w m.cause m.time) _ (among-right x (new_interval (event_node w m.cause) (begun_length (node_at w s m) (effect_at w s m)) (node_after w (node_at w s m) m).timer) _
    (among-right x (flat_map (deliveries w (event_node w m.cause) m.time) (sendings w s (event_node w m.cause) (packets_of w s m))) _
    (among-right x (new_pump w (event_node w m.cause) m.time (not (still_pumps m.cause (effect_at w s m) (node_at w s m)) && is_owing w (node_after w (node_at w s m) m).exchange)) _ own))) where
      x : Scheduled
      x = at (m.time + latency_of w f) (answer_for w s m front n f)

      own : Among (at (m.time + latency_of w f) (answer_for w s m front n f)) (answers_due w (event_node w m.cause) m.time (node_after w (node_at w s m) m).reading (node_at w s m).called m.told)
      own = subst (λ (told : List JournalEntry). Among (at (m.time + latency_of w f) (answer_for w s m front n f)) (answers_due w (event_node w m.cause) m.time (node_after w (node_at w s m) m).reading (node_at w s m).called told)) (sym is)
          (answer-among w (event_node w m.cause) m.time (node_after w (node_at w s m) m).reading (node_at w s m).called front rest n f args)

-- what is scheduled comes, or is cancelled
scheduled-comes : (w : World) (before later : List Moment) (m : Moment) (t : ℕ) (c : Cause) → HaveCome w (later ++ (m ∷ before)) → Among (at t c) (schedules w (state w before) m) → IsDone (state w (later ++ (m ∷ before))) t
    → HasEvent later t c ⊎ IsCancelled w (m ∷ before) later c
scheduled-comes w before later m t c come among done = elim (come-along w (m ∷ before) later t c come (due-new w (state w before) m t c among)) [
  | inl found ↦ found
  | inr waits ↦ absurd (none-among c ((state w (later ++ (m ∷ before))).due t) (done t (omega arith)) waits)
]

pub calls_are_answered : (w : World) → CallsAreAnswered w
calls_are_answered w before later m front rest n f args come is done =
    scheduled-comes w before later m (m.time + latency_of w f) (answer_for w (state w before) m front n f) come (answer-scheduled w (state w before) m front rest n f args is) done

pub answers_were_called : (w : World) → AnswersWereCalled w
answers_were_called w before x node n c value come is = by (came-from w before x come (λ low. (let k : kind x.cause ≡ 5 = ap kind is in absurd (omega (arith, low, k))))) where
  called : (was : WasScheduled w before x.time x.cause) → Source w (state w was.older) was.moment (at x.time x.cause) → WasCalled w before x
  called was (period k later) = absurd (apart 5 1 refl (sym (ap kind is) ∙ k))
  called was (interval l begun a) = elim (interval-kind (event_node w was.moment.cause) (node_after w (node_at w (state w was.older) was.moment) was.moment).timer (at x.time x.cause) a) [
    | inl k ↦ absurd (apart 5 2 refl (sym (ap kind is) ∙ k))
    | inr k ↦ absurd (apart 5 3 refl (sym (ap kind is) ∙ k))
  ]
  called was (delivery sending j a b kept same) = absurd (apart 5 6 refl (sym (ap kind is) ∙ ap (λ (y : Scheduled). kind y.cause) same))
  called was (pump same) = absurd (apart 5 4 refl (sym (ap kind is) ∙ ap (λ (y : Scheduled). kind y.cause) same))
  called was (answer k later call) = record {
    newer = was.newer;
    moment = was.moment;
    older = was.older;
    split = was.split;
    front = call.front;
    rest = call.rest;
    invocation = call.invocation;
    fun = call.fun;
    args = call.args;
    told = call.told_is;
    cause = ap (λ (y : Scheduled). y.cause) call.is;
    time = ap (λ (y : Scheduled). y.time) call.is;
  }

  by : WasScheduled w before x.time x.cause → WasCalled w before x
  by was = called was (source w (state w was.older) was.moment (at x.time x.cause) was.among)

-- ---- arrivals

pub among-get : {X : Type 0} (xs : List X) (i : ℕ) (x : X) → slice_get xs i ≡ Some x → Among x xs
among-get [] i x e = let clash : None ≡ Some x = e in cc
among-get (y ∷ ys) zero x e = inl (let same : y ≡ x = cc in same)
among-get (y ∷ ys) (suc i) x e = inr (among-get ys i x e)

pub place-of : {X : Type 0} (xs : List X) (x : X) → Among x xs → (i : ℕ) × (slice_get xs i ≡ Some x)
place-of [] x a = absurd a
place-of (y ∷ ys) x (inl e) = (0, ap Some e)
place-of (y ∷ ys) x (inr a) = let at_rest = place-of ys x a in (suc at_rest.0, at_rest.1)

pub sent_arrive : (w : World) → SentArrive w
sent_arrive w before later m i k j x come sent leaves_there kept done = elim (scheduled-comes w before later m (m.time + w.description.radio.delay) (event.Deliver j x.number x.packet) come scheduled done) [
  | inl found ↦ found
  | inr cut ↦ (let clash : true ≡ false = cut.cancels in cc)
] where
  own : Among (at (m.time + w.description.radio.delay) (event.Deliver j x.number x.packet)) (deliveries w (event_node w m.cause) m.time x)
  own = among-map_of (λ (l : ℕ). if is_lost w x l then [] else at (m.time + w.description.radio.delay) (event.Deliver l x.number x.packet) ∷ []) (at (m.time + w.description.radio.delay) (event.Deliver j x.number x.packet)) j (links_from w (event_node w m.cause))
      (among-get (links_from w (event_node w m.cause)) k j leaves_there) (rw kept (inl refl))

  scheduled : Among (at (m.time + w.description.radio.delay) (event.Deliver j x.number x.packet)) (schedules w (state w before) m)
  scheduled =
      among-right y (next_period w m.cause m.time) _ (among-right y (new_interval (event_node w m.cause) (begun_length (node_at w (state w before) m) (effect_at w (state w before) m)) (node_after w (node_at w (state w before) m) m).timer) _
      (among-left y (flat_map (deliveries w (event_node w m.cause) m.time) (sent_by w (state w before) m)) _
      (among-map_of (deliveries w (event_node w m.cause) m.time) y x (sent_by w (state w before) m) (among-get (sent_by w (state w before) m) i x sent) own))) where
        y : Scheduled
        y = at (m.time + w.description.radio.delay) (event.Deliver j x.number x.packet)

pub arrivals_were_sent : (w : World) → ArrivalsWereSent w
arrivals_were_sent w before x j number packet come is = by (came-from w before x come (λ low. (let k : kind x.cause ≡ 6 = ap kind is in absurd (omega (arith, low, k))))) where
  sent_by_it : (was : WasScheduled w before x.time x.cause) → Source w (state w was.older) was.moment (at x.time x.cause) → WasSent w before x.time j number packet
  sent_by_it was (period k later) = absurd (apart 6 1 refl (sym (ap kind is) ∙ k))
  sent_by_it was (interval l begun a) = elim (interval-kind (event_node w was.moment.cause) (node_after w (node_at w (state w was.older) was.moment) was.moment).timer (at x.time x.cause) a) [
    | inl k ↦ absurd (apart 6 2 refl (sym (ap kind is) ∙ k))
    | inr k ↦ absurd (apart 6 3 refl (sym (ap kind is) ∙ k))
  ]
  sent_by_it was (pump same) = absurd (apart 6 4 refl (sym (ap kind is) ∙ ap (λ (y : Scheduled). kind y.cause) same))
  sent_by_it was (answer k later call) = absurd (apart 6 5 refl (sym (ap kind is) ∙ k))
  sent_by_it was (delivery sending link a b kept same) = record {
    newer = was.newer;
    moment = was.moment;
    older = was.older;
    split = was.split;
    before = sending.before;
    place = place.0;
    sent = place.1 ∙ ap Some sending_is;
    link = there.0;
    leaves_there = there.1 ∙ ap Some (sym parts.0);
    not_lost = subst (λ (y : Sending). is_lost w y j ≡ false) sending_is (subst (λ (l : ℕ). is_lost w sending l ≡ false) (sym parts.0) kept);
    in_time = ap (λ (y : Scheduled). y.time) same;
  } where
    causes : event.Deliver j number packet ≡ event.Deliver link sending.number sending.packet
    causes = sym is ∙ ap (λ (y : Scheduled). y.cause) same

    parts : (j ≡ link) × (number ≡ sending.number) × (packet ≡ sending.packet)
    parts = same_parts j link number sending.number packet sending.packet causes where
      same_parts : (a b m n : ℕ) (p q : Packet) → event.Deliver a m p ≡ event.Deliver b n q → (a ≡ b) × (m ≡ n) × (p ≡ q)
      same_parts a b m n p q e = ((let one : a ≡ b = cc in one), (let two : m ≡ n = cc in two), (let three : p ≡ q = cc in three))

    sending_is : sending ≡ record { number = number; before = sending.before; packet = packet }
    sending_is = λ i. record { number = (sym parts.1) i; before = sending.before; packet = (sym parts.2) i }

    place : (i : ℕ) × (slice_get (sent_by w (state w was.older) was.moment) i ≡ Some sending)
    place = place-of (sent_by w (state w was.older) was.moment) sending a

    there : (i : ℕ) × (slice_get (links_from w (event_node w was.moment.cause)) i ≡ Some link)
    there = place-of (links_from w (event_node w was.moment.cause)) link b

  by : WasScheduled w before x.time x.cause → WasSent w before x.time j number packet
  by was = sent_by_it was (source w (state w was.older) was.moment (at x.time x.cause) was.among)
