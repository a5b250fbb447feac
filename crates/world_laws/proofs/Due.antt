-- What is due after an event.
use Rattle.std.proofs.Common.{◌≡◌, ◌≤◌, ℕ, ◌+◌, Bool, true, false, not, ◌&&◌, List, [], ◌∷◌, ◌++◌, drop, refl, sym, ◌∙◌, ap, arith, inl, inr, ◌⊎◌, append_assoc}
use Rattle.std.specs.Prelude.{Option, Some, None, ◌==◌, if◌then◌else◌, ℤ}
use Rattle.std.specs.List.{filter, flat_map}
use Rattle.std.specs.Option.{option_map_or}
use Rattle.std.proofs.lemmas.Bool.Decides.{eqb_tells}
use Rattle.std.proofs.lemmas.List.{append-nil}
use Rattle.arrayvec.specs.ArrayVec.{ArrayVec}
use Rattle.mate_num.specs.declared.id.FunId.{FunId}
use Rattle.mate_journal.specs.Journal.{JournalEntry, Posted, Dropped, Started, Asked, Answered, Ended, Installed, Reset, Seen, Void, NodeState}
use Rattle.world_rules.specs.Cause.{Cause}
use Rattle.world_rules.specs.Cause as event
use Rattle.world_rules.specs.World.{World, links_from, period_of, latency_of}
use Rattle.world_rules.specs.Effect.{begun_length, is_owing, event_node}
use Rattle.world_rules.specs.State.{Moment, WorldState, Scheduled, of_time, Sending, sendings, is_lost, deliveries, packets_of, next_period, of_interval, new_interval, new_pump, calls_in, answer_at, answers_due, still_pumps, node_at, effect_at, node_after, schedules, is_kept, is_some_length, left_due, after_moment}
use Rattle.world_rules.specs.Run.{IsNext}
use Rattle.mate_num.specs.Lists.{Among}
use Rattle.mate_num.proofs.ListLemmas.{among-left, among-right, among-append, among-filter, among-unfilter, among-flat_map, among-rest, among-behind}
use Rattle.world_laws.proofs.OfTime.{among-of_time, among-un_of_time}

abbrev pub at : ℕ → Cause → Scheduled
at t c = record { time = t; cause = c }

-- c outlasts the event, unless it is the event
abbrev pub Outlasts : World → WorldState → Moment → Cause → Type 0
Outlasts w s m c = is_kept (event_node w m.cause) (effect_at w s m) (is_some_length (begun_length (node_at w s m) (effect_at w s m))) c ≡ true

pub due-keeps : (w : World) (s : WorldState) (m : Moment) (t : ℕ) (c : Cause) → IsNext s m.time m.cause → Outlasts w s m c → Among c (s.due t)
    → ((t ≡ m.time) × (m.cause ≡ c)) ⊎ Among c ((after_moment w s m).due t)
due-keeps w s m t c next kept h = elim (eqb_tells t m.time) [ inl same ↦ now same.0 same.1 | inr other ↦ later other.0 ] where
  P : Cause → Bool
  P = is_kept (event_node w m.cause) (effect_at w s m) (is_some_length (begun_length (node_at w s m) (effect_at w s m)))

  rest : List Cause
  rest = of_time t (schedules w s m)

  later : (t == m.time) ≡ false → ((t ≡ m.time) × (m.cause ≡ c)) ⊎ Among c ((after_moment w s m).due t)
  later is = inr (rw is (among-left c (filter P (s.due t)) rest (among-filter P c (s.due t) kept h)))

  now : (t == m.time) ≡ true → t ≡ m.time → ((t ≡ m.time) × (m.cause ≡ c)) ⊎ Among c ((after_moment w s m).due t)
  now is same = elim (among-rest c m.cause (s.due t) next.others (ap s.due same ∙ next.due) h) [
    | inl first ↦ inl (same, first)
    | inr behind ↦ inr (rw is (among-left c (filter P (drop 1 (s.due t))) rest (among-filter P c (drop 1 (s.due t)) kept behind)))
  ]

pub due-from : (w : World) (s : WorldState) (m : Moment) (t : ℕ) (c : Cause) → Among c ((after_moment w s m).due t)
    → (Among c (s.due t) × Outlasts w s m c) ⊎ Among (at t c) (schedules w s m)
due-from w s m t c h = elim (among-append c (left_due w s m t) (of_time t (schedules w s m)) h) [
  | inl old ↦ let was = among-unfilter P c (if t == m.time then drop 1 (s.due t) else s.due t) old in inl (before (t == m.time) was.0, was.1)
  | inr new ↦ inr (among-un_of_time t c (schedules w s m) new)
] where
  P : Cause → Bool
  P = is_kept (event_node w m.cause) (effect_at w s m) (is_some_length (begun_length (node_at w s m) (effect_at w s m)))

  before : (b : Bool) → Among c (if b then drop 1 (s.due t) else s.due t) → Among c (s.due t)
  before true a = among-behind c (s.due t) a
  before false a = a

pub due-new : (w : World) (s : WorldState) (m : Moment) (t : ℕ) (c : Cause) → Among (at t c) (schedules w s m) → Among c ((after_moment w s m).due t)
due-new w s m t c h = among-right c (left_due w s m t) (of_time t (schedules w s m)) (among-of_time t c (schedules w s m) h)

-- ---- what is scheduled, in five parts

abbrev pub period_part : World → Moment → List Scheduled
period_part w m = next_period w m.cause m.time

abbrev pub interval_part : World → WorldState → Moment → List Scheduled
interval_part w s m = new_interval (event_node w m.cause) (begun_length (node_at w s m) (effect_at w s m)) (node_after w (node_at w s m) m).timer

abbrev pub delivery_part : World → WorldState → Moment → List Scheduled
delivery_part w s m = flat_map (deliveries w (event_node w m.cause) m.time) (sendings w s (event_node w m.cause) (packets_of w s m))

-- whether a pump is scheduled
abbrev pub pumps_anew : World → WorldState → Moment → Bool
pumps_anew w s m = not (still_pumps m.cause (effect_at w s m) (node_at w s m)) && is_owing w (node_after w (node_at w s m) m).exchange

abbrev pub pump_part : World → WorldState → Moment → List Scheduled
pump_part w s m = new_pump w (event_node w m.cause) m.time (pumps_anew w s m)

abbrev pub answer_part : World → WorldState → Moment → List Scheduled
answer_part w s m = answers_due w (event_node w m.cause) m.time (node_after w (node_at w s m) m).reading (node_at w s m).called m.told

-- the part that it stands in
pub data InPart (w : World) (s : WorldState) (m : Moment) (x : Scheduled) : Type 0 where
  in_period : Among x (period_part w m) → InPart w s m x
  in_interval : Among x (interval_part w s m) → InPart w s m x
  in_delivery : Among x (delivery_part w s m) → InPart w s m x
  in_pump : Among x (pump_part w s m) → InPart w s m x
  in_answer : Among x (answer_part w s m) → InPart w s m x

pub parted : (w : World) (s : WorldState) (m : Moment) (x : Scheduled) → Among x (schedules w s m) → InPart w s m x
parted w s m x h = elim (among-append x (period_part w m) (interval_part w s m ++ (delivery_part w s m ++ (pump_part w s m ++ answer_part w s m))) h) [
  | inl a ↦ in_period a
  | inr h1 ↦ elim (among-append x (interval_part w s m) (delivery_part w s m ++ (pump_part w s m ++ answer_part w s m)) h1) [
    | inl b ↦ in_interval b
    | inr h2 ↦ elim (among-append x (delivery_part w s m) (pump_part w s m ++ answer_part w s m) h2) [
      | inl c ↦ in_delivery c
      | inr h3 ↦ elim (among-append x (pump_part w s m) (answer_part w s m) h3) [ inl d ↦ in_pump d | inr e ↦ in_answer e ]
    ]
  ]
]

-- ---- where what is scheduled comes from

-- which kind of event it is
abbrev pub kind : Cause → ℕ
kind (event.Planned line) = 0
kind (event.Period node h) = 1
kind (event.Fire node) = 2
kind (event.Expire node) = 3
kind (event.Pump node) = 4
kind (event.Due node c inv value) = 5
kind (event.Deliver link number packet) = 6

abbrev pub answer_scheduled : World → ℕ → ℕ → NodeState → List FunId → ℕ → FunId → Scheduled
answer_scheduled w node time r called n f =
    at (time + latency_of w f) (event.Due node (r.invocations n).context n (answer_at w node called f (time + latency_of w f)))

-- the answer to one of the entries' calls, where these were called before
pub record AnswerOf (w : World) (node time : ℕ) (r : NodeState) (called : List FunId) (told : List JournalEntry) (x : Scheduled) : Type 0 where
  pub front : List JournalEntry
  pub rest : List JournalEntry
  pub invocation : ℕ
  pub fun : FunId
  pub args : ArrayVec ℤ
  pub told_is : told ≡ front ++ Asked invocation fun args ∷ rest
  pub is : x ≡ answer_scheduled w node time r (called ++ calls_in front) invocation fun

-- where something that is scheduled comes from
pub data Source (w : World) (s : WorldState) (m : Moment) (x : Scheduled) : Type 0 where
  period : kind x.cause ≡ 1 → m.time ≤ x.time → Source w s m x
  interval : (l : ℕ) → begun_length (node_at w s m) (effect_at w s m) ≡ Some l → Among x (of_interval (event_node w m.cause) (node_after w (node_at w s m) m).timer) → Source w s m x
  delivery : (sending : Sending) (j : ℕ) → Among sending (sendings w s (event_node w m.cause) (packets_of w s m)) → Among j (links_from w (event_node w m.cause))
      → is_lost w sending j ≡ false → x ≡ at (m.time + w.description.radio.delay) (event.Deliver j sending.number sending.packet) → Source w s m x
  pump : x ≡ at (m.time + w.description.radio.gap) (event.Pump (event_node w m.cause)) → Source w s m x
  answer : kind x.cause ≡ 5 → m.time ≤ x.time → AnswerOf w (event_node w m.cause) m.time (node_after w (node_at w s m) m).reading (node_at w s m).called m.told x → Source w s m x

one : (x y : Scheduled) → Among x (y ∷ []) → x ≡ y
one x y (inl e) = sym e
one x y (inr h) = absurd h

period_source : (w : World) (s : WorldState) (m : Moment) (x : Scheduled) (c : Cause) → Among x (next_period w c m.time) → Source w s m x
period_source w s m x (event.Period node g) h = by (period_of w g.0) h where
  by : (o : Option ℕ) → Among x (option_map_or (λ p. at (m.time + p) (event.Period node g) ∷ []) o []) → Source w s m x
  by None a = absurd a
  by (Some p) a = let is = one x (at (m.time + p) (event.Period node g)) a in period (ap (λ (y : Scheduled). kind y.cause) is) (omega (arith, ap (λ (y : Scheduled). y.time) is))
period_source w s m x _ h = absurd h

interval_source : (w : World) (s : WorldState) (m : Moment) (x : Scheduled) (o : Option ℕ) → begun_length (node_at w s m) (effect_at w s m) ≡ o
    → Among x (new_interval (event_node w m.cause) o (node_after w (node_at w s m) m).timer) → Source w s m x
interval_source w s m x None is h = absurd h
interval_source w s m x (Some l) is h = interval l is h

delivery_source : (w : World) (s : WorldState) (m : Moment) (x : Scheduled) → Among x (flat_map (deliveries w (event_node w m.cause) m.time) (sendings w s (event_node w m.cause) (packets_of w s m))) → Source w s m x
delivery_source w s m x h = let sent = among-flat_map (deliveries w node m.time) x (sendings w s node (packets_of w s m)) h in over sent.0 sent.1 sent.2 where
  node : ℕ
  node = event_node w m.cause

  over : (y : Sending) → Among y (sendings w s node (packets_of w s m)) → Among x (deliveries w node m.time y) → Source w s m x
  over y among a =
      let link = among-flat_map (λ (j : ℕ). if is_lost w y j then [] else at (m.time + w.description.radio.delay) (event.Deliver j y.number y.packet) ∷ []) x (links_from w node) a in
      arrives (is_lost w y link.0) link.0 refl link.1 link.2 where
        arrives : (b : Bool) (j : ℕ) → is_lost w y j ≡ b → Among j (links_from w node) → Among x (if b then [] else at (m.time + w.description.radio.delay) (event.Deliver j y.number y.packet) ∷ []) → Source w s m x
        arrives true j lost leaves it = absurd it
        arrives false j lost leaves it = delivery y j among leaves lost (one x (at (m.time + w.description.radio.delay) (event.Deliver j y.number y.packet)) it)

pump_source : (w : World) (s : WorldState) (m : Moment) (x : Scheduled) (b : Bool) → Among x (new_pump w (event_node w m.cause) m.time b) → Source w s m x
pump_source w s m x false h = absurd h
pump_source w s m x true h = pump (one x (at (m.time + w.description.radio.gap) (event.Pump (event_node w m.cause))) h)

-- behind an entry that is no call
behind_entry : (w : World) (node time : ℕ) (r : NodeState) (called : List FunId) (told : List JournalEntry) (x : Scheduled) (t : JournalEntry) → ((front : List JournalEntry) → calls_in front ≡ calls_in (t ∷ front))
    → AnswerOf w node time r called told x → AnswerOf w node time r called (t ∷ told) x
behind_entry w node time r called told x t skips a = record {
  front = t ∷ a.front;
  rest = a.rest;
  invocation = a.invocation;
  fun = a.fun;
  args = a.args;
  told_is = ap (λ (ts : List JournalEntry). t ∷ ts) a.told_is;
  is = a.is ∙ ap (λ (fs : List FunId). answer_scheduled w node time r (called ++ fs) a.invocation a.fun) (skips a.front);
}

answer-of : (w : World) (node time : ℕ) (r : NodeState) (called : List FunId) (told : List JournalEntry) (x : Scheduled) → Among x (answers_due w node time r called told) → AnswerOf w node time r called told x
answer-of w node time r called [] x h = absurd h
answer-of w node time r called (Asked n f args ∷ told) x (inl e) = record {
  front = [];
  rest = told;
  invocation = n;
  fun = f;
  args = args;
  told_is = refl;
  is = sym e ∙ ap (λ (fs : List FunId). answer_scheduled w node time r fs n f) (sym (append-nil called));
}
answer-of w node time r called (Asked n f args ∷ told) x (inr h) =
    let a : AnswerOf w node time r (called ++ f ∷ []) told x = answer-of w node time r (called ++ f ∷ []) told x h in
    record {
      front = Asked n f args ∷ a.front;
      rest = a.rest;
      invocation = a.invocation;
      fun = a.fun;
      args = a.args;
      told_is = ap (λ (ts : List JournalEntry). Asked n f args ∷ ts) a.told_is;
      is = a.is ∙ ap (λ (fs : List FunId). answer_scheduled w node time r fs a.invocation a.fun) (append_assoc called (f ∷ []) (calls_in a.front));
    }
answer-of w node time r called (t ∷ told) x h = behind_entry w node time r called told x t (λ front. refl) (answer-of w node time r called told x h)

answer_source : (w : World) (s : WorldState) (m : Moment) (x : Scheduled) → AnswerOf w (event_node w m.cause) m.time (node_after w (node_at w s m) m).reading (node_at w s m).called m.told x → Source w s m x
answer_source w s m x a = answer (ap (λ (y : Scheduled). kind y.cause) a.is) (omega (arith, ap (λ (y : Scheduled). y.time) a.is)) a

pub source : (w : World) (s : WorldState) (m : Moment) (x : Scheduled) → Among x (schedules w s m) → Source w s m x
source w s m x h = by (parted w s m x h) where
  by : InPart w s m x → Source w s m x
  by (in_period a) = period_source w s m x m.cause a
  by (in_interval a) = interval_source w s m x (begun_length (node_at w s m) (effect_at w s m)) refl a
  by (in_delivery a) = delivery_source w s m x a
  by (in_pump a) = pump_source w s m x (pumps_anew w s m) a
  by (in_answer a) = answer_source w s m x (answer-of w (event_node w m.cause) m.time (node_after w (node_at w s m) m).reading (node_at w s m).called m.told x a)

-- the point and the end of a new interval are scheduled
pub begun-scheduled : (w : World) (s : WorldState) (m : Moment) (l : ℕ) (x : Scheduled) → begun_length (node_at w s m) (effect_at w s m) ≡ Some l
    → Among x (of_interval (event_node w m.cause) (node_after w (node_at w s m) m).timer) → Among x (schedules w s m)
begun-scheduled w s m l x is h =
    among-right x (next_period w m.cause m.time) _ (among-left x (new_interval (event_node w m.cause) (begun_length (node_at w s m) (effect_at w s m)) (node_after w (node_at w s m) m).timer) _ (rw is h))
