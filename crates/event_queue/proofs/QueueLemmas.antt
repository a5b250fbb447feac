-- The queue's calls, on the lists that clauses see.
use Rattle.std.proofs.Common.{◌≡◌, ◌≢◌, ℕ, suc, ◌<◌, ◌≤◌, Bool, true, List, [], ◌∷◌, ◌++◌, refl, sym, ◌∙◌, ap, subst, arith, inl, inr, append_assoc}
use Rattle.std.specs.Prelude.{if◌then◌else◌, Option, Some, None, filter, not, length, slice_get, is_some, IfNone, Result, Ok, Err, MatchResult, OnOk}
use Rattle.std.proofs.lemmas.Bool.{cases_lt, cases_eq, le-leb, lt-leb, false≢true}
use Rattle.std.proofs.lemmas.List.{append-nil}
use Rattle.std.proofs.lemmas.List.Elements.{filter-append}
use Rattle.event_queue.specs.declared.plan.Plan.{Plan}
use Rattle.event_queue.specs.declared.queue.Timed.{Timed}
use Rattle.event_queue.specs.declared.wheel.Wheel.{Wheel}
use Rattle.event_queue.specs.Group.{is_in}
use Rattle.event_queue.specs.Plan.{planned_due, IsPlanAhead, PlansLast, KeepsPlan, TakesPlanned}
use Rattle.event_queue.specs.Wheel.{wheel_due, IsWheel, PutsLast, KeepsView, TakesFirst, Turns, Cancels, SeeksNone, SeeksFirst, Seeks, ReachesTime, SeeksBefore}
use Rattle.event_queue.specs.Agenda.{Agenda, inserted, scheduled, is_other, due_at, Adds, Comes}
use Rattle.event_queue.specs.View.{in_order, queue_due, agenda_at, agenda_of, IsRightQueue}
use Rattle.event_queue.proofs.WheelLemmas.{keeps_dropped}
use Rattle.event_queue.proofs.PlanLemmas.{planned_none, planned_first, planned_comes, planned_others, planned_last, planned_elsewhere, planned_kept, planned_stays, nothing_left, plan_made, plan_on, plan_over, plan_at, plan_takes, plan_puts, plan_kept, first_within}
use Rattle.event_queue.proofs.AgendaLemmas.{in_order_cong, in_order_none, in_order_first, in_order_put, in_order_filter, due_at-own, due_at-other, due_at-past, due_at-in_order}

-- what a call changes of what is due at each time

-- an item more, last at its time
pub record PutsDue {T : Type 0} (old : ℕ → List T) (time : ℕ) (item : T) (new : ℕ → List T) : Type 0 where
  pub last : new time ≡ old time ++ item ∷ []
  pub others : (t : ℕ) → t ≢ time → new t ≡ old t

-- the first item came
pub record TakesDue {T : Type 0} (old : ℕ → List T) (time : ℕ) (item : T) (new : ℕ → List T) : Type 0 where
  pub none_before : (t : ℕ) → t < time → old t ≡ []
  pub first : old time ≡ item ∷ new time
  pub others : (t : ℕ) → t ≢ time → new t ≡ old t

-- and so of the list

pub same_agenda : {T : Type 0} (old new : ℕ → List T) (until from to : ℕ) (q : Agenda T) → agenda_at old until from ≡ q → to ≡ from → ((t : ℕ) → new t ≡ old t) → agenda_at new until to ≡ q
same_agenda {T} old new until from to q view at same =
    let with_items : List (Timed T) → Agenda T = λ xs. record { until = until; now = from; items = xs } in
    ap (agenda_at new until) at ∙ ap with_items (in_order_cong new old (suc until) (λ t low. same t)) ∙ view

pub empty_agenda : {T : Type 0} (due : ℕ → List T) (until at : ℕ) → at ≡ 0 → ((t : ℕ) → due t ≡ []) → agenda_at due until at ≡ record { until = until; now = 0; items = [] }
empty_agenda {T} due until at start nothing =
    let with_items : List (Timed T) → Agenda T = λ xs. record { until = until; now = 0; items = xs } in
    ap (agenda_at due until) start ∙ ap with_items (in_order_none due (suc until) (λ t low. nothing t))

pub no_items : {T : Type 0} (due : ℕ → List T) (until at : ℕ) (q : Agenda T) → agenda_at due until at ≡ q → ((t : ℕ) → t ≤ until → due t ≡ []) → q.items ≡ []
no_items {T} due until at q view nothing = ap (λ (a : Agenda T). a.items) (sym view) ∙ in_order_none due (suc until) (λ t low. nothing t (omega (arith, low)))

pub schedules : {T : Type 0} (old new : ℕ → List T) (until from to : ℕ) (q : Agenda T) (time : ℕ) (item : T) → agenda_at old until from ≡ q → to ≡ from → time ≤ until → PutsDue old time item new → agenda_at new until to ≡ scheduled q time item
schedules {T} old new until from to q time item view at in_time put =
    let a : Agenda T = agenda_at old until from in
    let with_items : List (Timed T) → Agenda T = λ xs. record { until = until; now = from; items = xs } in
    let choice : Bool → Agenda T = λ b. if b then record a { items = inserted (record { time = time; item = item }) a.items } else a in
    ap (agenda_at new until) at ∙ ap with_items (in_order_put old new time item (suc until) (omega (arith, in_time)) put.last put.others)
    ∙ ap choice (sym (le-leb time until in_time)) ∙ ap (λ (b : Agenda T). scheduled b time item) view

pub adds : {T : Type 0} (old new : ℕ → List T) (until from to : ℕ) (q : Agenda T) (time : ℕ) (item : T) → agenda_at old until from ≡ q → time ≤ until → PutsDue old time item new → Adds q time item (agenda_at new until to)
adds {T} old new until from to q time item view in_time put =
    let was : (t : ℕ) → t < suc until → due_at t q.items ≡ old t = λ t low. ap (λ (a : Agenda T). due_at t a.items) (sym view) ∙ due_at-in_order old (suc until) t low in
    record {
      last = λ early. due_at-in_order new (suc until) time (omega (arith, in_time)) ∙ put.last ∙ ap (λ (xs : List T). xs ++ item ∷ []) (sym (was time (omega (arith, in_time))));
      others = λ t other. elim (cases_lt t (suc until)) [
        | inl low ↦ due_at-in_order new (suc until) t low ∙ put.others t other ∙ sym (was t low)
        | inr after ↦ due_at-past new (suc until) t after ∙ sym (due_at-past old (suc until) t after) ∙ ap (λ (a : Agenda T). due_at t a.items) view
      ];
    }

pub late : {T : Type 0} (q : Agenda T) (time : ℕ) (item : T) → q.until < time → q ≡ scheduled q time item
late {T} q time item after =
    let choice : Bool → Agenda T = λ b. if b then record q { items = inserted (record { time = time; item = item }) q.items } else q in
    ap choice (sym (lt-leb time q.until after))

pub late_adds : {T : Type 0} (q : Agenda T) (time : ℕ) (item : T) → q.until < time → Adds q time item q
late_adds q time item after = record { last = λ early. absurd (omega (arith, early, after)); others = λ t other. refl }

pub cancels : {T : Type 0} (group : T → Option ℕ) (old new : ℕ → List T) (until from to g : ℕ) (q : Agenda T) → agenda_at old until from ≡ q → to ≡ from → ((t : ℕ) → new t ≡ filter (λ x. not (is_in group g x)) (old t)) → agenda_at new until to ≡ record q { items = filter (is_other group g) q.items }
cancels {T} group old new until from to g q view at kept =
    let with_items : List (Timed T) → Agenda T = λ xs. record { until = until; now = from; items = xs } in
    ap (agenda_at new until) at ∙ ap with_items (in_order_filter (λ x. not (is_in group g x)) old new (suc until) kept)
    ∙ ap (λ (b : Agenda T). record b { items = filter (is_other group g) b.items }) view

pub comes : {T : Type 0} (old new : ℕ → List T) (until from to : ℕ) (q : Agenda T) (item : T) → agenda_at old until from ≡ q → from ≤ to → to ≤ until → TakesDue old to item new → Comes q (record { time = to; item = item }) (agenda_at new until to)
comes {T} old new until from to q item view on in_time takes =
    let until_is : until ≡ q.until = ap (λ (a : Agenda T). a.until) view in
    let now_is : from ≡ q.now = ap (λ (a : Agenda T). a.now) view in
    let first : Timed T = record { time = to; item = item } in
    let items : q.items ≡ first ∷ in_order new (suc until) =
    ap (λ (a : Agenda T). a.items) (sym view) ∙ in_order_first old new to item (suc until) (omega (arith, in_time)) takes.first takes.none_before takes.others in
    record {
      items = items;
      now = refl;
      until = until_is;
      ahead = omega (arith, now_is, on);
      in_time = omega (arith, until_is, in_time);
      none_before = λ t low. ap (λ (a : Agenda T). due_at t a.items) (sym view) ∙ due_at-in_order old (suc until) t (omega (arith, low, in_time)) ∙ takes.none_before t low;
      first_due = ap (λ (xs : List (Timed T)). due_at to xs) items ∙ due_at-own first (in_order new (suc until)) to refl;
      others = λ t other. sym (ap (λ (xs : List (Timed T)). due_at t xs) items ∙ due_at-other first (in_order new (suc until)) t (λ same. other (sym same)));
    }

-- from the plan and the wheel

-- nothing is left of the plan, and the wheel has nothing
none_due : {T : Type 0} (group : T → Option ℕ) (numbered : ℕ → T) (p : Plan) (w : Wheel T) (t : ℕ) → slice_get p.times.items p.next ≡ None → wheel_due group w t ≡ [] → queue_due group numbered p w t ≡ []
none_due {T} group numbered p w t none nothing = ap (λ (xs : List T). xs ++ wheel_due group w t) (planned_none numbered p t none) ∙ nothing

pub made : {T : Type 0} (group : T → Option ℕ) (numbered : ℕ → T) (until : ℕ) (p : Plan) (w : Wheel T) → w.at ≡ 0 → p.next ≡ 0 → p.times.items ≡ [] → ((t : ℕ) → wheel_due group w t ≡ []) → agenda_of group numbered until p w ≡ record { until = until; now = 0; items = [] }
made {T} group numbered until p w at next times nothing = empty_agenda (queue_due group numbered p w) until w.at at (λ t. none_due group numbered p w t (nothing_left p next times) (nothing t))

pub right_made : {T : Type 0} (group : T → Option ℕ) (until : ℕ) (p : Plan) (w : Wheel T) → until < 4194304 → IsWheel group w → w.at ≡ 0 → p.next ≡ 0 → p.last ≡ 0 → p.times.items ≡ [] → ((t : ℕ) → wheel_due group w t ≡ []) → IsRightQueue group until p w
right_made group until p w below right at next last times nothing =
    record { right = right; below = below; ahead = omega (arith, at); none_after = λ t late. nothing t; plan = plan_made p w.at until next last times }

-- scheduling

puts_due : {T : Type 0} (group : T → Option ℕ) (numbered : ℕ → T) (p : Plan) (w v : Wheel T) (time : ℕ) (item : T) → PutsLast group w time item v → PutsDue (queue_due group numbered p w) time item (queue_due group numbered p v)
puts_due {T} group numbered p w v time item put = record {
  last = ap (λ (xs : List T). planned_due numbered p time ++ xs) put.last ∙ sym (append_assoc (planned_due numbered p time) (wheel_due group w time) (item ∷ []));
  others = λ t other. ap (λ (xs : List T). planned_due numbered p t ++ xs) (put.others t other);
}

same_due : {T : Type 0} (group : T → Option ℕ) (numbered : ℕ → T) (p : Plan) (w v : Wheel T) → ((t : ℕ) → wheel_due group v t ≡ wheel_due group w t) → (t : ℕ) → queue_due group numbered p v t ≡ queue_due group numbered p w t
same_due {T} group numbered p w v same t = ap (λ (xs : List T). planned_due numbered p t ++ xs) (same t)

pub right_put : {T : Type 0} (group : T → Option ℕ) (until : ℕ) (p : Plan) (w v : Wheel T) (time : ℕ) (item : T) → IsRightQueue group until p w → time ≤ until → PutsLast group w time item v → IsRightQueue group until p v
right_put group until p w v time item right in_time put =
    let at = put.at in let ahead = right.ahead in
    record { right = put.right; below = right.below; ahead = omega (arith, at, ahead); none_after = λ t after. put.others t (λ same. omega (arith, same, after, in_time)) ∙ right.none_after t after; plan = plan_at p w.at until v.at at right.plan }

pub right_keeps : {T : Type 0} (group : T → Option ℕ) (until : ℕ) (p : Plan) (w v : Wheel T) → IsRightQueue group until p w → KeepsView group w v → IsRightQueue group until p v
right_keeps group until p w v right kept =
    let at = kept.at in let ahead = right.ahead in
    record { right = kept.right; below = right.below; ahead = omega (arith, at, ahead); none_after = λ t after. kept.same t ∙ right.none_after t after; plan = plan_at p w.at until v.at at right.plan }

pub scheduled_or_kept : {T A E : Type 0} (group : T → Option ℕ) (numbered : ℕ → T) (until : ℕ) (p : Plan) (w v : Wheel T) (q : Agenda T) (time : ℕ) (item : T) (r : Result A E) → agenda_of group numbered until p w ≡ q → time ≤ until
    → MatchResult r (λ x. PutsLast group w time item v) (λ x. KeepsView group w v) → MatchResult r (λ x. agenda_of group numbered until p v ≡ scheduled q time item) (λ x. agenda_of group numbered until p v ≡ q)
scheduled_or_kept group numbered until p w v q time item (Ok x) view in_time done =
    schedules (queue_due group numbered p w) (queue_due group numbered p v) until w.at v.at q time item view done.at in_time (puts_due group numbered p w v time item done)
scheduled_or_kept group numbered until p w v q time item (Err e) view in_time done =
    same_agenda (queue_due group numbered p w) (queue_due group numbered p v) until w.at v.at q view done.at (same_due group numbered p w v done.same)

pub adds_on_ok : {T A E : Type 0} (group : T → Option ℕ) (numbered : ℕ → T) (until : ℕ) (p : Plan) (w v : Wheel T) (q : Agenda T) (time : ℕ) (item : T) (r : Result A E) → agenda_of group numbered until p w ≡ q → time ≤ until
    → MatchResult r (λ x. PutsLast group w time item v) (λ x. KeepsView group w v) → OnOk r (Adds q time item (agenda_of group numbered until p v))
adds_on_ok group numbered until p w v q time item (Ok x) view in_time done =
    adds (queue_due group numbered p w) (queue_due group numbered p v) until w.at v.at q time item view in_time (puts_due group numbered p w v time item done)
adds_on_ok group numbered until p w v q time item (Err e) view in_time done = tt

pub put_now : {T A E : Type 0} (group : T → Option ℕ) (numbered : ℕ → T) (until : ℕ) (p : Plan) (w v : Wheel T) (q : Agenda T) (time : ℕ) (item : T) (r : Result A E) → agenda_of group numbered until p w ≡ q
    → MatchResult r (λ x. PutsLast group w time item v) (λ x. KeepsView group w v) → v.at ≡ q.now
put_now {T} group numbered until p w v q time item (Ok x) view done = done.at ∙ ap (λ (a : Agenda T). a.now) view
put_now {T} group numbered until p w v q time item (Err e) view done = done.at ∙ ap (λ (a : Agenda T). a.now) view

-- planning, where the wheel has nothing

plans_due : {T : Type 0} (group : T → Option ℕ) (numbered : ℕ → T) (until : ℕ) (p o : Plan) (w : Wheel T) (time number : ℕ) → IsPlanAhead w.at until p → ((t : ℕ) → wheel_due group w t ≡ []) → length p.times.items ≡ number → PlansLast p time o → PutsDue (queue_due group numbered p w) time (numbered number) (queue_due group numbered o w)
plans_due {T} group numbered until p o w time number right nothing count put =
    let alone : (p : Plan) (t : ℕ) → queue_due group numbered p w t ≡ planned_due numbered p t = λ p t. ap (λ (xs : List T). planned_due numbered p t ++ xs) (nothing t) ∙ append-nil (planned_due numbered p t) in
    record {
      last = alone o time ∙ planned_last numbered p o w.at until time number right put count ∙ ap (λ (xs : List T). xs ++ numbered number ∷ []) (sym (alone p time));
      others = λ t other. alone o t ∙ planned_elsewhere numbered p o w.at until time number t right put count other ∙ sym (alone p t);
    }

pub planned_or_kept : {T A E : Type 0} (group : T → Option ℕ) (numbered : ℕ → T) (until : ℕ) (p o : Plan) (w : Wheel T) (q : Agenda T) (time number : ℕ) (r : Result A E) → agenda_of group numbered until p w ≡ q → IsRightQueue group until p w → time ≤ until
    → ((t : ℕ) → wheel_due group w t ≡ []) → length p.times.items ≡ number → MatchResult r (λ x. PlansLast p time o) (λ x. KeepsPlan p o) → MatchResult r (λ x. agenda_of group numbered until o w ≡ scheduled q time (numbered number)) (λ x. agenda_of group numbered until o w ≡ q)
planned_or_kept group numbered until p o w q time number (Ok x) view right in_time nothing count done =
    schedules (queue_due group numbered p w) (queue_due group numbered o w) until w.at w.at q time (numbered number) view refl in_time (plans_due group numbered until p o w time number right.plan nothing count done)
planned_or_kept {T} group numbered until p o w q time number (Err e) view right in_time nothing count done =
    same_agenda (queue_due group numbered p w) (queue_due group numbered o w) until w.at w.at q view refl (λ t. ap (λ (xs : List T). xs ++ wheel_due group w t) (planned_kept numbered p o t done))

pub plan_adds : {T A E : Type 0} (group : T → Option ℕ) (numbered : ℕ → T) (until : ℕ) (p o : Plan) (w : Wheel T) (q : Agenda T) (time number : ℕ) (r : Result A E) → agenda_of group numbered until p w ≡ q → IsRightQueue group until p w → time ≤ until
    → ((t : ℕ) → wheel_due group w t ≡ []) → length p.times.items ≡ number → MatchResult r (λ x. PlansLast p time o) (λ x. KeepsPlan p o) → OnOk r (Adds q time (numbered number) (agenda_of group numbered until o w))
plan_adds group numbered until p o w q time number (Ok x) view right in_time nothing count done =
    adds (queue_due group numbered p w) (queue_due group numbered o w) until w.at w.at q time (numbered number) view in_time (plans_due group numbered until p o w time number right.plan nothing count done)
plan_adds group numbered until p o w q time number (Err e) view right in_time nothing count done = tt

pub right_plans : {T A E : Type 0} (group : T → Option ℕ) (until : ℕ) (p o : Plan) (w : Wheel T) (time number : ℕ) (r : Result A E) → IsRightQueue group until p w → time ≤ until → w.at ≤ time → p.last ≤ time → number < 4294967296 → length p.times.items ≡ number
    → MatchResult r (λ x. PlansLast p time o) (λ x. KeepsPlan p o) → IsRightQueue group until o w
right_plans group until p o w time number (Ok x) right in_time ahead after small count done =
    record { right = right.right; below = right.below; ahead = right.ahead; none_after = right.none_after; plan = plan_puts p o w.at until time number right.plan done count small after ahead in_time }
right_plans group until p o w time number (Err e) right in_time ahead after small count done =
    record { right = right.right; below = right.below; ahead = right.ahead; none_after = right.none_after; plan = plan_kept p o w.at until right.plan done }

-- cancelling

pub cancels_all : {T : Type 0} (group : T → Option ℕ) (numbered : ℕ → T) (until g : ℕ) (p : Plan) (w v : Wheel T) (q : Agenda T) → ((n : ℕ) → group (numbered n) ≡ None) → agenda_of group numbered until p w ≡ q → Cancels group w g v → agenda_of group numbered until p v ≡ record q { items = filter (is_other group g) q.items }
cancels_all {T} group numbered until g p w v q stays view cancelled =
    cancels group (queue_due group numbered p w) (queue_due group numbered p v) until w.at v.at g q view cancelled.at
    (λ t. ap (λ (xs : List T). planned_due numbered p t ++ xs) (cancelled.kept t)
    ∙ ap (λ (xs : List T). xs ++ filter (λ x. not (is_in group g x)) (wheel_due group w t)) (sym (planned_stays group numbered p g t stays))
    ∙ sym (filter-append (λ x. not (is_in group g x)) (planned_due numbered p t) (wheel_due group w t)))

pub right_cancels : {T : Type 0} (group : T → Option ℕ) (until g : ℕ) (p : Plan) (w v : Wheel T) → IsRightQueue group until p w → Cancels group w g v → IsRightQueue group until p v
right_cancels {T} group until g p w v right cancelled =
    let at = cancelled.at in let ahead = right.ahead in
    record { right = cancelled.right; below = right.below; ahead = omega (arith, at, ahead); none_after = λ t after. cancelled.kept t ∙ ap (filter (λ x. not (is_in group g x))) (right.none_after t after); plan = plan_at p w.at until v.at at right.plan }

-- the first item

-- as far as the wheel was turned
pub record Sought {T : Type 0} (group : T → Option ℕ) (end : ℕ) (old w : Wheel T) : Type 0 where
  pub right : IsWheel group w
  pub from : old.at ≤ w.at
  pub to : w.at ≤ end
  pub same : (t : ℕ) → wheel_due group w t ≡ wheel_due group old t

pub sought_start : {T : Type 0} (group : T → Option ℕ) (end : ℕ) (w : Wheel T) → IsWheel group w → w.at ≤ end → Sought group end w w
sought_start group end w right ahead = record { right = right; from = omega arith; to = ahead; same = λ t. refl }

-- on, after nothing was taken
pub sought_more : {T : Type 0} (group : T → Option ℕ) (end : ℕ) (old w u v : Wheel T) (item : Option T) → Sought group end old w → TakesFirst group w item u → item ≡ None → u.at < v.at → v.at ≤ end → Turns group u v.at v → Sought group end old v
sought_more group end old w u v item so_far takes nothing on within turned =
    let kept = keeps_dropped group w u item takes nothing in
    let at = takes.at in let from = so_far.from in
    record { right = turned.right; from = omega (arith, at, on, from); to = within; same = λ t. turned.same t ∙ kept.same t ∙ so_far.same t }

first_of : {T : Type 0} (group : T → Option ℕ) (end : ℕ) (old w v : Wheel T) (x : T) → Sought group end old w → TakesFirst group w (Some x) v → SeeksFirst group end old x v
first_of {T} group end old w v x so_far takes =
    let at = takes.at in let from = so_far.from in let to = so_far.to in
    record {
      right = takes.right;
      from = omega (arith, at, from);
      to = omega (arith, at, to);
      none_before = λ t low. sym (so_far.same t) ∙ so_far.right.turning.past t (omega (arith, low, at));
      first = sym (so_far.same v.at) ∙ ap (λ (t : ℕ). wheel_due group w t) at ∙ takes.first ∙ ap (λ (t : ℕ). x ∷ wheel_due group v t) (sym at);
      others = λ t other. takes.others t (λ same. other (same ∙ sym at)) ∙ so_far.same t;
    }

pub found : {T : Type 0} (group : T → Option ℕ) (end : ℕ) (old w v : Wheel T) (item : Option T) → Sought group end old w → w.at < end → TakesFirst group w item v → is_some item ≡ true → SeeksBefore group end old item v
found group end old w v None so_far low takes some = absurd (false≢true some)
found {T} group end old w v (Some x) so_far low takes some =
    let at = takes.at in
    (first_of group end old w v x so_far takes, omega (arith, at, low))

pub sought_end : {T : Type 0} (group : T → Option ℕ) (end : ℕ) (old w : Wheel T) → Sought group end old w → end ≤ w.at → ReachesTime group end old w
sought_end group end old w so_far past =
    let to = so_far.to in
    record { right = so_far.right; at = omega (arith, to, past); none_before = λ t low. sym (so_far.same t) ∙ so_far.right.turning.past t (omega (arith, low, past)); same = so_far.same }

-- the first before the end is the first of all, and where none is, what is due at the end
pub found_before : {T : Type 0} (group : T → Option ℕ) (end : ℕ) (old v : Wheel T) (item : Option T) → SeeksBefore group end old item v → is_some item ≡ true → Seeks group end old item v
found_before group end old v None sought some = absurd (false≢true some)
found_before group end old v (Some x) sought some = sought.0

pub found_at : {T : Type 0} (group : T → Option ℕ) (end : ℕ) (old u v : Wheel T) (before item : Option T) → old.at ≤ end → SeeksBefore group end old before u → before ≡ None → TakesFirst group u item v → IfNone item (wheel_due group u u.at ≡ []) → Seeks group end old item v
found_at {T} group end old u v before item ahead sought none takes none_here = ends item takes none_here
  where
    reached : ReachesTime group end old u
    reached = subst (λ (o : Option T). SeeksBefore group end old o u) none sought

    so_far : Sought group end old u
    so_far = let at = reached.at in record { right = reached.right; from = omega (arith, at, ahead); to = omega (arith, at); same = reached.same }

    ends : (item : Option T) → TakesFirst group u item v → IfNone item (wheel_due group u u.at ≡ []) → Seeks group end old item v
    ends (Some x) takes none_here = first_of group end old u v x so_far takes
    ends None takes none_here =
        let kept = keeps_dropped group u v None takes refl in
        let at = takes.at in let there = reached.at in
        record {
          right = takes.right;
          from = omega (arith, at, there, ahead);
          to = omega (arith, at, there);
          none_due = λ t low. elim (cases_eq t end) [
            | inl e ↦ sym (reached.same t) ∙ ap (λ (k : ℕ). wheel_due group u k) (e ∙ sym there) ∙ none_here
            | inr other ↦ reached.none_before t (omega (arith, low, other))
          ];
          same = λ t. kept.same t ∙ reached.same t;
        }

-- the first item is the wheel's, where nothing is planned by its time
takes_wheel : {T : Type 0} (group : T → Option ℕ) (numbered : ℕ → T) (end : ℕ) (p : Plan) (w v : Wheel T) (item : T) → ((t : ℕ) → t ≤ v.at → planned_due numbered p t ≡ []) → SeeksFirst group end w item v → TakesDue (queue_due group numbered p w) v.at item (queue_due group numbered p v)
takes_wheel {T} group numbered end p w v item nothing sought = record {
  none_before = λ t low. ap (λ (xs : List T). xs ++ wheel_due group w t) (nothing t (omega (arith, low))) ∙ sought.none_before t low;
  first = ap (λ (xs : List T). xs ++ wheel_due group w v.at) (nothing v.at (omega arith)) ∙ sought.first
      ∙ ap (λ (xs : List T). item ∷ (xs ++ wheel_due group v v.at)) (sym (nothing v.at (omega arith)));
  others = λ t other. ap (λ (xs : List T). planned_due numbered p t ++ xs) (sought.others t other);
}

-- before the first of the plan
pub comes_before : {T : Type 0} (group : T → Option ℕ) (numbered : ℕ → T) (until time : ℕ) (p : Plan) (w v : Wheel T) (q : Agenda T) (item : T) → agenda_of group numbered until p w ≡ q → IsRightQueue group until p w → slice_get p.times.items p.next ≡ Some time
    → SeeksFirst group time w item v × (v.at < time) → Comes q (record { time = v.at; item = item }) (agenda_of group numbered until p v)
comes_before group numbered until time p w v q item view right got sought =
    let early = sought.1 in let in_time = (first_within p w.at until time right.plan got).1 in
    comes (queue_due group numbered p w) (queue_due group numbered p v) until w.at v.at q item view sought.0.from (omega (arith, early, in_time))
    (takes_wheel group numbered time p w v item (λ t low. planned_first numbered p w.at until time t right.plan got (omega (arith, low, early))) sought.0)

pub right_before : {T : Type 0} (group : T → Option ℕ) (until time : ℕ) (p : Plan) (w v : Wheel T) (item : T) → IsRightQueue group until p w → slice_get p.times.items p.next ≡ Some time → SeeksFirst group time w item v × (v.at < time) → IsRightQueue group until p v
right_before group until time p w v item right got sought =
    let early = sought.1 in let in_time = (first_within p w.at until time right.plan got).1 in
    record {
      right = sought.0.right;
      below = right.below;
      ahead = omega (arith, early, in_time);
      none_after = λ t after. sought.0.others t (λ same. omega (arith, same, after, early, in_time)) ∙ right.none_after t after;
      plan = plan_on p w.at until time v.at right.plan got (omega (arith, early));
    }

-- the first of the plan
pub comes_planned : {T : Type 0} (group : T → Option ℕ) (numbered : ℕ → T) (until time : ℕ) (p o : Plan) (w u : Wheel T) (q : Agenda T) → agenda_of group numbered until p w ≡ q → IsRightQueue group until p w → slice_get p.times.items p.next ≡ Some time
    → ReachesTime group time w u → TakesPlanned p o → Comes q (record { time = time; item = numbered p.next }) (agenda_of group numbered until o u)
comes_planned {T} group numbered until time p o w u q view right got reached takes =
    let within = first_within p w.at until time right.plan got in
    let with_now : ℕ → Agenda T = agenda_at (queue_due group numbered o u) until in
    subst (λ (k : ℕ). Comes q (record { time = time; item = numbered p.next }) (with_now k)) (sym reached.at)
    (comes (queue_due group numbered p w) (queue_due group numbered o u) until w.at time q (numbered p.next) view within.0 within.1 (record {
      none_before = λ t low. ap (λ (xs : List T). xs ++ wheel_due group w t) (planned_first numbered p w.at until time t right.plan got low) ∙ reached.none_before t low;
      first = ap (λ (xs : List T). xs ++ wheel_due group w time) (planned_comes numbered p o time got takes)
          ∙ ap (λ (xs : List T). numbered p.next ∷ (planned_due numbered o time ++ xs)) (sym (reached.same time));
      others = λ t other. ap (λ (xs : List T). xs ++ wheel_due group u t) (planned_others numbered p o time t got takes other)
          ∙ ap (λ (xs : List T). planned_due numbered p t ++ xs) (reached.same t);
    }))

pub right_planned : {T : Type 0} (group : T → Option ℕ) (until time : ℕ) (p o : Plan) (w u : Wheel T) → IsRightQueue group until p w → slice_get p.times.items p.next ≡ Some time → ReachesTime group time w u → TakesPlanned p o → IsRightQueue group until o u
right_planned group until time p o w u right got reached takes =
    let within = first_within p w.at until time right.plan got in
    let in_time = within.1 in let at = reached.at in
    record {
      right = reached.right;
      below = right.below;
      ahead = omega (arith, in_time, at);
      none_after = λ t after. reached.same t ∙ right.none_after t after;
      plan = plan_at o time until u.at at (plan_takes p o w.at until time right.plan got takes);
    }

-- where nothing is planned

pub comes_alone : {T : Type 0} (group : T → Option ℕ) (numbered : ℕ → T) (until : ℕ) (p : Plan) (w v : Wheel T) (q : Agenda T) (item : T) → agenda_of group numbered until p w ≡ q → slice_get p.times.items p.next ≡ None → SeeksFirst group until w item v → Comes q (record { time = v.at; item = item }) (agenda_of group numbered until p v)
comes_alone group numbered until p w v q item view none sought =
    comes (queue_due group numbered p w) (queue_due group numbered p v) until w.at v.at q item view sought.from sought.to (takes_wheel group numbered until p w v item (λ t low. planned_none numbered p t none) sought)

pub right_alone : {T : Type 0} (group : T → Option ℕ) (until : ℕ) (p : Plan) (w v : Wheel T) (item : T) → IsRightQueue group until p w → slice_get p.times.items p.next ≡ None → SeeksFirst group until w item v → IsRightQueue group until p v
right_alone group until p w v item right none sought =
    let to = sought.to in
    record { right = sought.right; below = right.below; ahead = to; none_after = λ t after. sought.others t (λ same. omega (arith, same, after, to)) ∙ right.none_after t after; plan = plan_over p w.at until v.at right.plan none }

-- nothing is due at all
pub all_none : {T : Type 0} (group : T → Option ℕ) (until : ℕ) (p : Plan) (w u : Wheel T) → IsRightQueue group until p w → SeeksNone group until w u → (t : ℕ) → wheel_due group u t ≡ []
all_none group until p w u right sought t = sought.same t ∙ elim (cases_lt until t) [ inl after ↦ right.none_after t after | inr in_time ↦ sought.none_due t in_time ]

pub idle_agenda : {T : Type 0} (group : T → Option ℕ) (numbered : ℕ → T) (until : ℕ) (p : Plan) (w : Wheel T) (q : Agenda T) → agenda_of group numbered until p w ≡ q → slice_get p.times.items p.next ≡ None → ((t : ℕ) → wheel_due group w t ≡ []) → q.items ≡ []
idle_agenda group numbered until p w q view none nothing = no_items (queue_due group numbered p w) until w.at q view (λ t low. none_due group numbered p w t none (nothing t))

pub sought_agenda : {T : Type 0} (group : T → Option ℕ) (numbered : ℕ → T) (until : ℕ) (p : Plan) (w u : Wheel T) (q : Agenda T) → agenda_of group numbered until p w ≡ q → slice_get p.times.items p.next ≡ None → SeeksNone group until w u → q.items ≡ []
sought_agenda group numbered until p w u q view none sought = no_items (queue_due group numbered p w) until w.at q view (λ t low. none_due group numbered p w t none (sought.none_due t low))

pub back_again : {T : Type 0} (group : T → Option ℕ) (numbered : ℕ → T) (until : ℕ) (p : Plan) (w u v : Wheel T) (q : Agenda T) → agenda_of group numbered until p w ≡ q → SeeksNone group until w u → Turns group u w.at v → agenda_of group numbered until p v ≡ q
back_again group numbered until p w u v q view sought turned =
    same_agenda (queue_due group numbered p w) (queue_due group numbered p v) until w.at v.at q view turned.at (same_due group numbered p w v (λ t. turned.same t ∙ sought.same t))

pub right_back : {T : Type 0} (group : T → Option ℕ) (until : ℕ) (p : Plan) (w u v : Wheel T) → IsRightQueue group until p w → SeeksNone group until w u → Turns group u w.at v → IsRightQueue group until p v
right_back group until p w u v right sought turned =
    let at = turned.at in let ahead = right.ahead in
    record { right = turned.right; below = right.below; ahead = omega (arith, at, ahead); none_after = λ t after. turned.same t ∙ sought.same t ∙ right.none_after t after; plan = plan_at p w.at until v.at at right.plan }
