-- Every cause has its event.
use Rattle.std.proofs.Common.{◌≡◌, ◌≤◌, ℕ, Bool, true, false, cond, List, [], ◌∷◌, ◌++◌, drop, refl, sym, ◌∙◌, ap, subst, arith, inl, inr, ◌⊎◌, append_assoc}
use Rattle.std.specs.Prelude.{◌==◌, if◌then◌else◌}
use Rattle.std.specs.List.{filter}
use Rattle.std.proofs.lemmas.List.{append-nil}
use Rattle.std.proofs.lemmas.Bool.Decides.{eqb_tells}
use Rattle.world_rules.specs.Cause.{Cause}
use Rattle.world_rules.specs.World.{World}
use Rattle.world_rules.specs.Effect.{begun_length, event_node}
use Rattle.world_rules.specs.State.{Moment, WorldState, of_time, node_at, effect_at, schedules, is_kept, is_some_length, after_moment, world_start, state}
use Rattle.world_rules.specs.Run.{IsNext, HaveCome}
use Rattle.world_laws.specs.Causes.{IsSublist, came_at, scheduled_for, ComeInOrder, HasEvent, IsCancelled, EachComes}
use Rattle.mate_num.specs.Lists.{Among}
use Rattle.mate_num.proofs.ListLemmas.{among-right, none-among}
use Rattle.world_laws.proofs.Due.{due-keeps}

-- ---- parts of lists

part-same : {X : Type 0} (xs : List X) → IsSublist xs xs
part-same [] = refl
part-same (x ∷ xs) = inr (xs, refl, part-same xs)

part-filter : {X : Type 0} (p : X → Bool) (xs : List X) → IsSublist (filter p xs) xs
part-filter p [] = refl
part-filter p (x ∷ xs) = by (p x) (part-filter p xs) where
  by : (b : Bool) → IsSublist (filter p xs) xs → IsSublist (cond b (x ∷ filter p xs) (filter p xs)) (x ∷ xs)
  by true rest = inr (filter p xs, refl, rest)
  by false rest = inl rest

part-append : {X : Type 0} (xs ys us vs : List X) → IsSublist xs ys → IsSublist us vs → IsSublist (xs ++ us) (ys ++ vs)
part-append {X} xs [] us vs p q = subst (λ (zs : List X). IsSublist (zs ++ us) vs) (sym p) q
part-append {X} xs (y ∷ ys) us vs (inl p) q = inl (part-append xs ys us vs p q)
part-append {X} xs (y ∷ ys) us vs (inr h) q = inr (h.0 ++ us, ap (λ (zs : List X). zs ++ us) h.1, part-append h.0 ys us vs h.2 q)

part-trans : {X : Type 0} (xs ys zs : List X) → IsSublist xs ys → IsSublist ys zs → IsSublist xs zs
part-trans {X} xs ys [] p q = let r : IsSublist xs [] = subst (λ (us : List X). IsSublist xs us) q p in r
part-trans {X} xs ys (z ∷ zs) p (inl q) = inl (part-trans xs ys zs p q)
part-trans {X} xs ys (z ∷ zs) p (inr h) = by (λ us r. part-trans us h.0 zs r h.2) (subst (λ (us : List X). IsSublist xs us) h.1 p) where
  by : ((us : List X) → IsSublist us h.0 → IsSublist us zs) → IsSublist xs (z ∷ h.0) → IsSublist xs (z ∷ zs)
  by on (inl r) = inl (on xs r)
  by on (inr r) = inr (r.0, r.1, on r.0 r.2)

-- ---- in order

part-of : {X : Type 0} (xs ys zs : List X) → xs ≡ ys → IsSublist ys zs → IsSublist xs zs
part-of {X} xs ys zs is p = subst (λ (us : List X). IsSublist us zs) (sym is) p

come-step : (w : World) (s : WorldState) (m : Moment) (t : ℕ) (came sched : List Cause) → IsNext s m.time m.cause → IsSublist (came ++ s.due t) sched
    → IsSublist ((came ++ (if m.time == t then m.cause ∷ [] else [])) ++ (after_moment w s m).due t) (sched ++ of_time t (schedules w s m))
come-step w s m t came sched next before = elim (eqb_tells m.time t) [ inl same ↦ now same.0 same.1 | inr other ↦ later other.0 (λ e. other.1 (sym e)) ] where
  new : List Cause
  new = of_time t (schedules w s m)

  P : Cause → Bool
  P = is_kept (event_node w m.cause) (effect_at w s m) (is_some_length (begun_length (node_at w s m) (effect_at w s m)))

  Goal : Type 0
  Goal = IsSublist ((came ++ (if m.time == t then m.cause ∷ [] else [])) ++ (after_moment w s m).due t) (sched ++ new)

  now : (m.time == t) ≡ true → m.time ≡ t → Goal
  now is same =
      let due_is : s.due t ≡ m.cause ∷ next.others = ap s.due (sym same) ∙ next.due in
      let rest : IsSublist (m.cause ∷ filter P next.others) (s.due t) = subst (λ (xs : List Cause). IsSublist (m.cause ∷ filter P next.others) xs) (sym due_is) (inr (filter P next.others, refl, part-filter P next.others)) in
      let old : IsSublist (came ++ (m.cause ∷ filter P next.others)) sched = part-trans (came ++ (m.cause ∷ filter P next.others)) (came ++ s.due t) sched (part-append came came (m.cause ∷ filter P next.others) (s.due t) (part-same came) rest) before in
      let all : IsSublist ((came ++ (m.cause ∷ filter P next.others)) ++ new) (sched ++ new) = part-append (came ++ (m.cause ∷ filter P next.others)) sched new new old (part-same new) in
      let left_is : (if t == m.time then drop 1 (s.due t) else s.due t) ≡ next.others = rw (at_time same) (ap (drop 1) due_is) in
      part-of ((came ++ (if m.time == t then m.cause ∷ [] else [])) ++ (filter P (if t == m.time then drop 1 (s.due t) else s.due t) ++ new)) ((came ++ (m.cause ∷ filter P next.others)) ++ new) (sched ++ new)
      (ap (λ (b : Bool). (came ++ (if b then m.cause ∷ [] else [])) ++ (filter P (if t == m.time then drop 1 (s.due t) else s.due t) ++ new)) is
      ∙ ap (λ (xs : List Cause). (came ++ m.cause ∷ []) ++ (filter P xs ++ new)) left_is
      ∙ regroup came m.cause (filter P next.others) new) all where
        at_time : m.time ≡ t → (t == m.time) ≡ true
        at_time e = elim (eqb_tells t m.time) [ inl yes_so ↦ yes_so.0 | inr not_so ↦ absurd (not_so.1 (sym e)) ]

        regroup : (a : List Cause) (x : Cause) (b c : List Cause) → (a ++ x ∷ []) ++ (b ++ c) ≡ (a ++ (x ∷ b)) ++ c
        regroup a x b c = simp append_assoc

  later : (m.time == t) ≡ false → (t ≡ m.time → ⊥) → Goal
  later is other =
      let old : IsSublist (came ++ filter P (s.due t)) sched = part-trans (came ++ filter P (s.due t)) (came ++ s.due t) sched (part-append came came (filter P (s.due t)) (s.due t) (part-same came) (part-filter P (s.due t))) before in
      let all : IsSublist ((came ++ filter P (s.due t)) ++ new) (sched ++ new) = part-append (came ++ filter P (s.due t)) sched new new old (part-same new) in
      part-of ((came ++ (if m.time == t then m.cause ∷ [] else [])) ++ (filter P (if t == m.time then drop 1 (s.due t) else s.due t) ++ new)) ((came ++ filter P (s.due t)) ++ new) (sched ++ new)
      (ap (λ (b : Bool). (came ++ (if b then m.cause ∷ [] else [])) ++ (filter P (if t == m.time then drop 1 (s.due t) else s.due t) ++ new)) is
      ∙ ap (λ (b : Bool). (came ++ []) ++ (filter P (if b then drop 1 (s.due t) else s.due t) ++ new)) (elsewhere other)
      ∙ regroup came (filter P (s.due t)) new) all where
        elsewhere : (t ≡ m.time → ⊥) → (t == m.time) ≡ false
        elsewhere e = elim (eqb_tells t m.time) [ inl yes_so ↦ absurd (e yes_so.1) | inr not_so ↦ not_so.0 ]

        regroup : (a b c : List Cause) → (a ++ []) ++ (b ++ c) ≡ (a ++ b) ++ c
        regroup a b c = simp (append-nil, append_assoc)

pub come_in_order : (w : World) → ComeInOrder w
come_in_order w [] t come = part-same ((world_start w).due t)
come_in_order w (m ∷ before) t come = come-step w (state w before) m t (came_at t before) (scheduled_for w t before) come.1.next (come_in_order w before t come.0)

-- ---- each comes

pub come-along : (w : World) (before later : List Moment) (t : ℕ) (c : Cause) → HaveCome w (later ++ before) → Among c ((state w before).due t)
    → (HasEvent later t c ⊎ IsCancelled w before later c) ⊎ Among c ((state w (later ++ before)).due t)
come-along w before [] t c come waits = inr waits
come-along w before (m ∷ later) t c come waits = elim (come-along w before later t c come.0 waits) [
  | inl (inl found) ↦ inl (inl (record { moment = found.moment; newer = m ∷ found.newer; older = found.older; split = ap (λ (ms : List Moment). m ∷ ms) found.split; cause = found.cause; time = found.time }))
  | inl (inr found) ↦ inl (inr (record { moment = found.moment; newer = m ∷ found.newer; older = found.older; split = ap (λ (ms : List Moment). m ∷ ms) found.split; cancels = found.cancels }))
  | inr still ↦ next (is_kept (event_node w m.cause) (effect_at w (state w (later ++ before)) m) (is_some_length (begun_length (node_at w (state w (later ++ before)) m) (effect_at w (state w (later ++ before)) m))) c) refl still
] where
  s : WorldState
  s = state w (later ++ before)

  next : (b : Bool) → is_kept (event_node w m.cause) (effect_at w (state w (later ++ before)) m) (is_some_length (begun_length (node_at w (state w (later ++ before)) m) (effect_at w (state w (later ++ before)) m))) c ≡ b
      → Among c ((state w (later ++ before)).due t) → (HasEvent (m ∷ later) t c ⊎ IsCancelled w before (m ∷ later) c) ⊎ Among c ((state w (m ∷ (later ++ before))).due t)
  next true kept still = elim (due-keeps w (state w (later ++ before)) m t c come.1.next kept still) [
    | inl now ↦ inl (inl (record { moment = m; newer = []; older = later; split = refl; cause = now.1; time = sym now.0 }))
    | inr there ↦ inr there
  ]
  next false cut still = inl (inr (record { moment = m; newer = []; older = later; split = refl; cancels = cut }))

pub each_comes : (w : World) → EachComes w
each_comes w before later t c come done rest front is =
    elim (come-along w before later t c come (subst (λ (xs : List Cause). Among c xs) (sym is) (among-right c front (c ∷ rest) (inl refl)))) [
      | inl found ↦ found
      | inr still ↦ absurd (none-among c _ (done t at_most) still)
    ] where
      at_most : t ≤ t
      at_most = omega arith
