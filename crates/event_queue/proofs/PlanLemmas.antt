-- What is planned, by its times.
use Rattle.std.proofs.Common.{◌≡◌, ◌≢◌, ℕ, zero, suc, ◌+◌, ◌<◌, ◌≤◌, ◌==◌, Bool, List, [], ◌∷◌, ◌++◌, length, drop, refl, sym, ◌∙◌, ap, subst, arith, inl, inr, append_assoc}
use Rattle.std.specs.Prelude.{if◌then◌else◌, filter, not, Option, Some, None, is_some, slice_get}
use Rattle.std.proofs.lemmas.Bool.{false≢true}
use Rattle.std.proofs.lemmas.Bool.Decides.{eqb_tells}
use Rattle.std.proofs.lemmas.List.{append-nil}
use Rattle.std.proofs.lemmas.List.Elements.{filter-append}
use Rattle.event_queue.specs.Group.{is_in}
use Rattle.event_queue.specs.declared.plan.Plan.{Plan}
use Rattle.event_queue.specs.Plan.{numbered_at, times_left, planned_due, IsAscending, IsPlanAhead, PlansLast, KeepsPlan, TakesPlanned}

-- the next item of the numbers from n on
abbrev here : {T : Type 0} → (ℕ → T) → ℕ → ℕ → ℕ → List T
here numbered n time t = if time == t then numbered n ∷ [] else []

here-own : {T : Type 0} (numbered : ℕ → T) (n time : ℕ) → here numbered n time time ≡ numbered n ∷ []
here-own numbered n time = elim (eqb_tells time time) [ inl e ↦ rw e.0 refl | inr e ↦ absurd (e.1 refl) ]

here-other : {T : Type 0} (numbered : ℕ → T) (n time t : ℕ) → time ≢ t → here numbered n time t ≡ []
here-other numbered n time t other = elim (eqb_tells time t) [ inl e ↦ absurd (other e.1) | inr e ↦ rw e.0 refl ]

-- nothing comes before the first time, and nothing after the last
none_before : {T : Type 0} (numbered : ℕ → T) (n from last : ℕ) (times : List ℕ) (t : ℕ) → IsAscending from last times → t < from → numbered_at numbered n times t ≡ []
none_before numbered n from last [] t ascending low = refl
none_before {T} numbered n from last (time ∷ times) t ascending low =
    let from_time : from ≤ time = ascending.0 in
    ap (λ (xs : List T). xs ++ numbered_at numbered (suc n) times t) (here-other numbered n time t (λ same. omega (arith, same, low, from_time)))
    ∙ none_before numbered (suc n) time last times t ascending.2 (omega (arith, low, from_time))

none_after : {T : Type 0} (numbered : ℕ → T) (n from last : ℕ) (times : List ℕ) (t : ℕ) → IsAscending from last times → last < t → numbered_at numbered n times t ≡ []
none_after numbered n from last [] t ascending late = refl
none_after {T} numbered n from last (time ∷ times) t ascending late =
    let within : time ≤ last = ascending.1 in
    ap (λ (xs : List T). xs ++ numbered_at numbered (suc n) times t) (here-other numbered n time t (λ same. omega (arith, same, late, within)))
    ∙ none_after numbered (suc n) time last times t ascending.2 late

-- one more, behind all others
push_at : {T : Type 0} (numbered : ℕ → T) (n time : ℕ) (times : List ℕ) (t : ℕ) → numbered_at numbered n (times ++ time ∷ []) t ≡ numbered_at numbered n times t ++ here numbered (n + length times) time t
push_at {T} numbered n time [] t = append-nil (here numbered n time t) ∙ ap (λ (k : ℕ). here numbered k time t) (omega arith)
push_at {T} numbered n time (first ∷ times) t =
    ap (λ (xs : List T). here numbered n first t ++ xs) (push_at numbered (suc n) time times t)
    ∙ ap (λ (k : ℕ). here numbered n first t ++ (numbered_at numbered (suc n) times t ++ here numbered k time t)) (omega arith)
    ∙ sym (append_assoc (here numbered n first t) (numbered_at numbered (suc n) times t) (here numbered (n + length (first ∷ times)) time t))

ascending_push : (from last time : ℕ) (times : List ℕ) → IsAscending from last times → last ≤ time → from ≤ time → IsAscending from time (times ++ time ∷ [])
ascending_push from last time [] ascending after ahead = (ahead, omega arith, tt)
ascending_push from last time (first ∷ times) ascending after ahead =
    let within : first ≤ last = ascending.1 in
    (ascending.0, omega (arith, within, after), ascending_push first last time times ascending.2 after (omega (arith, within, after)))

-- the lists of a plan

drop_push : {X : Type 0} (n : ℕ) (xs : List X) (x : X) → n ≤ length xs → drop n (xs ++ x ∷ []) ≡ drop n xs ++ x ∷ []
drop_push zero xs x low = refl
drop_push (suc n) [] x low = absurd (omega (arith, low))
drop_push (suc n) (y ∷ ys) x low = drop_push n ys x (omega (arith, low))

drop_first : {X : Type 0} (n : ℕ) (xs : List X) (x : X) → slice_get xs n ≡ Some x → drop n xs ≡ x ∷ drop (suc n) xs
drop_first n [] x got = absurd (false≢true (ap is_some got))
drop_first {X} zero (y ∷ ys) x got = ap (λ (z : X). z ∷ ys) (some_is y x got)
  where
    some_is : (y x : X) → Some y ≡ Some x → y ≡ x
    some_is y x e = ap (λ (o : Option X). elim o [ Some z ↦ z | None ↦ y ]) e
drop_first (suc n) (y ∷ ys) x got = drop_first n ys x got

drop_none : {X : Type 0} (n : ℕ) (xs : List X) → slice_get xs n ≡ None → drop n xs ≡ []
drop_none zero [] none = refl
drop_none (suc n) [] none = refl
drop_none zero (y ∷ ys) none = absurd (false≢true (sym (ap is_some none)))
drop_none (suc n) (y ∷ ys) none = drop_none n ys none

drop_length : {X : Type 0} (n : ℕ) (xs : List X) → n ≤ length xs → n + length (drop n xs) ≡ length xs
drop_length zero xs low = omega arith
drop_length (suc n) [] low = absurd (omega (arith, low))
drop_length (suc n) (y ∷ ys) low = let rest = drop_length n ys (omega (arith, low)) in omega (arith, rest)

-- a plan's calls

pub planned_before : {T : Type 0} (numbered : ℕ → T) (p : Plan) (now until t : ℕ) → IsPlanAhead now until p → t < now → planned_due numbered p t ≡ []
unfolding planned_due
planned_before numbered p now until t right low = none_before numbered p.next now p.last (times_left p) t right.ascending low

pub planned_after : {T : Type 0} (numbered : ℕ → T) (p : Plan) (now until t : ℕ) → IsPlanAhead now until p → until < t → planned_due numbered p t ≡ []
unfolding planned_due
planned_after numbered p now until t right late =
    let within = right.within in
    none_after numbered p.next now p.last (times_left p) t right.ascending (omega (arith, late, within))

-- what is planned where nothing is left
pub planned_none : {T : Type 0} (numbered : ℕ → T) (p : Plan) (t : ℕ) → slice_get p.times.items p.next ≡ None → planned_due numbered p t ≡ []
unfolding planned_due
planned_none {T} numbered p t none = ap (λ (ts : List ℕ). numbered_at numbered p.next ts t) (drop_none p.next p.times.items none)

-- before the first time nothing comes
pub planned_first : {T : Type 0} (numbered : ℕ → T) (p : Plan) (now until first t : ℕ) → IsPlanAhead now until p → slice_get p.times.items p.next ≡ Some first → t < first → planned_due numbered p t ≡ []
unfolding planned_due
planned_first {T} numbered p now until first t right got low =
    let is : times_left p ≡ first ∷ drop (suc p.next) p.times.items = drop_first p.next p.times.items first got in
    let ascending : IsAscending now p.last (first ∷ drop (suc p.next) p.times.items) = subst (IsAscending now p.last) is right.ascending in
    ap (λ (ts : List ℕ). numbered_at numbered p.next ts t) is
    ∙ none_before numbered p.next first p.last (first ∷ drop (suc p.next) p.times.items) t (omega arith, ascending.1, ascending.2) low

-- the first time isn't past, nor after the end
pub first_within : (p : Plan) (now until first : ℕ) → IsPlanAhead now until p → slice_get p.times.items p.next ≡ Some first → (now ≤ first) × (first ≤ until)
first_within p now until first right got =
    let is : times_left p ≡ first ∷ drop (suc p.next) p.times.items = drop_first p.next p.times.items first got in
    let ascending : IsAscending now p.last (first ∷ drop (suc p.next) p.times.items) = subst (IsAscending now p.last) is right.ascending in
    let in_time : first ≤ p.last = ascending.1 in
    let within = right.within in
    (ascending.0, omega (arith, in_time, within))

pub first_some : (p : Plan) (now until first : ℕ) → IsPlanAhead now until p → slice_get p.times.items p.next ≡ Some first → p.next < length p.times.items
first_some p now until first right got =
    let is = drop_first p.next p.times.items first got in
    let count = drop_length p.next p.times.items right.come in
    let longer : length (times_left p) ≡ suc (length (drop (suc p.next) p.times.items)) = ap (λ (ts : List ℕ). length ts) is in
    omega (arith, count, longer)

-- the plan goes with the wheel to a time that isn't after its first
pub plan_on : (p : Plan) (now until first later : ℕ) → IsPlanAhead now until p → slice_get p.times.items p.next ≡ Some first → later ≤ first → IsPlanAhead later until p
plan_on p now until first later right got low =
    let is : times_left p ≡ first ∷ drop (suc p.next) p.times.items = drop_first p.next p.times.items first got in
    let ascending : IsAscending now p.last (first ∷ drop (suc p.next) p.times.items) = subst (IsAscending now p.last) is right.ascending in
    record { ascending = subst (IsAscending later p.last) (sym is) (low, ascending.1, ascending.2); within = right.within; come = right.come; few = right.few }

pub plan_over : (p : Plan) (now until later : ℕ) → IsPlanAhead now until p → slice_get p.times.items p.next ≡ None → IsPlanAhead later until p
plan_over p now until later right none =
    record { ascending = subst (IsAscending later p.last) (sym (drop_none p.next p.times.items none)) tt; within = right.within; come = right.come; few = right.few }

-- nothing is planned yet
pub nothing_left : (p : Plan) → p.next ≡ 0 → p.times.items ≡ [] → slice_get p.times.items p.next ≡ None
nothing_left p next times = ap (λ (ts : List ℕ). slice_get ts p.next) times

pub plan_made : (p : Plan) (now until : ℕ) → p.next ≡ 0 → p.last ≡ 0 → p.times.items ≡ [] → IsPlanAhead now until p
plan_made p now until next last times =
    let count : length p.times.items ≡ 0 = ap (λ (ts : List ℕ). length ts) times in
    record {
      ascending = subst (IsAscending now p.last) (sym (drop_none p.next p.times.items (nothing_left p next times))) tt;
      within = omega (arith, last);
      come = omega (arith, next);
      few = omega (arith, count);
    }

-- the same plan at the same time
pub plan_at : (p : Plan) (now until later : ℕ) → later ≡ now → IsPlanAhead now until p → IsPlanAhead later until p
plan_at p now until later same right = subst (λ (k : ℕ). IsPlanAhead k until p) (sym same) right

-- its first comes
pub planned_comes : {T : Type 0} (numbered : ℕ → T) (p q : Plan) (first : ℕ) → slice_get p.times.items p.next ≡ Some first → TakesPlanned p q → planned_due numbered p first ≡ numbered p.next ∷ planned_due numbered q first
unfolding planned_due
planned_comes {T} numbered p q first got takes =
    let left : times_left q ≡ drop (suc p.next) p.times.items = ap (λ (ts : List ℕ). drop q.next ts) takes.times ∙ ap (λ (k : ℕ). drop k p.times.items) takes.next in
    ap (λ (ts : List ℕ). numbered_at numbered p.next ts first) (drop_first p.next p.times.items first got)
    ∙ ap (λ (xs : List T). xs ++ numbered_at numbered (suc p.next) (drop (suc p.next) p.times.items) first) (here-own numbered p.next first)
    ∙ ap (λ (ts : List ℕ). numbered p.next ∷ numbered_at numbered (suc p.next) ts first) (sym left)
    ∙ ap (λ (k : ℕ). numbered p.next ∷ numbered_at numbered k (times_left q) first) (sym takes.next)

pub planned_others : {T : Type 0} (numbered : ℕ → T) (p q : Plan) (first t : ℕ) → slice_get p.times.items p.next ≡ Some first → TakesPlanned p q → t ≢ first → planned_due numbered q t ≡ planned_due numbered p t
unfolding planned_due
planned_others {T} numbered p q first t got takes other =
    let left : times_left q ≡ drop (suc p.next) p.times.items = ap (λ (ts : List ℕ). drop q.next ts) takes.times ∙ ap (λ (k : ℕ). drop k p.times.items) takes.next in
    sym (ap (λ (ts : List ℕ). numbered_at numbered p.next ts t) (drop_first p.next p.times.items first got)
    ∙ ap (λ (xs : List T). xs ++ numbered_at numbered (suc p.next) (drop (suc p.next) p.times.items) t) (here-other numbered p.next first t (λ same. other (sym same)))
    ∙ ap (λ (ts : List ℕ). numbered_at numbered (suc p.next) ts t) (sym left)
    ∙ ap (λ (k : ℕ). numbered_at numbered k (times_left q) t) (sym takes.next))

pub plan_takes : (p q : Plan) (now until first : ℕ) → IsPlanAhead now until p → slice_get p.times.items p.next ≡ Some first → TakesPlanned p q → IsPlanAhead first until q
plan_takes p q now until first right got takes =
    let is : times_left p ≡ first ∷ drop (suc p.next) p.times.items = drop_first p.next p.times.items first got in
    let ascending : IsAscending now p.last (first ∷ drop (suc p.next) p.times.items) = subst (IsAscending now p.last) is right.ascending in
    let left : times_left q ≡ drop (suc p.next) p.times.items = ap (λ (ts : List ℕ). drop q.next ts) takes.times ∙ ap (λ (k : ℕ). drop k p.times.items) takes.next in
    let some = first_some p now until first right got in
    let next = takes.next in let within = right.within in let few = right.few in let last = takes.last in
    let count : length q.times.items ≡ length p.times.items = ap (λ (ts : List ℕ). length ts) takes.times in
    record {
      ascending = subst (λ (k : ℕ). IsAscending first k (times_left q)) (sym last) (subst (IsAscending first p.last) (sym left) ascending.2);
      within = omega (arith, last, within);
      come = omega (arith, next, count, some);
      few = omega (arith, count, few);
    }

-- one more is planned
pushed : {T : Type 0} (numbered : ℕ → T) (p q : Plan) (now until time number t : ℕ) → IsPlanAhead now until p → PlansLast p time q → length p.times.items ≡ number
    → numbered_at numbered q.next (times_left q) t ≡ numbered_at numbered p.next (times_left p) t ++ here numbered number time t
pushed {T} numbered p q now until time number t right puts count =
    let left : times_left q ≡ times_left p ++ time ∷ [] = ap (λ (ts : List ℕ). drop q.next ts) puts.times ∙ ap (λ (k : ℕ). drop k (p.times.items ++ time ∷ [])) puts.next ∙ drop_push p.next p.times.items time right.come in
    let all : p.next + length (times_left p) ≡ number = drop_length p.next p.times.items right.come ∙ count in
    ap (λ (ts : List ℕ). numbered_at numbered q.next ts t) left ∙ ap (λ (k : ℕ). numbered_at numbered k (times_left p ++ time ∷ []) t) puts.next
    ∙ push_at numbered p.next time (times_left p) t ∙ ap (λ (k : ℕ). numbered_at numbered p.next (times_left p) t ++ here numbered k time t) all

pub planned_last : {T : Type 0} (numbered : ℕ → T) (p q : Plan) (now until time number : ℕ) → IsPlanAhead now until p → PlansLast p time q → length p.times.items ≡ number → planned_due numbered q time ≡ planned_due numbered p time ++ numbered number ∷ []
unfolding planned_due
planned_last {T} numbered p q now until time number right puts count =
    pushed numbered p q now until time number time right puts count ∙ ap (λ (xs : List T). numbered_at numbered p.next (times_left p) time ++ xs) (here-own numbered number time)

pub planned_elsewhere : {T : Type 0} (numbered : ℕ → T) (p q : Plan) (now until time number t : ℕ) → IsPlanAhead now until p → PlansLast p time q → length p.times.items ≡ number → t ≢ time → planned_due numbered q t ≡ planned_due numbered p t
unfolding planned_due
planned_elsewhere {T} numbered p q now until time number t right puts count other =
    pushed numbered p q now until time number t right puts count
    ∙ ap (λ (xs : List T). numbered_at numbered p.next (times_left p) t ++ xs) (here-other numbered number time t (λ same. other (sym same)))
    ∙ append-nil (numbered_at numbered p.next (times_left p) t)

pub plan_puts : (p q : Plan) (now until time number : ℕ) → IsPlanAhead now until p → PlansLast p time q → length p.times.items ≡ number → number < 4294967296 → p.last ≤ time → now ≤ time → time ≤ until → IsPlanAhead now until q
plan_puts p q now until time number right puts count small after ahead in_time =
    let left : times_left q ≡ times_left p ++ time ∷ [] = ap (λ (ts : List ℕ). drop q.next ts) puts.times ∙ ap (λ (k : ℕ). drop k (p.times.items ++ time ∷ [])) puts.next ∙ drop_push p.next p.times.items time right.come in
    let longer : length q.times.items ≡ length (p.times.items ++ time ∷ []) = ap (λ (ts : List ℕ). length ts) puts.times in
    let one : length (p.times.items ++ time ∷ []) ≡ suc (length p.times.items) = length_push p.times.items time in
    let next = puts.next in let last = puts.last in let come = right.come in
    record {
      ascending = subst (λ (k : ℕ). IsAscending now k (times_left q)) (sym last) (subst (IsAscending now time) (sym left) (ascending_push now p.last time (times_left p) right.ascending after ahead));
      within = omega (arith, last, in_time);
      come = omega (arith, next, come, longer, one);
      few = omega (arith, longer, one, count, small);
    }
  where
    length_push : (xs : List ℕ) (x : ℕ) → length (xs ++ x ∷ []) ≡ suc (length xs)
    length_push [] x = refl
    length_push (y ∷ ys) x = ap suc (length_push ys x)

-- nothing changed
pub planned_kept : {T : Type 0} (numbered : ℕ → T) (p q : Plan) (t : ℕ) → KeepsPlan p q → planned_due numbered q t ≡ planned_due numbered p t
unfolding planned_due
planned_kept {T} numbered p q t kept =
    ap (λ (ts : List ℕ). numbered_at numbered q.next (drop q.next ts) t) kept.times ∙ ap (λ (k : ℕ). numbered_at numbered k (drop k p.times.items) t) kept.next

pub plan_kept : (p q : Plan) (now until : ℕ) → IsPlanAhead now until p → KeepsPlan p q → IsPlanAhead now until q
plan_kept p q now until right kept =
    let left : times_left q ≡ times_left p = ap (λ (ts : List ℕ). drop q.next ts) kept.times ∙ ap (λ (k : ℕ). drop k p.times.items) kept.next in
    let count : length q.times.items ≡ length p.times.items = ap (λ (ts : List ℕ). length ts) kept.times in
    let next = kept.next in let last = kept.last in let come = right.come in let few = right.few in let within = right.within in
    record {
      ascending = subst (λ (k : ℕ). IsAscending now k (times_left q)) (sym last) (subst (IsAscending now p.last) (sym left) right.ascending);
      within = omega (arith, last, within);
      come = omega (arith, next, count, come);
      few = omega (arith, count, few);
    }

-- no cancel takes what a number tells
pub planned_stays : {T : Type 0} (group : T → Option ℕ) (numbered : ℕ → T) (p : Plan) (g t : ℕ) → ((n : ℕ) → group (numbered n) ≡ None) → filter (λ x. not (is_in group g x)) (planned_due numbered p t) ≡ planned_due numbered p t
unfolding planned_due
planned_stays {T} group numbered p g t stays = all_stay p.next (times_left p)
  where
    keep : T → Bool
    keep x = not (is_in group g x)

    one : (n time : ℕ) → filter keep (here numbered n time t) ≡ here numbered n time t
    one n time = elim (eqb_tells time t) [
      | inl e ↦ rw e.0 (rw (stays n) refl)
      | inr e ↦ rw e.0 refl
    ]

    all_stay : (n : ℕ) (times : List ℕ) → filter keep (numbered_at numbered n times t) ≡ numbered_at numbered n times t
    all_stay n [] = refl
    all_stay n (time ∷ times) =
        filter-append keep (here numbered n time t) (numbered_at numbered (suc n) times t)
        ∙ ap (λ (xs : List T). xs ++ filter keep (numbered_at numbered (suc n) times t)) (one n time)
        ∙ ap (λ (xs : List T). here numbered n time t ++ xs) (all_stay (suc n) times)
