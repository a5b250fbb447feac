-- A run up to a time, and the part between two times.
use Rattle.std.proofs.Common.{◌≡◌, ◌<◌, ◌≤◌, ℕ, ◌+◌, Bool, true, false, List, [], ◌∷◌, ◌++◌, refl, sym, ◌∙◌, ap, subst, arith, append_assoc}
use Rattle.std.specs.Prelude.{nat_le, if◌then◌else◌}
use Rattle.std.proofs.lemmas.Bool.{leb-true, leb-false, lt-leb}
use Rattle.mate_num.specs.Lists.{Each, EachOver}
use Rattle.capsule_exchange.specs.Happenings.{held_version}
use Rattle.world_rules.specs.World.{World}
use Rattle.world_rules.specs.State.{Moment, state}
use Rattle.world_rules.specs.Run.{HaveCome, IsDone}
use Rattle.world_laws.specs.Times.{last_time}
use Rattle.world_laws.specs.Passing.{up_to, version_at, IsBetween}
use Rattle.world_laws.proofs.Points.{earlier-come}
use Rattle.world_laws.proofs.Installs.{held_never_falls}
use Rattle.world_laws.proofs.HopBound.{times-rise, head-is, tail-is}

-- ---- up to a time

-- the events after a time, and those up to it
pub record Behind (t : ℕ) (ms : List Moment) : Type 0 where
  pub later : List Moment
  pub split : ms ≡ later ++ up_to t ms
  pub after : Each (λ (m : Moment). t < m.time) later

pub behind : (t : ℕ) (ms : List Moment) → Behind t ms
behind t [] = record { later = []; split = refl; after = tt }
behind t (m ∷ before) = by (nat_le m.time t) refl (behind t before) where
  by : (b : Bool) → nat_le m.time t ≡ b → Behind t before → Behind t (m ∷ before)
  by true is rest = record { later = []; split = rw is refl; after = tt }
  by false is rest = record { later = m ∷ rest.later; split = rw is (ap (λ (xs : List Moment). m ∷ xs) rest.split); after = (leb-false _ _ is, rest.after) }

pub up-to-again : (s e : ℕ) (ms : List Moment) → s ≤ e → up_to s (up_to e ms) ≡ up_to s ms
up-to-again s e [] less = refl
up-to-again s e (m ∷ before) less = by (nat_le m.time e) refl (up-to-again s e before less) where
  by : (b : Bool) → nat_le m.time e ≡ b → up_to s (up_to e before) ≡ up_to s before → up_to s (if b then m ∷ before else up_to e before) ≡ up_to s (m ∷ before)
  by true is rest = refl
  by false is rest =
      let past : e < m.time = leb-false _ _ is in
      let late : nat_le m.time s ≡ false = lt-leb _ _ (omega (arith, past, less)) in
      rest ∙ sym (ap (λ (b : Bool). if b then m ∷ before else up_to s before) late)

pub up-to-last : (t : ℕ) (ms : List Moment) → last_time (up_to t ms) ≤ t
up-to-last t [] = omega arith
up-to-last t (m ∷ before) = by (nat_le m.time t) refl (up-to-last t before) where
  by : (b : Bool) → nat_le m.time t ≡ b → last_time (up_to t before) ≤ t → last_time (if b then m ∷ before else up_to t before) ≤ t
  by true is rest = leb-true _ _ is
  by false is rest = rest

pub done-up-to : (w : World) (t : ℕ) (ms : List Moment) → HaveCome w ms → IsDone (state w ms) t → IsDone (state w (up_to t ms)) t
done-up-to w t [] come done = done
done-up-to w t (m ∷ before) come done = by (nat_le m.time t) refl (λ d. done-up-to w t before come.0 d) where
  by : (b : Bool) → nat_le m.time t ≡ b → (IsDone (state w before) t → IsDone (state w (up_to t before)) t) → IsDone (state w (if b then m ∷ before else up_to t before)) t
  by true is rest = done
  by false is rest = rest (λ u early. come.1.next.none_before u (let past : t < m.time = leb-false _ _ is in omega (arith, early, past)))

pub come-up-to : (w : World) (t : ℕ) (ms : List Moment) → HaveCome w ms → HaveCome w (up_to t ms)
come-up-to w t ms come = earlier-come w (up_to t ms) (behind t ms).later (subst (λ (xs : List Moment). HaveCome w xs) (behind t ms).split come)

-- an event is among those up to its time
pub reach : (t : ℕ) (newer before : List Moment) (m : Moment) → m.time ≤ t → (front : List Moment) × (up_to t (newer ++ m ∷ before) ≡ front ++ m ∷ before)
reach t [] before m early = ([], by (nat_le m.time t) refl) where
  by : (b : Bool) → nat_le m.time t ≡ b → (if b then m ∷ before else up_to t before) ≡ m ∷ before
  by true is = refl
  by false is = let past : t < m.time = leb-false _ _ is in absurd (omega (arith, past, early))
reach t (x ∷ newer) before m early = by (nat_le x.time t) (reach t newer before m early) where
  by : (b : Bool) → (front : List Moment) × (up_to t (newer ++ m ∷ before) ≡ front ++ m ∷ before)
      → (front : List Moment) × ((if b then x ∷ (newer ++ m ∷ before) else up_to t (newer ++ m ∷ before)) ≡ front ++ m ∷ before)
  by true rest = (x ∷ newer, refl)
  by false rest = rest

-- ---- between two times

-- the events after one time and up to another
pub record Part (s e : ℕ) (ms : List Moment) : Type 0 where
  pub later : List Moment
  pub split : up_to e ms ≡ later ++ up_to s ms
  pub after : Each (λ (m : Moment). s < m.time) later

pub part : (s e : ℕ) (ms : List Moment) → s ≤ e → Part s e ms
part s e ms less =
    let cut : Behind s (up_to e ms) = behind s (up_to e ms) in
    record { later = cut.later; split = cut.split ∙ ap (λ (xs : List Moment). cut.later ++ xs) (up-to-again s e ms less); after = cut.after }

-- what a node holds doesn't fall
pub held-rises : (w : World) (ms : List Moment) (k h s e : ℕ) → HaveCome w ms → s ≤ e → version_at w ms k h s ≤ version_at w ms k h e
held-rises w ms k h s e come less =
    let cut : Part s e ms = part s e ms less in
    subst (λ (xs : List Moment). version_at w ms k h s ≤ held_version h ((state w xs).nodes k).exchange) (sym cut.split)
    (held_never_falls w k h (up_to s ms) cut.later (subst (λ (xs : List Moment). HaveCome w xs) cut.split (come-up-to w e ms come)))

pub each-middle : (P : Moment → Type 0) (newer older : List Moment) (m : Moment) → Each P (newer ++ m ∷ older) → P m
each-middle P [] older m all = all.0
each-middle P (x ∷ newer) older m all = each-middle P newer older m all.1

pub each-over : (P : Moment → List Moment → Type 0) (xs : List Moment) → ((newer older : List Moment) (x : Moment) → xs ≡ newer ++ x ∷ older → P x older) → EachOver P xs
each-over P [] each = tt
each-over P (x ∷ xs) each = (each-over P xs (λ newer older y is. each (x ∷ newer) older y (ap (λ (ys : List Moment). x ∷ ys) is)), each [] xs x refl)

-- an event of the part comes between the times
pub between : (w : World) (s e : ℕ) (ms : List Moment) (cut : Part s e ms) (newer older : List Moment) (m : Moment) → HaveCome w ms → cut.later ≡ newer ++ m ∷ older → IsBetween ms s e m (older ++ up_to s ms)
between w s e ms cut newer older m come is = record {
  newer = (behind e ms).later ++ newer;
  split = (behind e ms).split ∙ ap (λ (xs : List Moment). (behind e ms).later ++ xs) inner ∙ sym (append_assoc (behind e ms).later newer (m ∷ (older ++ up_to s ms)));
  after = each-middle (λ (x : Moment). s < x.time) newer older m (subst (λ (xs : List Moment). Each (λ (x : Moment). s < x.time) xs) is cut.after);
  in_time = early;
} where
  inner : up_to e ms ≡ newer ++ (m ∷ (older ++ up_to s ms))
  inner = cut.split ∙ ap (λ (xs : List Moment). xs ++ up_to s ms) is ∙ append_assoc newer (m ∷ older) (up_to s ms)

  early : m.time ≤ e
  early =
      let rises : m.time ≤ last_time (newer ++ (m ∷ (older ++ up_to s ms))) = times-rise w newer (older ++ up_to s ms) m (subst (λ (xs : List Moment). HaveCome w xs) inner (come-up-to w e ms come)) in
      let last : last_time (newer ++ (m ∷ (older ++ up_to s ms))) ≤ e = subst (λ (xs : List Moment). last_time xs ≤ e) inner (up-to-last e ms) in
      omega (arith, rises, last)

-- an event of a list of two parts stands in the front one or in the back one
pub data Stands (front back older : List Moment) (m : Moment) : Type 0 where
  in_front : (newer rest : List Moment) → front ≡ newer ++ m ∷ rest → older ≡ rest ++ back → Stands front back older m
  in_back : (newer : List Moment) → back ≡ newer ++ m ∷ older → Stands front back older m

pub stands : (front back newer older : List Moment) (m : Moment) → front ++ back ≡ newer ++ m ∷ older → Stands front back older m
stands [] back newer older m is = in_back newer is
stands (x ∷ front) back [] older m is = in_front [] front (ap (λ (y : Moment). y ∷ front) (head-is x m (front ++ back) older is)) (sym (tail-is x m (front ++ back) older is))
stands (x ∷ front) back (y ∷ newer) older m is = by (stands front back newer older m (tail-is x y (front ++ back) (newer ++ m ∷ older) is)) where
  by : Stands front back older m → Stands (x ∷ front) back older m
  by (in_front found rest at is_older) = in_front (x ∷ found) rest (ap (λ (ys : List Moment). x ∷ ys) at) is_older
  by (in_back found at) = in_back found at

-- an event that comes between the times is of the part
pub in-part : (w : World) (s e by : ℕ) (ms : List Moment) (cut : Part s e ms) (m : Moment) (older : List Moment) → HaveCome w ms → IsBetween ms s by m older → by ≤ e
    → (newer rest : List Moment) × (cut.later ≡ newer ++ m ∷ rest) × (older ≡ rest ++ up_to s ms)
in-part w s e by ms cut m older come is less = outer (stands (behind e ms).later (up_to e ms) is.newer older m (sym (behind e ms).split ∙ is.split)) where
  inner : Stands cut.later (up_to s ms) older m → (newer rest : List Moment) × (cut.later ≡ newer ++ m ∷ rest) × (older ≡ rest ++ up_to s ms)
  inner (in_front newer rest at is_older) = (newer, rest, at, is_older)
  inner (in_back newer at) =
      let rises : m.time ≤ last_time (newer ++ (m ∷ older)) = times-rise w newer older m (subst (λ (xs : List Moment). HaveCome w xs) at (come-up-to w s ms come)) in
      let last : last_time (newer ++ (m ∷ older)) ≤ s = subst (λ (xs : List Moment). last_time xs ≤ s) at (up-to-last s ms) in
      absurd (omega (arith, rises, last, is.after))

  outer : Stands (behind e ms).later (up_to e ms) older m → (newer rest : List Moment) × (cut.later ≡ newer ++ m ∷ rest) × (older ≡ rest ++ up_to s ms)
  outer (in_front newer rest at is_older) =
      let late : e < m.time = each-middle (λ (x : Moment). e < x.time) newer rest m (subst (λ (xs : List Moment). Each (λ (x : Moment). e < x.time) xs) at (behind e ms).after) in
      absurd (omega (arith, late, is.in_time, less))
  outer (in_back newer at) = inner (stands cut.later (up_to s ms) newer older m (sym cut.split ∙ at))
