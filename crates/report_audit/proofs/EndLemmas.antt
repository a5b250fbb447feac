-- The ends of invocations, seat by seat.
use Rattle.std.proofs.Common.{◌≡◌, ◌<◌, ◌≤◌, ℕ, suc, ◌+◌, Bool, true, false, List, [], ◌∷◌, length, map, take, drop, drop-cons, drop_of_length-le, Option, None, Some, refl, sym, ◌∙◌, ap, subst, inl, inr, arith}
use Rattle.std.specs.Prelude.{◌&&◌, ◌||◌, ◌==◌, not, slice_index_or, unwrap_or, IfSome, IsTrue, MatchOption, if◌then◌else◌}
use Rattle.std.specs.List.{list_all}
use Rattle.std.proofs.lemmas.Bool.Decides.{Decides-eqb, eqb_tells}
use Rattle.std.proofs.lemmas.List.{get_or-map, length-map}
use Rattle.arrayvec.specs.ArrayVec.{ArrayVec}
use Rattle.mate_num.specs.declared.call.End.{End}
use Rattle.mate_num.specs.declared.outcome.Outcome.{Outcome}
use Rattle.mate_num.specs.declared.store.Store.{Store}
use Rattle.mate_journal.specs.Journal.{is_started, Invocation}
use Rattle.mate_journal.specs.Machine.{Machine}
use Rattle.audit_rules.specs.Granting.{ConflictTest}
use Rattle.audit_rules.specs.Rerun.{run_on, is_so_far, is_undisturbed, ends_right, store_left, wants_as}
use Rattle.audit_rules.specs.Same.{same_end, same_calls}
use Rattle.audit_rules.specs.Roll as told
use Rattle.audit_rules.specs.Shown.{HasLengthsOf}
use Rattle.audit_rules.specs.Views.{stands_at, phase_in, seat_in, roll_in}
use Rattle.audit_rules.specs.declared.phase.Phase.{Phase}
use Rattle.audit_rules.specs.declared.phase.Phase.TheVariants as phase
use Rattle.audit_rules.specs.declared.phase.Stage.TheVariants as stage
use Rattle.audit_rules.specs.declared.roll.Roll.{Roll}
use Rattle.audit_rules.specs.declared.seat.Seat.{Seat}
use Rattle.audit_programs.proofs.LoopLemmas.{all-more, all-done}

pub same_number : (a b : ℕ) → a ≡ b → (a == b) ≡ true
same_number a b is = (Decides-eqb a b).1 is

pub other_number : (a b : ℕ) → (a ≡ b → ⊥) → (a == b) ≡ false
other_number a b differ = elim (eqb_tells a b) [
  | inl t ↦ absurd (differ t.1)
  | inr u ↦ u.0
]

-- the seat at a place, and those after it
pub seats-next : {A B : Type 0} (f : A → B) (xs : List A) (i : ℕ) (x : A) → i < length xs → x ≡ slice_index_or xs i x → drop i (map f xs) ≡ f x ∷ drop (i + 1) (map f xs)
seats-next {A} {B} f xs i x within is =
    let long = length-map xs f in
    drop-cons (map f xs) i (f x) (omega (arith, long, within))
    ∙ ap (λ (y : B). y ∷ drop (suc i) (map f xs)) (get_or-map f xs i x (f x) within ∙ ap f (sym is))
    ∙ ap (λ (k : ℕ). f x ∷ drop k (map f xs)) (let e : suc i ≡ i + 1 = omega arith in e)

-- ---- the store that is left

pub left-here : (m : Machine) (store : Store) (n : ℕ) (zs rest : List told.Seat) (z : told.Seat) → zs ≡ z ∷ rest → (z.number == n) ≡ true → store_left m store n zs ≡ (run_on m store z.invocation).store
left-here m store n zs rest z is here =
    ap (λ (ys : List told.Seat). store_left m store n ys) is
    ∙ ap (λ (b : Bool). if b then (run_on m store z.invocation).store else store_left m store n rest) here

pub left-other : (m : Machine) (store : Store) (n : ℕ) (zs rest : List told.Seat) (z : told.Seat) → zs ≡ z ∷ rest → (z.number == n) ≡ false → store_left m store n zs ≡ store_left m store n rest
left-other m store n zs rest z is other =
    ap (λ (ys : List told.Seat). store_left m store n ys) is
    ∙ ap (λ (b : Bool). if b then (run_on m store z.invocation).store else store_left m store n rest) other

-- the first one that is left stays
pub first-kept : (left : Option Store) (after later whole next : Store) → whole ≡ unwrap_or left later → later ≡ after → whole ≡ unwrap_or (Some (unwrap_or left after)) next
first-kept None after later whole next is same = is ∙ same
first-kept (Some s) after later whole next is same = is

-- ---- who ends

-- its run ends so, with its calls, and disturbs nobody
abbrev pub Ended : Machine → ConflictTest → told.Roll → Store → ℕ → End → told.Seat → Bool
Ended m conflict x store n how z =
    (same_end (run_on m store z.invocation).end how && same_calls (run_on m store z.invocation).calls z.invocation.calls)
    && list_all (is_undisturbed m conflict store (run_on m store z.invocation).store n z.invocation) x.seats

-- one of another number doesn't end
pub other-right : (m : Machine) (conflict : ConflictTest) (x : told.Roll) (store : Store) (n : ℕ) (how : End) (z : told.Seat) → (z.number == n) ≡ false → ends_right m conflict x store n how z ≡ true
other-right m conflict x store n how z other = ap (λ (b : Bool). not b || Ended m conflict x store n how z) other

-- the test of its own end
pub own-right : (m : Machine) (conflict : ConflictTest) (x : told.Roll) (store : Store) (how : End) (z : told.Seat) → ends_right m conflict x store z.number how z ≡ Ended m conflict x store z.number how z
own-right m conflict x store how z = ap (λ (b : Bool). not b || Ended m conflict x store z.number how z) (same_number z.number z.number refl)

and-false : (b : Bool) → (b && false) ≡ false
and-false true = refl
and-false false = refl

-- the test by an outcome of its run
pub ended-by : (m : Machine) (conflict : ConflictTest) (x : told.Roll) (store : Store) (how : End) (z : told.Seat) (o : Outcome) (a c : Bool) → o ≡ run_on m store z.invocation
    → a ≡ (same_end o.end how && same_calls o.calls z.invocation.calls) → c ≡ list_all (is_undisturbed m conflict store o.store z.number z.invocation) x.seats → ends_right m conflict x store z.number how z ≡ (a && c)
ended-by m conflict x store how z o a c is a_is c_is =
    let F : Outcome → Bool = λ r. (same_end r.end how && same_calls r.calls z.invocation.calls) && list_all (is_undisturbed m conflict store r.store z.number z.invocation) x.seats in
    own-right m conflict x store how z
    ∙ ap F (sym is)
    ∙ sym (ap (λ (b : Bool). b && c) a_is ∙ ap (λ (b : Bool). (same_end o.end how && same_calls o.calls z.invocation.calls) && b) c_is)

-- its run doesn't end so, or not with its calls
pub ended-not : (m : Machine) (conflict : ConflictTest) (x : told.Roll) (store : Store) (how : End) (z : told.Seat) (o : Outcome) (a : Bool) → o ≡ run_on m store z.invocation
    → a ≡ (same_end o.end how && same_calls o.calls z.invocation.calls) → a ≡ false → ends_right m conflict x store z.number how z ≡ false
ended-not m conflict x store how z o a is a_is fails =
    let others = list_all (is_undisturbed m conflict store o.store z.number z.invocation) x.seats in
    ended-by m conflict x store how z o a others is a_is refl ∙ ap (λ (b : Bool). b && others) fails

pub ended-wrong : (m : Machine) (conflict : ConflictTest) (x : told.Roll) (store : Store) (how : End) (z : told.Seat) (a c : Bool) → ends_right m conflict x store z.number how z ≡ (a && c) → c ≡ false → ends_right m conflict x store z.number how z ≡ false
ended-wrong m conflict x store how z a c is fails = is ∙ ap (λ (b : Bool). a && b) fails ∙ and-false a

pub ended-right : (m : Machine) (conflict : ConflictTest) (x : told.Roll) (store : Store) (how : End) (z : told.Seat) (a c : Bool) → ends_right m conflict x store z.number how z ≡ (a && c) → a ≡ true → c ≡ true → ends_right m conflict x store z.number how z ≡ true
ended-right m conflict x store how z a c is first second = is ∙ ap (λ (b : Bool). b && c) first ∙ second

-- what the end of one gives: nothing where it is wrong, and else the store that it leaves
abbrev pub EndsAs : Machine → ConflictTest → told.Roll → Store → End → told.Seat → Option Store → Type 0
EndsAs m conflict x store how z found = MatchOption found (ends_right m conflict x store z.number how z ≡ false)
    (λ left. (ends_right m conflict x store z.number how z ≡ true) × (left ≡ (run_on m store z.invocation).store) × HasLengthsOf m left)

-- the first seats have ended rightly, and so much is left
pub record HasEnded (m : Machine) (conflict : ConflictTest) (images : List (ArrayVec ℕ)) (roll : Roll) (store : Store) (n : ℕ) (how : End) (i : ℕ) (left : Option Store) : Type 0 where
  pub all : list_all (ends_right m conflict (roll_in images roll) store n how) (take i (map (seat_in images) roll.seats.items)) ≡ true
  pub left_is : store_left m store n (map (seat_in images) roll.seats.items) ≡ unwrap_or left (store_left m store n (drop i (map (seat_in images) roll.seats.items)))
  pub lengths : IfSome left (HasLengthsOf m)

kept-lengths : (m : Machine) (left : Option Store) (after : Store) → IfSome left (HasLengthsOf m) → HasLengthsOf m after → HasLengthsOf m (unwrap_or left after)
kept-lengths m None after before new = new
kept-lengths m (Some s) after before new = before

module _ (m : Machine) (conflict : ConflictTest) (images : List (ArrayVec ℕ)) (roll : Roll) (store : Store) (n : ℕ) (how : End) (i : ℕ) (left : Option Store) (ended : HasEnded m conflict images roll store n how i left) (s : Seat) (within : i < length roll.seats.items) (is : s ≡ slice_index_or roll.seats.items i s) where
  pub ended-here : (found : Option Store) (after : Store) → EndsAs m conflict (roll_in images roll) store how (seat_in images s) found → found ≡ Some after → s.number ≡ n → HasEnded m conflict images roll store n how (i + 1) (Some (unwrap_or left after))
  ended-here found after gives some same =
      let z : told.Seat = seat_in images s in
      let zs : List told.Seat = map (seat_in images) roll.seats.items in
      let e = subst (λ (o : Option Store). EndsAs m conflict (roll_in images roll) store how z o) some gives in
      record {
        all = all-more (seat_in images) (ends_right m conflict (roll_in images roll) store n how) roll.seats.items i s within is ended.all (subst (λ (k : ℕ). ends_right m conflict (roll_in images roll) store k how z ≡ true) same e.0);
        left_is = first-kept left after (store_left m store n (drop i zs)) (store_left m store n zs) (store_left m store n (drop (i + 1) zs)) ended.left_is
            (left-here m store n (drop i zs) (drop (i + 1) zs) z (seats-next (seat_in images) roll.seats.items i s within is) (same_number s.number n same) ∙ sym e.1);
        lengths = kept-lengths m left after ended.lengths e.2;
      }

  pub ended-other : (s.number ≡ n → ⊥) → HasEnded m conflict images roll store n how (i + 1) left
  ended-other differ =
      let z : told.Seat = seat_in images s in
      let zs : List told.Seat = map (seat_in images) roll.seats.items in
      let other = other_number s.number n differ in
      record {
        all = all-more (seat_in images) (ends_right m conflict (roll_in images roll) store n how) roll.seats.items i s within is ended.all (other-right m conflict (roll_in images roll) store n how z other);
        left_is = ended.left_is ∙ ap (λ (later : Store). unwrap_or left later) (left-other m store n (drop i zs) (drop (i + 1) zs) z (seats-next (seat_in images) roll.seats.items i s within is) other);
        lengths = ended.lengths;
      }

-- all have ended rightly, and the store is what is left, if something is
pub ended-all : (m : Machine) (conflict : ConflictTest) (images : List (ArrayVec ℕ)) (roll : Roll) (store : Store) (n : ℕ) (how : End) (i : ℕ) (left : Option Store) (after : Store) → HasEnded m conflict images roll store n how i left → length roll.seats.items ≤ i
    → HasLengthsOf m store → after ≡ unwrap_or left store
    → (true ≡ list_all (ends_right m conflict (roll_in images roll) store n how) (map (seat_in images) roll.seats.items)) × (IsTrue true → (after ≡ store_left m store n (map (seat_in images) roll.seats.items)) × HasLengthsOf m after)
ended-all m conflict images roll store n how i left after ended past lengths is =
    let zs : List told.Seat = map (seat_in images) roll.seats.items in
    let long = length-map roll.seats.items (seat_in images) in
    let none : drop i zs ≡ [] = drop_of_length-le zs (omega (arith, long, past)) in (
      sym (all-done (seat_in images) (ends_right m conflict (roll_in images roll) store n how) roll.seats.items i past ended.all),
      λ right. (
        is ∙ sym (ended.left_is ∙ ap (λ (ys : List told.Seat). unwrap_or left (store_left m store n ys)) none),
        subst (HasLengthsOf m) (sym is) (kept-lengths m left store ended.lengths lengths),
      ),
    )

-- ---- an invocation beside it

pub queued-as : (p : Phase) → stands_at stage.Queued p ≡ not (is_started (phase_in p))
queued-as phase.Queued = refl
queued-as _ = refl

-- one of four tests holds
abbrev either : Bool → Bool → Bool → Bool → Bool
either own queued apart right = own || (queued || (apart || right))

past-own : (own queued apart right : Bool) → own ≡ false → either false queued apart right ≡ either own queued apart right
past-own own queued apart right e = ap (λ (b : Bool). either b queued apart right) (sym e)

past-queued : (own queued apart right : Bool) → own ≡ false → false ≡ queued → either false false apart right ≡ either own queued apart right
past-queued own queued apart right e f = ap (λ (b : Bool). either false b apart right) f ∙ past-own own queued apart right e

module _ (m : Machine) (conflict : ConflictTest) (before after : Store) (n : ℕ) (i : Invocation) (s : told.Seat) where
  pub undisturbed-own : s.number ≡ n → true ≡ is_undisturbed m conflict before after n i s
  undisturbed-own same =
      ap (λ (b : Bool). either b (not (is_started s.invocation.phase)) (not (conflict i.program s.invocation.program)) (is_so_far m before s.invocation && is_so_far m after s.invocation))
      (sym (same_number s.number n same))

  pub undisturbed-queued : (s.number ≡ n → ⊥) → true ≡ not (is_started s.invocation.phase) → true ≡ is_undisturbed m conflict before after n i s
  undisturbed-queued differ queued =
      let right : Bool = is_so_far m before s.invocation && is_so_far m after s.invocation in
      ap (λ (b : Bool). either false b (not (conflict i.program s.invocation.program)) right) queued
      ∙ past-own (s.number == n) (not (is_started s.invocation.phase)) (not (conflict i.program s.invocation.program)) right (other_number s.number n differ)

  pub undisturbed-apart : (s.number ≡ n → ⊥) → false ≡ not (is_started s.invocation.phase) → false ≡ conflict i.program s.invocation.program → true ≡ is_undisturbed m conflict before after n i s
  undisturbed-apart differ started apart =
      let right : Bool = is_so_far m before s.invocation && is_so_far m after s.invocation in
      ap (λ (b : Bool). either false false (not b) right) apart
      ∙ past-queued (s.number == n) (not (is_started s.invocation.phase)) (not (conflict i.program s.invocation.program)) right (other_number s.number n differ) started

  pub undisturbed-runs : (s.number ≡ n → ⊥) → false ≡ not (is_started s.invocation.phase) → true ≡ conflict i.program s.invocation.program
      → (is_so_far m before s.invocation && is_so_far m after s.invocation) ≡ is_undisturbed m conflict before after n i s
  undisturbed-runs differ started together =
      let right : Bool = is_so_far m before s.invocation && is_so_far m after s.invocation in
      ap (λ (b : Bool). either false false (not b) right) together
      ∙ past-queued (s.number == n) (not (is_started s.invocation.phase)) (not (conflict i.program s.invocation.program)) right (other_number s.number n differ) started

-- one that is ready wants no call
pub and-true : (a b : Bool) → b ≡ true → a ≡ (a && b)
and-true true b e = sym e
and-true false b e = refl

pub ready-wants : (p : Phase) (e : End) → true ≡ stands_at stage.Ready p → wants_as (phase_in p) e ≡ true
ready-wants phase.Queued e at = refl
ready-wants phase.Ready e at = refl
ready-wants (phase.Waiting f args) e at = cc
