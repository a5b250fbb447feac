-- The summary of the handlers' states, and a Vector of the versions that it has.
use Rattle.std.proofs.Common.{◌≡◌, ℕ, zero, suc, ◌+◌, ◌<◌, ◌≤◌, ◌-◌, ◌*◌, ◌/◌, ◌%◌, ◌&&◌, Bool, true, false, ltb, List, [], length, map, set, get_or, drop, refl, sym, ap, ◌∙◌, subst, arith, inl, inr}
use Rattle.std.specs.Prelude.{◌⊎◌, ◌==◌, if◌then◌else◌, Option, bytes_eq, is_some}
use Rattle.std.specs.List.{filter, find, refill, range_with_len}
use Rattle.std.proofs.lemmas.Bool.{cases_eq, cases_lt, cond_both, le-ltb}
use Rattle.std.proofs.lemmas.List.{ext_get_or, get_or-map, get_or-set_same, get_or-set_other, get_or_default, get_or_past, length-map, length-set, take_at}
use Rattle.std.proofs.lemmas.List.FromFn.{fill_by_all, length-map-range_with_len, get_or-map-range_with_len}
use Rattle.std.proofs.lemmas.Slice.Eq.{bytes_eq-Decides}
use Rattle.capsule_exchange.specs.declared.handler_state.HandlerState.{HandlerState}
use Rattle.capsule_exchange.specs.declared.summary.Summary.{Summary}
use Rattle.capsule_exchange.specs.Knowledge.{Knowledge, knowledge, state_after, with_state}
use Rattle.capsule_exchange.specs.Images.{HoldSame, AreImagesOf, blank_image}
use Rattle.capsule_exchange.specs.Sound.{AreSound}
use Rattle.capsule_exchange.specs.declared.handler_state.Form.{Form}
use Rattle.arrayvec.specs.ArrayVec.{ArrayVec}
use Rattle.capsule_codec.specs.Fragments.{count_of}
use Rattle.capsule_exchange.specs.Steps.{no_state, aimed, kept, marked, hears_status, hears_fragment, forgets, is_marked_in, state_at, aimed_each, asks_upto}
use Rattle.capsule_exchange.specs.Summary.{IsSummaryOf, AreKept}
use Rattle.capsule_exchange.specs.Happenings.{slots_from}
use Rattle.capsule_exchange.specs.Marks.{HasMark, HasNoMark}
use Rattle.capsule_exchange.proofs.SlotLemmas.{find_same, find_none, some_at}
use Rattle.capsule_exchange.proofs.SoundLemmas.{put_back}

pub kept_now : (states seen : List HandlerState) (s : Summary) → seen ≡ states → length seen ≤ 8 → AreSound states → IsSummaryOf seen s → AreKept states s
kept_now states seen s same few sound sums = record { few = subst (λ (ss : List HandlerState). length ss ≤ 8) same few; sound = sound; summed = subst (λ (ss : List HandlerState). IsSummaryOf ss s) same sums }

-- ---- a Vector of the versions that are held

abbrev pub held_in : List HandlerState → List ℕ
held_in states = map (λ (s : HandlerState). s.held) states

-- versions that are equal to those of the summary are those that are held
pub told_held : (k : Knowledge) (states : List HandlerState) (last : Option ℕ) (s : Summary) (versions told held : List ℕ) → record { handlers = states; last = last } ≡ k → IsSummaryOf states s
    → told ≡ versions → held ≡ s.held.items → bytes_eq told held ≡ true → versions ≡ held_in k.handlers
told_held k states last s versions told held view sums told_is held_is same =
    sym told_is ∙ (bytes_eq-Decides told held).0 same ∙ held_is ∙ sums.held ∙ ap (λ (x : Knowledge). held_in x.handlers) view

held_at : (states : List HandlerState) (h : ℕ) → h < length states → get_or (held_in states) h 0 ≡ (state_at states h).held
held_at states h below = get_or-map (λ (s : HandlerState). s.held) states h no_state 0 below

not_over : (n : ℕ) → ltb n n ≡ false
not_over n = le-ltb n n (omega arith)

aimed_held : (s : HandlerState) (version : ℕ) → version ≡ s.held → aimed version s ≡ s
aimed_held s version is = (let under : ltb s.held version ≡ false = ap (ltb s.held) is ∙ not_over s.held in rw under refl)

-- no state changes
pub aimed_same : (states : List HandlerState) → states ≡ aimed_each (held_in states) states
aimed_same states =
    fill_by_all (λ (h : ℕ). aimed (get_or (held_in states) h 0) (state_at states h)) states (length states) no_state refl (λ h below.
    sym (aimed_held (state_at states h) (get_or (held_in states) h 0) (held_at states h below)))

none_passes : (p : ℕ → Bool) (first n : ℕ) → ((h : ℕ) → first ≤ h → h < first + n → p h ≡ false) → filter p (range_with_len first n) ≡ []
none_passes p first zero fails = refl
none_passes p first (suc n) fails =
    let here : p first ≡ false = fails first (omega arith) (omega arith) in
    let rest = none_passes p (first + 1) n (λ h low high. fails h (omega arith) (omega arith)) in
    rw here rest

-- and nothing is asked for
pub asks_none : (states : List HandlerState) → asks_upto (held_in states) states (length states) ≡ []
asks_none states =
    let over = λ (h : ℕ). ltb (state_at states h).held (get_or (held_in states) h 0) in
    let none : filter over (range_with_len 0 (length states)) ≡ [] =
    none_passes over 0 (length states) (λ h low high. ap (ltb (state_at states h).held) (held_at states h (omega arith)) ∙ not_over (state_at states h).held) in
    rw none refl

-- ---- what leaves the versions and the marks leaves the summary

-- the step changes at most what is collected
pub record KeepsMarks (old new : HandlerState) : Type 0 where
  pub held : new.held ≡ old.held
  pub image : new.image ≡ old.image
  pub marks : new.marks ≡ old.marks

as_before : (s : HandlerState) → KeepsMarks s s
as_before s = record { held = refl; image = refl; marks = refl }

pub aimed_marks : (version : ℕ) (s : HandlerState) → KeepsMarks s (aimed version s)
aimed_marks version s = cond_both (ltb s.held version && ltb s.target version) _ s (KeepsMarks s) (λ _. record { held = refl; image = refl; marks = refl }) (λ _. as_before s)

pub status_held : (version missing : ℕ) (s : HandlerState) → (hears_status version missing s).held ≡ s.held
status_held version missing s = by (version == s.held)
  where
    by : (b : Bool) → (if b then record s { marks = marked (count_of s.image.items) missing s.marks } else s).held ≡ s.held
    by true = refl
    by false = refl

pub status_image : (version missing : ℕ) (s : HandlerState) → (hears_status version missing s).image ≡ s.image
status_image version missing s = by (version == s.held)
  where
    by : (b : Bool) → (if b then record s { marks = marked (count_of s.image.items) missing s.marks } else s).image ≡ s.image
    by true = refl
    by false = refl

pub fragment_marks : (version index : ℕ) (form : Form) (bytes : ArrayVec ℕ) (s : HandlerState) → KeepsMarks s (hears_fragment version index form bytes s)
fragment_marks version index form bytes s =
    let aim = aimed_marks version s in
    let keep : KeepsMarks s (kept index form bytes (aimed version s)) =
    cond_both _ _ (aimed version s) (KeepsMarks s) (λ _. record { held = aim.held; image = aim.image; marks = aim.marks }) (λ _. aim) in
    cond_both _ _ (aimed version s) (KeepsMarks s) (λ _. keep) (λ _. aim)

held_same : (old new : List HandlerState) → length new ≡ length old → ((h : ℕ) → (state_at new h).held ≡ (state_at old h).held) → held_in old ≡ held_in new
held_same old new long same =
    let held = λ (s : HandlerState). s.held in
    ext_get_or 0 (held_in old) (held_in new) (length-map old held ∙ sym long ∙ sym (length-map new held)) (λ h below.
    let low : h < length old = omega (arith, length-map old held) in
    held_at old h low ∙ sym (same h) ∙ sym (held_at new h (omega arith)))

owed_same : (old new : List HandlerState) → length new ≡ length old → ((h : ℕ) → KeepsMarks (state_at old h) (state_at new h))
    → find (is_marked_in old) (range_with_len 0 (22 * length old - 0)) ≡ find (is_marked_in new) (range_with_len 0 (22 * length new - 0))
owed_same old new long same =
    find_same (is_marked_in old) (is_marked_in new) 0 (22 * length old - 0) (λ k low high. ap (λ (ms : List Bool). get_or ms (k % 22) false) (sym (same (k / 22)).marks))
    ∙ ap (λ (n : ℕ). find (is_marked_in new) (range_with_len 0 (22 * n - 0))) (sym long)

summed_same : (old new : List HandlerState) (s : Summary) → length new ≡ length old → ((h : ℕ) → KeepsMarks (state_at old h) (state_at new h)) → IsSummaryOf old s → IsSummaryOf new s
summed_same old new s long same sums = record { held = sums.held ∙ held_same old new long (λ h. (same h).held); owes = sums.owes ∙ ap is_some (owed_same old new long same) }

-- a state that is read where one was changed: that one, after its step, or an old one
read_one : (P : HandlerState → HandlerState → Type 0) (states lent : List HandlerState) (h : ℕ) (d after : HandlerState) (step : HandlerState → HandlerState) → lent ≡ states → h < length states
    → after ≡ step (get_or lent h d) → ((x : HandlerState) → P x (step x)) → ((x : HandlerState) → P x x) → (k : ℕ) → P (state_at states k) (state_at (set states h after) k)
read_one P states lent h d after step same within is steps stays k =
    let at : get_or states h d ≡ state_at states h = get_or_default states h d no_state within in
    let stepped : after ≡ step (state_at states h) = is ∙ ap (λ (ss : List HandlerState). step (get_or ss h d)) same ∙ ap step at in
    elim (cases_eq k h) [
      | inl here ↦ (
          let read : state_at (set states h after) k ≡ step (state_at states k) =
          ap (state_at (set states h after)) here ∙ get_or-set_same states h after no_state within ∙ stepped ∙ ap (λ (m : ℕ). step (state_at states m)) (sym here) in
          subst (P (state_at states k)) (sym read) (steps (state_at states k)))
      | inr other ↦ subst (P (state_at states k)) (sym (get_or-set_other states h k after no_state other)) (stays (state_at states k))
    ]

kept_in : (states after : List HandlerState) (s t : Summary) → length after ≡ length states → AreSound after → IsSummaryOf after t → AreKept states s → AreKept after t
kept_in states after s t same sound sums kept = (let few = kept.few in record { few = omega arith; sound = sound; summed = sums })

length-lent : (states lent : List HandlerState) (h : ℕ) (after : HandlerState) → lent ≡ states → length (set lent h after) ≡ length states
length-lent states lent h after same = length-set lent h after ∙ ap length same

-- one state was changed in place
pub kept_one : (states lent : List HandlerState) (h : ℕ) (d after : HandlerState) (step : HandlerState → HandlerState) (s : Summary) → lent ≡ states → h < length states
    → after ≡ step (get_or lent h d) → ((x : HandlerState) → KeepsMarks x (step x)) → AreSound (set lent h after) → AreKept states s → AreKept (refill (length states) states (set lent h after)) s
kept_one states lent h d after step s same within is keeps sound kept =
    let all : IsSummaryOf (set states h after) s =
    summed_same states (set states h after) s (length-set states h after) (read_one KeepsMarks states lent h d after step same within is keeps as_before) kept.summed in
    let long = length-lent states lent h after same in
    put_back (λ (ss : List HandlerState). AreKept ss s) states (set lent h after) long
    (kept_in states (set lent h after) s s long sound (subst (λ (ss : List HandlerState). IsSummaryOf (set ss h after) s) (sym same) all) kept)

-- one state was changed in place, and not what it holds: only whether a slot is marked is to be seen anew
pub kept_owing : (states lent : List HandlerState) (h : ℕ) (d after : HandlerState) (step : HandlerState → HandlerState) (s : Summary) (seen : List HandlerState) (owes : Bool) → lent ≡ states → h < length states
    → after ≡ step (get_or lent h d) → ((x : HandlerState) → (step x).held ≡ x.held) → AreSound (set lent h after) → AreKept states s
    → seen ≡ refill (length states) states (set lent h after) → owes ≡ is_some (find (is_marked_in seen) (slots_from (length seen) 0))
    → AreKept (refill (length states) states (set lent h after)) (record s { owes = owes })
kept_owing states lent h d after step s seen owes same within is keeps sound kept seen_is owes_is =
    let held = held_same states (set states h after) (length-set states h after) (read_one (λ x y. y.held ≡ x.held) states lent h d after step same within is keeps (λ _. refl)) in
    let now = set lent h after in
    let long = length-lent states lent h after same in
    let any = λ (ss : List HandlerState). is_some (find (is_marked_in ss) (slots_from (length ss) 0)) in
    put_back (λ (ss : List HandlerState). AreKept ss (record s { owes = owes })) states now long
    (kept_in states now s (record s { owes = owes }) long sound
    (record {
      held = kept.summed.held ∙ held ∙ ap (λ (ss : List HandlerState). held_in (set ss h after)) (sym same);
      owes = owes_is ∙ put_back (λ (ss : List HandlerState). any seen ≡ any ss → any seen ≡ any now) states now long (λ e. e) (ap any seen_is);
    }) kept)

-- a state that is read where all were changed
read_each : (states after : List HandlerState) (step : ℕ → HandlerState → HandlerState) → after ≡ map (λ (h : ℕ). step h (state_at states h)) (range_with_len 0 (length states))
    → ((h : ℕ) (x : HandlerState) → KeepsMarks x (step h x)) → (k : ℕ) → KeepsMarks (state_at states k) (state_at after k)
read_each states after step is keeps k =
    let f = λ (h : ℕ). step h (state_at states h) in
    let count : length after ≡ length states = ap length is ∙ length-map-range_with_len f 0 (length states) in
    elim (cases_lt k (length states)) [
      | inl below ↦ (
          let read : state_at after k ≡ f k =
          ap (λ (ss : List HandlerState). state_at ss k) is ∙ get_or-map-range_with_len f 0 (length states) k k no_state (omega arith) (omega arith) in
          subst (KeepsMarks (state_at states k)) (sym read) (keeps k (state_at states k)))
      | inr past ↦ (
          let here : state_at after k ≡ no_state = get_or_past after k no_state (omega arith) in
          let there : state_at states k ≡ no_state = get_or_past states k no_state past in
          subst (KeepsMarks (state_at states k)) (there ∙ sym here) (as_before (state_at states k)))
    ]

-- all were changed in place
pub kept_each : (states after : List HandlerState) (step : ℕ → HandlerState → HandlerState) (s : Summary)
    → after ≡ map (λ (h : ℕ). step h (state_at states h)) (range_with_len 0 (length states)) → ((h : ℕ) (x : HandlerState) → KeepsMarks x (step h x)) → AreSound after → AreKept states s
    → AreKept (refill (length states) states after) s
kept_each states after step s is keeps sound kept =
    let count : length after ≡ length states = ap length is ∙ length-map-range_with_len (λ (h : ℕ). step h (state_at states h)) 0 (length states) in
    put_back (λ (ss : List HandlerState). AreKept ss s) states after count (kept_in states after s s count sound (summed_same states after s count (read_each states after step is keeps) kept.summed) kept)

-- ---- the images that are held

-- with another state of one handler that holds the same image, all images are the same
pub hold_one : (old new : Knowledge) (h : ℕ) (after : HandlerState) → h < length old.handlers → new.handlers ≡ set old.handlers h after → after.image ≡ (state_at old.handlers h).image → HoldSame old new
hold_one old new h after within is same k =
    ap (λ (ss : List HandlerState). (state_at ss k).image) is
    ∙ elim (cases_eq k h) [
      | inl here ↦ (
          ap (λ (m : ℕ). (state_at (set old.handlers h after) m).image) here
          ∙ ap (λ (s : HandlerState). s.image) (get_or-set_same old.handlers h after no_state within) ∙ same ∙ ap (λ (m : ℕ). (state_at old.handlers m).image) (sym here))
      | inr other ↦ ap (λ (s : HandlerState). s.image) (get_or-set_other old.handlers h k after no_state other)
    ]

-- the images that are kept are those that are held as before
pub images_same : (old new : Knowledge) (images : List (ArrayVec ℕ)) → HoldSame old new → length new.handlers ≡ length old.handlers → AreImagesOf old images → AreImagesOf new images
images_same old new images same long are =
    record { count = are.count ∙ sym long; each = λ h below. are.each h (omega (arith, long, below)) ∙ sym (same h) }

-- one of them is another one
pub images_set : (old new : Knowledge) (images : List (ArrayVec ℕ)) (h : ℕ) (after : HandlerState) (image : ArrayVec ℕ) → h < length old.handlers → new ≡ with_state old h after → after.image ≡ image
    → AreImagesOf old images → AreImagesOf new (set images h image)
images_set old new images h after image within is made are =
    let states = set old.handlers h after in
    let all : AreImagesOf (with_state old h after) (set images h image) = record {
      count = length-set images h image ∙ are.count ∙ sym (length-set old.handlers h after);
      each = λ k below. elim (cases_eq k h) [
        | inl here ↦ (
            ap (λ (m : ℕ). get_or (set images h image) m blank_image) here ∙ get_or-set_same images h image blank_image (let long = are.count in omega arith)
            ∙ sym made ∙ sym (ap (λ (s : HandlerState). s.image) (get_or-set_same old.handlers h after no_state within)) ∙ ap (λ (m : ℕ). (state_at states m).image) (sym here))
        | inr other ↦ (
            get_or-set_other images h k image blank_image other ∙ are.each k (let long = length-set old.handlers h after in omega arith)
            ∙ sym (ap (λ (s : HandlerState). s.image) (get_or-set_other old.handlers h k after no_state other)))
      ];
    } in
    subst (λ (k : Knowledge). AreImagesOf k (set images h image)) (sym is) all

-- one of as many images as a vector has is put in the place of another
pub images_put : (old new : Knowledge) (n : ℕ) (images lent : List (ArrayVec ℕ)) (h g : ℕ) (after : HandlerState) (image put : ArrayVec ℕ) → n ≡ length images → lent ≡ images → g ≡ h → h < length old.handlers
    → new ≡ with_state old h after → after.image ≡ image → put ≡ image → AreImagesOf old images → AreImagesOf new (refill n images (set lent g put))
images_put old new n images lent h g after image put long same place within is made put_is are =
    let now = set lent g put in
    let count : length now ≡ n = length-set lent g put ∙ ap (λ (xs : List (ArrayVec ℕ)). length xs) same ∙ sym long in
    let path : refill n images now ≡ set images h image =
    take_at now (drop (length now) images) n count
    ∙ ap (λ (xs : List (ArrayVec ℕ)). set xs g put) same ∙ ap (λ (k : ℕ). set images k put) place ∙ ap (set images h) put_is in
    subst (AreImagesOf new) (sym path) (images_set old new images h after image within is made are)

-- a Vector changes no image
pub hold_each : (old new : Knowledge) (versions : List ℕ) → new ≡ record old { handlers = aimed_each versions old.handlers } → HoldSame old new
hold_each old new versions is k =
    (read_each old.handlers new.handlers (λ h. aimed (get_or versions h 0)) (ap (λ (x : Knowledge). x.handlers) is) (λ h x. aimed_marks (get_or versions h 0) x) k).image

-- forgetting forgets no image
pub hold_forgotten : (old new : Knowledge) → new ≡ record old { handlers = map forgets old.handlers } → HoldSame old new
hold_forgotten old new is k = ap (λ (x : Knowledge). (state_at x.handlers k).image) is ∙ by (cases_lt k (length old.handlers))
  where
    by : (k < length old.handlers) ⊎ (length old.handlers ≤ k) → (state_at (map forgets old.handlers) k).image ≡ (state_at old.handlers k).image
    by (inl below) = ap (λ (s : HandlerState). s.image) (get_or-map forgets old.handlers k no_state no_state below)
    by (inr past) =
        ap (λ (s : HandlerState). s.image) (get_or_past (map forgets old.handlers) k no_state (omega (arith, length-map old.handlers forgets)))
        ∙ sym (ap (λ (s : HandlerState). s.image) (get_or_past old.handlers k no_state past))

-- no images are kept of handlers of which nothing is held
pub images_none : (n : ℕ) (images : List (ArrayVec ℕ)) → images ≡ map (λ (_ : ℕ). blank_image) (range_with_len 0 n) → AreImagesOf (knowledge n []) images
images_none n images are = record {
  count = ap length are ∙ length-map-range_with_len (λ (_ : ℕ). blank_image) 0 n ∙ sym (length-map-range_with_len (state_after []) 0 n);
  each = λ h below.
      let low : h < n = (let long = length-map-range_with_len (state_after []) 0 n in omega arith) in
      ap (λ (xs : List (ArrayVec ℕ)). get_or xs h blank_image) are
      ∙ get_or-map-range_with_len (λ (_ : ℕ). blank_image) 0 n h h blank_image low (omega arith)
      ∙ sym (ap (λ (s : HandlerState). s.image) (get_or-map-range_with_len (state_after []) 0 n h h no_state low (omega arith)));
}

-- ---- whether a slot is marked, handler by handler

pub marked_there : (states : List HandlerState) (h : ℕ) (s : HandlerState) → h < length states → state_at states h ≡ s → HasMark s.marks → true ≡ is_some (find (is_marked_in states) (slots_from (length states) 0))
marked_there states h s below read m =
    let within = m.within in
    let slot = 22 * h + m.place in
    let at : slot / 22 ≡ h = omega (arith, within) in
    let inside : slot % 22 ≡ m.place = omega (arith, within) in
    let here : is_marked_in states slot ≡ true =
    ap (λ (k : ℕ). get_or (state_at states k).marks (slot % 22) false) at
    ∙ ap (λ (i : ℕ). get_or (state_at states h).marks i false) inside
    ∙ ap (λ (t : HandlerState). get_or t.marks m.place false) read
    ∙ m.is in
    sym (some_at (is_marked_in states) (22 * length states) slot (omega (arith, within, below)) here)

pub marked_nowhere : (states : List HandlerState) (n : ℕ) → length states ≤ n → ((h : ℕ) → h < n → HasNoMark (state_at states h).marks) → false ≡ is_some (find (is_marked_in states) (slots_from (length states) 0))
marked_nowhere states n all none =
    sym (ap is_some (find_none (is_marked_in states) 0 (22 * length states - 0) (λ k low high. none (k / 22) (omega (arith, all)) (k % 22) (omega arith))))

pub none_marked_more : (states : List HandlerState) (n : ℕ) (s : HandlerState) → state_at states n ≡ s → HasNoMark s.marks → ((h : ℕ) → h < n → HasNoMark (state_at states h).marks) → (h : ℕ) → h < n + 1 → HasNoMark (state_at states h).marks
none_marked_more states n s read none before h below = by (cases_lt h n) where
  by : (h < n) ⊎ (n ≤ h) → HasNoMark (state_at states h).marks
  by (inl lower) = before h lower
  by (inr here) =
      let same : n ≡ h = omega arith in
      λ place within. ap (λ (k : ℕ). get_or (state_at states k).marks place false) (sym same) ∙ ap (λ (t : HandlerState). get_or t.marks place false) read ∙ none place within
