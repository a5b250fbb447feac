-- What a node answers, computed from its states, is what looking back over the happenings gives.
use Rattle.std.proofs.Common.{add-one, ◌≡◌, ℕ, zero, suc, ◌+◌, ◌-◌, ◌*◌, ◌/◌, ◌%◌, ◌^◌, ◌<◌, ◌≤◌, Bool, true, false, cond, ltb, ◌↔◌, List, [], ◌∷◌, length, map, set, get_or, take, Option, Some, None, refl, sym, ap, ◌∙◌, subst, arith, inl, inr}
use Rattle.std.specs.Prelude.{IfSome, IsTrue, All, is_some, is_none}
use Rattle.std.specs.List.{filter, find, list_any, list_all, flat_map, range_with_len}
use Rattle.std.specs.Option.{option_or}
use Rattle.std.proofs.Math.Pow.{pow_mono}
use Rattle.std.proofs.lemmas.Bool.{cases_Bool, cases_eq, ltb-true, ltb-false, lt-ltb}
use Rattle.std.proofs.lemmas.Grind.{common_steps}
use Rattle.std.proofs.lemmas.List.{get_or_read, append-nil}
use Rattle.std.proofs.lemmas.List.Elements.{All-get_or, All-from_get_or, All-map, All-filter, filter_passes}
use Rattle.std.proofs.lemmas.List.Sums.{list_all-from_AllPass}
use Rattle.std.proofs.lemmas.List.FromFn.{length-range_with_len, get_or-range_with_len, length-map-range_with_len}
use Rattle.arrayvec.specs.ArrayVec.{ArrayVec}
use Rattle.mate_num.specs.declared.id.HandlerId.{HandlerId}
use Rattle.packet_codec.specs.declared.packet.Packet.{Packet}
use Rattle.packet_codec.specs.declared.packet.Packet.TheVariants.{Vector, Status, Fragment}
use Rattle.packet_codec.specs.Packet.{IsRightPacket}
use Rattle.capsule_exchange.specs.declared.handler_state.HandlerState.{HandlerState}
use Rattle.capsule_exchange.specs.Table.{table}
use Rattle.capsule_exchange.specs.Happenings.{Happening, Hears, Sends, TargetFragment, held_version, held_versions, version_in, target_version, target_parts, collected_at, limit_of, places_of, gaps, whole, piece_bytes, collected_image, complete_version, mask_of, ask_for, asks_after, completed_by, IsOpen, is_marked, is_marked_slot, last_sent, next_place, slots_from, next_slot, fragment_of, fragment_for}
use Rattle.capsule_exchange.specs.Knowledge.{Knowledge, collected_form, state_after, knowledge, with_state, Learns, Judges}
use Rattle.capsule_exchange.specs.Sound.{IsSoundState, AreSound}
use Rattle.capsule_exchange.specs.Steps.{no_state, limit_in, places_in, image_held, complete_in, completes_in, ask_in, after_sending, state_at, aimed_each, asks_upto, is_marked_in, next_in, fragment_in}
use Rattle.capsule_exchange.proofs.TableLemmas.{set_value, table_at, take-table}
use Rattle.capsule_exchange.proofs.MaskLemmas.{mask_upto, mask_push}
use Rattle.capsule_exchange.proofs.SlotLemmas.{find_same, is_some-find, some_passes}
use Rattle.capsule_exchange.proofs.CollectLemmas.{is_newer, target_next, parts_newer, parts_same}
use Rattle.capsule_exchange.proofs.StateLemmas.{sends_state, sends_other}
use Rattle.capsule_exchange.proofs.KnowledgeLemmas.{states_after, state_at-states, handler_count, map-map, vector_learned}

-- ---- the versions held

abbrev held_in : Knowledge → List ℕ
held_in k = map (λ (s : HandlerState). s.held) k.handlers

held_is : (old : Knowledge) (n : ℕ) (hs : List Happening) → old ≡ knowledge n hs → held_in old ≡ held_versions n hs
held_is old n hs was = ap held_in was ∙ map-map (λ (s : HandlerState). s.held) (state_after hs) (range_with_len 0 n)

pub vector_judged : (old : Knowledge) (versions : ArrayVec ℕ) (consistent : Bool) → IsTrue consistent ↔ (versions.items ≡ held_in old)
    → (n : ℕ) (before : List Happening) → old ≡ knowledge n before → Judges n (Vector versions) before (Some consistent)
vector_judged old versions consistent is n before was = subst (λ (held : List ℕ). IsTrue consistent ↔ (versions.items ≡ held)) (held_is old n before was) is

pub vector_told : (old : Knowledge) (versions : ArrayVec ℕ) → versions.items ≡ held_in old → (n : ℕ) (hs : List Happening) → old ≡ knowledge n hs → Vector versions ≡ Vector (record { items = held_versions n hs })
vector_told old versions is n hs was = ap (λ (vs : List ℕ). Vector (record { items = vs })) (is ∙ held_is old n hs was)

-- ---- what is collected

limit_is : (parts : List TargetFragment) → limit_in (collected_form parts) ≡ limit_of parts
limit_is [] = refl
limit_is (first ∷ parts) = refl

limit_few : (parts : List TargetFragment) → IfSome (collected_form parts) (λ form. form.count ≤ 22) → limit_of parts ≤ 22
limit_few [] few = omega arith
limit_few (first ∷ parts) few = few

places_is : (h : ℕ) (hs : List Happening) → IsSoundState (state_after hs h) → places_in (state_after hs h) ≡ places_of (target_parts h hs)
places_is h hs sound =
    let parts = target_parts h hs in
    ap (λ (n : ℕ). take n (table (collected_at parts))) (limit_is parts) ∙ take-table (collected_at parts) (limit_of parts) (limit_few parts sound.few)

image_is : (h : ℕ) (hs : List Happening) → IsSoundState (state_after hs h) → image_held (state_after hs h) ≡ collected_image h hs
image_is h hs sound = ap whole (places_is h hs sound)

complete_is : (h : ℕ) (hs : List Happening) → IsSoundState (state_after hs h) → complete_in (state_after hs h) ≡ complete_version h hs
complete_is h hs sound = ap (λ (o : Option (ArrayVec ℕ)). cond (is_some o) (target_version h hs) 0) (image_is h hs sound)

-- the state of one handler is sound where all are
sound_after : (old : Knowledge) (n : ℕ) (hs : List Happening) (h : ℕ) → old ≡ knowledge n hs → AreSound old.handlers → h < n → IsSoundState (state_after hs h)
sound_after old n hs h was sound within =
    let P : Knowledge → Type 0 = λ k. AreSound k.handlers in
    let all : AreSound (states_after n hs) = subst P was sound in
    subst IsSoundState (state_at-states n hs h within) (All-get_or IsSoundState (states_after n hs) h no_state (omega (arith, length-map-range_with_len (state_after hs) 0 n)) all)

pub collected_is : (old : Knowledge) (h : ℕ) (state : HandlerState) (image : Option (ArrayVec ℕ)) → AreSound old.handlers → h < length old.handlers → state ≡ get_or old.handlers h state → image ≡ image_held state
    → (n : ℕ) (hs : List Happening) → old ≡ knowledge n hs → image ≡ collected_image h hs
collected_is old h state image sound within read is n hs was =
    let count = handler_count old n hs was in
    let inside : h < n = omega arith in
    let here : state ≡ state_after hs h = get_or_read old.handlers h state within read no_state ∙ ap (λ (k : Knowledge). state_at k.handlers h) was ∙ state_at-states n hs h inside in
    is ∙ ap image_held here ∙ image_is h hs (sound_after old n hs h was sound inside)

pub completed_is : (old new : Knowledge) (g : HandlerId) (version index count : ℕ) (large : Bool) (bytes : ArrayVec ℕ) (complete : Option HandlerId) → g.0 < length old.handlers → AreSound old.handlers → AreSound new.handlers
    → Learns old (Hears (Fragment g version index count large bytes)) new → complete ≡ completes_in g (state_at old.handlers g.0) (state_at new.handlers g.0)
    → (n : ℕ) (before : List Happening) → old ≡ knowledge n before → complete ≡ completed_by (Fragment g version index count large bytes) before
completed_is old new g version index count large bytes complete within sound_before sound learned is n before was =
    let handlers = handler_count old n before was in
    let inside : g.0 < n = omega arith in
    let hs = Hears (Fragment g version index count large bytes) ∷ before in
    let now = learned n before was in
    let first : complete_in (state_at old.handlers g.0) ≡ complete_version g.0 before =
    ap (λ (k : Knowledge). complete_in (state_at k.handlers g.0)) was ∙ ap complete_in (state_at-states n before g.0 inside) ∙ complete_is g.0 before (sound_after old n before g.0 was sound_before inside) in
    let then : complete_in (state_at new.handlers g.0) ≡ complete_version g.0 hs =
    ap (λ (k : Knowledge). complete_in (state_at k.handlers g.0)) now ∙ ap complete_in (state_at-states n hs g.0 inside) ∙ complete_is g.0 hs (sound_after new n hs g.0 now sound inside) in
    is ∙ ap (λ (v : ℕ). cond (ltb v (complete_in (state_at new.handlers g.0))) (Some g) None) first ∙ ap (λ (v : ℕ). cond (ltb (complete_version g.0 before) v) (Some g) None) then

-- ---- requests

-- what two tests and two functions that agree on a range pick from it
picks_same : (p q : ℕ → Bool) (f g : ℕ → Packet) (a n : ℕ) → ((k : ℕ) → a ≤ k → k < a + n → (p k ≡ q k) × (f k ≡ g k)) → map f (filter p (range_with_len a n)) ≡ map g (filter q (range_with_len a n))
picks_same p q f g a zero same = refl
picks_same p q f g a (suc n) same =
    let here = same a (omega arith) (omega arith) in
    let rest = picks_same p q f g (a + 1) n (λ k low high. same k (omega arith) (omega arith)) in
    pick (p a) (q a) here.0 (filter p (range_with_len (a + 1) n)) (filter q (range_with_len (a + 1) n)) rest here.1
  where
    pick : (b c : Bool) → b ≡ c → (xs ys : List ℕ) → map f xs ≡ map g ys → f a ≡ g a → map f (cond b (a ∷ xs) xs) ≡ map g (cond c (a ∷ ys) ys)
    pick true true _ xs ys rest one = cc
    pick false false _ xs ys rest one = rest
    pick true false e xs ys rest one = absurd cc
    pick false true e xs ys rest one = absurd cc

asks_is : (n : ℕ) (versions : ArrayVec ℕ) (before : List Happening) → ((h : ℕ) → h < n → IsSoundState (state_after (Hears (Vector versions) ∷ before) h))
    → asks_upto versions.items (states_after n (Hears (Vector versions) ∷ before)) n ≡ asks_after n (Vector versions) before
asks_is n versions before sound =
    let hs = Hears (Vector versions) ∷ before in
    let states = states_after n hs in
    picks_same
    (λ (h : ℕ). ltb (state_at states h).held (get_or versions.items h 0))
    (λ (h : ℕ). ltb (held_version h before) (get_or versions.items h 0))
    (λ (h : ℕ). ask_in (record { 0 = h }) (state_at states h))
    (ask_for hs)
    0 n (λ h low high.
    let within : h < n = omega arith in
    let here = state_at-states n hs h within in (
      ap (λ (s : HandlerState). ltb s.held (get_or versions.items h 0)) here,
      ap (ask_in (record { 0 = h })) here ∙ ap (λ (ps : List (Option (ArrayVec ℕ))). Status (record { 0 = h }) (target_version h hs) (mask_of (gaps ps))) (places_is h hs (sound h within)),
    ))

pub vector_asks : (old new : Knowledge) (versions : ArrayVec ℕ) (asks : List Packet) → new ≡ record old { handlers = aimed_each versions.items old.handlers } → AreSound new.handlers
    → asks ≡ asks_upto versions.items new.handlers (length new.handlers) → (n : ℕ) (before : List Happening) → old ≡ knowledge n before → asks ≡ asks_after n (Vector versions) before
vector_asks old new versions asks aimed sound is n before was =
    let hs = Hears (Vector versions) ∷ before in
    let now = vector_learned old new versions aimed n before was in
    let count = handler_count new n hs now in
    is
    ∙ ap (asks_upto versions.items new.handlers) count
    ∙ ap (λ (k : Knowledge). asks_upto versions.items k.handlers n) now
    ∙ asks_is n versions before (λ h within. sound_after new n hs h now sound within)

-- ---- requests are right

pub mask_high : (places : List (Option (ArrayVec ℕ))) (n : ℕ) → mask_upto places n < 2 ^ n
mask_high places zero = omega arith
mask_high places (suc n) =
    let below = mask_high places n in
    let step : mask_upto places (n + 1) ≡ mask_upto places n + cond (is_none (get_or places n None)) (2 ^ n) 0 = mask_push (λ (k : ℕ). is_none (get_or places k None)) n in
    let bit : cond (is_none (get_or places n None)) (2 ^ n) 0 ≤ 2 ^ n = cond_below (is_none (get_or places n None)) in
    let more : 2 ^ (n + 1) ≡ 2 ^ n + 2 ^ n = grind (arith, common_steps) in
    let next : mask_upto places (n + 1) < 2 ^ (n + 1) = omega arith in
    subst (λ (m : ℕ). mask_upto places m < 2 ^ m) (add-one n) next
  where
    cond_below : (b : Bool) → cond b (2 ^ n) 0 ≤ 2 ^ n
    cond_below true = omega arith
    cond_below false = omega arith

-- where no bit is set, each piece is there
all_there : (places : List (Option (ArrayVec ℕ))) (n : ℕ) → mask_upto places n ≡ 0 → (k : ℕ) → k < n → is_some (get_or places k None) ≡ true
all_there places zero none k below = absurd (omega arith)
all_there places (suc n) none k below =
    let step : mask_upto places (n + 1) ≡ mask_upto places n + cond (is_none (get_or places n None)) (2 ^ n) 0 = mask_push (λ (k : ℕ). is_none (get_or places k None)) n in
    let zero_then : mask_upto places (n + 1) ≡ 0 = ap (mask_upto places) (add-one n) ∙ none in
    let first : mask_upto places n ≡ 0 = omega arith in
    let bit : cond (is_none (get_or places n None)) (2 ^ n) 0 ≡ 0 = omega arith in
    elim (cases_eq k n) [
      | inl same ↦ (let here = there (get_or places n None) bit in cc)
      | inr other ↦ all_there places n first k (omega arith)
    ]
  where
    there : (place : Option (ArrayVec ℕ)) → cond (is_none place) (2 ^ n) 0 ≡ 0 → is_some place ≡ true
    there (Some piece) bit = refl
    there None bit = (let some : 1 ≤ 2 ^ n = pow_mono {i = 0} {j = n} (omega arith) in absurd (omega arith))

-- an image that isn't whole lacks a piece
lacks : (places : List (Option (ArrayVec ℕ))) → whole places ≡ None → 1 ≤ mask_of (gaps places)
lacks places open_ = elim (cases_eq (mask_of (gaps places)) 0) [
  | inr some ↦ omega arith
  | inl none ↦ (
      let all : list_all is_some places ≡ true = list_all-from_AllPass is_some places (All-from_get_or (λ (o : Option (ArrayVec ℕ)). is_some o ≡ true) places None (λ i below. all_there places (length places) none i below)) in
      let made : whole places ≡ Some (record { items = flat_map piece_bytes places }) = rw all refl in
      absurd cc)
]

-- what is collected of a handler when a Vector was heard isn't whole where it wasn't before
still_open : (h : ℕ) (versions : ArrayVec ℕ) (before : List Happening) → collected_image h before ≡ None → collected_image h (Hears (Vector versions) ∷ before) ≡ None
still_open h versions before open_ =
    elim (cases_Bool (is_newer h before (version_in h (Vector versions)))) [
      | inl newer ↦ ap (λ (ps : List TargetFragment). whole (places_of ps)) (parts_newer h (Vector versions) before newer)
      | inr older ↦ ap (λ (ps : List TargetFragment). whole (places_of ps)) (parts_same h (Vector versions) before older ∙ append-nil (target_parts h before)) ∙ open_
    ]

-- the target is a version where a greater one than the held was heard
some_target : (h : ℕ) (versions : ArrayVec ℕ) (before : List Happening) → held_version h before < version_in h (Vector versions) → 1 ≤ target_version h (Hears (Vector versions) ∷ before)
some_target h versions before over =
    let next = target_next h (Vector versions) before in
    let held = lt-ltb _ _ over in
    elim (cases_Bool (ltb (target_version h before) (version_in h (Vector versions)))) [
      | inl newer ↦ (let to : target_version h (Hears (Vector versions) ∷ before) ≡ version_in h (Vector versions) = next ∙ rw (held, newer) refl in omega arith)
      | inr older ↦ (
          let to : target_version h (Hears (Vector versions) ∷ before) ≡ target_version h before = next ∙ rw (held, older) refl in
          let low = ltb-false _ _ older in
          omega arith)
    ]

ask_right : (n h : ℕ) (versions : ArrayVec ℕ) (before : List Happening) → h < n → IsSoundState (state_after (Hears (Vector versions) ∷ before) h) → collected_image h before ≡ None
    → ltb (held_version h before) (version_in h (Vector versions)) ≡ true → IsRightPacket n (ask_for (Hears (Vector versions) ∷ before) h)
ask_right n h versions before within sound open_ over =
    let hs = Hears (Vector versions) ∷ before in
    let places = places_of (target_parts h hs) in
    let few : length places ≤ 22 = omega (arith, length-map-range_with_len (collected_at (target_parts h hs)) 0 (limit_of (target_parts h hs)), limit_few (target_parts h hs) sound.few) in
    record {
      handler_high = within;
      version_low = some_target h versions before (ltb-true _ _ over);
      missing_low = lacks places (still_open h versions before open_);
      missing_high = (let high = mask_high places (length places) in omega (arith, pow_mono {i = length places} {j = 22} few));
    }

pub asks_right : (old new : Knowledge) (versions : ArrayVec ℕ) (asks : List Packet) → new ≡ record old { handlers = aimed_each versions.items old.handlers } → AreSound new.handlers
    → asks ≡ asks_upto versions.items new.handlers (length new.handlers) → (n : ℕ) (before : List Happening) → old ≡ knowledge n before → IsOpen n before → All (IsRightPacket n) asks
asks_right old new versions asks aimed sound is n before was open_ =
    let hs = Hears (Vector versions) ∷ before in
    let now = vector_learned old new versions aimed n before was in
    let over = λ (h : ℕ). ltb (held_version h before) (get_or versions.items h 0) in
    let within : All (λ (h : ℕ). h < n) (range_with_len 0 n) = All-from_get_or (λ (h : ℕ). h < n) (range_with_len 0 n) 0 (λ i below.
    let at : get_or (range_with_len 0 n) i 0 ≡ 0 + i = get_or-range_with_len 0 n i 0 (omega (arith, length-range_with_len 0 n)) in
    omega (arith, length-range_with_len 0 n)) in
    let passing = filter_passes over (range_with_len 0 n) in
    let inside = All-filter over (λ (h : ℕ). h < n) (range_with_len 0 n) within in
    let all : All (IsRightPacket n) (asks_after n (Vector versions) before) = All-map (IsRightPacket n) (ask_for hs) (filter over (range_with_len 0 n)) (λ k d below.
    let h = get_or (filter over (range_with_len 0 n)) k d in
    ask_right n h versions before (inside k d below) (sound_after new n hs h now sound (inside k d below)) (open_ h (inside k d below)) (passing k d below)) in
    subst (All (IsRightPacket n)) (sym (vector_asks old new versions asks aimed sound is n before was)) all

-- ---- what is owed

marked_is : (n : ℕ) (hs : List Happening) (slot : ℕ) → slot < 22 * n → is_marked_in (states_after n hs) slot ≡ is_marked_slot hs slot
marked_is n hs slot within =
    ap (λ (s : HandlerState). get_or s.marks (slot % 22) false) (state_at-states n hs (slot / 22) (omega arith))
    ∙ table_at (λ (i : ℕ). is_marked (slot / 22) i hs) (slot % 22) false (omega arith)

first_is : (n : ℕ) (hs : List Happening) (first : ℕ) → find (is_marked_in (states_after n hs)) (slots_from n first) ≡ find (is_marked_slot hs) (slots_from n first)
first_is n hs first = find_same (is_marked_in (states_after n hs)) (is_marked_slot hs) first (22 * n - first) (λ slot low high. marked_is n hs slot (omega arith))

-- the search over the states of what is known
found_is : (old : Knowledge) (n : ℕ) (hs : List Happening) (first : ℕ) → old ≡ knowledge n hs → find (is_marked_in old.handlers) (slots_from (length old.handlers) first) ≡ find (is_marked_slot hs) (slots_from n first)
found_is old n hs first was =
    ap (λ (m : ℕ). find (is_marked_in old.handlers) (slots_from m first)) (handler_count old n hs was)
    ∙ ap (λ (k : Knowledge). find (is_marked_in k.handlers) (slots_from n first)) was
    ∙ first_is n hs first

pub any_is : (old : Knowledge) (found : Option ℕ) (any : Bool) → found ≡ find (is_marked_in old.handlers) (slots_from (length old.handlers) 0) → any ≡ is_some found
    → (n : ℕ) (hs : List Happening) → old ≡ knowledge n hs → any ≡ list_any (is_marked_slot hs) (slots_from n 0)
any_is old found any is some n hs was = some ∙ ap is_some (is ∙ found_is old n hs 0 was) ∙ is_some-find (is_marked_slot hs) (slots_from n 0)

pub next_is : (old : Knowledge) (slot : Option ℕ) → slot ≡ next_in old.handlers old.last → (n : ℕ) (hs : List Happening) → old ≡ knowledge n hs → slot ≡ next_slot n hs
next_is old slot is n hs was =
    is
    ∙ ap (λ (o : Option ℕ). option_or o (find (is_marked_in old.handlers) (slots_from (length old.handlers) 0))) (found_is old n hs (next_place old.last) was)
    ∙ ap (λ (o : Option ℕ). option_or (find (is_marked_slot hs) (slots_from n (next_place old.last))) o) (found_is old n hs 0 was)
    ∙ ap (λ (k : Knowledge). option_or (find (is_marked_slot hs) (slots_from n (next_place k.last))) (find (is_marked_slot hs) (slots_from n 0))) was

pub next_some : (n : ℕ) (hs : List Happening) → is_some (next_slot n hs) ≡ list_any (is_marked_slot hs) (slots_from n 0)
next_some n hs = some_passes (is_marked_slot hs) (next_place (last_sent hs)) (22 * n)

pub sent_learned : (old new : Knowledge) (slot : ℕ) → slot < 22 * length old.handlers
    → new ≡ record (with_state old (slot / 22) (after_sending (slot % 22) (state_at old.handlers (slot / 22)))) { last = Some slot }
    → (n : ℕ) (before : List Happening) → old ≡ knowledge n before → new ≡ knowledge n (Sends slot ∷ before)
sent_learned old new slot within is n before was =
    let count = handler_count old n before was in
    let h = slot / 22 in
    let inside : h < n = omega arith in
    let states = states_after n before in
    let value : after_sending (slot % 22) (state_at states h) ≡ state_after (Sends slot ∷ before) h = ap (after_sending (slot % 22)) (state_at-states n before h inside) ∙ sym (sends_state slot before) in
    let set_it : set states h (state_after (Sends slot ∷ before) h) ≡ states_after n (Sends slot ∷ before) =
    set_value (state_after before) (state_after (Sends slot ∷ before)) n h inside (λ k below differs. sym (sends_other k slot before differs)) in
    is
    ∙ ap (λ (k : Knowledge). record (with_state k h (after_sending (slot % 22) (state_at k.handlers h))) { last = Some slot }) was
    ∙ ap (λ (s : HandlerState). record { handlers = set states h s; last = Some slot }) value
    ∙ ap (λ (ss : List HandlerState). record { handlers = ss; last = Some slot }) set_it

pub fragment_is : (old : Knowledge) (slot : ℕ) (packet : Packet) → slot < 22 * length old.handlers → packet ≡ fragment_in old.handlers slot
    → (n : ℕ) (before : List Happening) → old ≡ knowledge n before → packet ≡ fragment_for before slot
fragment_is old slot packet within is n before was =
    let count = handler_count old n before was in
    is
    ∙ ap (λ (k : Knowledge). fragment_in k.handlers slot) was
    ∙ ap (λ (s : HandlerState). fragment_of (slot / 22) s.held s.image.items (slot % 22)) (state_at-states n before (slot / 22) (omega arith))
