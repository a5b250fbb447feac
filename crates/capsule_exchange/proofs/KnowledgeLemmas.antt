-- What a node knows after one more happening, over all its handlers, and what it answers.
use Rattle.std.proofs.Common.{◌≡◌, ℕ, ◌+◌, ◌<◌, ◌≤◌, Bool, true, false, cond, ltb, List, [], ◌∷◌, ◌++◌, length, map, set, get_or, Option, ℤ, refl, sym, ap, ◌∙◌, arith}
use Rattle.std.specs.List.{filter, range_with_len, refill}
use Rattle.std.proofs.lemmas.List.{map-append, get_or_read, get_or_default, length-set, length-map}
use Rattle.std.proofs.lemmas.List.FromFn.{length-map-range_with_len, get_or-map-range_with_len}
use Rattle.arrayvec.specs.ArrayVec.{ArrayVec}
use Rattle.mate_num.specs.declared.id.HandlerId.{HandlerId}
use Rattle.packet_codec.specs.declared.packet.Packet.{Packet}
use Rattle.packet_codec.specs.declared.packet.Packet.TheVariants.{Vector, Status, Fragment, App}
use Rattle.capsule_exchange.specs.declared.handler_state.HandlerState.{HandlerState}
use Rattle.capsule_exchange.specs.Happenings.{Happening, Hears, Installs, Forgets, held_version, last_sent}
use Rattle.capsule_exchange.specs.Knowledge.{Knowledge, state_after, knowledge, with_state, held_of, Learns}
use Rattle.capsule_exchange.specs.Steps.{no_state, aimed, hears_fragment, hears_status, forgets, installs, ask_in, state_at, aimed_each, asks_upto}
use Rattle.capsule_exchange.proofs.TableLemmas.{same_values, set_value}
use Rattle.capsule_exchange.proofs.MaskLemmas.{filter_push}
use Rattle.capsule_exchange.proofs.SoundLemmas.{put_back}
use Rattle.capsule_exchange.proofs.StateLemmas.{vector_state, app_state, status_state, status_other, fragment_state, fragment_other, installs_state, installs_other}

-- ---- requests, one handler after another

mapped_one : (f : ℕ → Packet) (b : Bool) (h : ℕ) → map f (cond b (h ∷ []) []) ≡ cond b (f h ∷ []) []
mapped_one f true h = refl
mapped_one f false h = refl

pub asks_next : (versions : List ℕ) (states : List HandlerState) (h : ℕ) (state : HandlerState) (b : Bool) → h < length states → state ≡ get_or states h state → ltb state.held (get_or versions h 0) ≡ b
    → asks_upto versions states (h + 1) ≡ asks_upto versions states h ++ cond b (ask_in (record { 0 = h }) state ∷ []) []
asks_next versions states h state b within read is =
    let f = λ (k : ℕ). ask_in (record { 0 = k }) (state_at states k) in
    let p = λ (k : ℕ). ltb (state_at states k).held (get_or versions k 0) in
    let here : state_at states h ≡ state = sym (get_or_read states h state within read no_state) in
    let passes : p h ≡ b = ap (λ (s : HandlerState). ltb s.held (get_or versions h 0)) here ∙ is in
    ap (map f) (filter_push p h)
    ∙ map-append f (filter p (range_with_len 0 h)) (cond (p h) (h ∷ []) [])
    ∙ ap (λ (ps : List Packet). asks_upto versions states h ++ ps) (mapped_one f (p h) h ∙ ap (λ (c : Bool). cond c (f h ∷ []) []) passes ∙ ap (λ (s : HandlerState). cond b (ask_in (record { 0 = h }) s ∷ []) []) here)

-- ---- the states of n handlers

abbrev pub states_after : ℕ → List Happening → List HandlerState
states_after n hs = map (state_after hs) (range_with_len 0 n)

length-states : (n : ℕ) (hs : List Happening) → length (states_after n hs) ≡ n
length-states n hs = length-map-range_with_len (state_after hs) 0 n

pub state_at-states : (n : ℕ) (hs : List Happening) (h : ℕ) → h < n → state_at (states_after n hs) h ≡ state_after hs h
state_at-states n hs h within = get_or-map-range_with_len (state_after hs) 0 n h h no_state within (omega arith)

-- how many handlers there are
pub handler_count : (old : Knowledge) (n : ℕ) (hs : List Happening) → old ≡ knowledge n hs → length old.handlers ≡ n
handler_count old n hs is = ap (λ (k : Knowledge). length k.handlers) is ∙ length-states n hs

pub held_of-knowledge : (n : ℕ) (hs : List Happening) (handler : HandlerId) → handler.0 < n → held_of (knowledge n hs) handler ≡ held_version handler.0 hs
held_of-knowledge n hs handler within = ap (λ (s : HandlerState). s.held) (state_at-states n hs handler.0 within)

pub held_is : (k : Knowledge) (handler : HandlerId) (state : HandlerState) → handler.0 < length k.handlers → state ≡ get_or k.handlers handler.0 state
    → (n : ℕ) (hs : List Happening) → k ≡ knowledge n hs → state.held ≡ held_version handler.0 hs
held_is k handler state within read n hs was =
    let count = handler_count k n hs was in
    ap (λ (s : HandlerState). s.held) (get_or_read k.handlers handler.0 state within read no_state)
    ∙ ap (λ (j : Knowledge). held_of j handler) was
    ∙ held_of-knowledge n hs handler (omega arith)

-- ---- writes to the states

pub wrote_one : (old : Knowledge) (states lent : List HandlerState) (last : Option ℕ) (h g : ℕ) (d after : HandlerState) (step : HandlerState → HandlerState)
    → record { handlers = states; last = last } ≡ old → lent ≡ states → h ≡ g → h < length states → after ≡ step (get_or lent h d)
    → record { handlers = refill (length states) states (set lent h after); last = last } ≡ with_state old g (step (state_at old.handlers g))
wrote_one old states lent last h g d after step view same place within is =
    let value : after ≡ step (state_at states h) = is ∙ ap (λ (ss : List HandlerState). step (get_or ss h d)) same ∙ ap step (get_or_default states h d no_state within) in
    let states_now : set lent h after ≡ set states g (step (state_at states g)) =
    ap (λ (ss : List HandlerState). set ss h after) same
    ∙ ap (set states h) value
    ∙ ap (λ (k : ℕ). set states k (step (state_at states k))) place in
    put_back (λ (ss : List HandlerState). record { handlers = ss; last = last } ≡ with_state old g (step (state_at old.handlers g))) states (set lent h after)
    (length-set lent h after ∙ ap (λ (ss : List HandlerState). length ss) same)
    (ap (λ (ss : List HandlerState). record { handlers = ss; last = last }) states_now ∙ ap (λ (k : Knowledge). with_state k g (step (state_at k.handlers g))) view)

pub wrote_all : (old : Knowledge) (states lent after : List HandlerState) (last : Option ℕ) (step : HandlerState → HandlerState)
    → record { handlers = states; last = last } ≡ old → lent ≡ states → after ≡ map step lent
    → record { handlers = refill (length states) states after; last = last } ≡ record old { handlers = map step old.handlers }
wrote_all old states lent after last step view same is =
    let value : after ≡ map step states = is ∙ ap (map step) same in
    put_back (λ (ss : List HandlerState). record { handlers = ss; last = last } ≡ record old { handlers = map step old.handlers }) states after
    (ap (λ (ss : List HandlerState). length ss) value ∙ length-map states step)
    (ap (λ (ss : List HandlerState). record { handlers = ss; last = last }) value ∙ ap (λ (k : Knowledge). record k { handlers = map step k.handlers }) view)

-- ---- a happening that changes one handler's state

pub changes_one : (old new : Knowledge) (g : ℕ) (step : HandlerState → HandlerState) (happening : Happening) → g < length old.handlers
    → new ≡ with_state old g (step (state_at old.handlers g))
    → ((hs : List Happening) → state_after (happening ∷ hs) g ≡ step (state_after hs g))
    → ((h : ℕ) (hs : List Happening) → (g ≡ h → ⊥) → state_after (happening ∷ hs) h ≡ state_after hs h)
    → ((hs : List Happening) → last_sent (happening ∷ hs) ≡ last_sent hs)
    → Learns old happening new
changes_one old new g step happening within is own others last n before was =
    let handlers = handler_count old n before was in
    let inside : g < n = omega arith in
    let states = states_after n before in
    let value : step (state_at states g) ≡ state_after (happening ∷ before) g = ap step (state_at-states n before g inside) ∙ sym (own before) in
    let set_it : set states g (state_after (happening ∷ before) g) ≡ states_after n (happening ∷ before) =
    set_value (state_after before) (state_after (happening ∷ before)) n g inside (λ k below differs. sym (others k before (λ same. differs (sym same)))) in
    is
    ∙ ap (λ (k : Knowledge). with_state k g (step (state_at k.handlers g))) was
    ∙ ap (λ (s : HandlerState). with_state (knowledge n before) g s) value
    ∙ ap (λ (ss : List HandlerState). record { handlers = ss; last = last_sent before }) set_it
    ∙ ap (λ (o : Option ℕ). record { handlers = states_after n (happening ∷ before); last = o }) (sym (last before))

pub status_learned : (old new : Knowledge) (g : HandlerId) (version missing : ℕ) → g.0 < length old.handlers
    → new ≡ with_state old g.0 (hears_status version missing (state_at old.handlers g.0)) → Learns old (Hears (Status g version missing)) new
status_learned old new g version missing within is =
    changes_one old new g.0 (hears_status version missing) (Hears (Status g version missing)) within is
    (status_state g version missing) (λ h hs. status_other h g version missing hs) (λ hs. refl)

pub fragment_learned : (old new : Knowledge) (g : HandlerId) (version index count : ℕ) (large : Bool) (bytes : ArrayVec ℕ) → g.0 < length old.handlers → 1 ≤ version → index < 22
    → new ≡ with_state old g.0 (hears_fragment version index (record { count = count; large = large }) bytes (state_at old.handlers g.0))
    → Learns old (Hears (Fragment g version index count large bytes)) new
fragment_learned old new g version index count large bytes within some low is =
    changes_one old new g.0 (hears_fragment version index (record { count = count; large = large }) bytes) (Hears (Fragment g version index count large bytes)) within is
    (λ hs. fragment_state g version index count large bytes hs some low) (λ h hs. fragment_other h g version index count large bytes hs) (λ hs. refl)

pub install_learned : (old new : Knowledge) (h version : ℕ) (image : ArrayVec ℕ) → h < length old.handlers
    → new ≡ with_state old h (installs version image (state_at old.handlers h)) → Learns old (Installs h version image.items) new
install_learned old new h version image within is =
    changes_one old new h (installs version image) (Installs h version image.items) within is
    (installs_state h version image) (λ k hs. installs_other k h version image.items hs) (λ hs. refl)

-- ---- a happening that changes all states, or none

pub changes_all : (old new : Knowledge) (step : ℕ → HandlerState → HandlerState) (happening : Happening)
    → new ≡ record old { handlers = map (λ (h : ℕ). step h (state_at old.handlers h)) (range_with_len 0 (length old.handlers)) }
    → ((h : ℕ) (hs : List Happening) → state_after (happening ∷ hs) h ≡ step h (state_after hs h))
    → ((hs : List Happening) → last_sent (happening ∷ hs) ≡ last_sent hs)
    → Learns old happening new
changes_all old new step happening is each last n before was =
    let states = states_after n before in
    let values : map (λ (h : ℕ). step h (state_at states h)) (range_with_len 0 n) ≡ states_after n (happening ∷ before) =
    same_values (λ (h : ℕ). step h (state_at states h)) (state_after (happening ∷ before)) n (λ h below. ap (step h) (state_at-states n before h below) ∙ sym (each h before)) in
    is
    ∙ ap (λ (k : Knowledge). record k { handlers = map (λ (h : ℕ). step h (state_at k.handlers h)) (range_with_len 0 (length k.handlers)) }) was
    ∙ ap (λ (m : ℕ). record { handlers = map (λ (h : ℕ). step h (state_at states h)) (range_with_len 0 m); last = last_sent before }) (length-states n before)
    ∙ ap (λ (ss : List HandlerState). record { handlers = ss; last = last_sent before }) values
    ∙ ap (λ (o : Option ℕ). record { handlers = states_after n (happening ∷ before); last = o }) (sym (last before))

pub length-aimed_each : (versions : List ℕ) (states : List HandlerState) → length (aimed_each versions states) ≡ length states
length-aimed_each versions states = length-map-range_with_len (λ (h : ℕ). aimed (get_or versions h 0) (state_at states h)) 0 (length states)

pub vector_learned : (old new : Knowledge) (versions : ArrayVec ℕ) → new ≡ record old { handlers = aimed_each versions.items old.handlers } → Learns old (Hears (Vector versions)) new
vector_learned old new versions is =
    changes_all old new (λ h. aimed (get_or versions.items h 0)) (Hears (Vector versions)) is (λ h hs. vector_state h versions hs) (λ hs. refl)

states_same : (old : Knowledge) (n : ℕ) (before : List Happening) (happening : Happening) → old ≡ knowledge n before
    → ((h : ℕ) → state_after (happening ∷ before) h ≡ state_after before h) → last_sent (happening ∷ before) ≡ last_sent before → old ≡ knowledge n (happening ∷ before)
states_same old n before happening was each last =
    was
    ∙ ap (λ (ss : List HandlerState). record { handlers = ss; last = last_sent before }) (sym (same_values (state_after (happening ∷ before)) (state_after before) n (λ h below. each h)))
    ∙ ap (λ (o : Option ℕ). record { handlers = states_after n (happening ∷ before); last = o }) (sym last)

pub app_learned : (old new : Knowledge) (payload : ArrayVec ℤ) → new ≡ old → Learns old (Hears (App payload)) new
app_learned old new payload is n before was = is ∙ states_same old n before (Hears (App payload)) was (λ h. app_state h payload before) refl

pub map-map : {X Y Z : Type 0} (f : Y → Z) (g : X → Y) (xs : List X) → map f (map g xs) ≡ map (λ (x : X). f (g x)) xs
map-map f g [] = refl
map-map f g (x ∷ xs) = ap (λ ys. f (g x) ∷ ys) (map-map f g xs)

pub forget_learned : (old new : Knowledge) → new ≡ record old { handlers = map forgets old.handlers } → Learns old Forgets new
forget_learned old new is n before was =
    is
    ∙ ap (λ (k : Knowledge). record k { handlers = map forgets k.handlers }) was
    ∙ ap (λ (ss : List HandlerState). record { handlers = ss; last = last_sent before }) (map-map forgets (state_after before) (range_with_len 0 n))
