-- Each step keeps what the code relies on, and what is sent for a slot is right.
use Rattle.std.proofs.Common.{◌≡◌, ℕ, ◌+◌, ◌-◌, ◌*◌, ◌<◌, ◌≤◌, Bool, true, false, eqb, ltb, leb, ◌&&◌, ◌||◌, ◌⊎◌, List, length, map, set, get_or, drop, min, sym, ap, ◌∙◌, subst, arith, inl, inr}
use Rattle.std.specs.Prelude.{IsTrue}
use Rattle.std.specs.Fork.{slice_chunk}
use Rattle.std.specs.Int.{bit_at, div_ceil}
use Rattle.std.specs.List.{refill, range_with_len}
use Rattle.std.proofs.lemmas.Bool.{cases_eq, cases_lt, cond_both, or_cases, and_parts, ltb-true, lt-ltb, le-ltb, le-leb, lt-leb, false≢true}
use Rattle.std.proofs.lemmas.Grind.{div_ceil_times}
use Rattle.std.proofs.lemmas.List.{get_or-set_same, get_or-set_other, get_or_past, length-set, length-take, length-drop, length-map, take_at}
use Rattle.std.proofs.lemmas.List.Elements.{All-same, All-set, All-get_or, All-map}
use Rattle.std.proofs.lemmas.List.FromFn.{length-range_with_len, get_or-range_with_len, length-map-range_with_len}
use Rattle.arrayvec.specs.ArrayVec.{ArrayVec}
use Rattle.capsule_codec.specs.Fragments.{count_of, piece_at}
use Rattle.packet_codec.specs.Packet.{full_len, IsRightPacket}
use Rattle.capsule_exchange.specs.declared.handler_state.Form.{Form}
use Rattle.capsule_exchange.specs.declared.handler_state.HandlerState.{HandlerState}
use Rattle.capsule_exchange.specs.Table.{table}
use Rattle.capsule_exchange.specs.Happenings.{fragment_of}
use Rattle.capsule_exchange.specs.Sound.{IsSoundState, AreSound}
use Rattle.capsule_exchange.specs.Steps.{no_state, aimed, kept, hears_fragment, marked, hears_status, after_sending, forgets, installs, state_at}
use Rattle.capsule_exchange.proofs.TableLemmas.{table_at, table_past}

-- ---- one handler

not_true : (b : Bool) → b ≡ false → IsTrue b → ⊥
not_true b e h = false≢true (sym e ∙ h)

no_mark : (i : ℕ) → get_or (table (λ (_ : ℕ). false)) i false ≡ false
no_mark i = elim (cases_lt i 22) [
  | inl within ↦ table_at (λ (_ : ℕ). false) i false within
  | inr past ↦ table_past (λ (_ : ℕ). false) i false past
]

pub no_state_sound : IsSoundState no_state
no_state_sound = record {
  few = tt;
  owed = λ i marked. absurd (not_true _ (no_mark i) marked);
  numbered = λ some. absurd (omega arith);
}

pub aimed_sound : (version : ℕ) (s : HandlerState) → IsSoundState s → IsSoundState (aimed version s)
aimed_sound version s sound =
    cond_both (ltb s.held version && ltb s.target version) _ s IsSoundState (λ _. record { few = tt; owed = sound.owed; numbered = sound.numbered }) (λ _. sound)

kept_sound : (index : ℕ) (form : Form) (bytes : ArrayVec ℕ) (s : HandlerState) → form.count ≤ 22 → IsSoundState s → IsSoundState (kept index form bytes s)
kept_sound index form bytes s few sound = cond_both _ _ s IsSoundState (λ _. record { few = few; owed = sound.owed; numbered = sound.numbered }) (λ _. sound)

pub hears_fragment_sound : (version index : ℕ) (form : Form) (bytes : ArrayVec ℕ) (s : HandlerState) → form.count ≤ 22 → IsSoundState s → IsSoundState (hears_fragment version index form bytes s)
hears_fragment_sound version index form bytes s few sound =
    let after = aimed_sound version s sound in
    cond_both _ _ (aimed version s) IsSoundState (λ _. kept_sound index form bytes (aimed version s) few after) (λ _. after)

marked_owed : (count missing : ℕ) (marks : List Bool) (i : ℕ) → ((k : ℕ) → IsTrue (get_or marks k false) → k < count) → IsTrue (get_or (marked count missing marks) i false) → i < count
marked_owed count missing marks i owed now =
    let test = λ (k : ℕ). (ltb k count && eqb (bit_at missing k) 1) || get_or marks k false in
    elim (cases_lt i 22) [
      | inl within ↦ (
          let is : test i ≡ true = sym (table_at test i false within) ∙ now in
          elim (or_cases (ltb i count && eqb (bit_at missing i) 1) (get_or marks i false) is) [
            | inl asked ↦ ltb-true i count (and_parts (ltb i count) (eqb (bit_at missing i) 1) asked).0
            | inr before ↦ owed i before
          ])
      | inr past ↦ absurd (not_true _ (table_past test i false past) now)
    ]

pub hears_status_sound : (version missing : ℕ) (s : HandlerState) → IsSoundState s → IsSoundState (hears_status version missing s)
hears_status_sound version missing s sound =
    cond_both (eqb version s.held) _ s IsSoundState (λ _. record { few = sound.few; owed = λ i. marked_owed (count_of s.image.items) missing s.marks i sound.owed; numbered = sound.numbered }) (λ _. sound)

unmarked : (marks : List Bool) (index i : ℕ) → IsTrue (get_or (set marks index false) i false) → IsTrue (get_or marks i false)
unmarked marks index i now =
    elim (cases_eq i index) [
      | inr other ↦ sym (get_or-set_other marks index i false false other) ∙ now
      | inl same ↦ absurd (not_true (get_or (set marks index false) index false) (off (cases_lt index (length marks))) (subst (λ (k : ℕ). IsTrue (get_or (set marks index false) k false)) same now))
    ]
  where
    off : (index < length marks) ⊎ (length marks ≤ index) → get_or (set marks index false) index false ≡ false
    off (inl within) = get_or-set_same marks index false false within
    off (inr past) = get_or_past (set marks index false) index false (omega (arith, length-set marks index false))

pub sends_sound : (index : ℕ) (s : HandlerState) → IsSoundState s → IsSoundState (after_sending index s)
sends_sound index s sound = record { few = sound.few; owed = λ i now. sound.owed i (unmarked s.marks index i now); numbered = sound.numbered }

pub forgets_sound : (s : HandlerState) → IsSoundState s → IsSoundState (forgets s)
forgets_sound s sound = record { few = tt; owed = λ i now. absurd (not_true _ (no_mark i) now); numbered = sound.numbered }

pub installs_sound : (version : ℕ) (image : ArrayVec ℕ) (s : HandlerState) → 1 ≤ version → IsSoundState (installs version image s)
installs_sound version image s some = record { few = tt; owed = λ i now. absurd (not_true _ (no_mark i) now); numbered = λ _. some }

-- ---- all handlers. A vector of states has other ones put in place of them: those, where they are as many

pub put_back : (P : List HandlerState → Type 0) (states after : List HandlerState) → length after ≡ length states → P after → P (refill (length states) states after)
put_back P states after same holds = subst P (sym (take_at after (drop (length after) states) (length states) same)) holds

pub sound_at : (states : List HandlerState) (h : ℕ) (d : HandlerState) → h < length states → AreSound states → IsSoundState (get_or states h d)
sound_at states h d within sound = All-get_or IsSoundState states h d within sound

-- one state was changed in place
pub changed_one : (states lent : List HandlerState) (h : ℕ) (d after : HandlerState) (step : HandlerState → HandlerState) → lent ≡ states → h < length states
    → after ≡ step (get_or lent h d) → ((s : HandlerState) → IsSoundState s → IsSoundState (step s)) → AreSound states → AreSound (set lent h after)
changed_one states lent h d after step same within is keeps sound =
    let own : IsSoundState (get_or lent h d) = subst (λ (ss : List HandlerState). IsSoundState (get_or ss h d)) (sym same) (sound_at states h d within sound) in
    All-set IsSoundState lent h after (subst IsSoundState (sym is) (keeps (get_or lent h d) own)) (subst AreSound (sym same) sound)

-- all were changed in place
pub changed_each : (states after : List HandlerState) (step : ℕ → HandlerState → HandlerState)
    → after ≡ map (λ (h : ℕ). step h (state_at states h)) (range_with_len 0 (length states)) → ((h : ℕ) (s : HandlerState) → IsSoundState s → IsSoundState (step h s)) → AreSound states
    → AreSound after
changed_each states after step is keeps sound =
    let f = λ (h : ℕ). step h (state_at states h) in
    All-same IsSoundState after (map f (range_with_len 0 (length states))) is
    (All-map IsSoundState f (range_with_len 0 (length states)) (λ k d below.
    let at : get_or (range_with_len 0 (length states)) k d ≡ 0 + k = get_or-range_with_len 0 (length states) k d (omega (arith, length-range_with_len 0 (length states))) in
    keeps (get_or (range_with_len 0 (length states)) k d) (state_at states (get_or (range_with_len 0 (length states)) k d))
    (sound_at states (get_or (range_with_len 0 (length states)) k d) no_state (omega (arith, length-range_with_len 0 (length states))) sound)))

pub changed_all : (states after : List HandlerState) (step : HandlerState → HandlerState) → after ≡ map step states
    → ((s : HandlerState) → IsSoundState s → IsSoundState (step s)) → AreSound states → AreSound after
changed_all states after step is keeps sound =
    All-same IsSoundState after (map step states) is (All-map IsSoundState step states (λ k d below. keeps (get_or states k d) (sound k d below)))

-- ---- fragments of an image are right

-- how many bytes a piece of this size has
length-chunk : (image : List ℕ) (size i : ℕ) → length (slice_chunk image size i) ≡ min size (length image - i * size)
length-chunk image size i = length-take size (drop (i * size) image) ∙ ap (min size) (length-drop (i * size) image)

record IsCutAt (count index size : ℕ) (bytes : List ℕ) : Type 0 where
  low : 1 ≤ length bytes
  high : length bytes ≤ size
  full : index + 1 < count → length bytes ≡ size

small_piece : (image : List ℕ) (i : ℕ) → i < div_ceil (length image) 24 → IsCutAt (div_ceil (length image) 24) i 24 (slice_chunk image 24 i)
small_piece image i within =
    let cut = div_ceil_times (length image) 24 (omega arith) in
    let long = length-chunk image 24 i in
    record { low = omega arith; high = omega arith; full = λ more. omega arith }

large_piece : (image : List ℕ) (i : ℕ) → i < div_ceil (length image) 48 → IsCutAt (div_ceil (length image) 48) i 48 (slice_chunk image 48 i)
large_piece image i within =
    let cut = div_ceil_times (length image) 48 (omega arith) in
    let long = length-chunk image 48 i in
    record { low = omega arith; high = omega arith; full = λ more. omega arith }

piece_cut : (image : List ℕ) (i : ℕ) → i < count_of image → IsCutAt (count_of image) i (full_len (ltb 528 (length image))) (piece_at image i)
piece_cut image i within =
    elim (cases_lt 528 (length image)) [
      | inl long ↦ (
          let short : leb (length image) 528 ≡ false = lt-leb _ _ long in
          let large : ltb 528 (length image) ≡ true = lt-ltb _ _ long in
          let below : i < div_ceil (length image) 48 = rw short at within in
          rw (short, large) (large_piece image i below))
      | inr few ↦ (
          let short : leb (length image) 528 ≡ true = le-leb _ _ few in
          let large : ltb 528 (length image) ≡ false = le-ltb _ _ few in
          let below : i < div_ceil (length image) 24 = rw short at within in
          rw (short, large) (small_piece image i below))
    ]

pub fragment_right : (n h version : ℕ) (image : List ℕ) (i : ℕ) → h < n → 1 ≤ version → count_of image ≤ 22 → i < count_of image → IsRightPacket n (fragment_of h version image i)
fragment_right n h version image i handler some few within =
    let cut = piece_cut image i within in
    record { handler_high = handler; version_low = some; count_high = few; index_high = within; bytes_low = cut.low; bytes_high = cut.high; full = cut.full }
