-- What a change in memory is of what it stands for.
use Rattle.std.proofs.Common.{◌≡◌, ◌<◌, ℕ, Bool, true, false, List, [], ◌∷◌, ◌++◌, map, cond, length, refl, sym, ◌∙◌, ap, subst, inl, inr, Some, None, if◌then◌else◌}
use Rattle.std.specs.Prelude.{ℤ, ◌==◌, not, slice_index_or, slice_set, filter as kept}
use Rattle.std.proofs.lemmas.List.{map-append, get_or-set_same, get_or-set_other}
use Rattle.std.proofs.lemmas.Bool.Decides.{eqb_tells}
use Rattle.arrayvec.specs.ArrayVec.{ArrayVec}
use Rattle.mate_num.specs.declared.id.ContextId.{ContextId}
use Rattle.mate_num.specs.declared.id.HandlerId.{HandlerId}
use Rattle.mate_num.specs.declared.call.End.{End}
use Rattle.mate_journal.specs.Machine.{HeldProgram}
use Rattle.mate_journal.specs.Journal as journal
use Rattle.mate_journal.specs.Journal.{JournalEntry, Posted, Started, Asked, Answered, Ended, Installed, Reset, Invocation, in_phase, no_image, no_program}
use Rattle.audit_rules.specs.Roll as told
use Rattle.audit_rules.specs.Views.{come_to, calls_after, seat_answered, answered_at, keeps_seat, phase_in, installed_in, seat_in, roll_in}
use Rattle.audit_rules.specs.declared.phase.Phase.{Phase}
use Rattle.audit_rules.specs.declared.phase.Phase.TheVariants as phase
use Rattle.audit_rules.specs.declared.roll.InstalledImage.{InstalledImage}
use Rattle.audit_rules.specs.declared.roll.Roll.{Roll}
use Rattle.audit_rules.specs.declared.seat.Seat.{Seat}

-- two rolls with the same parts are one
pub same_roll : (a b : told.Roll) → a.posts ≡ b.posts → ((h : HandlerId) → a.installed h ≡ b.installed h) → a.seats ≡ b.seats → a ≡ b
same_roll a b posts installed seats = λ i. record { posts = posts i; installed = λ h. installed h i; seats = seats i }

-- ---- seats, one by one

map-map : (f : Seat → Seat) (g : told.Seat → told.Seat) (images : List (ArrayVec ℕ)) → ((s : Seat) → seat_in images (f s) ≡ g (seat_in images s)) → (xs : List Seat) → map (seat_in images) (map f xs) ≡ map g (map (seat_in images) xs)
map-map f g images each [] = refl
map-map f g images each (s ∷ xs) = ap (λ (t : told.Seat). t ∷ map (seat_in images) (map f xs)) (each s) ∙ ap (λ (ts : List told.Seat). g (seat_in images s) ∷ ts) (map-map f g images each xs)

pub come_to-in : (images : List (ArrayVec ℕ)) (n : ℕ) (p : Phase) (s : Seat) → seat_in images (come_to n p s) ≡ told.seat_changed n (in_phase (phase_in p)) (seat_in images s)
come_to-in images n p s = by (s.number == n) where
  by : (b : Bool) → seat_in images (if b then record s { phase = p } else s) ≡ (if b then told.seat s.number (in_phase (phase_in p) (seat_in images s).invocation) else seat_in images s)
  by true = refl
  by false = refl

calls-in : (p : Phase) (value : ℤ) (s : Seat) → calls_after p value s.calls ≡ told.calls_with (phase_in p) value s.calls
calls-in phase.Queued value s = refl
calls-in _ value s = refl

pub seat_answered-in : (images : List (ArrayVec ℕ)) (n : ℕ) (value : ℤ) (s : Seat) → seat_in images (answered_at n value s) ≡ told.seat_changed n (told.with_answer value) (seat_in images s)
seat_answered-in images n value s = by (s.number == n) where
  by : (b : Bool) → seat_in images (if b then seat_answered value s else s) ≡ (if b then told.seat s.number (told.with_answer value (seat_in images s).invocation) else seat_in images s)
  by true = ap (λ cs. let t : told.Seat = told.seat s.number (record (seat_in images s).invocation { calls = cs; phase = journal.Ready }) in t) (calls-in s.phase value s)
  by false = refl

filter-in : (images : List (ArrayVec ℕ)) (n : ℕ) (xs : List Seat) → map (seat_in images) (kept (keeps_seat n) xs) ≡ kept (told.has_other_number n) (map (seat_in images) xs)
filter-in images n [] = refl
filter-in images n (s ∷ xs) = by (s.number == n) (filter-in images n xs) where
  by : (b : Bool) → map (seat_in images) (kept (keeps_seat n) xs) ≡ kept (told.has_other_number n) (map (seat_in images) xs)
      → map (seat_in images) (cond (not b) (s ∷ kept (keeps_seat n) xs) (kept (keeps_seat n) xs)) ≡ cond (not b) (seat_in images s ∷ kept (told.has_other_number n) (map (seat_in images) xs)) (kept (told.has_other_number n) (map (seat_in images) xs))
  by true rest = rest
  by false rest = ap (λ (ts : List told.Seat). seat_in images s ∷ ts) rest

-- ---- the roll

pub moved-in : (images : List (ArrayVec ℕ)) (x y : Roll) (n : ℕ) (p : Phase) → y.posts ≡ x.posts → y.installed ≡ x.installed → y.seats.items ≡ map (come_to n p) x.seats.items
    → roll_in images y ≡ told.roll_changed n (in_phase (phase_in p)) (roll_in images x)
moved-in images x y n p posts installed seats =
    same_roll (roll_in images y) (told.roll_changed n (in_phase (phase_in p)) (roll_in images x)) posts (λ h. ap (λ xs. installed_in images h (slice_index_or xs h.0 None)) installed)
    (ap (map (seat_in images)) seats ∙ map-map (come_to n p) (told.seat_changed n (in_phase (phase_in p))) images (come_to-in images n p) x.seats.items)

pub answer-in : (images : List (ArrayVec ℕ)) (x y : Roll) (n : ℕ) (value : ℤ) → y.posts ≡ x.posts → y.installed ≡ x.installed → y.seats.items ≡ map (answered_at n value) x.seats.items
    → roll_in images y ≡ told.roll_changed n (told.with_answer value) (roll_in images x)
answer-in images x y n value posts installed seats =
    same_roll (roll_in images y) (told.roll_changed n (told.with_answer value) (roll_in images x)) posts (λ h. ap (λ xs. installed_in images h (slice_index_or xs h.0 None)) installed)
    (ap (map (seat_in images)) seats ∙ map-map (answered_at n value) (told.seat_changed n (told.with_answer value)) images (seat_answered-in images n value) x.seats.items)

pub ended-in : (images : List (ArrayVec ℕ)) (x y : Roll) (n : ℕ) (how : End) → y.posts ≡ x.posts → y.installed ≡ x.installed → y.seats.items ≡ kept (keeps_seat n) x.seats.items
    → roll_in images y ≡ told.rolled (roll_in images x) (Ended n how)
ended-in images x y n how posts installed seats =
    same_roll (roll_in images y) (told.rolled (roll_in images x) (Ended n how)) posts (λ h. ap (λ xs. installed_in images h (slice_index_or xs h.0 None)) installed)
    (ap (map (seat_in images)) seats ∙ filter-in images n x.seats.items)

pub posted-in : (images : List (ArrayVec ℕ)) (x y : Roll) (n : ℕ) (h : HandlerId) (c : ContextId) (payload : ArrayVec ℤ) → y.posts ≡ n → y.installed ≡ x.installed
    → y.seats.items ≡ x.seats.items ++ record { number = n; handler = h; context = c; held = slice_index_or x.installed h.0 None; payload = payload; calls = []; phase = phase.Queued } ∷ []
    → roll_in images y ≡ told.rolled (roll_in images x) (Posted n h c payload)
posted-in images x y n h c payload posts installed seats =
    same_roll (roll_in images y) (told.rolled (roll_in images x) (Posted n h c payload)) posts (λ h. ap (λ xs. installed_in images h (slice_index_or xs h.0 None)) installed)
    (ap (map (seat_in images)) seats ∙ map-append (seat_in images) x.seats.items _)

pub reset-in : (images : List (ArrayVec ℕ)) (x y : Roll) → y.posts ≡ x.posts → y.installed ≡ x.installed → y.seats.items ≡ [] → roll_in images y ≡ told.rolled (roll_in images x) Reset
reset-in images x y posts installed seats =
    same_roll (roll_in images y) (told.rolled (roll_in images x) Reset) posts (λ h. ap (λ xs. installed_in images h (slice_index_or xs h.0 None)) installed) (ap (map (seat_in images)) seats)

-- a handler by its number
same_handler : (g h : HandlerId) → g.0 ≡ h.0 → g ≡ h
same_handler g h e = ap (λ (n : ℕ). let x : HandlerId = record { 0 = n } in x) e

pub installed-in : (images : List (ArrayVec ℕ)) (x y : Roll) (h : HandlerId) (v : InstalledImage) → h.0 < length x.installed → y.posts ≡ x.posts → y.installed ≡ slice_set x.installed h.0 (Some v) → y.seats.items ≡ []
    → roll_in images y ≡ told.rolled (roll_in images x) (Installed (record { handler = h; version = v.version; image = slice_index_or images v.image no_image }))
installed-in images x y h v low posts installed seats =
    same_roll (roll_in images y) (told.rolled (roll_in images x) (Installed (record { handler = h; version = v.version; image = slice_index_or images v.image no_image }))) posts each (ap (map (seat_in images)) seats) where
      program : HeldProgram
      program = record { handler = h; version = v.version; image = slice_index_or images v.image no_image }

      -- by the numbers of the two handlers
      here : (g : HandlerId) → g.0 ≡ h.0 → installed_in images g (slice_index_or (slice_set x.installed h.0 (Some v)) g.0 None) ≡ Some program
      here g e =
          subst (λ (k : HandlerId). installed_in images k (slice_index_or (slice_set x.installed h.0 (Some v)) k.0 None) ≡ Some program) (sym (same_handler g h e))
          (ap (installed_in images h) (get_or-set_same x.installed h.0 (Some v) None low))

      each : (g : HandlerId) → installed_in images g (slice_index_or y.installed g.0 None) ≡ (if g.0 == h.0 then Some program else installed_in images g (slice_index_or x.installed g.0 None))
      each g =
          ap (λ xs. installed_in images g (slice_index_or xs g.0 None)) installed
          ∙ elim (eqb_tells g.0 h.0) [
            | inl t ↦ rw t.0 (here g t.1)
            | inr u ↦ rw u.0 (ap (installed_in images g) (get_or-set_other x.installed h.0 g.0 (Some v) None (λ e. u.1 e)))
          ]
