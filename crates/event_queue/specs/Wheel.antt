-- What waits on the wheel at each time. It follows the code: no public clause speaks of it.
use Rattle.std.specs.Prelude.{◌≡◌, ◌≢◌, ℕ, ◌+◌, ◌/◌, ◌%◌, ◌<◌, ◌≤◌, Bool, true, not, ◌==◌, if◌then◌else◌, List, [], ◌∷◌, ◌++◌, length, filter, Option, Some, None, slice_get, slice_index}
use Rattle.std.specs.List.{All, filter_map, cons_option}
use Rattle.event_queue.specs.declared.wheel.Entry.{Entry}
use Rattle.event_queue.specs.declared.wheel.Wheel.{Wheel}
use Rattle.event_queue.specs.Links.{list_at}
use Rattle.event_queue.specs.Group.{is_in}
use Rattle.event_queue.specs.Marks.{mark_at}

-- the item's group has the generation that it had when the item came
abbrev pub is_current : List ℕ → Option ℕ → ℕ → Bool
is_current generations None generation = true
is_current generations (Some g) generation = slice_index generations g == generation

abbrev pub live_item : {T : Type 0} → (T → Option ℕ) → List ℕ → ℕ → Option T → Option T
live_item group generations generation None = None
live_item group generations generation (Some x) = if is_current generations (group x) generation then Some x else None

-- the item that waits at an entry, unless it was cancelled
abbrev pub live : {T : Type 0} → (T → Option ℕ) → List ℕ → Entry T → Option T
live group generations e = live_item group generations e.generation e.item

abbrev pub live_entry : {T : Type 0} → (T → Option ℕ) → List ℕ → Option (Entry T) → Option T
live_entry group generations None = None
live_entry group generations (Some e) = live group generations e

abbrev pub timed_entry : {T : Type 0} → (T → Option ℕ) → List ℕ → ℕ → Option (Entry T) → Option T
timed_entry group generations offset None = None
timed_entry group generations offset (Some e) = if e.time % 2048 == offset then live group generations e else None

-- the live items of some places, and those of them at one ms of their block
abbrev pub items_at : {T : Type 0} → (T → Option ℕ) → List ℕ → List (Entry T) → List ℕ → List T
items_at group generations entries places = filter_map (λ p. live_entry group generations (slice_get entries p)) places

abbrev pub items_timed : {T : Type 0} → (T → Option ℕ) → List ℕ → List (Entry T) → ℕ → List ℕ → List T
items_timed group generations entries offset places = filter_map (λ p. timed_entry group generations offset (slice_get entries p)) places

abbrev pub near : ℕ → ℕ
near t = 1 + t % 2048

abbrev pub far : ℕ → ℕ
far t = 2049 + t / 2048

-- the list in which an item of a time waits, on a wheel that is at another
abbrev pub list_for : ℕ → ℕ → ℕ
list_for at time = if time / 2048 == at / 2048 then near time else far time

abbrev pub near_due : {T : Type 0} → (T → Option ℕ) → Wheel T → ℕ → List T
near_due group w t = items_at group w.generations w.entries.items (list_at w.chains (near t))

abbrev pub far_due : {T : Type 0} → (T → Option ℕ) → Wheel T → ℕ → List T
far_due group w t = items_timed group w.generations w.entries.items (t % 2048) (list_at w.chains (far t))

-- what is due at a time: from the near slot, in the wheel's block, and then from the far one
unfoldable pub wheel_due : {T : Type 0} → (T → Option ℕ) → Wheel T → ℕ → List T
wheel_due group w t = (if t / 2048 == w.at / 2048 then near_due group w t else []) ++ far_due group w t

-- the generation is none to come
abbrev pub IsPast : List ℕ → ℕ → Option ℕ → Type 0
IsPast generations generation None = Unit {0}
IsPast generations generation (Some g) = generation ≤ slice_index generations g

abbrev pub IsPastItem : {T : Type 0} → (T → Option ℕ) → List ℕ → ℕ → Option T → Type 0
IsPastItem group generations generation None = Unit {0}
IsPastItem group generations generation (Some x) = IsPast generations generation (group x)

-- what holds while a far slot is spread
pub record IsTurning {T : Type 0} (group : T → Option ℕ) (w : Wheel T) : Type 0 where
  pub lists : length w.chains.lists ≡ 4097
  pub room : w.chains.total ≤ length w.entries.items
  pub below : w.at < 4194304
  pub spread : (block : ℕ) → block < w.at / 2048 → list_at w.chains (2049 + block) ≡ []
  pub past : (t : ℕ) → t < w.at → wheel_due group w t ≡ []
  pub timely : All (λ (e : Entry T). IsPastItem group w.generations e.generation e.item) w.entries.items
  pub marked : (t : ℕ) → mark_at w.marks (t % 2048) ≡ 0 → list_at w.chains (near t) ≡ []

-- what the wheel keeps
pub record IsWheel {T : Type 0} (group : T → Option ℕ) (w : Wheel T) : Type 0 where
  pub turning : IsTurning group w
  pub current : list_at w.chains (far w.at) ≡ []

abbrev pub IsSameDue : {T : Type 0} → (T → Option ℕ) → Wheel T → Wheel T → Type 0
IsSameDue group old new = (t : ℕ) → wheel_due group new t ≡ wheel_due group old t

-- a wheel has an item more, last at its time
pub record PutsLast {T : Type 0} (group : T → Option ℕ) (old : Wheel T) (time : ℕ) (item : T) (new : Wheel T) : Type 0 where
  pub right : IsWheel group new
  pub at : new.at ≡ old.at
  pub last : wheel_due group new time ≡ wheel_due group old time ++ item ∷ []
  pub others : (t : ℕ) → t ≢ time → wheel_due group new t ≡ wheel_due group old t

-- nothing changed
pub record KeepsView {T : Type 0} (group : T → Option ℕ) (old new : Wheel T) : Type 0 where
  pub right : IsWheel group new
  pub at : new.at ≡ old.at
  pub same : IsSameDue group old new

-- the first item of the wheel's time was taken, or something cancelled was dropped
pub record TakesFirst {T : Type 0} (group : T → Option ℕ) (old : Wheel T) (item : Option T) (new : Wheel T) : Type 0 where
  pub right : IsWheel group new
  pub at : new.at ≡ old.at
  pub first : wheel_due group old old.at ≡ cons_option item (wheel_due group new old.at)
  pub others : (t : ℕ) → t ≢ old.at → wheel_due group new t ≡ wheel_due group old t

-- the wheel is at another time
pub record Turns {T : Type 0} (group : T → Option ℕ) (old : Wheel T) (now : ℕ) (new : Wheel T) : Type 0 where
  pub right : IsWheel group new
  pub at : new.at ≡ now
  pub same : IsSameDue group old new

-- the items of a group were cancelled
pub record Cancels {T : Type 0} (group : T → Option ℕ) (old : Wheel T) (g : ℕ) (new : Wheel T) : Type 0 where
  pub right : IsWheel group new
  pub at : new.at ≡ old.at
  pub kept : (t : ℕ) → wheel_due group new t ≡ filter (λ x. not (is_in group g x)) (wheel_due group old t)

-- an entry without its item, if that is of the group
abbrev pub cleared_item : {T : Type 0} → (T → Option ℕ) → ℕ → Option T → Option T
cleared_item group g None = None
cleared_item group g (Some x) = if is_in group g x then None else Some x

abbrev pub cleared : {T : Type 0} → (T → Option ℕ) → ℕ → Entry T → Entry T
cleared group g e = record { time = e.time; generation = e.generation; item = cleared_item group g e.item }

-- nothing is due by a time
pub record SeeksNone {T : Type 0} (group : T → Option ℕ) (until : ℕ) (old new : Wheel T) : Type 0 where
  pub right : IsWheel group new
  pub from : old.at ≤ new.at
  pub to : new.at ≤ until
  pub none_due : (t : ℕ) → t ≤ until → wheel_due group old t ≡ []
  pub same : IsSameDue group old new

-- the first item that is due was taken
pub record SeeksFirst {T : Type 0} (group : T → Option ℕ) (until : ℕ) (old : Wheel T) (item : T) (new : Wheel T) : Type 0 where
  pub right : IsWheel group new
  pub from : old.at ≤ new.at
  pub to : new.at ≤ until
  pub none_before : (t : ℕ) → t < new.at → wheel_due group old t ≡ []
  pub first : wheel_due group old new.at ≡ item ∷ wheel_due group new new.at
  pub others : (t : ℕ) → t ≢ new.at → wheel_due group new t ≡ wheel_due group old t

abbrev pub Seeks : {T : Type 0} → (T → Option ℕ) → ℕ → Wheel T → Option T → Wheel T → Type 0
Seeks group until old None new = SeeksNone group until old new
Seeks group until old (Some item) new = SeeksFirst group until old item new

-- nothing is due before a time, at which the wheel is then
pub record ReachesTime {T : Type 0} (group : T → Option ℕ) (end : ℕ) (old new : Wheel T) : Type 0 where
  pub right : IsWheel group new
  pub at : new.at ≡ end
  pub none_before : (t : ℕ) → t < end → wheel_due group old t ≡ []
  pub same : IsSameDue group old new

abbrev pub SeeksBefore : {T : Type 0} → (T → Option ℕ) → ℕ → Wheel T → Option T → Wheel T → Type 0
SeeksBefore group end old None new = ReachesTime group end old new
SeeksBefore group end old (Some item) new = SeeksFirst group end old item new × (new.at < end)
