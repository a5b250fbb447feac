-- Items in order of time, and at one time in the order in which they were scheduled: what clauses see of a queue.
use Rattle.std.specs.Prelude.{◌≡◌, ◌≢◌, ℕ, ◌<◌, ◌≤◌, Bool, not, nat_le, ◌==◌, if◌then◌else◌, List, [], ◌∷◌, ◌++◌, Option, Some, None}
use Rattle.std.specs.List.{filter_map}
use Rattle.event_queue.specs.declared.queue.Timed.{Timed}
use Rattle.event_queue.specs.Group.{is_in}

-- what is kept up to `until`, and the time of the last item that came
pub record Agenda (T : Type 0) : Type 0 where
  pub until : ℕ
  pub now : ℕ
  pub items : List (Timed T)

-- an item more, after all that come by its time
abbrev pub inserted : {T : Type 0} → Timed T → List (Timed T) → List (Timed T)
inserted x [] = x ∷ []
inserted x (y ∷ ys) = if nat_le y.time x.time then y ∷ inserted x ys else x ∷ y ∷ ys

-- an item that comes after `until` is not kept
abbrev pub scheduled : {T : Type 0} → Agenda T → ℕ → T → Agenda T
scheduled q time item = if nat_le time q.until then record q { items = inserted (record { time = time; item = item }) q.items } else q

-- items more at one time, in their order
abbrev pub scheduled_all : {T : Type 0} → Agenda T → ℕ → List T → Agenda T
scheduled_all q time [] = q
scheduled_all q time (item ∷ items) = scheduled_all (scheduled q time item) time items

-- the item isn't of the group
abbrev pub is_other : {T : Type 0} → (T → Option ℕ) → ℕ → Timed T → Bool
is_other group g x = not (is_in group g x.item)

-- what comes at one time
abbrev pub item_at : {T : Type 0} → ℕ → Timed T → Option T
item_at t x = if x.time == t then Some x.item else None

abbrev pub due_at : {T : Type 0} → ℕ → List (Timed T) → List T
due_at t xs = filter_map (item_at t) xs

-- at its time the item comes last, and at other times what came there
pub record Adds {T : Type 0} (old : Agenda T) (time : ℕ) (item : T) (new : Agenda T) : Type 0 where
  pub last : time ≤ old.until → due_at time new.items ≡ due_at time old.items ++ item ∷ []
  pub others : (t : ℕ) → t ≢ time → due_at t new.items ≡ due_at t old.items

-- at one time the items come last, in their order, and at other times what came there
pub record AddsAll {T : Type 0} (old : Agenda T) (time : ℕ) (items : List T) (new : Agenda T) : Type 0 where
  pub last : time ≤ old.until → due_at time new.items ≡ due_at time old.items ++ items
  pub others : (t : ℕ) → t ≢ time → due_at t new.items ≡ due_at t old.items

-- the first item came
pub record Comes {T : Type 0} (old : Agenda T) (first : Timed T) (new : Agenda T) : Type 0 where
  pub items : old.items ≡ first ∷ new.items
  pub now : new.now ≡ first.time
  pub until : new.until ≡ old.until
  pub ahead : old.now ≤ first.time
  pub in_time : first.time ≤ old.until
  pub none_before : (t : ℕ) → t < first.time → due_at t old.items ≡ []
  pub first_due : due_at first.time old.items ≡ first.item ∷ due_at first.time new.items
  pub others : (t : ℕ) → t ≢ first.time → due_at t new.items ≡ due_at t old.items
