-- What is planned on ahead: numbered items, by their times.
use Rattle.std.specs.Prelude.{◌≡◌, ℕ, suc, ◌≤◌, ◌==◌, if◌then◌else◌, List, [], ◌∷◌, ◌++◌, length, drop}
use Rattle.event_queue.specs.declared.plan.Plan.{Plan}

-- what comes at a time, of items that are numbered from n on and have these times
abbrev pub numbered_at : {T : Type 0} → (ℕ → T) → ℕ → List ℕ → ℕ → List T
numbered_at numbered n [] t = []
numbered_at numbered n (time ∷ times) t = (if time == t then numbered n ∷ [] else []) ++ numbered_at numbered (suc n) times t

-- the times that are still to come
abbrev pub times_left : Plan → List ℕ
times_left p = drop p.next p.times.items

-- what is planned for a time
unfoldable pub planned_due : {T : Type 0} → (ℕ → T) → Plan → ℕ → List T
planned_due numbered p t = numbered_at numbered p.next (times_left p) t

-- each time is at or after the one before it, the first at or after `from`, and none is after `last`
abbrev pub IsAscending : ℕ → ℕ → List ℕ → Type 0
IsAscending from last [] = Unit {0}
IsAscending from last (t ∷ ts) = (from ≤ t) × (t ≤ last) × IsAscending t last ts

-- what a plan keeps, where all before `now` came
pub record IsPlanAhead (now until : ℕ) (p : Plan) : Type 0 where
  pub ascending : IsAscending now p.last (times_left p)
  pub within : p.last ≤ until
  pub come : p.next ≤ length p.times.items
  pub few : length p.times.items ≤ 4294967296

-- an item more, behind all others
pub record PlansLast (old : Plan) (time : ℕ) (new : Plan) : Type 0 where
  pub next : new.next ≡ old.next
  pub last : new.last ≡ time
  pub times : new.times.items ≡ old.times.items ++ time ∷ []

-- nothing changed
pub record KeepsPlan (old new : Plan) : Type 0 where
  pub next : new.next ≡ old.next
  pub last : new.last ≡ old.last
  pub times : new.times.items ≡ old.times.items

-- the first came
pub record TakesPlanned (old new : Plan) : Type 0 where
  pub next : new.next ≡ suc old.next
  pub last : new.last ≡ old.last
  pub times : new.times.items ≡ old.times.items
