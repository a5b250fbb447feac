-- The run of a world: its events, each of a cause that was due, and what it made.
use Rattle.std.specs.Prelude.{◌≡◌, ℕ, suc, ◌<◌, ◌≤◌, ◌==◌, if◌then◌else◌, List, [], ◌∷◌, ◌++◌, map, length, ℤ}
use Rattle.std.specs.List.{range_with_len}
use Rattle.arrayvec.specs.ArrayVec.{ArrayVec}
use Rattle.mate_num.specs.declared.id.HandlerId.{HandlerId}
use Rattle.mate_num.specs.declared.call.Stamp.{Stamp}
use Rattle.mate_num.specs.Lists.{EachOver}
use Rattle.mate_journal.specs.Machine.{Machine}
use Rattle.mate_journal.specs.Journal.{JournalEntry, Answered, NodeState, state_after_entries}
use Rattle.mate_journal.specs.Journal.{TimedEntry as Entered}
use Rattle.mate_journal.specs.Pace.{Pace, paced_all}
use Rattle.mate_journal.specs.Turns.{Settles}
use Rattle.mate_journal.specs.NodeScript.{Occasion, Installs, ShowsOnce, Resets, RunEnd, Whole, Full, Cut, records_max}
use Rattle.mate_journal.specs.declared.air.Air.TheVariants as air
use Rattle.mate_journal.specs.declared.air.Aired.{Aired}
use Rattle.world_rules.specs.Cause.{Cause}
use Rattle.world_rules.specs.World.{World}
use Rattle.world_rules.specs.Effect.{Deed, Nothing, Installing, Posting, Answering, Showing, Resetting, event_node}
use Rattle.world_rules.specs.State.{Moment, WorldState, node_at, effect_at, air_made, state}

-- which entries may be made, at the state and the pace before them
abbrev pub MakingRule : Type 1
MakingRule = NodeState → Pace → List JournalEntry → Type 0

-- one after the other; no instruction is executed in the first
pub record FirstThen (m : Machine) (first second : MakingRule) (r : NodeState) (p : Pace) (told : List JournalEntry) : Type 0 where
  pub front : List JournalEntry
  pub rest : List JournalEntry
  pub made : told ≡ front ++ rest
  pub by_first : first r p front
  pub by_second : second (state_after_entries m r front) (paced_all p front) rest

-- an occasion for each of the handlers, in order
abbrev pub Occasions : Machine → ArrayVec ℤ → List HandlerId → MakingRule
Occasions m payload [] r p told = told ≡ []
Occasions m payload (h ∷ hs) r p told = FirstThen m (λ r p told. Occasion m r h payload told) (Occasions m payload hs) r p told

-- what a deed makes
abbrev pub DeedMakes : Machine → Deed → MakingRule
DeedMakes m Nothing r p told = told ≡ []
DeedMakes m (Installing x) r p told = Installs m r p x told
DeedMakes m (Posting hs payload) r p told = Occasions m payload hs r p told
DeedMakes m (Answering inv value) r p told = told ≡ Answered inv value ∷ []
DeedMakes m Showing r p told = ShowsOnce m r p told
DeedMakes m Resetting r p told = Resets m r p told

-- the event is the first of those that are due next
pub record IsNext (s : WorldState) (time : ℕ) (cause : Cause) : Type 0 where
  pub others : List Cause
  pub due : s.due time ≡ cause ∷ others
  pub none_before : (t : ℕ) → t < time → s.due t ≡ []

-- An event may come if fewer than 1,000,000 records are before it: it is the next one that is due, at or before the
-- end. It makes its deed's entries, and then its node has turns until none of its invocations is ready.
pub record MayCome (w : World) (s : WorldState) (m : Moment) : Type 0 where
  pub room : s.records < records_max
  pub next : IsNext s m.time m.cause
  pub in_time : m.time ≤ w.until
  pub makes : FirstThen w.machine (DeedMakes w.machine (effect_at w s m).deed)
      (λ r p told. Settles w.machine r p told m.pace) (node_at w s m).reading (node_at w s m).pace m.told

-- these events came, the latest first
abbrev pub HaveCome : World → List Moment → Type 0
HaveCome w = EachOver (λ m before. MayCome w (state w before) m)

-- nothing is due any more up to this time
abbrev pub IsDone : WorldState → ℕ → Type 0
IsDone s until = (t : ℕ) → t ≤ until → s.due t ≡ []

-- a whole run did all that was due up to its end; a full one stops if an event is left and the records are too many
abbrev pub IsAtEnd : World → RunEnd → WorldState → Type 0
IsAtEnd w Whole s = IsDone s w.until
IsAtEnd w Full s = (records_max ≤ s.records) × (time : ℕ) × (cause : Cause) × (time ≤ w.until) × IsNext s time cause
IsAtEnd w Cut s = Unit {0}

-- ---- what the run leaves behind

-- event numbers are from 1
abbrev pub stamp_of : Moment → List Moment → Stamp
stamp_of m before = record { event = suc (length before); time = m.time }

-- the air records, in order: the first interval of each node, and then those of the events
abbrev pub airs : World → List Moment → List Aired
airs w [] = map (λ k. record { stamp = record { event = 0; time = 0 }; node = k; air = air.Interval w.description.trickle.imin })
    (range_with_len 0 w.nodes)
airs w (m ∷ before) = airs w before ++ map (λ a. record { stamp = stamp_of m before; node = event_node w m.cause; air = a })
    (air_made w (state w before) m)

-- the journal of a node
abbrev pub journal : World → ℕ → List Moment → List Entered
journal w k [] = []
journal w k (m ∷ before) = journal w k before ++ (if k == event_node w m.cause
    then map (λ t. record { stamp = stamp_of m before; told = t }) m.told else [])

-- a whole run ends with the store of each node seen, under the next number, at the last time
pub record SeesStore (w : World) (k : ℕ) (ms : List Moment) (last : List Entered) : Type 0 where
  pub told : List JournalEntry
  pub shown : ShowsOnce w.machine ((state w ms).nodes k).reading ((state w ms).nodes k).pace told
  pub stamped : last ≡ map (λ t. record { stamp = record { event = suc (length ms); time = w.until }; told = t }) told

-- the last entries of a node
abbrev pub EndsJournal : World → ℕ → RunEnd → List Moment → List Entered → Type 0
EndsJournal w k Whole ms last = SeesStore w k ms last
EndsJournal w k _ ms last = last ≡ []

-- a node's whole journal
pub record IsJournalOf (w : World) (how : RunEnd) (ms : List Moment) (k : ℕ) (es : List Entered) : Type 0 where
  pub last : List Entered
  pub ends : EndsJournal w k how ms last
  pub journal_is : es ≡ journal w k ms ++ last
