-- What the journals of a whole run record of what comes from outside the invocations: posts, answers, installs, resets,
-- and stores that are seen.
use Rattle.std.specs.Prelude.{◌≡◌, ℕ, ◌==◌, if◌then◌else◌, List, [], ◌∷◌, ◌++◌, map, ℤ, Option, Some, None, All}
use Rattle.std.specs.List.{filter_map}
use Rattle.arrayvec.specs.ArrayVec.{ArrayVec}
use Rattle.mate_num.specs.declared.id.HandlerId.{HandlerId}
use Rattle.mate_journal.specs.Machine.{Machine, HeldProgram}
use Rattle.mate_journal.specs.Journal.{JournalEntry, Posted, Dropped, Started, Asked, Answered, Ended, Installed, Reset, Seen, Void, untimed}
use Rattle.world_rules.specs.World.{World}
use Rattle.world_rules.specs.Effect.{Deed, Nothing, Installing, Posting, Answering, Showing, Resetting, event_node}
use Rattle.world_rules.specs.State.{Moment, calls_in, effect_at, state}
use Rattle.world_rules.specs.Run.{HaveCome, journal}

-- what comes to a node from outside its invocations: an occasion for a post, which is one Post or one Dropped; an answer; an
-- install; a reset; that its store is seen; or a refusal
pub data Given : Type 0 where
  GivesOccasion : (handler : HandlerId) → Given
  GivesAnswer : (invocation : ℕ) (value : ℤ) → Given
  GivesInstall : (program : HeldProgram) → Given
  GivesReset : Given
  SeesItsStore : Given
  Refuses : Given

-- starts, calls and ends are an invocation's own
abbrev pub given_in : JournalEntry → Option Given
given_in (Posted n h c payload) = Some (GivesOccasion h)
given_in (Dropped h cause) = Some (GivesOccasion h)
given_in (Answered n value) = Some (GivesAnswer n value)
given_in (Installed p) = Some (GivesInstall p)
given_in Reset = Some GivesReset
given_in (Seen store) = Some SeesItsStore
given_in (Void cause) = Some Refuses
given_in _ = None

-- what an event gives its node, in order: before an install and a reset the store is seen, and after the install of a handler
-- that runs once there is an occasion for it
abbrev pub given_by : Machine → Deed → List Given
given_by m Nothing = []
given_by m (Installing p) = SeesItsStore ∷ GivesInstall p ∷ (if m.runs_once p.handler then GivesOccasion p.handler ∷ [] else [])
given_by m (Posting hs payload) = map GivesOccasion hs
given_by m (Answering inv value) = GivesAnswer inv value ∷ []
given_by m Showing = SeesItsStore ∷ []
given_by m Resetting = SeesItsStore ∷ GivesReset ∷ []

-- an event's entries record just that: nothing else is posted, answered, installed or reset, and nothing is refused
abbrev pub EventsGiveTheirs : World → Type 0
EventsGiveTheirs w = (before : List Moment) (m : Moment) → HaveCome w (m ∷ before)
    → filter_map given_in m.told ≡ given_by w.machine (effect_at w (state w before) m).deed

-- what the events of a node gave it
abbrev pub given_to : World → ℕ → List Moment → List Given
given_to w k [] = []
given_to w k (m ∷ before) = given_to w k before ++ (if k == event_node w m.cause
    then given_by w.machine (effect_at w (state w before) m).deed else [])

-- and so does the journal of each node
abbrev pub JournalsTellWhatCame : World → Type 0
JournalsTellWhatCame w = (k : ℕ) (ms : List Moment) → HaveCome w ms → filter_map given_in (untimed (journal w k ms)) ≡ given_to w k ms

-- a post's payload is that of its occasion: a message's or a line's values, or none
abbrev pub HasPayload : ArrayVec ℤ → JournalEntry → Type 0
HasPayload given (Posted n h c payload) = payload ≡ given
HasPayload given _ = Unit {0}

abbrev pub payload_given : Deed → ArrayVec ℤ
payload_given Nothing = record { items = [] }
payload_given (Installing p) = record { items = [] }
payload_given (Posting hs payload) = payload
payload_given (Answering inv value) = record { items = [] }
payload_given Showing = record { items = [] }
payload_given Resetting = record { items = [] }

abbrev pub PostsHaveTheirPayload : World → Type 0
PostsHaveTheirPayload w = (before : List Moment) (m : Moment) → HaveCome w (m ∷ before)
    → All (HasPayload (payload_given (effect_at w (state w before) m).deed)) m.told

-- the calls by whose places answers are chosen are all calls that the node's journal records
abbrev pub CalledAreTold : World → Type 0
CalledAreTold w = (k : ℕ) (ms : List Moment) → ((state w ms).nodes k).called ≡ calls_in (untimed (journal w k ms))
