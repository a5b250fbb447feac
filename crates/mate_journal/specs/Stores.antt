-- Stores seen: what a journal shows of the shared variables and buffers.
use Rattle.std.specs.Prelude.{◌≡◌, ℕ, ℤ, Bool, true, false, IsTrue, List, [], ⊤, length, take, drop, IfSome, MatchBool, is_some}
use Rattle.mate_num.specs.Lists.{Along}
use Rattle.mate_num.specs.Store.{buffer_at}
use Rattle.mate_num.specs.declared.resource.Resource.{Resource}
use Rattle.mate_num.specs.declared.resource.Resource.TheVariants.{Shared, Buffer, Device}
use Rattle.mate_num.specs.declared.store.Store.{Store}
use Rattle.mate_journal.specs.Machine.{Machine}
use Rattle.mate_journal.specs.WellFormed.{IsWaiting}
use Rattle.mate_journal.specs.Journal.{JournalEntry, store_seen, begins_era, TimedEntry, is_started, NodeState, whole_run, AtEachEntry}

-- what a store has at a resource: a variable's one value, or a buffer's values
abbrev pub values_at : Store → Resource → List ℤ
values_at s (Shared v) = take 1 (drop v.0 s.shared.items)
values_at s (Buffer b) = buffer_at s b.0
values_at s (Device d) = []

-- the invocation is started and live, and its program writes the resource
pub record WritesResource (m : Machine) (r : NodeState) (n : ℕ) (at : Resource) : Type 0 where
  pub started : IsTrue (is_started (r.invocations n).phase)
  pub writes : IsTrue ((m.meaning.uses (r.invocations n).program).writes at)

-- A store that is seen has every variable and buffer. What no started live invocation writes has the serial
-- store's value; what a waiting one writes has the value in the store of its run, up to the call that it waits in.
-- (Of what a ready one writes the journal alone records nothing.)
pub record IsShown (m : Machine) (r : NodeState) (seen : Store) : Type 0 where
  pub variables : length seen.shared.items ≡ length m.zero_store.shared.items
  pub buffers : length seen.buffers.items ≡ length m.zero_store.buffers.items
  pub unwritten : (at : Resource) → ((n : ℕ) → WritesResource m r n at → ⊥) → values_at seen at ≡ values_at r.serial at
  pub waiting : (at : Resource) (n : ℕ) → WritesResource m r n at → IsWaiting r n → values_at seen at ≡ values_at (whole_run m r n).store at

abbrev pub ShowsStore : Machine → NodeState → JournalEntry → Type 0
ShowsStore m r told = IfSome (store_seen told) (IsShown m r)

-- the entry shows a store
abbrev pub is_seen : JournalEntry → Bool
is_seen told = is_some (store_seen told)

-- directly before an entry that begins an era a store was seen; `seen` says whether one was
abbrev pub IsSeenBefore : Bool → JournalEntry → Type 0
IsSeenBefore seen told = MatchBool (begins_era told) (seen ≡ true) ⊤

-- a store is seen directly before each install and each reset; `just_seen` says that the last entry was one
abbrev pub SeenBeforeEras : Bool → List TimedEntry → Type 0
SeenBeforeEras = Along (λ just_seen e. IsSeenBefore just_seen e.told) (λ just_seen e. is_seen e.told)

pub record ShowsStores (m : Machine) (r : NodeState) (es : List TimedEntry) : Type 0 where
  pub shown : AtEachEntry (ShowsStore m) m r es
  pub before_eras : SeenBeforeEras false es
