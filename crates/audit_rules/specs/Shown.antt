-- Stores seen: what a journal records of them by itself, and the same as tests by the roll and the serial store.
use Rattle.std.specs.Prelude.{◌≡◌, ℕ, zero, suc, ◌&&◌, ◌||◌, not, Bool, true, List, [], ◌∷◌, length, IfSome}
use Rattle.std.specs.List.{list_any, list_all}
use Rattle.mate_num.specs.Lists.{Each}
use Rattle.mate_num.specs.declared.resource.Resource.{Resource}
use Rattle.mate_num.specs.declared.resource.Resource.TheVariants.{Shared, Buffer}
use Rattle.mate_num.specs.declared.store.Store.{Store}
use Rattle.mate_journal.specs.Machine.{Machine}
use Rattle.mate_journal.specs.Journal.{JournalEntry, Posted, Dropped, Started, Asked, Answered, Ended, Installed, Reset, Seen, Void, store_seen}
use Rattle.mate_journal.specs.Journal.{TimedEntry, is_started, NodeState, whole_run}
use Rattle.mate_journal.specs.Stores.{values_at, WritesResource}
use Rattle.mate_journal.specs.WellFormed.{IsWaiting}
use Rattle.audit_rules.specs.Roll.{Seat, Roll, rolled, is_waiting}
use Rattle.audit_rules.specs.Same.{same_values}
use Rattle.audit_rules.specs.Rerun.{run_on, serial_after}

-- What no started live invocation writes has the serial store's value; what a waiting one writes has the value in the store of its
-- run, up to the call that it waits in. (Of what a ready one writes the journal alone records nothing.)
pub record ShowsValues (m : Machine) (r : NodeState) (seen : Store) : Type 0 where
  pub unwritten : (at : Resource) → ((n : ℕ) → WritesResource m r n at → ⊥) → values_at seen at ≡ values_at r.serial at
  pub waiting : (at : Resource) (n : ℕ) → WritesResource m r n at → IsWaiting r n → values_at seen at ≡ values_at (whole_run m r n).store at

abbrev pub ShowsValuesAt : Machine → NodeState → JournalEntry → Type 0
ShowsValuesAt m r told = IfSome (store_seen told) (ShowsValues m r)

-- the store has as many variables and as many buffers as those of the machine
pub record HasLengthsOf (m : Machine) (s : Store) : Type 0 where
  pub shared : length s.shared.items ≡ length m.zero_store.shared.items
  pub buffers : length s.buffers.items ≡ length m.zero_store.buffers.items

-- each store that is seen has them
abbrev pub SeenLengths : Machine → List TimedEntry → Type 0
SeenLengths m = Each (λ e. IfSome (store_seen e.told) (HasLengthsOf m))

-- a run keeps them
abbrev pub KeepsLengths : Machine → Type 0
KeepsLengths m = (r : NodeState) (n : ℕ) → HasLengthsOf m r.serial → HasLengthsOf m (whole_run m r n).store

-- ---- the same as tests

abbrev pub writes_at : Machine → Resource → Seat → Bool
writes_at m at s = is_started s.invocation.phase && (m.meaning.uses s.invocation.program).writes at

abbrev pub agrees_at : Machine → Store → Store → Resource → Seat → Bool
agrees_at m store seen at s =
    not (writes_at m at s && is_waiting s.invocation.phase)
    || same_values (values_at seen at) (values_at (run_on m store s.invocation).store at)

abbrev pub is_shown_at : Machine → Roll → Store → Store → Resource → Bool
is_shown_at m x store seen at =
    (list_any (writes_at m at) x.seats || same_values (values_at seen at) (values_at store at))
    && list_all (agrees_at m store seen at) x.seats

-- a test passes for each number below n
abbrev pub all_below : (ℕ → Bool) → ℕ → Bool
all_below test zero = true
all_below test (suc n) = test n && all_below test n

abbrev pub is_store_shown : Machine → Roll → Store → Store → Bool
is_store_shown m x store seen =
    all_below (λ v. is_shown_at m x store seen (Shared record { 0 = v })) (length m.zero_store.shared.items)
    && all_below (λ b. is_shown_at m x store seen (Buffer record { 0 = b })) (length m.zero_store.buffers.items)

abbrev pub shows_right : Machine → Roll → Store → JournalEntry → Bool
shows_right m x store (Seen seen) = is_store_shown m x store seen
shows_right m x store _ = true

abbrev pub stores_right : Machine → Roll → Store → List TimedEntry → Bool
stores_right m x store [] = true
stores_right m x store (e ∷ es) = shows_right m x store e.told && stores_right m (rolled x e.told) (serial_after m x store e.told) es
