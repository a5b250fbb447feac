-- The grant rule, decided by the roll.
use Rattle.std.specs.Prelude.{ℕ, ◌==◌, nat_lt, ◌&&◌, ◌||◌, not, Bool, List, [], ◌∷◌, Decides}
use Rattle.std.specs.List.{list_any, list_all}
use Rattle.mate_num.specs.Uses.{Conflicts}
use Rattle.mate_journal.specs.Machine.{HeldProgram, Meaning}
use Rattle.mate_journal.specs.Journal.{JournalEntry, Posted, Dropped, Started, Asked, Answered, Ended, Installed, Reset, Seen, Void, TimedEntry}
use Rattle.mate_journal.specs.Journal.{is_started}
use Rattle.mate_journal.specs.Grants.{started_number}
use Rattle.audit_rules.specs.Roll.{Seat, Roll, rolled, is_queued}

-- a test whether two programs conflict
abbrev pub ConflictTest : Type 0
ConflictTest = HeldProgram → HeldProgram → Bool

-- it decides exactly that
abbrev pub TellsConflicts : Meaning → ConflictTest → Type 0
TellsConflicts meaning conflict = (p q : HeldProgram) → Decides (conflict p q) (Conflicts (meaning.uses p) (meaning.uses q))

-- t comes before the queued s
abbrev pub is_ahead : Seat → Seat → Bool
is_ahead s t = is_started t.invocation.phase || (nat_lt t.number s.number && is_queued t.invocation.phase)

-- an invocation ahead of s conflicts with it
abbrev pub holds_back : ConflictTest → Seat → Seat → Bool
holds_back conflict s t = is_ahead s t && conflict s.invocation.program t.invocation.program

abbrev pub is_held_back : ConflictTest → Roll → Seat → Bool
is_held_back conflict x s = list_any (holds_back conflict s) x.seats

-- each queued one is held back
abbrev pub all_held_back : ConflictTest → Roll → Bool
all_held_back conflict x = list_all (λ s. not (is_queued s.invocation.phase) || is_held_back conflict x s) x.seats

-- the invocation of that number isn't held back
abbrev pub is_free_to_start : ConflictTest → Roll → ℕ → Bool
is_free_to_start conflict x n = list_all (λ s. not (s.number == n) || not (is_held_back conflict x s)) x.seats

abbrev pub is_granted : ConflictTest → Roll → ℕ → JournalEntry → Bool
is_granted conflict x last (Started n) = is_free_to_start conflict x n && nat_lt last n
is_granted conflict x last _ = all_held_back conflict x

-- along a journal, with the number of the invocation that the entry before started
abbrev pub grants_in_order : ConflictTest → Roll → ℕ → List TimedEntry → Bool
grants_in_order conflict x last [] = all_held_back conflict x
grants_in_order conflict x last (e ∷ es) = is_granted conflict x last e.told
    && grants_in_order conflict (rolled x e.told) (started_number e.told) es
