-- Serial replay at ends, as tests by the roll and the serial store.
use Rattle.std.specs.Prelude.{ℕ, ◌==◌, ◌&&◌, ◌||◌, not, Bool, true, List, [], ◌∷◌, if◌then◌else◌}
use Rattle.std.specs.List.{list_all}
use Rattle.mate_num.specs.declared.call.End.{End}
use Rattle.mate_num.specs.declared.call.End.TheVariants as end
use Rattle.mate_num.specs.declared.outcome.Outcome.{Outcome}
use Rattle.mate_num.specs.declared.store.Store.{Store}
use Rattle.mate_journal.specs.Machine.{Machine}
use Rattle.mate_journal.specs.Journal.{JournalEntry, Posted, Dropped, Started, Asked, Answered, Ended, Installed, Reset, Seen, Void, TimedEntry, Phase}
use Rattle.mate_journal.specs.Journal.{Unposted, Queued, Ready, Waiting, Over, is_started, Invocation, answers_of}
use Rattle.audit_rules.specs.Roll.{Seat, Roll, rolled}
use Rattle.audit_rules.specs.Granting.{ConflictTest}
use Rattle.audit_rules.specs.Same.{same_calls, same_end}

-- the whole run of an invocation on a store
abbrev pub run_on : Machine → Store → Invocation → Outcome
run_on m store i = m.meaning.run i.program store i.payload (answers_of i) m.turns

-- a run ends as an invocation of this phase needs it: if it waits, in its call
abbrev pub wants_as : Phase → End → Bool
wants_as Unposted e = true
wants_as Queued e = true
wants_as Ready e = true
wants_as (Waiting f args) e = same_end e (end.Wants f args)
wants_as Over e = true

abbrev pub outcome_is_so_far : Invocation → Outcome → Bool
outcome_is_so_far i o = same_calls o.calls i.calls && wants_as i.phase o.end

abbrev pub is_so_far : Machine → Store → Invocation → Bool
is_so_far m store i = outcome_is_so_far i (run_on m store i)

-- each started one is run
abbrev pub all_so_far : Machine → Roll → Store → Bool
all_so_far m x store = list_all (λ s. not (is_started s.invocation.phase) || is_so_far m store s.invocation) x.seats

-- where i of that number ended, and left this store: a started one that conflicts with it is run before and after
abbrev pub is_undisturbed : Machine → ConflictTest → Store → Store → ℕ → Invocation → Seat → Bool
is_undisturbed m conflict before after n i s =
    (s.number == n) || (not (is_started s.invocation.phase)
    || (not (conflict i.program s.invocation.program) || (is_so_far m before s.invocation && is_so_far m after s.invocation)))

-- an invocation ends so
abbrev pub ends_right : Machine → ConflictTest → Roll → Store → ℕ → End → Seat → Bool
ends_right m conflict x store n how t =
    not (t.number == n)
    || ((same_end (run_on m store t.invocation).end how && same_calls (run_on m store t.invocation).calls t.invocation.calls)
    && list_all (is_undisturbed m conflict store (run_on m store t.invocation).store n t.invocation) x.seats)

-- what is run at an entry is right
abbrev pub runs_right : Machine → ConflictTest → Roll → Store → JournalEntry → Bool
runs_right m conflict x store (Ended n how) = list_all (ends_right m conflict x store n how) x.seats
runs_right m conflict x store (Installed p) = all_so_far m x store
runs_right m conflict x store Reset = all_so_far m x store
runs_right m conflict x store _ = true

-- the store after the end of the invocation of that number
abbrev pub store_left : Machine → Store → ℕ → List Seat → Store
store_left m store n [] = store
store_left m store n (s ∷ seats) = if s.number == n then (run_on m store s.invocation).store else store_left m store n seats

-- the serial store after an entry
abbrev pub serial_after : Machine → Roll → Store → JournalEntry → Store
serial_after m x store (Ended n how) = store_left m store n x.seats
serial_after m x store (Installed p) = m.zero_store
serial_after m x store Reset = m.zero_store
serial_after m x store _ = store

-- along a journal
abbrev pub replays_right : Machine → ConflictTest → Roll → Store → List TimedEntry → Bool
replays_right m conflict x store [] = all_so_far m x store
replays_right m conflict x store (e ∷ es) = runs_right m conflict x store e.told
    && replays_right m conflict (rolled x e.told) (serial_after m x store e.told) es
