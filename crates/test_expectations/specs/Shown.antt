-- What a report shows of a node: its variables and buffers, and whether something is left to do.
use Rattle.std.specs.Prelude.{ℕ, ℤ, ◌+◌, ◌-◌, ◌==◌, nat_le, Bool, true, false, ◌&&◌, Option, None, Some, List, fold, filter_map, slice_get, if◌then◌else◌}
use Rattle.mate_num.specs.declared.store.Store.{Store}
use Rattle.mate_num.specs.Store.{buffer_at}
use Rattle.mate_journal.specs.Log.{Log}
use Rattle.mate_journal.specs.declared.entry.Entry.{Entry}
use Rattle.mate_journal.specs.declared.entry.Entry.TheVariants as entry
use Rattle.mate_journal.specs.declared.entry.Stamped.{Stamped}
use Rattle.test_expectations.specs.Patterns.{in_range, in_ranges}
use Rattle.test_expectations.specs.declared.fact.Place.{Place}
use Rattle.test_expectations.specs.declared.fact.Place.TheVariants as place
use Rattle.test_expectations.specs.declared.fact.When.{When}
use Rattle.test_expectations.specs.declared.fact.When.TheVariants as when
use Rattle.test_expectations.specs.declared.pattern.ValueRange.{ValueRange}

-- a value that is there is in the range
abbrev pub some_in_range : ValueRange → Option ℤ → Bool
some_in_range r None = false
some_in_range r (Some v) = in_range r v

-- the variable has a value in its range, or the buffer as many values as there are ranges, each in its range
abbrev pub place_holds : Place → Store → Bool
place_holds (place.Variable var range) s = some_in_range range (slice_get s.shared.items var.0)
place_holds (place.Buffer buf ranges) s = in_ranges ranges.items (buffer_at s buf.0)

-- the store that an entry shows
abbrev pub shown_in : List Store → Entry → Option Store
shown_in stores (entry.Seen n) = slice_get stores n
shown_in stores _ = None

-- the stores that a node's log shows up to a time, in order
abbrev pub shown_by : ℕ → List Store → Stamped → Option Store
shown_by by stores e = if nat_le e.stamp.time by then shown_in stores e.entry else None

abbrev pub stores_shown : ℕ → Log → List Store
stores_shown by l = filter_map (shown_by by l.stores) l.entries

-- of the last one, which must be there; or of each one
abbrev pub at_first : When → Bool
at_first when.Last = false
at_first when.Always = true

abbrev pub with_next : When → Bool → Bool → Bool
with_next when.Last before now = now
with_next when.Always before now = before && now

-- what a log shows up to a time holds
abbrev pub log_shows : Place → When → ℕ → Log → Bool
log_shows p w by l = fold (λ before s. with_next w before (place_holds p s)) (at_first w) (stores_shown by l)

-- how many invocations are live after an entry: an install and a reset end all
abbrev pub live_after : ℕ → Entry → ℕ
live_after n (entry.Post m h c payload) = n + 1
live_after n (entry.Halt m) = n - 1
live_after n (entry.Fault m k) = n - 1
live_after n (entry.Install h version image) = 0
live_after n entry.Reset = 0
live_after n _ = n

-- none is at the end of a log
abbrev pub is_at_rest : Log → Bool
is_at_rest l = fold (λ n e. live_after n e.entry) 0 l.entries == 0
