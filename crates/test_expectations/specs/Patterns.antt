-- What a pattern asks for, of an entry of a node's log and of what happens on the air.
use Rattle.std.specs.Prelude.{ℕ, ℤ, ◌==◌, ◌-◌, nat_le, int_le, Bool, true, false, ◌&&◌, Option, None, Some, List, length, zip, filter_map, slice_get}
use Rattle.std.specs.List.{list_all}
use Rattle.mate_num.specs.declared.call.FaultKind.{FaultKind}
use Rattle.mate_num.specs.declared.call.FaultKind.TheVariants as kind
use Rattle.mate_num.specs.declared.call.Stamp.{Stamp}
use Rattle.mate_num.specs.declared.id.HandlerId.{HandlerId}
use Rattle.mate_journal.specs.declared.air.Air.{Air}
use Rattle.mate_journal.specs.declared.air.Air.TheVariants as air
use Rattle.mate_journal.specs.declared.entry.Entry.{Entry}
use Rattle.mate_journal.specs.declared.entry.Entry.TheVariants as entry
use Rattle.mate_journal.specs.declared.entry.Stamped.{Stamped}
use Rattle.test_expectations.specs.declared.pattern.ValueRange.{ValueRange}
use Rattle.test_expectations.specs.declared.pattern.Happening.{Happening}
use Rattle.test_expectations.specs.declared.pattern.Happening.TheVariants as happening
use Rattle.test_expectations.specs.declared.pattern.Pattern.{Pattern}

-- a number is the one that is asked for, if one is
abbrev pub is_asked : Option ℕ → ℕ → Bool
is_asked None n = true
is_asked (Some asked) n = asked == n

abbrev pub same_kind : FaultKind → FaultKind → Bool
same_kind kind.DivZero kind.DivZero = true
same_kind kind.Index kind.Index = true
same_kind kind.BufferFull kind.BufferFull = true
same_kind kind.BufferEmpty kind.BufferEmpty = true
same_kind kind.Overrun kind.Overrun = true
same_kind _ _ = false

abbrev pub is_asked_kind : Option FaultKind → FaultKind → Bool
is_asked_kind None k = true
is_asked_kind (Some asked) k = same_kind asked k

abbrev pub in_range : ValueRange → ℤ → Bool
in_range r v = int_le r.low v && int_le v r.high

-- as many values as ranges, each in its range
abbrev pub in_ranges : List ValueRange → List ℤ → Bool
in_ranges rs vs = length rs == length vs && list_all (λ p. in_range p.0 p.1) (zip rs vs)

-- what an entry says is what is asked for, whichever its handler is
abbrev pub says : Happening → Entry → Bool
says happening.Posted (entry.Post n h c payload) = true
says happening.Dropped (entry.Dropped h cause) = true
says happening.Started (entry.Start n) = true
says (happening.Called f) (entry.Ask n g args) = f.0 == g.0
says (happening.CalledWith f ranges) (entry.Ask n g args) = f.0 == g.0 && in_ranges ranges.items args.items
says happening.Halted (entry.Halt n) = true
says (happening.Faulted asked) (entry.Fault n k) = is_asked_kind asked k
says (happening.Installed asked) (entry.Install h version image) = is_asked asked version
says happening.Reset entry.Reset = true
says _ _ = false

-- the handlers of a log's posts: invocation n is that of the n-th one, counted from 1
abbrev pub post_handler : Entry → Option HandlerId
post_handler (entry.Post n h c payload) = Some h
post_handler _ = None

abbrev pub posted : List Stamped → List HandlerId
posted es = filter_map (λ e. post_handler e.entry) es

-- the handler of an entry, among those that were posted
abbrev pub entry_handler : List HandlerId → Entry → Option HandlerId
entry_handler posts (entry.Post n h c payload) = Some h
entry_handler posts (entry.Dropped h cause) = Some h
entry_handler posts (entry.Install h version image) = Some h
entry_handler posts (entry.Start n) = slice_get posts (n - 1)
entry_handler posts (entry.Ask n f args) = slice_get posts (n - 1)
entry_handler posts (entry.Answer n value) = slice_get posts (n - 1)
entry_handler posts (entry.Halt n) = slice_get posts (n - 1)
entry_handler posts (entry.Fault n k) = slice_get posts (n - 1)
entry_handler posts _ = None

-- it is the handler that is asked for, if one is
abbrev pub is_asked_handler : Option HandlerId → Option HandlerId → Bool
is_asked_handler None h = true
is_asked_handler (Some asked) None = false
is_asked_handler (Some asked) (Some h) = asked.0 == h.0

abbrev pub in_window : Pattern → Stamp → Bool
in_window p at = nat_le p.from at.time && nat_le at.time p.by

-- an entry of a log with these posts is what a pattern asks for, whichever its node is
abbrev pub entry_matches : Pattern → List HandlerId → Stamped → Bool
entry_matches p posts e = in_window p e.stamp && says p.happening e.entry && is_asked_handler p.handler (entry_handler posts e.entry)

-- what happened on the air is what is asked for
abbrev pub says_air : Happening → Air → Bool
says_air happening.Sent (air.Sent n bytes) = true
says_air happening.Lost (air.Lost n to) = true
says_air happening.Got (air.Got n from) = true
says_air happening.Noise (air.Noise bytes) = true
says_air _ _ = false
