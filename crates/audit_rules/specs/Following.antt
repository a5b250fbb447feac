-- Whether a journal is well formed, as a test.
use Rattle.std.specs.Prelude.{suc, ◌+◌, ◌==◌, nat_le, nat_lt, ◌&&◌, ◌||◌, not, Bool, true, false, List, [], ◌∷◌, is_some}
use Rattle.std.specs.List.{list_any}
use Rattle.mate_num.specs.declared.call.End.{End}
use Rattle.mate_num.specs.declared.call.End.TheVariants as end
use Rattle.mate_num.specs.declared.call.Stamp.{Stamp}
use Rattle.mate_num.specs.declared.id.HandlerId.{HandlerId}
use Rattle.mate_num.specs.declared.id.ContextId.{ContextId}
use Rattle.mate_journal.specs.Machine.{Machine}
use Rattle.mate_journal.specs.Journal.{JournalEntry, Posted, Dropped, Started, Asked, Answered, Ended, Installed, Reset, Seen, Void, TimedEntry}
use Rattle.audit_rules.specs.Roll.{Roll, nobody, rolled, is_at, is_queued, is_ready, is_waiting}

abbrev pub not_before : Stamp → Stamp → Bool
not_before old new = nat_le old.event new.event && (nat_le old.time new.time && (not (old.event == new.event) || (old.time == new.time)))

abbrev pub is_in_time : Stamp → List TimedEntry → Bool
is_in_time last [] = true
is_in_time last (e ∷ es) = not_before last e.stamp && is_in_time e.stamp es

abbrev pub stamps_rise : List TimedEntry → Bool
stamps_rise [] = true
stamps_rise (e ∷ es) = is_in_time e.stamp es

abbrev pub is_context_of : Machine → HandlerId → ContextId → Bool
is_context_of m h c = nat_le (m.first_context h) c.0 && nat_lt c.0 (m.first_context h + m.contexts h)

abbrev pub closes : End → Bool
closes end.Halt = true
closes (end.Fault kind) = true
closes (end.Wants f args) = false

-- a live invocation has the context
abbrev pub is_taken : Roll → ContextId → Bool
is_taken x c = list_any (λ s. s.invocation.context.0 == c.0) x.seats

abbrev pub may_follow : Machine → Roll → JournalEntry → Bool
may_follow m x (Posted n h c payload) = (n == suc x.posts) && (is_some (x.installed h) && (is_context_of m h c && not (is_taken x c)))
may_follow m x (Started n) = is_at x n is_queued
may_follow m x (Asked n f args) = is_at x n is_ready
may_follow m x (Answered n value) = is_at x n is_waiting
may_follow m x (Ended n how) = is_at x n is_ready && closes how
may_follow m x _ = true

-- each entry of the journal, with the roll before it
abbrev pub follow_one_another : Machine → Roll → List TimedEntry → Bool
follow_one_another m x [] = true
follow_one_another m x (e ∷ es) = may_follow m x e.told && follow_one_another m (rolled x e.told) es

abbrev pub entries_follow : Machine → List TimedEntry → Bool
entries_follow m es = stamps_rise es && follow_one_another m nobody es
