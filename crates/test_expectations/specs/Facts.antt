-- When a fact, and an expectation, holds of a run.
use Rattle.std.specs.Prelude.{ℕ, ◌==◌, nat_le, nat_lt, ◌+◌, Bool, false, not, ◌&&◌, ◌||◌, if◌then◌else◌, Option, None, Some, List, length, sum_by, slice_get}
use Rattle.std.specs.List.{list_all, list_any}
use Rattle.std.specs.Str.{bytes_eq}
use Rattle.mate_journal.specs.Log.{Log}
use Rattle.mate_journal.specs.Tidy.{below}
use Rattle.mate_journal.specs.declared.air.Air.{Air}
use Rattle.mate_journal.specs.declared.air.Air.TheVariants as air
use Rattle.mate_journal.specs.declared.air.Aired.{Aired}
use Rattle.test_expectations.specs.Patterns.{is_asked}
use Rattle.test_expectations.specs.Sightings.{sightings}
use Rattle.test_expectations.specs.Shown.{log_shows, is_at_rest}
use Rattle.test_expectations.specs.declared.fact.Fact.{Fact}
use Rattle.test_expectations.specs.declared.fact.Fact.TheVariants as fact
use Rattle.test_expectations.specs.declared.fact.Literal.{Literal}
use Rattle.test_expectations.specs.declared.fact.RunOutcome.{RunOutcome}
use Rattle.test_expectations.specs.declared.relation.Relation.{Relation}
use Rattle.test_expectations.specs.declared.relation.Relation.TheVariants as relation
use Rattle.test_expectations.specs.declared.seen.Sighting.{Sighting}

-- one is on this node
abbrev pub is_seen_on : List Sighting → ℕ → Bool
is_seen_on seen node = list_any (λ s. s.node == node) seen

-- a sighting is in an earlier event than another one, or in the same event on the same node in an earlier place
abbrev pub is_earlier : Sighting → Sighting → Bool
is_earlier s other = nat_lt s.stamp.event other.stamp.event
    || (s.stamp.event == other.stamp.event && s.node == other.node && nat_lt s.place other.place)

-- a sighting is earlier than another one; or in the same event or a later one, at most so many ms after it
abbrev pub is_related : Relation → Sighting → Sighting → Bool
is_related relation.Earlier other s = is_earlier s other
is_related (relation.SoonAfter ms) other s = nat_le other.stamp.event s.stamp.event && nat_le s.stamp.time (other.stamp.time + ms)

-- each of the first ones has a second one that is so related to it
abbrev pub all_related : Relation → List Sighting → List Sighting → Bool
all_related r each others = list_all (λ s. list_any (is_related r s) others) each

-- how many bytes a record of the air sends from a node that is asked for
abbrev pub sent_length : Air → ℕ
sent_length (air.Sent n bytes) = length bytes.items
sent_length _ = 0

abbrev pub bytes_sent : Option ℕ → Aired → ℕ
bytes_sent node a = if is_asked node a.node then sent_length a.air else 0

-- on the node that is asked for, which must be there; or on each node
abbrev pub some_passes : (Log → Bool) → Option Log → Bool
some_passes test None = false
some_passes test (Some l) = test l

abbrev pub on_nodes : Option ℕ → (Log → Bool) → List Log → Bool
on_nodes None test logs = list_all test logs
on_nodes (Some node) test logs = some_passes test (slice_get logs node)

abbrev pub fact_holds : RunOutcome → Fact → Bool
fact_holds o (fact.Status status) = o.status == status
fact_holds o (fact.Refused line) = bytes_eq o.refusal.now line
fact_holds o fact.Serial = o.is_serial
fact_holds o fact.AtRest = list_all is_at_rest o.report.now.nodes
fact_holds o (fact.Count p least most) = nat_le least (length (sightings p o.report.now)) && nat_le (length (sightings p o.report.now)) most
fact_holds o (fact.OnEach p) = list_all (is_seen_on (sightings p o.report.now)) (below (length o.report.now.nodes))
fact_holds o (fact.Before first second) = all_related relation.Earlier (sightings second o.report.now) (sightings first o.report.now)
fact_holds o (fact.Within effect cause ms) = all_related (relation.SoonAfter ms) (sightings cause o.report.now) (sightings effect o.report.now)
fact_holds o (fact.Shows place when by node) = on_nodes node (log_shows place when by) o.report.now.nodes
fact_holds o (fact.BytesAtMost node most) = nat_le (sum_by (bytes_sent node) o.report.now.air) most

abbrev pub literal_holds : RunOutcome → Literal → Bool
literal_holds o l = if l.negated then not (fact_holds o l.fact) else fact_holds o l.fact

abbrev pub conjunction_holds : RunOutcome → List Literal → Bool
conjunction_holds o c = list_all (literal_holds o) c

-- one of the conjunctions holds
abbrev pub expectation_holds : RunOutcome → List (List Literal) → Bool
expectation_holds o e = list_any (conjunction_holds o) e
