-- Where a pattern is seen in a report.
use Rattle.std.specs.Prelude.{ℕ, suc, if◌then◌else◌, ◌&&◌, Option, None, Some, List, [], ◌∷◌, ◌++◌, filter_map}
use Rattle.std.specs.Option.{option_to_list}
use Rattle.mate_num.specs.declared.id.HandlerId.{HandlerId}
use Rattle.mate_journal.specs.Log.{Log}
use Rattle.mate_journal.specs.declared.air.Aired.{Aired}
use Rattle.mate_journal.specs.declared.entry.Stamped.{Stamped}
use Rattle.mate_journal.specs.declared.report.Report.{Report}
use Rattle.test_expectations.specs.Patterns.{is_asked, in_window, entry_matches, posted, says_air}
use Rattle.test_expectations.specs.declared.pattern.Pattern.{Pattern}
use Rattle.test_expectations.specs.declared.seen.Sighting.{Sighting}

-- what each item gives with its number, which counts up from `n`, in order
abbrev pub by_number : {X Y : Type 0} → (ℕ → X → List Y) → ℕ → List X → List Y
by_number f n [] = []
by_number f n (x ∷ xs) = f n x ++ by_number f (suc n) xs

-- the sighting that an entry of a node is, if it is one; `place` is its number in the node's log
abbrev pub entry_sighting : Pattern → List HandlerId → ℕ → ℕ → Stamped → Option Sighting
entry_sighting p posts node place e = if entry_matches p posts e then Some (record { node = node; place = place; stamp = e.stamp }) else None

abbrev pub entry_sightings : Pattern → List HandlerId → ℕ → ℕ → Stamped → List Sighting
entry_sightings p posts node place e = option_to_list (entry_sighting p posts node place e)

-- those in a node's log, in order; its entries are numbered from 1
abbrev pub log_sightings : Pattern → ℕ → Log → List Sighting
log_sightings p node l = if is_asked p.node node then by_number (entry_sightings p (posted l.entries) node) 1 l.entries else []

-- the sighting that a record of the air is, if it is one; it comes before all entries of its event
abbrev pub air_sighting : Pattern → Aired → Option Sighting
air_sighting p a = if in_window p a.stamp && is_asked p.node a.node && says_air p.happening a.air
    then Some (record { node = a.node; place = 0; stamp = a.stamp }) else None

-- all: those of each node, and then those on the air
abbrev pub sightings : Pattern → Report → List Sighting
sightings p r = by_number (log_sightings p) 0 r.nodes ++ filter_map (air_sighting p) r.air
