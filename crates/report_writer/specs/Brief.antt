-- The summary of a report.
use Rattle.std.specs.Prelude.{ℕ, ◌==◌, Bool, true, false, if◌then◌else◌, List, ◌++◌, codes, length, max, fold, flat_map, filter_map}
use Rattle.std.specs.Prelude.{count_by, sum_by, Option, None, Some}
use Rattle.vm_shape.specs.declared.description.Description.{Description}
use Rattle.mate_journal.specs.Log.{Log}
use Rattle.mate_journal.specs.declared.air.Air.{Air}
use Rattle.mate_journal.specs.declared.air.Air.TheVariants as air
use Rattle.mate_journal.specs.declared.air.Aired.{Aired}
use Rattle.mate_journal.specs.declared.entry.Entry.{Entry}
use Rattle.mate_journal.specs.declared.entry.Entry.TheVariants as entry
use Rattle.mate_journal.specs.declared.report.Report.{Report}
use Rattle.report_writer.specs.Words.{number, word, handler_name}
use Rattle.mate_journal.specs.Tidy.{below}
use Rattle.report_writer.specs.Text.{records, end_word}
use Rattle.report_writer.specs.declared.kinds.EntryKind.{EntryKind}
use Rattle.report_writer.specs.declared.kinds.EntryKind.TheVariants as entry_kind
use Rattle.report_writer.specs.declared.kinds.AirKind.{AirKind}
use Rattle.report_writer.specs.declared.kinds.AirKind.TheVariants as air_kind

-- one if it is so, and else none
abbrev pub one_if : Bool → ℕ
one_if true = 1
one_if false = 0

-- whether an entry is of a kind
abbrev pub is_entry : EntryKind → Entry → Bool
is_entry entry_kind.Post (entry.Post n h c payload) = true
is_entry entry_kind.Drop (entry.Dropped h cause) = true
is_entry entry_kind.Halt (entry.Halt n) = true
is_entry entry_kind.Fault (entry.Fault n kind) = true
is_entry entry_kind.Install (entry.Install h version image) = true
is_entry _ _ = false

-- whether what happened on the air is of a kind
abbrev pub is_air : AirKind → Air → Bool
is_air air_kind.Sent (air.Sent n bytes) = true
is_air air_kind.Got (air.Got n from) = true
is_air air_kind.Lost (air.Lost n to) = true
is_air _ _ = false

-- how many entries, and how many records of the air, are of a kind
abbrev pub entries_of : EntryKind → List Log → ℕ
entries_of kind logs = sum_by (λ l. count_by (λ e. is_entry kind e.entry) l.entries) logs

abbrev pub air_of : AirKind → List Aired → ℕ
air_of kind aired = count_by (λ a. is_air kind a.air) aired

-- the version that an entry installs for a handler
abbrev pub installed : ℕ → Entry → Option ℕ
installed h (entry.Install g version image) = if g.0 == h then Some version else None
installed h _ = None

-- the versions that a node installed for a handler, in order
abbrev pub versions : ℕ → Log → List ℕ
versions h l = filter_map (λ e. installed h e.entry) l.entries

-- the greatest version installed for a handler, and the last one on a node; 0 for none
abbrev pub newest : ℕ → List Log → ℕ
newest h logs = fold max 0 (flat_map (versions h) logs)

abbrev pub last : ℕ → Log → ℕ
last h l = fold (λ before version. version) 0 (versions h l)

-- how many nodes have a handler's newest version as their last one; 0 if there is none
abbrev pub holders : ℕ → List Log → ℕ
holders h logs = if newest h logs == 0 then 0 else count_by (λ l. last h l == newest h logs) logs

abbrev pub count_line : List ℕ → ℕ → List ℕ
count_line name n = name ++ number n ++ codes "\n"

abbrev pub newest_line : Description → List Log → ℕ → List ℕ
newest_line d logs h =
    codes "newest" ++ word (handler_name d (record { 0 = h })) ++ number (newest h logs) ++ number (holders h logs) ++ codes "\n"

-- the lines of these counts
abbrev pub text_of_counts : (nodes events records posts drops halts faults installs sent got lost : ℕ) → List ℕ
text_of_counts nodes events records posts drops halts faults installs sent got lost =
    count_line (codes "nodes") nodes ++ count_line (codes "events") events ++ count_line (codes "records") records
    ++ count_line (codes "posts") posts ++ count_line (codes "drops") drops ++ count_line (codes "halts") halts
    ++ count_line (codes "faults") faults ++ count_line (codes "installs") installs
    ++ count_line (codes "sent") sent ++ count_line (codes "got") got ++ count_line (codes "lost") lost

-- those of a report
abbrev pub count_lines : Report → List ℕ
count_lines r =
    let of : EntryKind → ℕ = λ kind. entries_of kind r.nodes in
    text_of_counts (length r.nodes) r.events (records r) (of entry_kind.Post) (of entry_kind.Drop) (of entry_kind.Halt)
    (of entry_kind.Fault) (of entry_kind.Install) (air_of air_kind.Sent r.air) (air_of air_kind.Got r.air) (air_of air_kind.Lost r.air)

-- the counts, a line per handler, and whether the run is whole
abbrev pub brief : Description → Report → List ℕ
brief d r = count_lines r ++ flat_map (newest_line d r.nodes) (below (length d.handlers.items)) ++ end_word r.whole ++ codes "\n"
