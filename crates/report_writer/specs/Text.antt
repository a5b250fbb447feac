-- The text of a report: a line per record, in the order of events, and a last line.
use Rattle.std.specs.Prelude.{ℕ, suc, ◌+◌, ◌==◌, Bool, true, false, List, [], ◌∷◌, ◌++◌, codes, length, drop, map, flat_map, filter, max}
use Rattle.std.specs.Prelude.{fold, sum_by}
use Rattle.vm_shape.specs.declared.description.Description.{Description}
use Rattle.mate_journal.specs.Log.{Log}
use Rattle.mate_journal.specs.Tidy.{below}
use Rattle.mate_journal.specs.declared.air.Aired.{Aired}
use Rattle.mate_journal.specs.declared.entry.Stamped.{Stamped}
use Rattle.mate_journal.specs.declared.report.Report.{Report}
use Rattle.report_writer.specs.Words.{stamp_words, entry_words, air_words, number}

-- the line of an entry in a node's log
abbrev pub entry_line : Description → Log → ℕ → Stamped → List ℕ
entry_line d l node e = stamp_words e.stamp node ++ entry_words d l e.entry ++ codes "\n"

-- the line of what happened on the air
abbrev pub air_line : Aired → List ℕ
air_line a = stamp_words a.stamp a.node ++ air_words a.air ++ codes "\n"

-- the lines of what happened on the air, and then those of the entries of a node's log from a position on
abbrev pub event_piece : Description → List Aired → Log → ℕ → ℕ → List ℕ
event_piece d air l from node = flat_map air_line air ++ flat_map (entry_line d l node) (drop from l.entries)

-- the lines of one event in the logs of the nodes from `node` on, node by node
abbrev pub entry_lines : Description → ℕ → ℕ → List Log → List ℕ
entry_lines d event node [] = []
entry_lines d event node (l ∷ ls) =
    flat_map (entry_line d l node) (filter (λ e. e.stamp.event == event) l.entries) ++ entry_lines d event (suc node) ls

-- the lines of one event: first what happened on the air, then the entries
abbrev pub event_lines : Description → Report → ℕ → List ℕ
event_lines d r event = flat_map air_line (filter (λ a. a.stamp.event == event) r.air) ++ entry_lines d event 0 r.nodes

-- a number greater than that of each event with a record
abbrev pub events_end : Report → ℕ
events_end r =
    suc (max (fold max 0 (map (λ a. a.stamp.event) r.air))
    (fold max 0 (flat_map (λ l. map (λ e. e.stamp.event) l.entries) r.nodes)))

-- how many records a report has
abbrev pub records : Report → ℕ
records r = length r.air + sum_by (λ l. length l.entries) r.nodes

abbrev pub end_word : Bool → List ℕ
end_word true = codes "end"
end_word false = codes "full"

abbrev pub end_line : ℕ → ℕ → ℕ → Bool → List ℕ
end_line records events nodes whole = end_word whole ++ number records ++ number events ++ number nodes ++ codes "\n"

-- the lines of all records
abbrev pub lines : Description → Report → List ℕ
lines d r = flat_map (event_lines d r) (below (events_end r))

abbrev pub text : Description → Report → List ℕ
text d r = lines d r ++ end_line (records r) r.events (length r.nodes) r.whole
