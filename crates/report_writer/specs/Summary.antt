-- The summary of a report, from what was counted.
use Rattle.std.specs.Prelude.{◌≡◌, ◌≤◌, ◌+◌, ◌*◌, ◌^◌, ◌==◌, ℕ, Bool, if◌then◌else◌, List, [], ◌∷◌, ◌++◌, codes, length, max, fold}
use Rattle.mate_num.specs.declared.bounds.TheConstants.{NODES_MAX}
use Rattle.std.specs.Prelude.{flat_map, count_by, sum_by, All}
use Rattle.vm_shape.specs.declared.description.Description.{Description}
use Rattle.mate_journal.specs.Tidy.{below}
use Rattle.mate_journal.specs.declared.report.Report.{Report}
use Rattle.report_writer.specs.Words.{number, word, handler_name}
use Rattle.report_writer.specs.Text.{end_word}
use Rattle.report_writer.specs.Brief.{text_of_counts}
use Rattle.report_writer.specs.declared.kinds.EntryKind.{EntryKind}
use Rattle.report_writer.specs.declared.kinds.EntryKind.TheVariants as entry_kind
use Rattle.report_writer.specs.Tally.{entries_counted, versions_at, IsUpTo, IsLogTally, AreLogTallies, IsAirTally}
use Rattle.report_writer.specs.declared.tally.LogTally.{LogTally}
use Rattle.report_writer.specs.declared.summary.RunTally.{RunTally}
use Rattle.report_writer.specs.declared.summary.Summary.{Summary}

-- it is that of this report
pub record SumsReport (d : Description) (s : Summary) (r : Report) : Type 0 where
  pub nodes : AreLogTallies (length d.handlers.items) s.nodes.items r.nodes
  pub air : IsAirTally s.air r.air
  pub events : s.events ≡ r.events
  pub whole : s.whole ≡ r.whole

-- their sums are counted by 64 bits
pub record AreSmall (ts : List LogTally) : Type 0 where
  pub count : length ts ≤ NODES_MAX
  pub each : All (IsUpTo (3 * 2 ^ 56)) ts

pub record IsSmall (s : Summary) : Type 0 where
  pub nodes : AreSmall s.nodes.items
  pub air : s.air.records ≤ 3 * 2 ^ 56

-- it is that of a run on one node
pub record IsOfNode (t : LogTally) (events : ℕ) (whole : Bool) (s : Summary) : Type 0 where
  pub nodes : s.nodes.items ≡ t ∷ []
  pub air : IsAirTally s.air []
  pub events_are : s.events ≡ events
  pub whole_is : s.whole ≡ whole

-- what was counted of a run on this number of nodes before anything happened
pub record IsNewTally (handlers nodes : ℕ) (t : RunTally) : Type 0 where
  pub count : length t.nodes.items ≡ nodes
  pub none : All (λ (a : LogTally). IsLogTally handlers a []) t.nodes.items
  pub air : IsAirTally t.air []

-- ---- its text

abbrev pub entries_summed : EntryKind → List LogTally → ℕ
entries_summed kind ts = sum_by (λ t. entries_counted kind t.counts) ts

-- the greatest version of a handler, 0 for none
abbrev pub newest_counted : ℕ → List LogTally → ℕ
newest_counted h ts = fold (λ version t. max version (versions_at h t.versions.items).newest) 0 ts

-- how many nodes have it as their last one; 0 if there is none
abbrev pub holders_counted : ℕ → List LogTally → ℕ
holders_counted h ts = if newest_counted h ts == 0 then 0
    else count_by (λ t. (versions_at h t.versions.items).last == newest_counted h ts) ts

abbrev pub newest_line_counted : Description → List LogTally → ℕ → List ℕ
newest_line_counted d ts h =
    codes "newest" ++ word (handler_name d (record { 0 = h })) ++ number (newest_counted h ts) ++ number (holders_counted h ts)
    ++ codes "\n"

abbrev pub counted_lines : Summary → List ℕ
counted_lines s =
    let of : EntryKind → ℕ = λ kind. entries_summed kind s.nodes.items in
    text_of_counts (length s.nodes.items) s.events (s.air.records + sum_by (λ t. t.entries) s.nodes.items) (of entry_kind.Post)
    (of entry_kind.Drop) (of entry_kind.Halt) (of entry_kind.Fault) (of entry_kind.Install) s.air.sent s.air.got s.air.lost

-- the counts, a line per handler, and whether the run is whole
abbrev pub summary_text : Description → Summary → List ℕ
summary_text d s = counted_lines s ++ flat_map (newest_line_counted d s.nodes.items) (below (length d.handlers.items)) ++ end_word s.whole
    ++ codes "\n"
