-- The report that lines make.
use Rattle.std.specs.Prelude.{◌≡◌, ℕ, suc, ◌==◌, max, List, [], ◌∷◌, ◌++◌, length, map, flat_map, fold, if◌then◌else◌}
use Rattle.std.specs.List.{AllZip}
use Rattle.mate_num.specs.declared.call.Stamp.{Stamp}
use Rattle.mate_journal.specs.Log.{Log, IsSameLog}
use Rattle.mate_journal.specs.Tidy.{below}
use Rattle.mate_journal.specs.declared.air.Air.{Air}
use Rattle.mate_journal.specs.declared.air.Air.TheVariants as air
use Rattle.mate_journal.specs.declared.air.Aired.{Aired}
use Rattle.mate_journal.specs.declared.entry.Entry.{Entry}
use Rattle.mate_journal.specs.declared.entry.Entry.TheVariants as entry
use Rattle.mate_journal.specs.declared.entry.Stamped.{Stamped}
use Rattle.mate_journal.specs.declared.report.Report.{Report}
use Rattle.report_line_reader.specs.declared.line.Line.{Line}
use Rattle.report_line_reader.specs.declared.line.Told.{Told}
use Rattle.report_line_reader.specs.declared.line.Told.TheVariants as told
use Rattle.report_text.specs.declared.last_line.LastLine.{LastLine}

abbrev pub stamped : Stamp → Entry → Stamped
stamped at e = record { stamp = at; entry = e }

-- a log with what one more line records; images and stores are numbered in the order of their lines
abbrev pub log_with_line : Log → Stamp → Told → Log
log_with_line l at (told.OnAir a) = l
log_with_line l at (told.Made e) = record l { entries = l.entries ++ stamped at e ∷ [] }
log_with_line l at (told.Installed h version image) = record l {
  entries = l.entries ++ stamped at (entry.Install h version (length l.images)) ∷ [];
  images = l.images ++ image ∷ [];
}
log_with_line l at (told.Shown s) = record l {
  entries = l.entries ++ stamped at (entry.Seen (length l.stores)) ∷ [];
  stores = l.stores
      ++ s ∷ [];
}

-- the log of a node after one more line
abbrev pub log_after : ℕ → Log → Line → Log
log_after node l line = if line.node == node then log_with_line l line.stamp line.told else l

abbrev pub no_log : Log
no_log = record { entries = []; images = []; stores = []; spare = 0 }

-- the log of a node that lines make
abbrev pub log_of : ℕ → List Line → Log
log_of node ls = fold (log_after node) no_log ls

-- what a line records of the air
abbrev pub aired_by : Stamp → ℕ → Told → List Aired
aired_by at node (told.OnAir a) = record { stamp = at; node = node; air = a } ∷ []
aired_by at node _ = []

abbrev pub aired_of : Line → List Aired
aired_of l = aired_by l.stamp l.node l.told

abbrev pub air_told : List Line → List Aired
air_told ls = flat_map aired_of ls

-- the logs of the first nodes
abbrev pub logs_of : ℕ → List Line → List Log
logs_of nodes ls = map (λ node. log_of node ls) (below nodes)

-- the report of lines and a last line
abbrev pub report_of : List Line → LastLine → Report
report_of ls e = record { nodes = logs_of e.nodes ls; air = air_told ls; events = e.events; whole = e.whole }

-- the same report, whatever room is left in its logs
pub record IsSameReport (a b : Report) : Type 0 where
  pub nodes : AllZip IsSameLog a.nodes b.nodes
  pub air : a.air ≡ b.air
  pub events : a.events ≡ b.events
  pub whole : a.whole ≡ b.whole

-- ---- how many nodes lines speak of

-- the number of the node that a line names beside its own, or 0
abbrev pub node_in_air : Air → ℕ
node_in_air (air.Interval length) = 0
node_in_air air.Keep = 0
node_in_air (air.Sent n bytes) = 0
node_in_air (air.Lost n to) = to
node_in_air (air.Got n from) = from
node_in_air (air.Noise bytes) = 0

abbrev pub node_named : Told → ℕ
node_named (told.OnAir a) = node_in_air a
node_named (told.Made e) = 0
node_named (told.Installed h version image) = 0
node_named (told.Shown s) = 0

-- a number above each node number of a line, and of lines
abbrev pub nodes_in : Line → ℕ
nodes_in l = suc (max l.node (node_named l.told))

abbrev pub nodes_of : List Line → ℕ
nodes_of ls = fold (λ n l. max n (nodes_in l)) 0 ls
