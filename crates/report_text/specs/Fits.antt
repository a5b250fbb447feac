-- Which lines of a report fit one after another, and which last line fits after them.
use Rattle.std.specs.Prelude.{◌≡◌, ◌≤◌, ◌<◌, ℕ, Bool, true, false, List, map, length, All, AllPairs, IsTrue, ⊤}
use Rattle.mate_num.specs.declared.bounds.TheConstants.{NODES_MAX}
use Rattle.vm_shape.specs.declared.description.Description.{Description}
use Rattle.report_writer.specs.Tidy.{Mark, IsNoEarlier, AreOfOneNode, IsAirInRange}
use Rattle.report_line_reader.specs.declared.line.Line.{Line}
use Rattle.report_line_reader.specs.declared.line.Told.{Told}
use Rattle.report_line_reader.specs.declared.line.Told.TheVariants as told
use Rattle.report_line_reader.specs.Told.{IsRightLine, HasLineRanges}
use Rattle.report_text.specs.LastLines.{HasLastRanges}
use Rattle.report_text.specs.declared.last_line.LastLine.{LastLine}

-- whether a line records what happened on the air, and whether it shows a store
abbrev pub is_on_air : Told → Bool
is_on_air (told.OnAir a) = true
is_on_air _ = false

abbrev pub is_shown : Told → Bool
is_shown (told.Shown s) = true
is_shown _ = false

-- a line as a record of a report: when, where, and whether it shows a store
abbrev pub line_mark : Line → Mark
line_mark l = record { stamp = l.stamp; node = l.node; is_seen = is_shown l.told }

abbrev pub line_marks : List Line → List Mark
line_marks ls = map line_mark ls

-- Line `l` may be after `p`: events don't fall; within one, what happened on the air comes before the entries, and of
-- each of these two kinds the nodes don't fall.
pub record StandsBehind (p l : Line) : Type 0 where
  pub event : p.stamp.event ≤ l.stamp.event
  pub air_first : p.stamp.event ≡ l.stamp.event → IsTrue (is_on_air l.told) → IsTrue (is_on_air p.told)
  pub nodes : p.stamp.event ≡ l.stamp.event → is_on_air p.told ≡ is_on_air l.told → p.node ≤ l.node

-- Lines are in order, and agree as the records of a tidy report do: one event has one time, and a later event no earlier
-- one; an event is of one node, but for event 0 and a last event that only shows stores.
pub record AreInOrder (ls : List Line) : Type 0 where
  pub ordered : AllPairs StandsBehind ls
  pub in_time : All (λ (a : Line). All (λ (b : Line). IsNoEarlier (line_mark a) (line_mark b)) ls) ls
  pub one_node : All (λ (a : Line). All (λ (b : Line). AreOfOneNode (line_marks ls) (line_mark a) (line_mark b)) ls) ls

-- a line is right for a description, and its numbers are in range
pub record IsSound (d : Description) (l : Line) : Type 0 where
  pub right : IsRightLine d l
  pub ranges : HasLineRanges l

-- Lines fit one after another: each is right, and they are in order. The first of them then fit, too.
pub record AreFitting (d : Description) (ls : List Line) : Type 0 where
  pub sound : All (IsSound d) ls
  pub order : AreInOrder ls

-- the node of a line, and those that it names, are below a number
abbrev pub IsToldBelow : ℕ → Told → Type 0
IsToldBelow nodes (told.OnAir a) = IsAirInRange nodes a
IsToldBelow nodes _ = ⊤

pub record IsLineBelow (nodes : ℕ) (l : Line) : Type 0 where
  pub node : l.node < nodes
  pub told : IsToldBelow nodes l.told

-- a last line fits after lines: it counts them, and its 1 to `NODES_MAX` nodes are more than each node number in them
pub record FitsLast (ls : List Line) (e : LastLine) : Type 0 where
  pub ranges : HasLastRanges e
  pub records : e.records ≡ length ls
  pub low : 1 ≤ e.nodes
  pub high : e.nodes ≤ NODES_MAX
  pub above : All (IsLineBelow e.nodes) ls
