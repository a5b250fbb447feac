-- Tidy reports: what a text of a report takes for granted.
use Rattle.std.specs.Prelude.{◌≡◌, ◌≤◌, ◌<◌, ℕ, suc, Bool, false, List, [], ◌∷◌, ◌++◌, map, ◌⊎◌, length, All, IsTrue, is_some, ⊤}
use Rattle.mate_num.specs.declared.bounds.TheConstants.{NODES_MAX}
use Rattle.mate_num.specs.declared.call.Stamp.{Stamp}
use Rattle.vm_shape.specs.declared.description.Description.{Description}
use Rattle.mate_journal.specs.Log.{Log}
use Rattle.mate_journal.specs.Tidy.{store_named, EventsRise, IsTidyLog, HasFullImages}
use Rattle.mate_journal.specs.declared.air.Air.{Air}
use Rattle.mate_journal.specs.declared.air.Air.TheVariants as air
use Rattle.mate_journal.specs.declared.air.Aired.{Aired}
use Rattle.mate_journal.specs.declared.entry.Stamped.{Stamped}
use Rattle.mate_journal.specs.declared.report.Report.{Report}
use Rattle.report_writer.specs.Progress.{air_event}

-- a node's number and the packets on the air; no packet is empty
abbrev pub IsAirInRange : ℕ → Air → Type 0
IsAirInRange nodes (air.Sent n bytes) = 0 < length bytes.items
IsAirInRange nodes (air.Lost n to) = to < nodes
IsAirInRange nodes (air.Got n from) = from < nodes
IsAirInRange nodes (air.Noise bytes) = 0 < length bytes.items
IsAirInRange nodes _ = ⊤

-- along what happened on the air the nodes don't fall within an event
abbrev pub AirNodesRise : List Aired → Type 0
AirNodesRise [] = ⊤
AirNodesRise (a ∷ []) = ⊤
AirNodesRise (a ∷ (b ∷ rest)) = (a.stamp.event ≡ b.stamp.event → a.node ≤ b.node) × AirNodesRise (b ∷ rest)

-- a record: when and where, and whether it shows a store
pub record Mark : Type 0 where
  pub stamp : Stamp
  pub node : ℕ
  pub is_seen : Bool

-- the records of the nodes from `node` on
abbrev pub log_marks : ℕ → List Log → List Mark
log_marks node [] = []
log_marks node (l ∷ ls) = map (λ (e : Stamped). record { stamp = e.stamp; node = node; is_seen = is_some (store_named e.entry) }) l.entries
    ++ log_marks (suc node) ls

abbrev pub marks : Report → List Mark
marks r = map (λ (a : Aired). record { stamp = a.stamp; node = a.node; is_seen = false }) r.air ++ log_marks 0 r.nodes

-- a later event has no earlier time, and so one event has one time
abbrev pub IsNoEarlier : Mark → Mark → Type 0
IsNoEarlier a b = a.stamp.event ≤ b.stamp.event → a.stamp.time ≤ b.stamp.time

-- an event that is the last one, and only shows stores
abbrev pub IsLastSeen : List Mark → ℕ → Type 0
IsLastSeen ms event = All (λ (m : Mark). (m.stamp.event ≤ event) × (m.stamp.event ≡ event → IsTrue m.is_seen)) ms

-- two records of one event are of one node, but in event 0 and in a last event that only shows stores
abbrev pub AreOfOneNode : List Mark → Mark → Mark → Type 0
AreOfOneNode ms a b = a.stamp.event ≡ b.stamp.event → (a.node ≡ b.node) ⊎ ((a.stamp.event ≡ 0) ⊎ IsLastSeen ms a.stamp.event)

-- A report is tidy for a description: its logs are, and no image is empty; node numbers and packets are in range; event
-- numbers don't fall on the air, nor do nodes within one event there; events agree in time and, but for the first and the
-- last, are each of one node.
pub record IsTidy (d : Description) (r : Report) : Type 0 where
  pub nodes_low : 1 ≤ length r.nodes
  pub nodes_high : length r.nodes ≤ NODES_MAX
  pub logs : All (IsTidyLog d) r.nodes
  pub images : All HasFullImages r.nodes
  pub air_in_range : All (λ (a : Aired). (a.node < length r.nodes) × IsAirInRange (length r.nodes) a.air) r.air
  pub air_ordered : EventsRise air_event 0 r.air
  pub air_nodes : AirNodesRise r.air
  pub in_time : All (λ (a : Mark). All (IsNoEarlier a) (marks r)) (marks r)
  pub one_node : All (λ (a : Mark). All (AreOfOneNode (marks r) a) (marks r)) (marks r)
