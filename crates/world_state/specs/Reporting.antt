-- The report of a world's run.
use Rattle.std.specs.Prelude.{◌≡◌, ℕ, ◌<◌, ◌≤◌, Bool, List, length, map, slice_get, Some, All}
use Rattle.mate_num.specs.declared.call.Stamp.{Stamp}
use Rattle.vm_shape.specs.declared.description.Description.{Description}
use Rattle.mate_journal.specs.Log.{Log}
use Rattle.mate_journal.specs.NodeScript.{ShowsOnce}
use Rattle.mate_journal.specs.declared.report.Report.{Report}
use Rattle.node_state.specs.Meaning.{machine_in}
use Rattle.node_open.specs.View.{heard_of, Tells}
use Rattle.node_open.specs.Calls.{Pacing}
use Rattle.journal_laws.specs.InRange.{IsInRange}
use Rattle.world_state.specs.declared.mote.Mote.{Mote}
use Rattle.world_state.specs.declared.simulation.Simulation.{Simulation}

-- the store of the node is seen, with this stamp
pub record ShowsOneStore (at : Stamp) (old new : Mote) : Type 0 where
  pub tells : Tells old.node new.node at
      (Pacing (ShowsOnce (machine_in old.node.description) (heard_of old.node)))
  pub same : new ≡ record old { node = new.node }
  pub ranges : IsInRange old.node.log old.node.gone → IsInRange new.node.log new.node.gone

-- something happened to each of the first of the nodes, and the others stay as they are
pub record HaveChanged (Happens : Mote → Mote → Type 0) (n : ℕ) (old new : List Mote) : Type 0 where
  pub count : length new ≡ length old
  pub each : (k : ℕ) (a b : Mote) → k < n → slice_get old k ≡ Some a → slice_get new k ≡ Some b → Happens a b
  pub others : (k : ℕ) → n ≤ k → slice_get new k ≡ slice_get old k

-- the stores of the first of the nodes are seen
abbrev pub ShowStores : Stamp → ℕ → List Mote → List Mote → Type 0
ShowStores at n old new = HaveChanged (ShowsOneStore at) n old new

abbrev pub mote_logs : List Mote → List Log
mote_logs motes = map (λ (m : Mote). m.node.log) motes

-- the report of a world's nodes and its air
abbrev pub told_report : Simulation → ℕ → Bool → Report
told_report s events whole = record { nodes = mote_logs s.motes.items; air = s.radio.air; events = events; whole = whole }

-- each node is of this machine
abbrev pub AreOfMachine : Description → List Mote → Type 0
AreOfMachine d motes = All (λ (m : Mote). m.node.description ≡ d) motes
