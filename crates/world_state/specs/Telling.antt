-- What an event of a world records: its lines in the report, and what its node and the air go on with.
use Rattle.std.specs.Prelude.{◌≡◌, ℕ, ◌<◌, List, ◌++◌, length, drop, slice_get, slice_set, Some, All}
use Rattle.mate_journal.specs.Log.{GoesOn}
use Rattle.mate_journal.specs.declared.report.Report.{Report}
use Rattle.node_state.specs.Meaning.{machine_in}
use Rattle.node_open.specs.Journal.{KeepsJournal}
use Rattle.world_state.specs.declared.mote.Mote.{Mote}
use Rattle.world_laws.specs.EventText.{so_far, AddsLines}
use Rattle.world_state.specs.Reporting.{mote_logs}
use Rattle.world_state.specs.Keeping.{LetsGoAsTold}
use Rattle.world_state.specs.declared.simulation.Written.{Written}
use Rattle.world_state.specs.declared.simulation.Simulation.{Simulation}

-- the report of what is at hand
abbrev pub report_now : Simulation → Report
report_now s = so_far (mote_logs s.motes.items) s.radio.air

-- each node keeps its log
abbrev pub LogsAreKept : List Mote → Type 0
LogsAreKept motes = All (λ (m : Mote). KeepsJournal m.node.description (machine_in m.node.description) m.node.log) motes

-- what a node and the radio record in an event are its lines, after those of all events before it; and nothing is forgotten in it
pub record AddsEvent (number : ℕ) (old new : Simulation) (node : ℕ) : Type 0 where
  pub before : Mote
  pub after : Mote
  pub found : slice_get old.motes.items node ≡ Some before
  pub low : node < length old.motes.items
  pub motes : new.motes.items ≡ slice_set old.motes.items node after
  pub log_gone : after.node.gone ≡ before.node.gone
  pub air_gone : new.radio.gone ≡ old.radio.gone
  pub goes_on : GoesOn before.node.log after.node.log
  pub air_goes_on : new.radio.air ≡ old.radio.air ++ drop (length old.radio.air) new.radio.air
  pub adds : AddsLines (report_now old) (report_now new) number (drop (length old.radio.air) new.radio.air) after.node.log
      (length before.node.log.entries) node

-- the event came, after the records before it were let go, or kept
pub record HasComeOn (written : Written) (number : ℕ) (old new : Simulation) (node : ℕ) : Type 0 where
  pub mid : Simulation
  pub lets_go : LetsGoAsTold written old mid node
  pub adds : AddsEvent number mid new node
