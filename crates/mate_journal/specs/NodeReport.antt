-- The report of a node script.
use Rattle.std.specs.Prelude.{◌≡◌, Bool, true, false, List, [], ◌∷◌, length}
use Rattle.vm_shape.specs.declared.description.Description.{Description}
use Rattle.mate_journal.specs.Log.{Log}
use Rattle.mate_journal.specs.Machine.{Meaning}
use Rattle.mate_journal.specs.Described.{machine_of}
use Rattle.mate_journal.specs.NodeScript.{Step, RunEnd, Whole}
use Rattle.mate_journal.specs.NodeRun.{IsNodeRun}
use Rattle.mate_journal.specs.Tidy.{IsTidyLog, HasFullImages}
use Rattle.mate_journal.specs.declared.report.Report.{Report}

abbrev pub is_whole : RunEnd → Bool
is_whole Whole = true
is_whole _ = false

-- The report is of one node, whose log is tidy and is that of a run of these steps, with nothing on the air. It says whether
-- the run is whole, and how many steps were begun.
pub record IsNodeReport (d : Description) (meaning : Meaning) (steps : List Step) (how : RunEnd) (r : Report) : Type 0 where
  pub log : Log
  pub one_node : r.nodes ≡ log ∷ []
  pub no_air : r.air ≡ []
  pub whole : r.whole ≡ is_whole how
  pub run : IsNodeRun (machine_of d meaning) how steps log
  pub events : r.events ≡ length run.events.done
  pub tidy : IsTidyLog d log
  pub images : HasFullImages log
