-- The run of a node script that is counted as its events end.
use Rattle.std.specs.Prelude.{ℕ, Bool, length, take}
use Rattle.vm_shape.specs.declared.description.Description.{Description}
use Rattle.node_open.specs.View.{NodeView}
use Rattle.report_writer.specs.Tally.{IsLogTally}
use Rattle.report_writer.specs.Summary.{IsSmall, SumsReport}
use Rattle.report_writer.specs.declared.tally.LogTally.{LogTally}
use Rattle.report_writer.specs.declared.summary.Summary.{Summary}
use Rattle.node_runs.specs.Running.{report_with}

-- it is the summary of the node's report, if the tally counts all but what is at hand
pub record Sums (v : NodeView) (t : LogTally) (events : ℕ) (whole : Bool) (s : Summary) : Type 0 where
  pub small : IsSmall s
  pub of : (d : Description) → IsLogTally (length d.handlers.items) t (take v.gone.entries v.log.entries)
      → SumsReport d s (report_with v.log events whole)
