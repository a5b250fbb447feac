-- What was counted of a run.
use Rattle.vm_shape.specs.declared.description.Description.{Description}
use Rattle.mate_journal.specs.declared.report.Report.{Report}
use Rattle.report_writer.specs.Writing.{OfRun, IsEnded}
use Rattle.report_writer.specs.Summary.{IsSmall, SumsReport}
use Rattle.report_writer.specs.declared.summary.Summary.{Summary}

-- there is a report of a run that ended by itself, of which this is the summary
pub record IsRunSummary (d : Description) (Is : OfRun) (s : Summary) : Type 0 where
  pub small : IsSmall s
  pub report : Report
  pub ended : IsEnded Is report
  pub of : SumsReport d s report
