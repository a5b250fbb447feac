use Rattle.mate_journal.specs.Journal.{first_state}
use Rattle.mate_journal.specs.Journal.{TimedEntry as Entered}
use Rattle.std.proofs.Common.{List}
use Rattle.journal_laws.specs.Apart.{EndAsPosted}
use Rattle.journal_laws.specs.Progress.{IsNeverStuck}
use Rattle.node_programs.specs.ScriptSteps.{program_at}
use Rattle.world_run_laws.specs.SourceWorld.{source_world}
use Rattle.world_run_laws.proofs.PromiseLemmas.{each-journal}
use Rattle.world_run_laws.proofs.promise.reports_keep_the_promise.Goals as goal

pub returns : goal.returns
returns c = λ d script ps how r right of ranges.
    let run = c.worlds_hold_by_their_sources.ensures d script ps how r right of in
    let m = (source_world d script ps).machine in record {
      right = right;
      run = run;
      tidy = c.world_report_is_tidy.ensures d _ script (program_at ps) how r right.world of;
      ranges = ranges;
      windows = c.reports_keep_the_bound.ensures.windows d script ps how r right run;
      progress = each-journal (source_world d script ps) how r (λ (es : List Entered). IsNeverStuck m (first_state m) es) (c.is_never_stuck.ensures m) run;
      order = each-journal (source_world d script ps) how r (λ (es : List Entered). EndAsPosted m (first_state m) es) (c.ends_as_posted.ensures m) run;
    }
