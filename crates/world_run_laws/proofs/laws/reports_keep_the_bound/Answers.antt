use Rattle.world_run_laws.proofs.Bound.{reports_keep_the_bound, reports_show_the_bound}
use Rattle.world_run_laws.proofs.Reached.{shown_is_reached}
use Rattle.world_run_laws.proofs.Lossless.{lossless_is_promised}
use Rattle.world_run_laws.proofs.Windows.{reports_keep_the_windows}
use Rattle.world_run_laws.proofs.laws.reports_keep_the_bound.Goals as goal

pub returns : goal.returns
returns c = record {
  reached = λ d script ps how r i time a b hops h version programs is of injects away alone reached. reports_keep_the_bound d script ps how r i time a b hops h version programs is of injects away alone reached;
  times = λ d script ps how r t of shows. shown_is_reached d script ps how r t of shows;
  shown = reports_show_the_bound;
  windows = reports_keep_the_windows;
  lossless = lossless_is_promised;
}
