use Rattle.world_laws.proofs.AirTimers.{intervals_are_told}
use Rattle.world_laws.proofs.AirPoints.{points_are_told}
use Rattle.world_laws.proofs.Timely.{points_are_timely, ends_are_timely, intervals_run, first_intervals_run}
use Rattle.world_laws.proofs.air.timers_are_told.Goals as goal

pub returns : goal.returns
returns c = record {
  intervals = λ w. intervals_are_told w;
  points = λ w. points_are_told w;
  timely_points = λ w. points_are_timely w;
  timely_ends = λ w. ends_are_timely w;
  first = λ w. first_intervals_run w;
  run = λ w. intervals_run w;
}
