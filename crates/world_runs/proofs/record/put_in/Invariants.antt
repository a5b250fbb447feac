use Rattle.std.proofs.Common.{◌≡◌, ◌++◌, length, drop}
use Rattle.world_runs.proofs.record.put_in.Given as goal

abbrev pub invariant-loop-log : goal.invariant-loop-log
invariant-loop-log l = record {
  next : (goal.iterator-loop-log).can_next l.log-iterator;
  finite : (goal.iterator-loop-log).is_finite l.log-iterator;
  number : l.node ≡ length l.yielded;
  put : l.places ≡ l.yielded ++ drop (length l.yielded) l.initial.places;
}
