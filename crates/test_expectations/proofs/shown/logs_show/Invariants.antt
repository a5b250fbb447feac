use Rattle.std.proofs.Common.{◌≡◌, drop}
use Rattle.std.specs.List.{list_all}
use Rattle.test_expectations.specs.Shown.{log_shows}
use Rattle.test_expectations.proofs.shown.logs_show.Given as goal

-- the rest settles it
abbrev pub invariant-loop-at : goal.invariant-loop-at
invariant-loop-at l = list_all (log_shows l.place l.when l.by) (drop l.at l.logs) ≡ list_all (log_shows l.place l.when l.by) l.logs
