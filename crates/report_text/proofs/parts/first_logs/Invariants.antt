use Rattle.std.proofs.Common.{◌≡◌}
use Rattle.report_text.proofs.parts.first_logs.Given as goal

abbrev pub invariant-loop-log : goal.invariant-loop-log
invariant-loop-log l = l.nodes ≡ l.yielded
