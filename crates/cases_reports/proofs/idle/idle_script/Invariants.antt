use Rattle.cases_reports.specs.Idle.{IsIdleScript}
use Rattle.cases_reports.proofs.idle.idle_script.Given as goal

abbrev pub invariant-loop : goal.invariant-loop
invariant-loop l = IsIdleScript l.script
