use Rattle.ts_semantics.proofs.RunScripts.{accepted-RunsAsItsScript}
use Rattle.ts_semantics.proofs.VerifiedLemmas.{IsAccepted-script_code}
use Rattle.ts_semantics.proofs.laws.code_runs_as_its_script.Goals as goal

pub returns : goal.returns
returns c = λ shape tree right need. accepted-RunsAsItsScript shape tree right (IsAccepted-script_code shape tree right need)
