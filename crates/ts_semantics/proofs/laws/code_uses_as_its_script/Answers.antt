use Rattle.ts_semantics.proofs.UsesLemmas.{UsesAsItsScript-script_code}
use Rattle.ts_semantics.proofs.laws.code_uses_as_its_script.Goals as goal

pub returns : goal.returns
returns c = UsesAsItsScript-script_code
