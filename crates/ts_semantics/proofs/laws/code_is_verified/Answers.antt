use Rattle.ts_semantics.proofs.VerifiedLemmas.{IsAccepted-script_code}
use Rattle.ts_semantics.proofs.laws.code_is_verified.Goals as goal

pub returns : goal.returns
returns c = IsAccepted-script_code
