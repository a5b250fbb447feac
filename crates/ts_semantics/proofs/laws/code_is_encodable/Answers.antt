use Rattle.ts_semantics.proofs.EncodableLemmas.{IsEncodable-script_code}
use Rattle.ts_semantics.proofs.laws.code_is_encodable.Goals as goal

pub returns : goal.returns
returns c = IsEncodable-script_code
