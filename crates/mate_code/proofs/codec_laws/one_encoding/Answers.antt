use Rattle.mate_code.proofs.CodeLemmas.{decoded-code_bytes}
use Rattle.mate_code.proofs.DecodeLaws.{IsDecoded-decoded}
use Rattle.mate_code.proofs.codec_laws.one_encoding.Goals as goal

pub returns-clause-again : goal.returns-clause-again
returns-clause-again c = decoded-code_bytes

pub returns-clause-only : goal.returns-clause-only
returns-clause-only c = IsDecoded-decoded
