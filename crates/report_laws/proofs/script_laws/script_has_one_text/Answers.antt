use Rattle.report_laws.proofs.OneText.{text-once, brief-once}
use Rattle.report_laws.proofs.script_laws.script_has_one_text.Goals as goal

pub returns : goal.returns
returns c d meaning steps how how' r r' itself itself' is is' =
    (text-once d meaning steps how how' r r' itself itself' is is', brief-once d meaning steps how how' r r' itself itself' is is')
