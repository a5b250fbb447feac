use Rattle.report_laws.proofs.OneText.{journal-once}
use Rattle.report_laws.proofs.script_laws.script_has_one_journal.Goals as goal

pub returns : goal.returns
returns c m steps how how' l l' itself itself' run run' = let same = journal-once m steps how how' l l' itself itself' run run' in (same.events, same.ends)
