use Rattle.ts_proc_texts.proofs.ReadingLemmas.{one_script, one_refusal, not_both}
use Rattle.ts_proc_texts.proofs.law.reading_law.Goals as goal

pub returns : goal.returns
returns c = record { one_script = one_script; one_refusal = one_refusal; not_both = not_both }
