use Rattle.std.proofs.Common.{Err}
use Rattle.ts_proc_texts.specs.Reading.{ReadsProcedures}
use Rattle.command_steps.proofs.ExpansionLemmas.{told_as}
use Rattle.command_steps.proofs.expansion.script_with_procedures.Goals as goal

pub returns-in-Err : goal.returns-in-Err
returns-in-Err c = told_as (λ f. ReadsProcedures c.args.bytes.now (Err f)) c.args.name.now c.in-Err.fault c.refused.result c.in-Err.ensures c.refused.ensures
