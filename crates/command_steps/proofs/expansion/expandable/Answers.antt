use Rattle.std.proofs.Common.{Err, refl}
use Rattle.ts_proc_expansion.specs.Answer.{IsWithinOr}
use Rattle.ts_proc_names.specs.Named.{written_of}
use Rattle.command_steps.proofs.ExpansionLemmas.{told_as}
use Rattle.command_steps.proofs.expansion.expandable.Goals as goal

pub returns-in-Ok : goal.returns-in-Ok
returns-in-Ok c = (refl, c.in-Ok.ensures)

pub returns-in-Err : goal.returns-in-Err
returns-in-Err c =
    told_as (λ f. IsWithinOr (written_of c.args.script) (Err f)) c.args.name.now c.in-Err.fault c.refused.result c.in-Err.ensures c.refused.ensures
