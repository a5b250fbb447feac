use Rattle.std.proofs.Common.{◌∙◌, ap}
use Rattle.mate_num.specs.declared.outcome.Outcome.{Outcome}
use Rattle.audit_programs.proofs.runs.KeptRuns.store_left.Goals as goal

pub returns-clause-store : goal.returns-clause-store
returns-clause-store c = c.store-left.ensures ∙ ap (λ (o : Outcome). o.store) c.in_ok-run.ensures.run.1

pub returns-clause-kept : goal.returns-clause-kept
returns-clause-kept c = c.keep.ensures c.args.trial.now.desc.now c.in_ok-run.ensures.kept c.in_ok-run.ensures.run.0
