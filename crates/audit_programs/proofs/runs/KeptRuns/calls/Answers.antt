use Rattle.audit_rules.specs.Views.{seat_in}
use Rattle.audit_programs.proofs.KeptLemmas.{seat-calls}
use Rattle.audit_programs.proofs.runs.KeptRuns.calls.Goals as goal

pub returns-clause-calls : goal.returns-clause-calls
returns-clause-calls c =
    let t = c.args.trial.now in
    seat-calls t.desc.now t.programs.now c.args.store.now (seat_in t.log.now.images c.args.seat.now).invocation c.in_ok-run.run' c.requires.tried.programs c.in_ok-run.ensures.run
