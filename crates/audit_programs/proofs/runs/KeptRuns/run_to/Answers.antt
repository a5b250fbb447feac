use Rattle.audit_rules.specs.Views.{seat_in}
use Rattle.audit_programs.proofs.KeptLemmas.{by-image, seat-kept, seat-outcome}
use Rattle.audit_programs.proofs.runs.KeptRuns.run_to.Goals as goal

pub finish-requires : goal.finish-requires
finish-requires c =
    let d = c.args.trial.now.desc.now in
    let i = (seat_in c.args.trial.now.log.now.images c.args.seat.now).invocation in
    by-image d i.program.image c.program_of.result.now.code d.turns c.in_ok-run.run' c.program_of.ensures.code c.in_ok-run.ensures.run.run

pub returns-clause-run : goal.returns-clause-run
returns-clause-run c =
    let d = c.args.trial.now.desc.now in
    let ps = c.args.trial.now.programs.now in
    let i = (seat_in c.args.trial.now.log.now.images c.args.seat.now).invocation in
    let r = c.program_of.result.now in (
      seat-kept d c.args.store.now i r c.in_ok-run.run' c.finish.new.run c.program_of.ensures c.in_ok-run.ensures.run c.finish.ensures.program c.finish.ensures.run,
      seat-outcome d ps c.args.store.now i r c.in_ok-run.run' c.finish.new.run c.requires.tried.programs c.program_of.ensures c.in_ok-run.ensures.run c.finish.ensures.outcome,
    )

pub returns-clause-stops : goal.returns-clause-stops
returns-clause-stops c = c.finish.ensures.stops

pub returns-clause-kept : goal.returns-clause-kept
returns-clause-kept c = c.in_ok-run.ensures.kept
