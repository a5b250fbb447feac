use Rattle.audit_rules.specs.Views.{seat_in}
use Rattle.audit_programs.proofs.ReadyLemmas.{conflict-told}
use Rattle.audit_programs.proofs.ready_roll.ReadyRoll.conflict.Goals as goal

pub returns : goal.returns
returns c =
    let images = c.args.trial.now.log.now.images in
    conflict-told c.args.trial.now.desc.now (seat_in images c.args.one.now).invocation.program (seat_in images c.args.other.now).invocation.program c.program_of.result.now c.program_of-2.result.now c.conflicts.result
    c.program_of.ensures c.program_of-2.ensures c.conflicts.ensures
