use Rattle.std.proofs.Common.{◌∙◌}
use Rattle.audit_rules.specs.Views.{seat_in}
use Rattle.audit_programs.proofs.ReadyLemmas.{writes-told}
use Rattle.audit_programs.proofs.ready_roll.ReadyRoll.writes.Goals as goal

pub returns : goal.returns
returns c =
    let t = c.args.trial.now in
    c.writes.ensures
    ∙ writes-told t.desc.now t.programs.now (seat_in t.log.now.images c.args.seat.now).invocation.program c.program_of.result.now c.args.at c.requires.tried.programs c.program_of.ensures
