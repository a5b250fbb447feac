use Rattle.audit_programs.proofs.TrialLemmas.{seats-ready}
use Rattle.report_audit.proofs.granting.is_granted.Goals as goal

pub is_free_to_start-requires : goal.is_free_to_start-requires
is_free_to_start-requires c = seats-ready c.args.trial.now c.args.place c.args.roll.now c.requires

pub all_held_back-requires : goal.all_held_back-requires
all_held_back-requires c = seats-ready c.args.trial.now c.args.place c.args.roll.now c.requires
