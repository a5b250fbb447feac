use Rattle.audit_programs.proofs.TrialLemmas.{seats-ready}
use Rattle.report_audit.proofs.replay.end_era.Goals as goal

pub all_so_far-requires-clause-ready : goal.all_so_far-requires-clause-ready
all_so_far-requires-clause-ready c = seats-ready c.args.trial.now c.args.place c.args.roll.now c.requires.read
