use Rattle.audit_programs.proofs.TrialLemmas.{seats-ready}
use Rattle.report_audit.proofs.replay.end_at.Goals as goal

pub run_end-requires-clause-ready : goal.run_end-requires-clause-ready
run_end-requires-clause-ready c = seats-ready c.args.trial.now c.args.place c.args.roll.now c.requires.read
