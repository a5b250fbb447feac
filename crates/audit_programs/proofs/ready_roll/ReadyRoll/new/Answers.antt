use Rattle.audit_programs.proofs.TrialLemmas.{HasKept-none}
use Rattle.audit_programs.proofs.ready_roll.ReadyRoll.new.Goals as goal

pub returns : goal.returns
returns c d = HasKept-none d (record { roll = c.nobody-roll.result; ready = c.in_ok-ready.ready; last = 0 }) c.in_ok-ready.ensures
