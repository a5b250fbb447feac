use Rattle.audit_rules.proofs.InstalledLemmas.{nobody-LiveAreInstalled}
use Rattle.audit_programs.proofs.TrialLemmas.{HasReadUpTo-begins}
use Rattle.audit_programs.proofs.ready_roll.ReadyRoll.begin.Goals as goal

pub returns-clause-read : goal.returns-clause-read
returns-clause-read c =
    HasReadUpTo-begins c.args.trial.now (record { roll = c.nobody.result; ready = c.args.self.now.ready; last = c.args.self.now.last }) c.requires.tried nobody-LiveAreInstalled (c.nobody.ensures c.args.trial.now.log.now)
    (record { places = c.requires.kept.places; kept = c.requires.kept.kept })
