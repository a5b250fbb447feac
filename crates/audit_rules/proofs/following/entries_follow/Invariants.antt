use Rattle.std.proofs.Common.{◌≡◌, drop, map}
use Rattle.mate_journal.specs.Described.{machine_of}
use Rattle.mate_journal.specs.Journal.{journal_of}
use Rattle.mate_journal.specs.Machine.{Meaning}
use Rattle.journal_laws.specs.Growth.{event_of}
use Rattle.audit_rules.specs.Roll.{nobody}
use Rattle.audit_rules.specs.Following.{follow_one_another}
use Rattle.audit_rules.specs.Views.{roll_in}
use Rattle.audit_rules.proofs.following.entries_follow.Given as goal

abbrev pub invariant-loop-stamped : goal.invariant-loop-stamped
invariant-loop-stamped l =
    (meaning : Meaning) → follow_one_another (machine_of l.desc meaning) (roll_in l.log.images l.roll) (map (event_of l.log) (drop l.stamped-index l.log.entries)) ≡ follow_one_another (machine_of l.desc meaning) nobody (journal_of l.log)
