use Rattle.audit_rules.proofs.RightLemmas.{parts, conflicts, lengths, seen_lengths}
use Rattle.audit_rules.proofs.laws.right_programs_can_be_told.Goals as goal

pub returns : goal.returns
returns c = record { parts = parts; conflicts = conflicts; lengths = lengths; seen = seen_lengths }
