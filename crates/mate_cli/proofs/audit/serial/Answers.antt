use Rattle.std.proofs.Common.{ℕ, inl, refl}
use Rattle.mate_journal.specs.declared.law.Law.{Law}
use Rattle.mate_cli.proofs.audit.serial.Goals as goal

pub returns-in-Ok-Refuted : goal.returns-in-Ok-Refuted
returns-in-Ok-Refuted c =
    let is = rw c.in-Ok-Refuted.field-0-is at c.in-Ok-Refuted.ensures in
    let it : ℕ × Law = (c.in-Ok-Refuted.node, c.in-Ok-Refuted.law) in
    inl (it, is, refl)
