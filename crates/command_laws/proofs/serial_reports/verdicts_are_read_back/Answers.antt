use Rattle.command_laws.proofs.ReadBack.{read-back, read-text}
use Rattle.command_laws.proofs.serial_reports.verdicts_are_read_back.Goals as goal

pub returns : goal.returns
returns c = record { same = read-back; text = read-text }
