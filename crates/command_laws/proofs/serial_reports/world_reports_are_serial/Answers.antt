use Rattle.command_laws.proofs.WorldReports.{world-serial}
use Rattle.command_laws.proofs.serial_reports.world_reports_are_serial.Goals as goal

pub returns : goal.returns
returns c = world-serial
