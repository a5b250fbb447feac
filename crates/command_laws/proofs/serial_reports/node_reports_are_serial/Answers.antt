use Rattle.command_laws.proofs.Programs.{script-installs}
use Rattle.command_laws.proofs.NodeReports.{node-serial}
use Rattle.command_laws.proofs.serial_reports.node_reports_are_serial.Goals as goal

pub returns : goal.returns
returns c = record { steps = node-serial; installs = script-installs }
