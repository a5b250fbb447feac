use Rattle.command_laws.proofs.Audited.{node-found, world-found}
use Rattle.command_laws.proofs.audits.written_runs_are_found_serial.Goals as goal

pub returns : goal.returns
returns c = record { nodes = node-found; worlds = world-found }
