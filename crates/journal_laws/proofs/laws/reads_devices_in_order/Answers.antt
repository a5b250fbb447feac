use Rattle.journal_laws.proofs.Devices.{devices-as-read}
use Rattle.journal_laws.proofs.laws.reads_devices_in_order.Goals as goal

pub returns : goal.returns
returns c = devices-as-read
