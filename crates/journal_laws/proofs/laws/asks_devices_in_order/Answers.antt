use Rattle.journal_laws.proofs.Devices.{devices-in-turn}
use Rattle.journal_laws.proofs.laws.asks_devices_in_order.Goals as goal

pub returns : goal.returns
returns c = devices-in-turn
