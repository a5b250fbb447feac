use Rattle.world_laws.proofs.Packets.{packets_have_reasons, exchanges_stand, installs_have_reasons}
use Rattle.world_laws.proofs.events.exchanges_keep_their_rules.Goals as goal

pub returns : goal.returns
returns c = record { reasons = λ w. packets_have_reasons w; stand = λ w. exchanges_stand w; installs = λ w. installs_have_reasons w }
