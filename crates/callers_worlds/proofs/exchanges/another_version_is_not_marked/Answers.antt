use Rattle.std.proofs.Common.{[], ◌∷◌}
use Rattle.packet_codec.specs.declared.packet.Packet.TheVariants.{Status}
use Rattle.capsule_exchange.specs.Happenings.{Hears, Installs}
use Rattle.callers_worlds.proofs.exchanges.another_version_is_not_marked.Goals as goal

pub returns : goal.returns
returns c =
    c.marked.ensures 1 (Hears (Status (record { 0 = 0 }) 1 1) ∷ Installs 0 2 (7 ∷ []) ∷ []) (c.hear.ensures.learned 1 (Installs 0 2 (7 ∷ []) ∷ []) c.a_holder-exchange.ensures)
