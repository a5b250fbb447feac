use Rattle.std.proofs.Common.{◌≡◌, ℕ, List, take}
use Rattle.world_rules.specs.World.{World}
use Rattle.world_air.specs.Air.{IsAirOf, SendsAll, IsSteady}
use Rattle.world_air.proofs.sends.send_all.Given as goal

abbrev pub invariant-loop-packet : goal.invariant-loop-packet
invariant-loop-packet l = record {
  sends : (w : World) (senders : List ℕ) → w.description ≡ l.desc → IsAirOf w senders l.initial.radio → SendsAll w l.node l.at senders (take l.packet-index l.packets) l.initial.radio l.radio;
  steady : IsSteady l.node l.packet-index l.initial.radio l.radio;
}
