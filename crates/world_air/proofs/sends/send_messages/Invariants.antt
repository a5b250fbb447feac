use Rattle.std.proofs.Common.{◌≡◌, ℕ, List, map, take}
use Rattle.mate_journal.specs.Log.{Log}
use Rattle.mate_journal.specs.Journal.{journal_entry}
use Rattle.mate_journal.specs.declared.entry.Stamped.{Stamped}
use Rattle.world_rules.specs.World.{World}
use Rattle.world_rules.specs.State.{messages}
use Rattle.world_air.specs.Air.{IsAirOf, SendsAll, IsSteady}
use Rattle.world_air.proofs.sends.send_messages.Given as goal

abbrev pub invariant-loop-stamped : goal.invariant-loop-stamped
invariant-loop-stamped l = record {
  sends : (w : World) (senders : List ℕ) (log : Log) → w.description ≡ l.desc → IsAirOf w senders l.initial.radio
      → SendsAll w l.node l.at senders (messages w (map (λ (e : Stamped). journal_entry log e.entry) (take l.stamped-index l.entries))) l.initial.radio l.radio;
  steady : IsSteady l.node l.stamped-index l.initial.radio l.radio;
}
