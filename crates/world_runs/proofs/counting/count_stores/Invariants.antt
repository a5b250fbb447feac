use Rattle.std.proofs.Common.{◌≡◌}
use Rattle.world_runs.proofs.CountingLemmas.{StoresCounted}
use Rattle.world_runs.proofs.counting.count_stores.Given as goal

abbrev pub invariant-loop-mote : goal.invariant-loop-mote
invariant-loop-mote l = record { node : l.node ≡ l.mote-index; counted : StoresCounted l.mote-index l.initial.tallies.items l.tallies.items l.motes }
