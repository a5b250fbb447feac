use Rattle.world_state.specs.Reporting.{ShowStores}
use Rattle.world_state.proofs.report.see_stores.Given as goal

abbrev pub invariant-loop-k : goal.invariant-loop-k
invariant-loop-k l = ShowStores l.at l.k l.initial.motes.items l.motes.items
