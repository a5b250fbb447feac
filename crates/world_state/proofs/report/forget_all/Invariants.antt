use Rattle.world_state.specs.Keeping.{HaveForgotten}
use Rattle.world_state.proofs.report.forget_all.Given as goal

abbrev pub invariant-loop-k : goal.invariant-loop-k
invariant-loop-k l = HaveForgotten l.k l.initial.motes.items l.motes.items
