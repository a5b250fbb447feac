use Rattle.std.proofs.Common.{take, All}
use Rattle.script_steps.specs.declared.world.Planned.{Planned}
use Rattle.node_programs.specs.WorldPrograms.{IsProgramOfWhat}
use Rattle.cases_worlds.proofs.programs.have_theirs.Given as goal

abbrev pub invariant-loop-planned : goal.invariant-loop-planned
invariant-loop-planned l = All (λ (p : Planned). IsProgramOfWhat l.programs p.what) (take l.planned-index l.events)
