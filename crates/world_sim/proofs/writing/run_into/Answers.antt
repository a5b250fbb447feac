use Rattle.std.proofs.Common.{refl, inl}
use Rattle.world_sim.proofs.writing.run_into.Goals as goal

pub returns-in_default-clause-gives : goal.returns-in_default-clause-gives
returns-in_default-clause-gives g c = inl (record { report = c.nothing_run.ensures; same = refl })
