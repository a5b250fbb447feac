use Rattle.std.proofs.Common.{[], false, refl, inl}
use Rattle.world_runs.proofs.PromiseLemmas.{promised}
use Rattle.world_runs.proofs.writing.write_world.Goals as goal

pub returns-in_default-clause-gives : goal.returns-in_default-clause-gives
returns-in_default-clause-gives g c = record {
  report = record { nodes = []; air = []; events = 0; whole = false };
  gives = inl (record { report = refl; same = refl });
}

pub write_run-requires-clause-stands : goal.write_run-requires-clause-stands
write_run-requires-clause-stands g c = c.in-Ok.ensures.stands c.args.programs.now

pub write_run-requires-clause-whole : goal.write_run-requires-clause-whole
write_run-requires-clause-whole g c = c.in-Ok.ensures.whole

pub write_run-requires-clause-ranges : goal.write_run-requires-clause-ranges
write_run-requires-clause-ranges g c = c.in-Ok.ensures.ranges

pub returns-clause-gives : goal.returns-clause-gives
returns-clause-gives g c =
    promised c.args.desc.now c.args.world.now c.args.programs.now _ _ _ _ c.write_run.result c.write_run.new.records (c.reports_keep_the_promise.ensures c.args.desc.now c.args.world.now c.args.programs.now) c.requires c.write_run.ensures.gives

pub returns-clause-later : goal.returns-clause-later
returns-clause-later g c = c.write_run.ensures.later
