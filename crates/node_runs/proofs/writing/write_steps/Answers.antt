use Rattle.std.proofs.Common.{[], false, refl, inl}
use Rattle.node_runs.specs.Running.{report_with}
use Rattle.node_runs.proofs.writing.write_steps.Goals as goal

pub returns-in_default-clause-gives : goal.returns-in_default-clause-gives
returns-in_default-clause-gives g c = record {
  report = record { nodes = []; air = []; events = 0; whole = false };
  gives = inl (record { report = refl; same = refl });
}

pub returns-clause-gives : goal.returns-clause-gives
returns-clause-gives g c = record {
  report = report_with c.write_run.new.node.log c.write_run.result.events c.write_run.result.whole;
  gives = c.write_run.ensures.gives;
}
