use Rattle.ts_proc_texts.specs.Hidings.{hiding_at}
use Rattle.ts_proc_texts.proofs.CallLemmas.{assigned_first, assigned_from, assigned_past}
use Rattle.ts_proc_texts.proofs.ProgressLemmas.{all_left, more_printed, none_left}
use Rattle.ts_proc_texts.proofs.call.assignments.Goals as goal

pub loop-index-init : goal.loop-index-init
loop-index-init g c = all_left (assigned_first (hiding_at c.args.bodies.now.plan.heads.procs.now c.args.count) c.args.place c.args.first c.args.args.now)

pub loop-index-preserved : goal.loop-index-preserved
loop-index-preserved g c =
    more_printed (assigned_from (hiding_at c.args.bodies.now.plan.heads.procs.now c.args.count) c.args.place c.args.first c.loop-index.index c.args.args.now c.index-args-index.result
    c.parameter_name-name.result c.loop-index-test.true c.index-args-index.is c.parameter_name-name.ensures) c.loop-index.invariant c.assignment.ensures

pub returns : goal.returns
returns g c =
    none_left (assigned_past (hiding_at c.args.bodies.now.plan.heads.procs.now c.args.count) c.args.place c.args.first c.loop-index.index c.args.args.now c.loop-index-test.false) c.loop-index.invariant
