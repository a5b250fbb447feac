use Rattle.std.proofs.Common.{◌∙◌}
use Rattle.ts_proc_renaming.specs.Hidden.{hiding_of}
use Rattle.ts_proc_renaming.proofs.WrittenLemmas.{failed, assigned_begin, assigned_next, assigned_end}
use Rattle.ts_proc_renaming.proofs.statements.assignments.Goals as goal

pub loop-index-init : goal.loop-index-init
loop-index-init c = assigned_begin (hiding_of c.args.hidden.now) c.args.place c.args.first c.args.args.now c.args.written.now

pub loop-index-preserved : goal.loop-index-preserved
loop-index-preserved c =
    assigned_next (hiding_of c.args.hidden.now) c.args.place c.args.first c.loop-index.index c.args.args.now c.index-args-index.result c.in_ok-value.value
    c.parameter_name-name.result c.loop-index.written c.push.new.self c.loop-index-test.true c.index-args-index.is c.parameter_name-name.ensures c.in_ok-value.ensures c.in_ok-push.ensures
    ∙ c.loop-index.invariant

pub returns-in_err-value : goal.returns-in_err-value
returns-in_err-value c = rw (failed c.from_residual.result c.in_err-value.field-0.0 c.from_residual.ensures.1) tt

pub returns-in_err-push : goal.returns-in_err-push
returns-in_err-push c = rw (failed c.from_residual-in_err-push.result c.in_err-push.field-0.0 c.from_residual-in_err-push.ensures.1) tt

pub returns : goal.returns
returns c =
    assigned_end (hiding_of c.args.hidden.now) c.args.place c.args.first c.loop-index.index c.args.args.now c.loop-index.written c.loop-index-test.false ∙ c.loop-index.invariant
