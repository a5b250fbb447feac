use Rattle.std.proofs.Common.{◌∙◌, ap}
use Rattle.ts_proc_expansion.specs.Extents.{body_extents}
use Rattle.ts_proc_expansion.proofs.CalleeLemmas.{count_before}
use Rattle.ts_proc_expansion.proofs.ExtentLemmas.{body_extents-more, bodies_all}
use Rattle.ts_proc_expansion.proofs.extent.extents.Goals as goal

pub loop-place-preserved : goal.loop-place-preserved
loop-place-preserved c =
    body_extents-more c.args.heads.now.procs.now c.loop-place.place c.proc-item.result c.loop-place.extents.items c.push.new.self.items c.block_extent-extent.result
    c.loop-place.invariant c.loop-place-test.true c.proc-item.is
    (c.block_extent-extent.ensures (record { first = count_before c.args.heads.now.procs.now c.loop-place.place; params = c.proc-item.result.params }))
    c.in_ok-push.ensures.items

pub returns : goal.returns
returns c = c.loop-place.invariant ∙ ap body_extents (bodies_all c.args.heads.now.procs.now c.loop-place.place c.loop-place-test.false)
