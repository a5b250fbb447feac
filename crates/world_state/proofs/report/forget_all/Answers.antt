use Rattle.std.proofs.Common.{◌≡◌, ◌<◌, length, rules, sym, ◌∙◌, ap}
use Rattle.std.specs.Prelude.{Some, slice_get}
use Rattle.std.proofs.lemmas.Option.{slice_get-get_or}
use Rattle.world_state.specs.Keeping.{HasForgotten}
use Rattle.world_state.proofs.ReportLemmas.{changed-more}
use Rattle.world_state.proofs.report.forget_all.Goals as goal

pub loop-k-preserved : goal.loop-k-preserved
loop-k-preserved c =
    let below : c.loop-k.k < length c.loop-k.motes.items = search rules in
    let is : slice_get c.loop-k.motes.items c.loop-k.k ≡ Some c.index_mut.result.now = slice_get-get_or c.loop-k.motes.items c.loop-k.k c.index_mut.result.now below ∙ ap (λ x. Some x) (sym c.index_mut.ensures.value) in
    changed-more HasForgotten c.loop-k.k c.args.motes.now.items c.loop-k.motes.items c.index_mut.result.now c.forget.new.mote c.loop-k.invariant below is c.in_ok-forget.ensures
