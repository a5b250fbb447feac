use Rattle.std.proofs.Common.{get_or, Option, None, arith}
use Rattle.std.proofs.lemmas.List.{get_or_default}
use Rattle.std.proofs.lemmas.List.Edits.{map_over_more}
use Rattle.split_phase.specs.Calls.{Asked, gone}
use Rattle.split_phase.proofs.pending.cancel_all.Goals as goal

pub loop-call-preserved : goal.loop-call-preserved
loop-call-preserved c =
    let calls = c.args.calls.now in
    let now = c.loop-call.call-items in
    let i = c.loop-call.call-index in
    let nobody : Option Asked = None in
    let call : Option Asked = get_or now i nobody in
    map_over_more gone calls now i call (omega arith) c.loop-call.invariant (get_or_default now i nobody call (omega arith))
