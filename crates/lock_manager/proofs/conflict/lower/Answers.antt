use Rattle.std.proofs.Common.{get_or, ◌∙◌, ap, arith}
use Rattle.std.proofs.Math.ListN.{set}
use Rattle.std.proofs.lemmas.List.{get_or_default}
use Rattle.std.proofs.lemmas.List.Edits.{map_over_more}
use Rattle.lock_manager.specs.declared.claim.Waiter.{Waiter}
use Rattle.lock_manager.specs.Counts.{lowered}
use Rattle.lock_manager.proofs.conflict.lower.Goals as goal

pub loop-waiter-preserved : goal.loop-waiter-preserved
loop-waiter-preserved c =
    let ws = c.args.waiters.now in
    let now = c.loop-waiter.waiter-items in
    let i = c.loop-waiter.waiter-index in
    let unused : Waiter = record { claim = record { ctx = record { 0 = 0 }; set = record { read = 0; written = 0 } }; blocked = 0 } in
    let w : Waiter = get_or now i unused in
    let f : Waiter → Waiter = lowered c.args.released.now in
    ap (λ (v : Waiter). set now i v) c.without.ensures ∙ map_over_more f ws now i w (omega arith) c.loop-waiter.invariant (get_or_default now i unused w (omega arith))
