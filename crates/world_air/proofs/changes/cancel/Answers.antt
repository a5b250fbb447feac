use Rattle.std.proofs.Common.{◌<◌, rules}
use Rattle.world_air.proofs.ChangeLemmas.{cancels-three}
use Rattle.world_air.proofs.changes.cancel.Goals as goal

pub returns : goal.returns
returns c =
    let low : c.args.node < 256 = search rules in
    cancels-three c.args.node c.args.ends c.args.radio.now c.cancel_if.new.radio c.cancel_if-2.new.radio c.cancel_if-3.new.radio low c.cancel_if.ensures c.cancel_if-2.ensures c.cancel_if-3.ensures
