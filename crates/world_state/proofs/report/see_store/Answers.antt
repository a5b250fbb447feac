use Rattle.world_state.proofs.RangeLemmas.{shown-mote}
use Rattle.world_state.proofs.report.see_store.Goals as goal

pub returns : goal.returns
returns c =
    shown-mote c.args.at c.args.mote.now c.show.new.self c.kept-before.result.now c.kept-after.result.now c.of-size.result c.kept-before.ensures.keeps c.kept-after.ensures.keeps c.kept-before.ensures.kept c.of-size.ensures c.in_ok-show.ensures
    c.kept-after.ensures.kept c.log_is_in_range_from.ensures
