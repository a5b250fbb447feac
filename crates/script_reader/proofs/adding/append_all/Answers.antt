use Rattle.std.proofs.Common.{rules, pos, get_or, FitsSigned}
use Rattle.std.proofs.lemmas.Int.{to_z-of_z}
use Rattle.std.specs.Int.{w16}
use Rattle.script_reader.proofs.SeriesLemmas.{append_none, append_more}
use Rattle.script_reader.proofs.adding.append_all.Goals as goal

pub loop-value-init : goal.loop-value-init
loop-value-init c = append_none c.args.place c.args.values.now c.args.series.now

pub loop-value-preserved : goal.loop-value-preserved
loop-value-preserved c =
    let fits : FitsSigned w16 (get_or c.args.values.now c.loop-value.value-index (pos 0)) = search rules in
    append_more c.args.place c.args.values.now c.loop-value.value-index c.args.series.now c.loop-value.series c.append.new.self _ c.loop-value.invariant c.loop-value-test.true (to_z-of_z w16 _ fits) c.in_ok-append.ensures
