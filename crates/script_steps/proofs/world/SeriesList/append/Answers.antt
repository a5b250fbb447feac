use Rattle.std.proofs.lemmas.Int.{to_z-of_z}
use mir.Syntax.{w16}
use Rattle.script_steps.proofs.WorldLemmas.{set-appended}
use Rattle.script_steps.proofs.world.SeriesList.append.Goals as goal

pub returns : goal.returns
returns c =
    let pushed = rw (to_z-of_z w16 c.args.value c.ranges.value) at c.push.ensures in
    set-appended c.args.index c.self.inside.series.items c.args.self.now c.index_mut.result.now c.args.value c.push.new.self c.push.result c.self.view_is c.requires c.index_mut.ensures.value pushed
