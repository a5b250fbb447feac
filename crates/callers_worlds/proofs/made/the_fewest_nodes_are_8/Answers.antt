use Rattle.std.proofs.Common.{◌≡◌}
use Rattle.script_steps.specs.declared.world.World.{World}
use Rattle.callers_worlds.proofs.MadeLemmas.{of_world, eight}
use Rattle.callers_worlds.proofs.made.the_fewest_nodes_are_8.Goals as goal

pub returns : goal.returns
returns c = of_world c.generate.result _ (λ (w : World). w.nodes ≡ 8) (eight c.args.desc.now) c.generate.ensures.world
