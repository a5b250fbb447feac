use Rattle.std.proofs.Common.{◌≡◌, Some}
use Rattle.std.specs.Prelude.{slice_get}
use Rattle.script_steps.specs.declared.world.World.{World}
use Rattle.callers_worlds.proofs.MadeLemmas.{of_world, same_time, at_151}
use Rattle.callers_worlds.proofs.made.an_injection_comes_before_a_post.Goals as goal

pub returns : goal.returns
returns c = of_world c.generate.result _ (λ (w : World). slice_get w.events 151 ≡ Some same_time) (at_151 c.args.desc.now c.requires) c.generate.ensures.world
