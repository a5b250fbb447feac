use Rattle.std.proofs.Common.{◌≡◌, Some}
use Rattle.std.specs.Prelude.{slice_get}
use Rattle.script_steps.specs.declared.world.World.{World}
use Rattle.callers_worlds.proofs.MadeLemmas.{of_world, second_injection, at_150}
use Rattle.callers_worlds.proofs.made.a_second_injection_has_version_2.Goals as goal

pub returns : goal.returns
returns c = of_world c.generate.result _ (λ (w : World). slice_get w.events 150 ≡ Some second_injection) (at_150 c.args.desc.now c.requires) c.generate.ensures.world
