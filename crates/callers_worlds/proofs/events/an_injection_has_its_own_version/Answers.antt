use Rattle.std.proofs.Common.{◌∙◌, ◌++◌, Option, refl, ap}
use Rattle.std.specs.Option.{option_map_or}
use Rattle.capsule_exchange.specs.Knowledge.{knowledge}
use Rattle.world_rules.specs.Cause.{Planned}
use Rattle.world_rules.specs.Effect.{no_effect, of_line}
use Rattle.world_rules.specs.World.{World, PlannedLine, handlers}
use Rattle.world_run_laws.specs.Coming.{code_world}
use Rattle.callers_worlds.proofs.events.an_injection_has_its_own_version.Goals as goal

pub returns : goal.returns
returns c = λ k time node n p mote may is.
    let w : World = code_world c.args.desc.now c.args.world.now c.args.programs.now in
    (c.in_ok-handle.ensures.handled k n (Planned 0) mote refl may).exchange
    ∙ ap (λ (line : Option PlannedLine). knowledge (handlers w) ((option_map_or (λ (l : PlannedLine). of_line l.what) line no_effect).happened ++ n.exchange)) is
