use Rattle.std.proofs.Common.{◌∙◌, ap}
use Rattle.trickle_timer.specs.declared.timer.Fire.{Fire}
use Rattle.capsule_exchange.specs.Happenings.{held_versions}
use Rattle.world_state.specs.Motes.{at_fire}
use Rattle.world_state.specs.declared.effect.Effect.{Effect}
use Rattle.callers_worlds.proofs.motes.a_silent_point_sends_nothing.Goals as goal

pub returns : goal.returns
returns c = λ n hs known keeps.
    ap (λ (e : Effect). e.sends.items) (c.fire.ensures.effect n hs known) ∙ ap (λ (fire : Fire). (at_fire (held_versions n hs) fire).sends.items) keeps
