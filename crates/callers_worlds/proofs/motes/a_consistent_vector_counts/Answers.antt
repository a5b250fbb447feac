use Rattle.std.proofs.Common.{◌∙◌, Bool, ap}
use Rattle.std.proofs.lemmas.Slice.Eq.{bytes_eq-Decides}
use Rattle.trickle_timer.specs.Timer.{packet_event}
use Rattle.capsule_exchange.specs.Happenings.{held_versions}
use Rattle.world_state.specs.Motes.{timed}
use Rattle.callers_worlds.proofs.motes.a_consistent_vector_counts.Goals as goal

pub returns : goal.returns
returns c = λ n hs versions known is held.
    (c.hear_vector.ensures.hears n hs versions known is).timer
    ∙ ap (λ (b : Bool). timed c.args.mote.now.timer c.args.at.time (packet_event b)) ((bytes_eq-Decides versions.items (held_versions n hs)).1 held)
