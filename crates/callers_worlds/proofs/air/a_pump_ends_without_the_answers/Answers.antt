use Rattle.std.proofs.Common.{◌∙◌, ◌<◌, true, false, List, ap, sym, subst, arith}
use Rattle.std.specs.List.{filter}
use Rattle.radio_sim.specs.declared.shared_event.SharedEvent.{SharedEvent}
use Rattle.world_air.specs.Changes.{AreNear, stays}
use Rattle.callers_worlds.proofs.AirLemmas.{pump_gone}
use Rattle.callers_worlds.proofs.air.a_pump_ends_without_the_answers.Goals as goal

pub returns : goal.returns
returns c = λ t due.
    let few = c.requires in
    let near : c.args.node < 256 = omega (arith, few) in
    c.cancel.ensures.due t (subst AreNear (sym due) (near, tt))
    ∙ ap (λ (es : List SharedEvent). filter (stays c.args.node (record { interval = false; pump = true; answers = false })) es) due ∙ pump_gone c.args.node
