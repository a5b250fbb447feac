use Rattle.std.proofs.Common.{◌∙◌, ◌++◌, List, ap}
use Rattle.event_queue.specs.Agenda.{due_at}
use Rattle.radio_sim.specs.declared.shared_event.SharedEvent.{SharedEvent}
use Rattle.callers_worlds.proofs.AirLemmas.{point_first}
use Rattle.callers_worlds.proofs.air.the_point_comes_at_its_time.Goals as goal

pub returns : goal.returns
returns c =
    c.in_ok-schedule_interval.ensures.grows.due c.args.point c.requires.in_time
    ∙ ap (λ (es : List SharedEvent). due_at c.args.point c.args.radio.now.agenda.items ++ es) (point_first c.args.node c.args.point c.args.end c.requires.later)
