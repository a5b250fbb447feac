use Rattle.std.proofs.Common.{◌∙◌, [], ◌∷◌, ℕ, Option, ap}
use Rattle.std.specs.Option.{option_map_or}
use Rattle.arrayvec.specs.ArrayVec.{ArrayVec}
use Rattle.mate_journal.specs.declared.air.Air.{Air}
use Rattle.mate_journal.specs.declared.air.Air.TheVariants.{Got}
use Rattle.radio_sim.specs.declared.shared_event.SharedEvent.TheVariants as radio
use Rattle.script_steps.specs.declared.world.Link.{Link}
use Rattle.world_rules.specs.Cause.{Deliver}
use Rattle.callers_worlds.proofs.events.a_packet_is_got_from_its_sender.Goals as goal

pub returns : goal.returns
returns c = λ k n packet link mote may sent is.
    (c.in_ok-handle.ensures.handled k n (Deliver 0 c.args.number packet) mote (ap (λ (bytes : ArrayVec ℕ). radio.Deliver 0 c.args.number bytes) sent) may).effect.first
    ∙ ap (λ (l : Option Link). let got : Air = Got c.args.number (option_map_or (λ (l : Link). l.from) l 0) in got ∷ []) is
