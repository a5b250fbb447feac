-- Which node an event of the radio is of.
use Rattle.std.specs.Prelude.{ℕ, ◌<◌, length, slice_get}
use Rattle.std.specs.Option.{option_map_or}
use Rattle.script_steps.specs.declared.world.World.{World as Script}
use Rattle.script_steps.specs.declared.world.Link.{Link}
use Rattle.script_steps.specs.declared.world.Planned.{Planned}
use Rattle.radio_sim.specs.declared.shared_event.SharedEvent.{SharedEvent}
use Rattle.radio_sim.specs.declared.shared_event.SharedEvent.TheVariants as radio

-- an event of the radio names a line of the script, or a link
abbrev pub NamesPart : Script → SharedEvent → Type 0
NamesPart script (radio.Planned line) = line < length script.events
NamesPart script (radio.Period node h) = Unit {0}
NamesPart script (radio.Fire node) = Unit {0}
NamesPart script (radio.Expire node) = Unit {0}
NamesPart script (radio.Pump node) = Unit {0}
NamesPart script (radio.Due node c inv value) = Unit {0}
NamesPart script (radio.Deliver link number bytes) = link < length script.links

-- the node that it is of
abbrev pub named_node : Script → SharedEvent → ℕ
named_node script (radio.Planned line) = option_map_or (λ (p : Planned). p.node) (slice_get script.events line) 0
named_node script (radio.Period node h) = node
named_node script (radio.Fire node) = node
named_node script (radio.Expire node) = node
named_node script (radio.Pump node) = node
named_node script (radio.Due node c inv value) = node
named_node script (radio.Deliver link number bytes) = option_map_or (λ (l : Link). l.to) (slice_get script.links link) 0
