-- The records of an event: what stands first, an interval's beginning, and the packets with their losses.
use Rattle.std.proofs.Common.{◌≡◌, ℕ, false, List, [], ◌∷◌, ◌++◌, map, Option, Some, None, refl, ◌∙◌, ap}
use Rattle.std.specs.Prelude.{slice_get}
use Rattle.std.specs.List.{flat_map}
use Rattle.std.specs.Option.{option_map_or, option_to_list}
use Rattle.std.proofs.lemmas.List.{map-append}
use Rattle.mate_num.specs.declared.call.Stamp.{Stamp}
use Rattle.mate_journal.specs.declared.air.Air.{Air}
use Rattle.mate_journal.specs.declared.air.Air.TheVariants as air
use Rattle.mate_journal.specs.declared.air.Aired.{Aired}
use Rattle.trickle_timer.specs.Intervals as trickle
use Rattle.trickle_timer.specs.declared.timer.Fire.{Fire}
use Rattle.trickle_timer.specs.declared.timer.Fire.TheVariants as fire
use Rattle.capsule_exchange.specs.Happenings.{next_slot}
use Rattle.world_rules.specs.Cause.{Cause}
use Rattle.world_rules.specs.Cause as event
use Rattle.world_rules.specs.World.{World, PlannedLine, Want, Inject, Post, Show, ResetNode, Noise, handlers}
use Rattle.world_rules.specs.Effect.{Node, no_effect, node_effect, of_line, of_point, of_slot, begun_length, event_node}
use Rattle.world_rules.specs.State.{Moment, WorldState, node_at, effect_at, air_of_sending, sendings, packets_of, air_made}
use Rattle.world_laws.specs.PacketRecords.{is_lost_air, is_sent_air}

-- with its stamp and its node
abbrev pub stamped : Stamp → ℕ → Air → Aired
stamped at node a = record { stamp = at; node = node; air = a }

-- the beginning of an interval, if one begins
abbrev pub interval_air : Option ℕ → List Air
interval_air o = map (λ l. air.Interval l) (option_to_list o)

abbrev pub sendings_air : World → WorldState → Moment → List Air
sendings_air w s m = flat_map (air_of_sending w (event_node w m.cause)) (sendings w s (event_node w m.cause) (packets_of w s m))

-- the three parts of an event's records
pub parts : (w : World) (s : WorldState) (m : Moment) (at : Stamp) (node : ℕ)
    → map (stamped at node) (air_made w s m)
    ≡ (map (stamped at node) (effect_at w s m).first ++ map (stamped at node) (interval_air (begun_length (node_at w s m) (effect_at w s m)))) ++ map (stamped at node) (sendings_air w s m)
parts w s m at node =
    let first : List Air = (effect_at w s m).first in
    let begins : List Air = interval_air (begun_length (node_at w s m) (effect_at w s m)) in
    map-append (stamped at node) (first ++ begins) (sendings_air w s m)
    ∙ ap (λ (rs : List Aired). rs ++ map (stamped at node) (sendings_air w s m)) (map-append (stamped at node) first begins)

-- what stands first is no packet and no loss, if it is anything
pub data IsHead (records : List Air) : Type 0 where
  no_head : records ≡ [] → IsHead records
  one_head : (a : Air) → is_sent_air a ≡ false → is_lost_air a ≡ false → records ≡ a ∷ [] → IsHead records

line-head : (x : Want) → IsHead (of_line x).first
line-head (Noise bytes) = one_head (air.Noise bytes) refl refl refl
line-head _ = no_head refl

planned-head : (o : Option PlannedLine) → IsHead (option_map_or (λ (l : PlannedLine). of_line l.what) o no_effect).first
planned-head None = no_head refl
planned-head (Some l) = line-head l.what

point-head : (w : World) (n : Node) (o : Fire) → IsHead (of_point w n o).first
point-head w n fire.Send = no_head refl
point-head w n fire.Keep = one_head air.Keep refl refl refl

slot-head : (hs : List _) (o : Option ℕ) → IsHead (of_slot hs o).first
slot-head hs None = no_head refl
slot-head hs (Some slot) = no_head refl

pub head-is : (w : World) (n : Node) (c : Cause) → IsHead (node_effect w n c).first
head-is w n (event.Planned line) = planned-head (slice_get w.plan line)
head-is w n (event.Fire node) = point-head w n (trickle.at_point n.timer.set n.timer.running w.suppress)
head-is w n (event.Pump node) = slot-head n.exchange (next_slot (handlers w) n.exchange)
head-is w n (event.Deliver link number packet) = one_head _ refl refl refl
head-is w n _ = no_head refl

pub interval-head : (o : Option ℕ) → IsHead (interval_air o)
interval-head None = no_head refl
interval-head (Some l) = one_head (air.Interval l) refl refl refl
