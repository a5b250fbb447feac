-- The packets that the air's records are of: what each link decides, and what a packet brings.
use Rattle.std.specs.Prelude.{ℕ, ◌+◌, ◌%◌, Bool, not, nat_lt, ◌==◌, if◌then◌else◌, List, [], ◌∷◌, ◌++◌, map, Option, Some, None, count_by}
use Rattle.std.specs.List.{filter, filter_map, fold}
use Rattle.arrayvec.specs.ArrayVec.{ArrayVec}
use Rattle.mate_num.specs.declared.call.Stamp.{Stamp}
use Rattle.mate_journal.specs.declared.air.Air.{Air}
use Rattle.mate_journal.specs.declared.air.Air.TheVariants as air
use Rattle.mate_journal.specs.declared.air.Aired.{Aired}
use Rattle.world_rules.specs.World.{World, stream_word, receiver, loss, links_from}

-- a packet that was sent: when and in which event, by which node, its number and bytes, and how many its node had sent before
pub record Transmission : Type 0 where
  pub at : Stamp
  pub node : ℕ
  pub number : ℕ
  pub bytes : ArrayVec ℕ
  pub before : ℕ

-- how many of the packets a node sent
abbrev pub sent_by_node : ℕ → List Transmission → ℕ
sent_by_node node xs = count_by (λ k. k == node) (map (λ (x : Transmission). x.node) xs)

-- the packets with those of one record more
abbrev pub with_record : List Transmission → Aired → List Transmission
with_record xs r = by r.air where
  by : Air → List Transmission
  by (air.Interval length) = xs
  by air.Keep = xs
  by (air.Sent number bytes) = xs
      ++ record { at = r.stamp; node = r.node; number = number; bytes = bytes; before = sent_by_node r.node xs } ∷ []
  by (air.Lost number to) = xs
  by (air.Got number from) = xs
  by (air.Noise bytes) = xs

-- the packets that the records send, in order
abbrev pub transmissions : List Aired → List Transmission
transmissions records = fold with_record [] records

-- the link's word of this number decides: below its loss, in thousandths, it loses the packet
abbrev pub loses_on : World → Transmission → ℕ → Bool
loses_on w x j = nat_lt (stream_word w (128 + j) x.before % 1000) (loss w j)

-- the links that lose a packet, and those that bring it: of those that leave its node, in link order
abbrev pub losing_links : World → Transmission → List ℕ
losing_links w x = filter (loses_on w x) (links_from w x.node)

abbrev pub bringing_links : World → Transmission → List ℕ
bringing_links w x = filter (λ j. not (loses_on w x j)) (links_from w x.node)

-- the record of a packet, and those of its losses
abbrev pub record_sent : Transmission → Aired
record_sent x = record { stamp = x.at; node = x.node; air = air.Sent x.number x.bytes }

abbrev pub records_lost : World → Transmission → List Aired
records_lost w x = map (λ j. record { stamp = x.at; node = x.node; air = air.Lost x.number (receiver w j) }) (losing_links w x)

-- a packet that arrives: at which node, which one, and from which node
pub record Arrival : Type 0 where
  pub to : ℕ
  pub number : ℕ
  pub from : ℕ

-- what the records say arrived at a time, in order
abbrev pub arrival_at : ℕ → Aired → Option Arrival
arrival_at t r = by r.air where
  by : Air → Option Arrival
  by (air.Interval length) = None
  by air.Keep = None
  by (air.Sent number bytes) = None
  by (air.Lost number to) = None
  by (air.Got number from) = if r.stamp.time == t then Some (record { to = r.node; number = number; from = from }) else None
  by (air.Noise bytes) = None

abbrev pub arrivals_at : ℕ → List Aired → List Arrival
arrivals_at t records = filter_map (arrival_at t) records

-- what a packet brings at a time: over each link that brings it, in link order, the radio's delay after it was sent
abbrev pub brings_at : World → ℕ → Transmission → List Arrival
brings_at w t x = if x.at.time + w.description.radio.delay == t
    then map (λ j. record { to = receiver w j; number = x.number; from = x.node }) (bringing_links w x) else []
