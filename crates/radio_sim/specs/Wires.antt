-- The links that leave a node: their words, what they lose, and what they deliver.
use Rattle.std.specs.Prelude.{ℕ, suc, ◌+◌, ◌%◌, Bool, ◌==◌, nat_lt, if◌then◌else◌, List, [], ◌∷◌, Option, Some, None}
use Rattle.std.specs.List.{filter_map}
use Rattle.arrayvec.specs.ArrayVec.{ArrayVec}
use Rattle.rand_pcg.specs.Lcg.{Lcg, started, increment_of, advance}
use Rattle.rand_pcg.specs.Pcg.{multiplier_64, pcg32}
use Rattle.mate_journal.specs.declared.air.Air.TheVariants as air
use Rattle.mate_journal.specs.declared.air.Aired.{Aired}
use Rattle.script_steps.specs.declared.world.Link.{Link}
use Rattle.radio_sim.specs.declared.shared_event.SharedEvent.{SharedEvent}
use Rattle.radio_sim.specs.declared.shared_event.SharedEvent.TheVariants as event
use Rattle.radio_sim.specs.declared.waiting.Delivery.{Delivery}
use Rattle.radio_sim.specs.declared.wire.Wire.{Wire}
use Rattle.radio_sim.specs.declared.wire.Sending.{Sending}

-- the stream of the link at a position, and its state before word number n, from 0
abbrev pub link_stream : ℕ → ℕ → Lcg
link_stream random position = started 64 multiplier_64 random (increment_of 64 (128 + position))

abbrev pub words_from : ℕ → ℕ → ℕ → Lcg
words_from random position n = advance 64 multiplier_64 n (link_stream random position)

-- word number n of the link's stream
abbrev pub link_word : ℕ → ℕ → ℕ → ℕ
link_word random position n = (pcg32 (words_from random position n)).0

-- a link of a world after n packets: word number n decides over the next one
abbrev pub wire_after : ℕ → ℕ → ℕ → Link → Wire
wire_after random n position l = record {
  link = position;
  to = l.to;
  loss = l.loss;
  word = link_word random position n;
  words = words_from random position (n + 1);
}

-- the links that leave a node, of those from a position on, after n packets of the node
abbrev pub leaving : ℕ → ℕ → ℕ → ℕ → List Link → List Wire
leaving random n node position [] = []
leaving random n node position (l ∷ links) = if l.from == node then wire_after random n position l
    ∷ leaving random n node (suc position) links else leaving random n node (suc position) links

abbrev pub turned_wire : Wire → Wire
turned_wire w = record w { word = (pcg32 w.words).0; words = (pcg32 w.words).1 }

-- the link loses the next packet
abbrev pub loses : Wire → Bool
loses w = nat_lt (w.word % 1000) w.loss

abbrev pub lost_on : Sending → Wire → Option Aired
lost_on s w = if loses w then Some (record { stamp = s.at; node = s.node; air = air.Lost s.number w.to }) else None

abbrev pub delivered_on : Sending → ArrayVec ℕ → Wire → Option SharedEvent
delivered_on s bytes w = if loses w then None else Some (event.Deliver w.link s.number bytes)

abbrev pub carried_on : Sending → ArrayVec ℕ → Wire → Option Delivery
carried_on s bytes w = if loses w then None else Some (record { link = w.link; number = s.number; bytes = bytes })

-- what the links lose, and what they deliver, in their order
abbrev pub losts : Sending → List Wire → List Aired
losts s ws = filter_map (lost_on s) ws

abbrev pub delivered : Sending → ArrayVec ℕ → List Wire → List SharedEvent
delivered s bytes ws = filter_map (delivered_on s bytes) ws

abbrev pub carried_by : Sending → ArrayVec ℕ → List Wire → List Delivery
carried_by s bytes ws = filter_map (carried_on s bytes) ws
