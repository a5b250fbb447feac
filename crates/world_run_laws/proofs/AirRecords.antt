-- The records of the air: each is of the start or of an event, of a node of the world, and in range.
use Rattle.std.proofs.Common.{◌≡◌, ℕ, zero, suc, ◌+◌, ◌<◌, ◌≤◌, Bool, true, false, List, [], ◌∷◌, ◌++◌, map, length, refl, arith, inl, inr, ◌⊎◌}
use Rattle.std.specs.Prelude.{Option, Some, None, All, slice_get, if◌then◌else◌}
use Rattle.std.specs.List.{flat_map, range_with_len}
use Rattle.std.specs.Option.{option_map_or, option_to_list}
use Rattle.std.proofs.lemmas.List.Elements.{All-nil, All-cons, All-head, All-tail, All-append, All-map, All-weaker}
use Rattle.vm_shape.specs.declared.description.Description.{Description}
use Rattle.mate_journal.specs.Machine.{HeldProgram, Meaning}
use Rattle.journal_laws.proofs.Append.{start}
use Rattle.mate_journal.specs.declared.air.Air.{Air}
use Rattle.mate_journal.specs.declared.air.Air.TheVariants as air
use Rattle.mate_journal.specs.declared.air.Aired.{Aired}
use Rattle.packet_codec.specs.Bytes.{packet_bytes}
use Rattle.trickle_timer.specs.Intervals as trickle
use Rattle.trickle_timer.specs.declared.timer.Fire.{Fire}
use Rattle.trickle_timer.specs.declared.timer.Fire.TheVariants as fire
use Rattle.capsule_exchange.specs.Happenings.{Happening, next_slot}
use Rattle.script_steps.specs.declared.world.World.{World as Script}
use Rattle.script_steps.specs.declared.world.Link.{Link}
use Rattle.script_steps.specs.declared.world.Planned.{Planned}
use Rattle.script_steps.specs.declared.world.What.{What}
use Rattle.script_steps.specs.declared.world.What.TheVariants as what
use Rattle.script_steps.specs.World.{IsRightLink, IsRightPlanned, IsRightWhat, IsRightWorld}
use Rattle.world_rules.specs.Cause.{Cause}
use Rattle.world_rules.specs.Cause as event
use Rattle.world_rules.specs.World.{World, PlannedLine, receiver, links_from, handlers, want_of, line_planned, world_of}
use Rattle.world_rules.specs.Effect.{Node, no_effect, of_line, of_point, of_slot, sender, node_effect, event_node, begun_length}
use Rattle.world_rules.specs.State.{Moment, WorldState, Sending, is_lost, sent_bytes, air_of_sending, sendings, node_at, effect_at, packets_of, air_made, state}
use Rattle.world_rules.specs.Run.{HaveCome, stamp_of, airs}
use Rattle.world_laws.proofs.Points.{among-next}
use Rattle.world_laws.proofs.Placed.{HasEnds, placed-node, run-placed, script-ends}
use Rattle.report_writer.specs.Tidy.{IsAirInRange}
use Rattle.world_run_laws.proofs.Stamps.{IsOfEvent}

-- lines, links and noise are in range
pub record HasAirInRange (w : World) : Type 0 where
  pub nodes_low : 1 ≤ w.nodes
  pub ends : HasEnds w
  pub senders : (j : ℕ) → sender w j < w.nodes
  pub lines : (i : ℕ) → All (IsAirInRange w.nodes) (option_map_or (λ (l : PlannedLine). of_line l.what) (slice_get w.plan i) no_effect).first

-- ---- what an event leaves on the air

none-in-range : (w : World) → All (IsAirInRange w.nodes) []
none-in-range w = All-nil (IsAirInRange w.nodes)

one-in-range : (w : World) (a : Air) → IsAirInRange w.nodes a → All (IsAirInRange w.nodes) (a ∷ [])
one-in-range w a is = All-cons (IsAirInRange w.nodes) a [] is (none-in-range w)

point-in-range : (w : World) (n : Node) (o : Fire) → All (IsAirInRange w.nodes) (of_point w n o).first
point-in-range w n fire.Send = none-in-range w
point-in-range w n fire.Keep = one-in-range w air.Keep tt

slot-in-range : (w : World) (hs : List Happening) (o : Option ℕ) → All (IsAirInRange w.nodes) (of_slot hs o).first
slot-in-range w hs None = none-in-range w
slot-in-range w hs (Some slot) = none-in-range w

first-in-range : (w : World) (n : Node) (c : Cause) → HasAirInRange w → All (IsAirInRange w.nodes) (node_effect w n c).first
first-in-range w n (event.Planned line) fit = fit.lines line
first-in-range w n (event.Fire node) fit = point-in-range w n (trickle.at_point n.timer.set n.timer.running w.suppress)
first-in-range w n (event.Pump node) fit = slot-in-range w n.exchange (next_slot (handlers w) n.exchange)
first-in-range w n (event.Deliver link number packet) fit = one-in-range w (air.Got number (sender w link)) (fit.senders link)
first-in-range w n _ fit = none-in-range w

interval-in-range : (w : World) (o : Option ℕ) → All (IsAirInRange w.nodes) (map (λ l. air.Interval l) (option_to_list o))
interval-in-range w None = none-in-range w
interval-in-range w (Some l) = one-in-range w (air.Interval l) tt

losses-in-range : (w : World) (x : Sending) (js : List ℕ) → HasAirInRange w → All (IsAirInRange w.nodes) (flat_map (λ j. if is_lost w x j then air.Lost x.number (receiver w j) ∷ [] else []) js)
losses-in-range w x [] fit = none-in-range w
losses-in-range w x (j ∷ js) fit =
    All-append (IsAirInRange w.nodes) (if is_lost w x j then air.Lost x.number (receiver w j) ∷ [] else []) _ (by (is_lost w x j)) (losses-in-range w x js fit) where
      by : (b : Bool) → All (IsAirInRange w.nodes) (if b then air.Lost x.number (receiver w j) ∷ [] else [])
      by true = one-in-range w (air.Lost x.number (receiver w j)) (fit.ends.receivers j)
      by false = none-in-range w

sending-in-range : (w : World) (node : ℕ) (x : Sending) → HasAirInRange w → All (IsAirInRange w.nodes) (air_of_sending w node x)
sending-in-range w node x fit =
    let some : 0 < length (packet_bytes w.description.vm_id x.packet) = omega arith in
    All-cons (IsAirInRange w.nodes) (air.Sent x.number (sent_bytes w x.packet)) _ some (losses-in-range w x (links_from w node) fit)

sendings-in-range : (w : World) (node : ℕ) (xs : List Sending) → HasAirInRange w → All (IsAirInRange w.nodes) (flat_map (air_of_sending w node) xs)
sendings-in-range w node [] fit = none-in-range w
sendings-in-range w node (x ∷ xs) fit = All-append (IsAirInRange w.nodes) (air_of_sending w node x) _ (sending-in-range w node x fit) (sendings-in-range w node xs fit)

made-in-range : (w : World) (s : WorldState) (m : Moment) → HasAirInRange w → All (IsAirInRange w.nodes) (air_made w s m)
made-in-range w s m fit =
    All-append (IsAirInRange w.nodes) ((effect_at w s m).first ++ map (λ l. air.Interval l) (option_to_list (begun_length (node_at w s m) (effect_at w s m)))) _
    (All-append (IsAirInRange w.nodes) (effect_at w s m).first _ (first-in-range w (node_at w s m) m.cause fit) (interval-in-range w (begun_length (node_at w s m) (effect_at w s m))))
    (sendings-in-range w (event_node w m.cause) (sendings w s (event_node w m.cause) (packets_of w s m)) fit)

-- ---- along a run

pub record IsAirOfRun (w : World) (ms : List Moment) (a : Aired) : Type 0 where
  pub came : (a.stamp ≡ start) ⊎ IsOfEvent w ms a.stamp a.node
  pub node : a.node < w.nodes
  pub in_range : IsAirInRange w.nodes a.air

further : (w : World) (m : Moment) (before : List Moment) (a : Aired) → IsAirOfRun w before a → IsAirOfRun w (m ∷ before) a
further w m before a is = record {
  came = elim is.came [ inl e ↦ inl e | inr h ↦ inr (inr h) ];
  node = is.node;
  in_range = is.in_range;
}

starts-of-run : (w : World) (l first n : ℕ) → first + n ≤ w.nodes
    → All (IsAirOfRun w []) (map (λ k. record { stamp = start; node = k; air = air.Interval l }) (range_with_len first n))
starts-of-run w l first zero within = All-nil (IsAirOfRun w [])
starts-of-run w l first (suc n) within =
    All-cons (IsAirOfRun w []) (record { stamp = start; node = first; air = air.Interval l }) _
    (record { came = inl refl; node = omega (arith, within); in_range = tt }) (starts-of-run w l (first + 1) n (omega (arith, within)))

pub come-node : (w : World) (m : Moment) (before : List Moment) → HasEnds w → HaveCome w (m ∷ before) → event_node w m.cause < w.nodes
come-node w m before ends come = placed-node w m.cause ends (run-placed w before ends come.0 m.time m.cause (among-next (state w before) m.time m.cause come.1.next))

pub airs-of-run : (w : World) (ms : List Moment) → HasAirInRange w → HaveCome w ms → All (IsAirOfRun w ms) (airs w ms)
airs-of-run w [] fit come = starts-of-run w w.description.trickle.imin 0 w.nodes (omega arith)
airs-of-run w (m ∷ before) fit come =
    All-append (IsAirOfRun w (m ∷ before)) (airs w before) _
    (All-weaker (IsAirOfRun w before) (IsAirOfRun w (m ∷ before)) (further w m before) (airs w before) (airs-of-run w before fit come.0))
    (All-map (IsAirOfRun w (m ∷ before)) here (air_made w (state w before) m)
    (All-weaker (IsAirInRange w.nodes) (λ (a : Air). IsAirOfRun w (m ∷ before) (here a)) (λ a is. record { came = inr (inl (refl, refl)); node = come-node w m before fit.ends come; in_range = is })
    (air_made w (state w before) m) (made-in-range w (state w before) m fit))) where
      here : Air → Aired
      here a = record { stamp = stamp_of m before; node = event_node w m.cause; air = a }

-- ---- the world of a right script

sender-within : (nodes : ℕ) (ls : List Link) (j : ℕ) → 1 ≤ nodes → All (IsRightLink nodes) ls → option_map_or (λ (l : Link). l.from) (slice_get ls j) 0 < nodes
sender-within nodes [] j low right = low
sender-within nodes (l ∷ ls) zero low right = (All-head (IsRightLink nodes) l ls right).from_high
sender-within nodes (l ∷ ls) (suc j) low right = sender-within nodes ls j low (All-tail (IsRightLink nodes) l ls right)

what-in-range : (d : Description) (nodes files : ℕ) (programs : ℕ → HeldProgram) (x : What) → IsRightWhat d files x → All (IsAirInRange nodes) (of_line (want_of programs x)).first
what-in-range d nodes files programs (what.Noise bytes) right = All-cons (IsAirInRange nodes) (air.Noise bytes) [] right.some (All-nil (IsAirInRange nodes))
what-in-range d nodes files programs _ right = All-nil (IsAirInRange nodes)

lines-in-range : (d : Description) (nodes until files : ℕ) (programs : ℕ → HeldProgram) (ps : List Planned) (i : ℕ) → All (IsRightPlanned d nodes until files) ps
    → All (IsAirInRange nodes) (option_map_or (λ (l : PlannedLine). of_line l.what) (slice_get (map (line_planned programs) ps) i) no_effect).first
lines-in-range d nodes until files programs [] i right = All-nil (IsAirInRange nodes)
lines-in-range d nodes until files programs (p ∷ ps) zero right = what-in-range d nodes files programs p.what (All-head (IsRightPlanned d nodes until files) p ps right).what
lines-in-range d nodes until files programs (p ∷ ps) (suc i) right = lines-in-range d nodes until files programs ps i (All-tail (IsRightPlanned d nodes until files) p ps right)

pub script-air : (d : Description) (meaning : Meaning) (script : Script) (programs : ℕ → HeldProgram) → IsRightWorld d script → HasAirInRange (world_of d meaning script programs)
script-air d meaning script programs right = record {
  nodes_low = right.nodes_low;
  ends = script-ends d meaning script programs right;
  senders = λ j. sender-within script.nodes script.links j right.nodes_low right.links;
  lines = λ i. lines-in-range d script.nodes script.until (length script.files) programs script.events i right.events;
}
