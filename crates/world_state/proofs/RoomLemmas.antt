-- How much stands before an event: its records, the links of a node, and the stamps of a journal.
use Rattle.std.proofs.Common.{◌≡◌, ℕ, suc, ◌+◌, ◌<◌, ◌≤◌, Bool, true, false, List, [], ◌∷◌, ◌++◌, length, map, sym, subst, arith, length-append, append-nil}
use Rattle.std.specs.Prelude.{◌==◌, if◌then◌else◌}
use Rattle.std.proofs.lemmas.List.FromFn.{length-map-range_with_len}
use Rattle.std.proofs.lemmas.List.{length-map}
use Rattle.mate_num.specs.declared.call.Stamp.{Stamp}
use Rattle.mate_journal.specs.declared.air.Air.{Air}
use Rattle.mate_journal.specs.declared.air.Air.TheVariants as air
use Rattle.mate_journal.specs.declared.air.Aired.{Aired}
use Rattle.mate_journal.specs.Journal.{JournalEntry, TimedEntry as Entered}
use Rattle.journal_laws.specs.Growth.{last_stamp, FollowsLast}
use Rattle.journal_laws.proofs.Append.{last_stamp-append, start, FollowsLast-from}
use Rattle.script_steps.specs.declared.world.Link.{Link}
use Rattle.radio_sim.specs.declared.wire.Wire.{Wire}
use Rattle.radio_sim.specs.Wires.{wire_after, leaving}
use Rattle.radio_sim.specs.Radio.{Ether, wires_of}
use Rattle.world_rules.specs.World.{World}
use Rattle.world_rules.specs.Effect.{event_node}
use Rattle.world_rules.specs.State.{Moment, air_made, state}
use Rattle.world_rules.specs.Run.{HaveCome, stamp_of, airs, journal}
use Rattle.world_laws.specs.Times.{last_time}
use Rattle.world_laws.proofs.Points.{last-before, run-past}
use Rattle.world_air.specs.Air.{IsAirOf}

-- ---- records

-- the air and a node's journal are within the records
pub records-high : (w : World) (k : ℕ) (ms : List Moment) → length (airs w ms) + length (journal w k ms) ≤ (state w ms).records
records-high w k [] =
    let count = length-map-range_with_len (λ (j : ℕ). let a : Aired = record { stamp = record { event = 0; time = 0 }; node = j; air = air.Interval w.description.trickle.imin } in a) 0 w.nodes in
    omega (arith, count)
records-high w k (m ∷ before) =
    let earlier = records-high w k before in
    let air_long = length-append (airs w before) (map (λ (a : Air). let r : Aired = record { stamp = stamp_of m before; node = event_node w m.cause; air = a } in r) (air_made w (state w before) m)) in
    let made_long = length-map (air_made w (state w before) m) (λ (a : Air). let r : Aired = record { stamp = stamp_of m before; node = event_node w m.cause; air = a } in r) in
    let told_long = more (k == event_node w m.cause) in
    omega (arith, earlier, air_long, made_long, told_long) where
      more : (b : Bool) → length (journal w k before ++ (if b then map (λ (t : JournalEntry). let e : Entered = record { stamp = stamp_of m before; told = t } in e) m.told else [])) ≤ length (journal w k before) + length m.told
      more true =
          let a = length-append (journal w k before) (map (λ (t : JournalEntry). let e : Entered = record { stamp = stamp_of m before; told = t } in e) m.told) in
          let b = length-map m.told (λ (t : JournalEntry). let e : Entered = record { stamp = stamp_of m before; told = t } in e) in
          omega (arith, a, b)
      more false = let a = length-append (journal w k before) [] in omega (arith, a)

-- ---- links

leaving-few : (random n node position : ℕ) (links : List Link) → length (leaving random n node position links) ≤ length links
leaving-few random n node position [] = omega arith
leaving-few random n node position (l ∷ links) = by (l.from == node) (leaving-few random n node (suc position) links) where
  by : (b : Bool) → length (leaving random n node (suc position) links) ≤ length links
      → length (if b then wire_after random n position l ∷ leaving random n node (suc position) links else leaving random n node (suc position) links) ≤ suc (length links)
  by true few = omega (arith, few)
  by false few = omega (arith, few)

pub wires-few : (w : World) (senders : List ℕ) (e : Ether) (node : ℕ) → IsAirOf w senders e → node < 256 → length (wires_of e node) ≤ length w.links
wires-few w senders e node is low = subst (λ (ws : List Wire). length ws ≤ length w.links) (sym (is.stands.wires node low)) (leaving-few w.random _ node 0 w.links)

-- ---- stamps

-- the stamp is of an event up to a number, and of a time up to another
record IsUpTo (event time : ℕ) (s : Stamp) : Type 0 where
  pub event_high : s.event ≤ event
  pub time_high : s.time ≤ time

last-same : (P : Stamp → Type 0) (at before : Stamp) (told : List JournalEntry) → P before → P at → P (last_stamp before (map (λ (t : JournalEntry). let e : Entered = record { stamp = at; told = t } in e) told))
last-same P at before [] old new = old
last-same P at before (t ∷ told) old new = last-same P at at told new new

journal-upto : (w : World) (k : ℕ) (ms : List Moment) → HaveCome w ms → IsUpTo (length ms) (last_time ms) (last_stamp start (journal w k ms))
journal-upto w k [] come = record { event_high = omega arith; time_high = omega arith }
journal-upto w k (m ∷ before) come = by (journal-upto w k before come.0) (k == event_node w m.cause) where
  later : last_time before ≤ m.time
  later = last-before (state w before) (last_time before) m.time m.cause (run-past w before come.0) come.1.next

  old : IsUpTo (length before) (last_time before) (last_stamp start (journal w k before)) → IsUpTo (suc (length before)) m.time (last_stamp start (journal w k before))
  old earlier = let e = earlier.event_high in let t = earlier.time_high in let l = later in record { event_high = omega (arith, e); time_high = omega (arith, t, l) }

  by : IsUpTo (length before) (last_time before) (last_stamp start (journal w k before)) → (b : Bool)
      → IsUpTo (suc (length before)) m.time (last_stamp start (journal w k before ++ (if b then map (λ (t : JournalEntry). let e : Entered = record { stamp = stamp_of m before; told = t } in e) m.told else [])))
  by earlier false = subst (λ (es : List Entered). IsUpTo (suc (length before)) m.time (last_stamp start es)) (sym (append-nil (journal w k before))) (old earlier)
  by earlier true =
      subst (IsUpTo (suc (length before)) m.time) (sym (last_stamp-append start (journal w k before) (map (λ (t : JournalEntry). let e : Entered = record { stamp = stamp_of m before; told = t } in e) m.told)))
      (last-same (IsUpTo (suc (length before)) m.time) (stamp_of m before) (last_stamp start (journal w k before)) m.told (old earlier) (record { event_high = omega arith; time_high = omega arith }))

-- an event behind these may tell on the node
pub next-timely : (w : World) (k : ℕ) (ms : List Moment) (at : Stamp) → HaveCome w ms → at.event ≡ suc (length ms) → last_time ms ≤ at.time → FollowsLast (journal w k ms) at
next-timely w k ms at come number ahead =
    let upto = journal-upto w k ms come in
    let e = upto.event_high in
    let t = upto.time_high in
    FollowsLast-from (journal w k ms) at (record {
      event = omega (arith, e, number);
      time = omega (arith, t, ahead);
      same = λ same. absurd (omega (arith, e, number, same));
    })
