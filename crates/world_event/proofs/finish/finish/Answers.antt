use Rattle.std.proofs.Common.{◌≡◌, ◌<◌, ◌≤◌, ℕ, List, [], ◌++◌, map, length, get_or, refl, sym, ◌∙◌, ap, subst, arith, length-append, append-nil}
use Rattle.std.specs.Prelude.{Option, Some, None, slice_index_or}
use Rattle.std.specs.Option.{option_to_list}
use Rattle.std.proofs.Math.Nat.{mul-le-mul_left}
use Rattle.std.proofs.lemmas.Result.{IfOk-from_err}
use Rattle.mate_num.specs.declared.id.FunId.{FunId}
use Rattle.mate_num.specs.declared.call.Stamp.{Stamp}
use Rattle.mate_journal.specs.declared.air.Air.{Air}
use Rattle.mate_journal.specs.declared.air.Aired.{Aired}
use Rattle.mate_journal.specs.Entries.{IsEntryInRange}
use Rattle.mate_journal.specs.Journal.{JournalEntry}
use Rattle.node_open.specs.View.{heard_of}
use Rattle.node_open.specs.Calls.{told_by_entries, TellFrom}
use Rattle.packet_codec.specs.declared.packet.Packet.{Packet}
use Rattle.radio_sim.specs.Radio.{Ether, wires_of}
use Rattle.radio_sim.specs.declared.wire.Wire.{Wire}
use Rattle.vm_shape.specs.declared.description.Description.{Description}
use Rattle.world_rules.specs.World.{World, series_in}
use Rattle.world_rules.specs.State.{node_at, messages, answers_due, calls_in}
use Rattle.world_air.specs.Air.{IsAirOf, SendsAll, aired_at, air_room, timed_events}
use Rattle.world_air.specs.Changes.{AddsToAir, if_begins}
use Rattle.world_air.specs.Calls.{AreCallsOf, HasSensors}
use Rattle.journal_laws.specs.Waiting.{AreAwaited}
use Rattle.world_run_laws.specs.Coming.{code_world}
use Rattle.world_state.proofs.StandingLemmas.{stands-same, stands-added}
use Rattle.world_event.specs.Pieces.{length_of}
use Rattle.world_event.proofs.FinishedLemmas.{finished-by}
use Rattle.world_event.proofs.finish.finish.Goals as goal

pub returns : goal.returns
returns c = λ programs s m same_time same_event same_node taken settled.
    let w : World = code_world c.args.desc.now c.args.world.now programs in
    let noted = stands-added w s.senders c.args.radio.now c.note_all.new.radio _ _ c.in_ok-note_all.ensures taken.stands in
    let cancelled = stands-same w s.senders c.note_all.new.radio c.cancel.new.radio c.cancel.ensures.sent c.cancel.ensures.wires c.cancel.ensures.delay noted in
    let timed : IsAirOf w s.senders c.schedule_timed.new.radio = stands-added w s.senders c.cancel.new.radio c.schedule_timed.new.radio _ _ c.in_ok-schedule_timed.ensures cancelled in
    let tell : TellFrom c.args.from c.args.mote.now.node.log c.told_since-entries.result.now = c.told_since-entries.ensures.tell in
    let sensors : HasSensors (code_world c.args.desc.now c.args.world.now programs) c.args.desc.now c.as_slice-2.result.now = record { description = refl; series = ap series_in (sym c.as_slice-2.ensures) } in
    let called : List FunId = (node_at (code_world c.args.desc.now c.args.world.now programs) s m).called in
    let calls : AreCallsOf (code_world c.args.desc.now c.args.world.now programs) c.args.number (node_at (code_world c.args.desc.now c.args.world.now programs) s m).called c.args.mote.now.calls =
    subst (λ (k : ℕ). AreCallsOf (code_world c.args.desc.now c.args.world.now programs) k (node_at (code_world c.args.desc.now c.args.world.now programs) s m).called c.args.mote.now.calls) same_node settled.calls in
    let A : List JournalEntry → Type 0 = λ told. AreAwaited (heard_of c.args.mote.now.node) told in
    finished-by w s m c.args.from c.args.at c.args.mote.now c.args.effect.now c.marked-marked.result c.in_ok-mote.field-0 c.schedule_answers.new.calls
    c.args.radio.now c.note_all.new.radio c.cancel.new.radio c.schedule_timed.new.radio c.send_packets.new.radio c.schedule_pump.new.radio c.schedule_answers.new.radio
    c.args.number c.args.event.now same_time same_event same_node taken settled (record {
      notes = c.in_ok-note_all.ensures;
      cancels = c.cancel.ensures;
      times = c.in_ok-schedule_timed.ensures;
      sends =
          let P : List Packet → List JournalEntry → Type 0 =
          λ ps told. SendsAll (code_world c.args.desc.now c.args.world.now programs) c.args.number c.args.at s.senders (ps ++ messages (code_world c.args.desc.now c.args.world.now programs) told) c.schedule_timed.new.radio c.send_packets.new.radio in
          subst (λ (told : List JournalEntry). P c.args.effect.now.sends.items told) tell.told
          (subst (λ (ps : List Packet). P ps (told_by_entries tell.by c.told_since-entries.result.now)) c.as_slice.ensures.value (c.in_ok-send_packets.ensures.sends w s.senders tell.by refl timed));
      marked_is = c.marked-marked.ensures;
      due = c.in_ok-mote.ensures.due;
      pumps_added = c.in_ok-mote.ensures.adds;
      answers =
          let P : List JournalEntry → Type 0 =
          λ told. AddsToAir c.schedule_pump.new.radio c.schedule_answers.new.radio [] (timed_events (code_world c.args.desc.now c.args.world.now programs) (answers_due (code_world c.args.desc.now c.args.world.now programs) c.args.number c.args.at.time (heard_of c.args.mote.now.node)
          (node_at (code_world c.args.desc.now c.args.world.now programs) s m).called told)) in
          subst P tell.told (c.in_ok-schedule_answers.ensures.due w called tell.by sensors calls settled.apart (subst A (sym tell.told) settled.awaited));
      called =
          let P : List JournalEntry → Type 0 =
          λ told. AreCallsOf (code_world c.args.desc.now c.args.world.now programs) c.args.number ((node_at (code_world c.args.desc.now c.args.world.now programs) s m).called ++ calls_in told) c.schedule_answers.new.calls in
          subst P tell.told (c.in_ok-schedule_answers.ensures.calls w called tell.by sensors calls);
    })

-- at most what comes first and an interval
noted-few : (at : Stamp) (node : ℕ) (o : Option Air) (p : Option ℕ) → length (map (aired_at at node) (option_to_list o) ++ map (aired_at at node) (if_begins p)) ≤ 2
noted-few at node None None = omega arith
noted-few at node None (Some n) = omega arith
noted-few at node (Some a) None = omega arith
noted-few at node (Some a) (Some n) = omega arith

room-below : (node n : ℕ) (old new : Ether) (airs : List Aired) → new.air ≡ old.air ++ airs → new.wires ≡ old.wires → length airs ≤ 2 → length old.air ≤ 1000000 → length (wires_of old node) ≤ 4096 → n ≤ 100000 → air_room new node n < 4000000000
room-below node n old new airs air wires two few narrow low =
    let long = ap length air ∙ length-append old.air airs in
    let wide = ap (λ (ws : List (List Wire)). length (slice_index_or ws node [])) wires in
    let high : length (wires_of new node) ≤ 4096 = omega (arith, wide, narrow) in
    let most = mul-le-mul_left n high in omega (arith, long, two, few, most, low)

pub send_packets-requires-clause-few : goal.send_packets-requires-clause-few
send_packets-requires-clause-few c =
    let noted = c.in_ok-note_all.ensures in
    let timed = c.in_ok-schedule_timed.ensures in
    let begun = length_of c.args.effect.now.begins c.args.mote.now.timer in
    let packets = c.as_slice.ensures.fits in
    let entries = c.told_since-entries.ensures.count in
    let short = c.requires.short in
    room-below c.args.number _ c.args.radio.now c.schedule_timed.new.radio _ (timed.grows.air ∙ append-nil _ ∙ c.cancel.ensures.air ∙ noted.grows.air) (timed.wires ∙ c.cancel.ensures.wires ∙ noted.wires) (noted-few c.args.at c.args.number c.args.effect.now.first begun)
    c.requires.few c.requires.wires (omega (arith, packets, entries, short))

pub schedule_answers-requires-clause-range : goal.schedule_answers-requires-clause-range
schedule_answers-requires-clause-range c = λ k e below.
    subst (λ (d : Description). IsEntryInRange d (get_or c.told_since-entries.result.now k e).entry) c.requires.machine (c.told_since-entries.ensures.range k e below)

pub schedule_answers-requires-clause-ahead : goal.schedule_answers-requires-clause-ahead
schedule_answers-requires-clause-ahead c =
    subst (λ (now : ℕ). now ≤ c.args.at.time)
    (sym (c.in_ok-mote.ensures.adds.grows.now ∙ c.in_ok-send_packets.ensures.now ∙ c.in_ok-schedule_timed.ensures.grows.now ∙ c.cancel.ensures.now ∙ c.in_ok-note_all.ensures.grows.now)) c.requires.ahead

pub returns-in_err-schedule_answers : goal.returns-in_err-schedule_answers
returns-in_err-schedule_answers c = IfOk-from_err _ _ c.from_residual-in_err-schedule_answers.ensures.0
