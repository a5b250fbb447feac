-- What the calls of an event's end do, in the words of the rules.
use Rattle.std.proofs.Common.{◌≡◌, ℕ, Bool, not, List, [], ◌++◌, map, refl, sym, ◌∙◌, ap, subst}
use Rattle.std.specs.Prelude.{◌&&◌, ◌||◌}
use Rattle.std.specs.List.{list_any}
use Rattle.std.specs.Option.{option_to_list}
use Rattle.mate_num.specs.declared.call.Stamp.{Stamp}
use Rattle.mate_num.specs.declared.id.FunId.{FunId}
use Rattle.mate_journal.specs.declared.air.Air.{Air}
use Rattle.mate_journal.specs.declared.air.Aired.{Aired}
use Rattle.mate_journal.specs.Journal.{JournalEntry, NodeState}
use Rattle.event_queue.specs.declared.queue.Timed.{Timed}
use Rattle.packet_codec.specs.declared.packet.Packet.{Packet}
use Rattle.capsule_exchange.specs.Happenings.{Happening, is_marked_slot, slots_from}
use Rattle.capsule_exchange.specs.Knowledge.{knowledge}
use Rattle.node_open.specs.View.{heard_of}
use Rattle.radio_sim.specs.declared.shared_event.SharedEvent.{SharedEvent}
use Rattle.radio_sim.specs.Radio.{Ether}
use Rattle.trickle_timer.specs.Timer.{Timer}
use Rattle.world_rules.specs.World.{World, handlers}
use Rattle.world_rules.specs.Effect.{event_node, is_owing}
use Rattle.world_rules.specs.State.{Moment, WorldState, node_at, effect_at, messages, calls_in, answers_due, node_after, still_pumps}
use Rattle.world_air.specs.Air.{radio_event, timed_events, aired_at, SendsAll}
use Rattle.world_air.specs.Changes.{AddsToAir, CancelsAll, if_begins}
use Rattle.world_air.specs.declared.changes.Ends.{Ends}
use Rattle.world_air.specs.declared.calls.Calls.{Calls}
use Rattle.world_air.specs.Calls.{AreCallsOf}
use Rattle.world_state.specs.declared.effect.Effect.{Effect}
use Rattle.world_state.specs.declared.mote.Mote.{Mote}
use Rattle.world_event.specs.Pieces.{length_of, interval_items, period_items, pump_items}
use Rattle.node_open.specs.Calls.{told_from}
use Rattle.world_state.specs.Standing.{IsTakenFrom}
use Rattle.world_event.specs.Finishing.{HasSettled, IsFinished}
use Rattle.world_event.proofs.PieceLemmas.{ends_of}
use Rattle.world_event.proofs.FinishLemmas.{begins, HasPieces, IsLeft, left-by}
use Rattle.world_event.proofs.QuietLemmas.{messages-quiet, calls-quiet, answers-quiet}

-- what the calls answered, one behind the other
pub record HasEnded (w : World) (s : WorldState) (m : Moment) (from : ℕ) (at : Stamp) (node : ℕ) (event : SharedEvent) (x : Mote) (r : Effect) (marked pumps : Bool) (calls : Calls) (old noted cancelled timed sent pumped new : Ether) : Type 0 where
  pub notes : AddsToAir old noted (map (aired_at at node) (option_to_list r.first) ++ map (aired_at at node) (if_begins (length_of r.begins x.timer))) []
  pub cancels : CancelsAll node (record { interval = r.begins; pump = r.resets; answers = r.cuts }) noted cancelled
  pub times : AddsToAir cancelled timed [] (period_items w.description event at.time ++ interval_items r.begins node x.timer)
  pub sends : SendsAll w node at s.senders (r.sends.items ++ messages w (told_from from x.node.log)) timed sent
  pub marked_is : (n : ℕ) (hs : List Happening) → x.exchange ≡ knowledge n hs → marked ≡ list_any (is_marked_slot hs) (slots_from n 0)
  pub due : pumps ≡ (x.pumps || marked)
  pub pumps_added : AddsToAir sent pumped [] (pump_items w.description node at.time (not x.pumps && marked))
  pub answers : AddsToAir pumped new [] (timed_events w (answers_due w node at.time (heard_of x.node) (node_at w s m).called (told_from from x.node.log)))
  pub called : AreCallsOf w node ((node_at w s m).called ++ calls_in (told_from from x.node.log)) calls

module _ (w : World) (s : WorldState) (m : Moment) (from : ℕ) (at : Stamp) (x : Mote) (r : Effect) (marked pumps : Bool) (calls : Calls) (old noted cancelled timed sent pumped new : Ether) where
  -- in the words of the rules
  pieces : HasSettled w s m from x r → HasEnded w s m from at (event_node w m.cause) (radio_event w m.cause) x r marked pumps calls old noted cancelled timed sent pumped new → HasPieces w s m at old noted cancelled timed sent pumped new
  pieces settled e =
      let node : ℕ = event_node w m.cause in
      let begins_is : r.begins ≡ begins w s m = settled.effect.begins in
      let owes : marked ≡ is_owing w (node_after w (node_at w s m) m).exchange = e.marked_is (handlers w) (node_after w (node_at w s m) m).exchange settled.exchange in
      let A : List Air → List Aired = map (aired_at at (event_node w m.cause)) in
      record {
        notes =
            let P : List Air → Bool → Timer → Type 0 = λ first b t. AddsToAir old noted (map (aired_at at (event_node w m.cause)) first ++ map (aired_at at (event_node w m.cause)) (if_begins (length_of b t))) [] in
            subst (λ (t : Timer). P (effect_at w s m).first (begins w s m) t) settled.timer
            (subst (λ (b : Bool). P (effect_at w s m).first b x.timer) begins_is
            (subst (λ (first : List Air). P first r.begins x.timer) settled.effect.first e.notes));
        cancels =
            let P : Bool → Bool → Bool → Type 0 = λ a b c. CancelsAll (event_node w m.cause) (record { interval = a; pump = b; answers = c }) noted cancelled in
            let E : Ends = ends_of (effect_at w s m) (begins w s m) in
            subst (λ (a : Bool). P a E.pump E.answers) begins_is
            (subst (λ (b : Bool). P r.begins b E.answers) settled.effect.resets
            (subst (λ (c : Bool). P r.begins r.resets c) settled.effect.cuts e.cancels));
        times =
            let P : Bool → Timer → Type 0 = λ b t. AddsToAir cancelled timed [] (period_items w.description (radio_event w m.cause) at.time ++ interval_items b (event_node w m.cause) t) in
            subst (λ (t : Timer). P (begins w s m) t) settled.timer (subst (λ (b : Bool). P b x.timer) begins_is e.times);
        sends =
            let P : List Packet → Type 0 = λ ps. SendsAll w (event_node w m.cause) at s.senders ps timed sent in
            let told : messages w (told_from from x.node.log) ≡ messages w m.told = sym (ap (messages w) settled.told ∙ messages-quiet w settled.front (told_from from x.node.log) settled.quiet) in
            subst P (ap (λ (ps : List Packet). ps ++ messages w (told_from from x.node.log)) settled.effect.sends ∙ ap (λ (ps : List Packet). (effect_at w s m).sends ++ ps) told) e.sends;
        pumps =
            let P : Bool → Bool → Type 0 = λ a b. AddsToAir sent pumped [] (pump_items w.description (event_node w m.cause) at.time (not a && b)) in
            subst (λ (a : Bool). P a (is_owing w (node_after w (node_at w s m) m).exchange)) settled.pumps (subst (λ (b : Bool). P x.pumps b) owes e.pumps_added);
        answers =
            let P : NodeState → List JournalEntry → Type 0 = λ reading told. AddsToAir pumped new [] (timed_events w (answers_due w (event_node w m.cause) at.time reading (node_at w s m).called told)) in
            let Q : List (Timed SharedEvent) → Type 0 = λ xs. AddsToAir pumped new [] xs in
            subst (λ (reading : NodeState). P reading m.told) settled.reading
            (subst Q (ap (timed_events w) (sym (ap (answers_due w (event_node w m.cause) at.time (heard_of x.node) (node_at w s m).called) settled.told
            ∙ answers-quiet w (event_node w m.cause) at.time (heard_of x.node) (node_at w s m).called settled.front (told_from from x.node.log) settled.quiet))) e.answers);
      }

  finished : m.time ≡ at.time → IsTakenFrom w s m old → HasSettled w s m from x r
      → HasEnded w s m from at (event_node w m.cause) (radio_event w m.cause) x r marked pumps calls old noted cancelled timed sent pumped new → IsFinished w s m at old new x (record x { pumps = pumps; calls = calls })
  finished same taken settled e =
      let left : IsLeft w s m at old new =
      left-by w s m at old noted cancelled timed sent pumped new same (record { due = taken.due; near = taken.near; until = taken.until }) taken.stands (pieces settled e) in
      let owes : marked ≡ is_owing w (node_after w (node_at w s m) m).exchange = e.marked_is (handlers w) (node_after w (node_at w s m) m).exchange settled.exchange in
      record {
        due = left.due;
        air = left.air;
        gone = left.gone;
        stands = left.stands;
        fit = left.fit;
        until = left.until;
        now = left.now;
        pumps = e.due ∙ ap (λ (b : Bool). b || marked) settled.pumps ∙ ap (λ (b : Bool). still_pumps m.cause (effect_at w s m) (node_at w s m) || b) owes;
        calls =
            subst (λ (fs : List FunId). AreCallsOf w (event_node w m.cause) ((node_at w s m).called ++ fs) calls)
            (sym (ap calls_in settled.told ∙ calls-quiet w settled.front (told_from from x.node.log) settled.quiet)) e.called;
        same = refl;
      }

  -- of a node and an event by other names
  pub finished-by : (node : ℕ) (event : SharedEvent) → m.time ≡ at.time → radio_event w m.cause ≡ event → event_node w m.cause ≡ node → IsTakenFrom w s m old → HasSettled w s m from x r
      → HasEnded w s m from at node event x r marked pumps calls old noted cancelled timed sent pumped new → IsFinished w s m at old new x (record x { pumps = pumps; calls = calls })
  finished-by node event same same_event same_node taken settled e =
      finished same taken settled
      (subst (λ (k : ℕ). HasEnded w s m from at k (radio_event w m.cause) x r marked pumps calls old noted cancelled timed sent pumped new) (sym same_node)
      (subst (λ (v : SharedEvent). HasEnded w s m from at node v x r marked pumps calls old noted cancelled timed sent pumped new) (sym same_event) e))
