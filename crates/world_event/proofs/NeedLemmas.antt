-- What an event finds on its radio and its node, as its calls need it.
use Rattle.std.proofs.Common.{◌≡◌, ℕ, ◌+◌, ◌<◌, ◌≤◌, true, List, length, refl, sym, ◌∙◌, ap, subst, arith}
use Rattle.std.specs.Prelude.{Option, Some, None}
use Rattle.std.proofs.lemmas.Bool.{false≢true}
use Rattle.std.proofs.lemmas.List.{length-map}
use Rattle.std.proofs.lemmas.List.FromFn.{length-map-range_with_len}
use Rattle.mate_num.specs.declared.call.Stamp.{Stamp}
use Rattle.mate_journal.specs.Journal.{first_state, journal_of, journal_entry, TimedEntry as Entered}
use Rattle.mate_journal.specs.WellFormed.{IsWellFormed}
use Rattle.mate_journal.specs.declared.entry.Stamped.{Stamped}
use Rattle.journal_laws.specs.Growth.{FollowsLast}
use Rattle.mate_journal.specs.declared.air.Aired.{Aired}
use Rattle.mate_journal.specs.declared.program.Program.{Program}
use Rattle.node_state.specs.Meaning.{machine_in}
use Rattle.node_state.specs.Keeps.{IsTimely}
use Rattle.node_programs.specs.ScriptSteps.{program_at}
use Rattle.capsule_exchange.specs.Happenings.{Happening}
use Rattle.capsule_exchange.specs.Knowledge.{Knowledge, knowledge, state_after}
use Rattle.script_steps.specs.declared.world.World.{World as Script}
use Rattle.trickle_timer.specs.Timer.{Timer}
use Rattle.vm_shape.specs.declared.description.Description.{Description}
use Rattle.radio_sim.specs.declared.shared_event.SharedEvent.{SharedEvent}
use Rattle.radio_sim.specs.Radio.{Ether, wires_of}
use Rattle.radio_sim.proofs.RadioLemmas.{few_links}
use Rattle.script_steps.specs.World.{IsRightWorld}
use Rattle.world_rules.specs.Cause.{Cause}
use Rattle.world_rules.specs.Cause as event
use Rattle.world_rules.specs.World.{World, line_planned, handlers}
use Rattle.world_rules.specs.Effect.{Node, NodeEffect, event_node, node_effect, begun_length}
use Rattle.world_rules.specs.State.{Moment, state, timer_after, is_some_length}
use Rattle.world_laws.specs.Times.{last_time}
use Rattle.world_laws.proofs.Timers.{timer_begun}
use Rattle.world_air.specs.Air.{radio_event}
use Rattle.world_run_laws.specs.Coming.{code_world, IsExpected, MayComeTo}
use Rattle.world_run_laws.specs.Sound.{IsSoundNode, HasWellFormed, NextMayCome, NodesAreSound}
use Rattle.world_state.specs.Standing.{IsMoteOf}
use Rattle.world_event.specs.Handling.{IsFitEvent, IsOpenExchange, IsPaced, Handled}
use Rattle.world_state.specs.Motes.{IsTellable}
use Rattle.world_state.specs.declared.effect.Effect.{Effect}
use Rattle.world_state.specs.declared.mote.Mote.{Mote}
use Rattle.world_state.specs.StandingAfter.{IsMoteAfter}
use Rattle.world_event.specs.Performing.{MayPerform}
use Rattle.world_state.proofs.RoomLemmas.{records-high, wires-few, next-timely}
use Rattle.world_event.proofs.TurnLemmas.{IsFormed}

-- what is expected is right as an event of the radio
pub right-event : (d : Description) (script : Script) (ps : List Program) (n : Node) (t : Timer) (time : ℕ) (c : Cause) (e : SharedEvent) → t ≡ n.timer → radio_event (code_world d script ps) c ≡ e → IsExpected (code_world d script ps) n time c → IsFitEvent d script t time e
right-event d script ps n t time c e timer is expected = subst (IsFitEvent d script t time) is (by c expected) where
  by : (c : Cause) → IsExpected (code_world d script ps) n time c → IsFitEvent d script t time (radio_event (code_world d script ps) c)
  by (event.Planned line) x = subst (λ (k : ℕ). line < k) (length-map script.events (line_planned (program_at ps))) x
  by (event.Period node h) x = x
  by (event.Fire node) x = tt
  by (event.Expire node) x = subst (λ (u : Timer). time ≡ u.running.begin + u.running.length) (sym timer) x
  by (event.Pump node) x = tt
  by (event.Due node context inv value) x = x.small
  by (event.Deliver link number packet) x = x.0

pub handlers-known : (n : ℕ) (hs : List Happening) (k : Knowledge) → k ≡ knowledge n hs → length k.handlers ≡ n
handlers-known n hs k is = ap (λ (x : Knowledge). length x.handlers) is ∙ length-map-range_with_len (state_after hs) 0 n

some-length : (o : Option ℕ) → is_some_length o ≡ true → (l : ℕ) × (o ≡ Some l)
some-length None e = absurd (false≢true e)
some-length (Some l) e = (l, refl)

-- an interval that begins does so now
pub begins-now : (n : Node) (e : NodeEffect) (time : ℕ) → is_some_length (begun_length n e) ≡ true → (timer_after n e time).running.begin ≡ time
begins-now n e time begins = let x = some-length (begun_length n e) begins in ap (λ (t : Timer). t.running.begin) (timer_begun n e time x.0 x.1)

-- of the node by its number
pub mote-at : (w : World) (ms : List Moment) (c : Cause) (number : ℕ) (event : SharedEvent) (at : Stamp) (old : Ether) (x : Mote) → MayPerform w ms c number event at old x → IsMoteAfter w ms (event_node w c) x
mote-at w ms c number event at old x may = subst (λ (j : ℕ). IsMoteAfter w ms j x) (sym may.node) may.mote

-- ---- what the calls of an event find

-- what the laws of states give for the event
pub record HasNeeds (w : World) (ms : List Moment) (c : Cause) (time : ℕ) : Type 0 where
  pub low : event_node w c < w.nodes
  pub ahead : last_time ms ≤ time
  pub comes : MayComeTo w ((state w ms).nodes (event_node w c)) time c
  pub sound : IsSoundNode w ((state w ms).nodes (event_node w c)) (last_time ms)

module _ (d : Description) (script : Script) (ps : List Program) (ms : List Moment) (c : Cause) (at : Stamp) (event : SharedEvent) (number : ℕ) (old : Ether) (x : Mote)
    (may : MayPerform (code_world d script ps) ms c number event at old x) (formed : IsFormed x.node) (next : NextMayCome (code_world d script ps)) (nodes : NodesAreSound (code_world d script ps)) where
  own : IsMoteAfter (code_world d script ps) ms (event_node (code_world d script ps) c) x
  own = mote-at (code_world d script ps) ms c number event at old x may

  needs : HasNeeds (code_world d script ps) ms c at.time
  needs =
      let here : IsWellFormed (machine_in d) (first_state (machine_in d)) (journal_of x.node.log) =
      subst (λ (e : Description). IsWellFormed (machine_in e) (first_state (machine_in e)) (journal_of x.node.log)) own.is.description formed in
      let well : HasWellFormed (code_world d script ps) (event_node (code_world d script ps) c) ms = subst (IsWellFormed (machine_in d) (first_state (machine_in d))) own.journal here in
      let n = next ms at.time c may.come may.fit well may.next may.in_time in
      record { low = n.0; ahead = n.1; comes = n.2; sound = nodes ms (event_node (code_world d script ps) c) may.come well n.0 }

  -- ---- its own part

  pub event-right : IsFitEvent d script x.timer at.time event
  event-right = right-event d script ps ((state (code_world d script ps) ms).nodes (event_node (code_world d script ps) c)) x.timer at.time c event own.is.timer may.cause needs.comes.expected

  pub exchange-open : IsOpenExchange x.exchange
  exchange-open = record { handlers = handlers (code_world d script ps); happened = ((state (code_world d script ps) ms).nodes (event_node (code_world d script ps) c)).exchange; known = own.is.exchange; is_open = needs.sound.is_open }

  pub handlers-all : length x.exchange.handlers ≡ length d.handlers.items
  handlers-all = handlers-known (handlers (code_world d script ps)) ((state (code_world d script ps) ms).nodes (event_node (code_world d script ps) c)).exchange x.exchange own.is.exchange

  -- the records bound the air and the node's log
  pub entries-few : length old.air + length x.node.log.entries < 1000000
  entries-few =
      let all = records-high (code_world d script ps) number ms in
      let room = may.room in
      let airs_long = ap (λ (rs : List Aired). length rs) may.air in
      let journal_long = ap (λ (es : List Entered). length es) may.mote.journal in
      let entries_long = length-map x.node.log.entries (λ (e : Stamped). let v : Entered = record { stamp = e.stamp; told = journal_entry x.node.log e.entry } in v) in
      omega (arith, all, room, airs_long, journal_long, entries_long)

  pub tellable : IsTellable x.node at
  tellable =
      let few = entries-few in
      let P : List Entered → Type 0 = λ es. FollowsLast es at in
      record { timely = record { after_last = subst P (sym may.mote.journal) (next-timely (code_world d script ps) number ms at may.come may.stamp needs.ahead) }; few = omega (arith, few) }

  pub begun-before : x.timer.running.begin ≤ at.time
  begun-before =
      let begun = needs.sound.begun in
      let ahead = needs.ahead in
      let same = ap (λ (t : Timer). t.running.begin) own.is.timer in
      omega (arith, begun, ahead, same)

  pub wires-here : IsRightWorld d script → number < 256 → length (wires_of old number) ≤ 4096
  wires-here right low = let few = few_links d script right in let here = wires-few (code_world d script ps) (state (code_world d script ps) ms).senders old number may.taken.stands low in omega (arith, few, here)

  -- ---- behind it

  module _ (x1 : Mote) (r : Effect)
      (says : (k : ℕ) (n : Node) (c : Cause) → IsMoteOf (code_world d script ps) k n x → radio_event (code_world d script ps) c ≡ event → MayComeTo (code_world d script ps) n at.time c → Handled (code_world d script ps) k n c at x x1 r) where
    pub handled : Handled (code_world d script ps) (event_node (code_world d script ps) c) ((state (code_world d script ps) ms).nodes (event_node (code_world d script ps) c)) c at x x1 r
    handled = says (event_node (code_world d script ps) c) ((state (code_world d script ps) ms).nodes (event_node (code_world d script ps) c)) c own.is may.cause needs.comes

    pub timely-still : IsTimely at x1.node.log
    timely-still = handled.tells.grows.timely

    pub paced-still : IsPaced x1.node
    paced-still = let y = handled.tells.paces ((state (code_world d script ps) ms).nodes (event_node (code_world d script ps) c)).pace own.is.pace in record { pace = y.0; has = y.2 }

    pub described-still : x1.node.description ≡ d
    described-still = handled.tells.description ∙ own.is.description

    pub begins-ahead : r.begins ≡ true → at.time ≤ x1.timer.running.begin
    begins-ahead begins =
        let now = begins-now ((state (code_world d script ps) ms).nodes (event_node (code_world d script ps) c)) (node_effect (code_world d script ps) ((state (code_world d script ps) ms).nodes (event_node (code_world d script ps) c)) c) at.time (sym handled.effect.begins ∙ begins) in
        let same = ap (λ (t : Timer). t.running.begin) handled.timer in
        omega (arith, now, same)

    pub counts-all : length x1.calls.counts.items ≡ length d.functions.items
    counts-all = handled.calls.functions
