-- A world's state: what is due at each time, and each node's state; and the state after an event.
use Rattle.std.specs.Prelude.{ℕ, suc, ◌+◌, ◌*◌, ◌/◌, ◌%◌, min, pred, Bool, true, false, not, ◌&&◌, ◌||◌, nat_lt, ◌==◌, if◌then◌else◌, List}
use Rattle.std.specs.Prelude.{[], ◌∷◌, ◌++◌, map, length, drop, ℤ, pos, Option, Some, None, slice_index_or, count_by}
use Rattle.std.specs.List.{filter, filter_map, flat_map, range_with_len}
use Rattle.std.specs.Option.{option_map_or, option_to_list}
use Rattle.arrayvec.specs.ArrayVec.{ArrayVec}
use Rattle.mate_num.specs.declared.id.FunId.{FunId}
use Rattle.vm_shape.specs.declared.function.FunKind.{FunKind}
use Rattle.vm_shape.specs.declared.function.FunKind.TheVariants as fun
use Rattle.mate_journal.specs.Journal.{JournalEntry, Posted, Dropped, Started, Asked, Answered, Ended, Installed, Reset, Seen, Void, NodeState}
use Rattle.mate_journal.specs.Journal.{state_after_entries, first_state}
use Rattle.mate_journal.specs.Pace.{Pace, no_pace}
use Rattle.mate_journal.specs.declared.air.Air.{Air}
use Rattle.mate_journal.specs.declared.air.Air.TheVariants as air
use Rattle.packet_codec.specs.declared.packet.Packet.{Packet}
use Rattle.packet_codec.specs.declared.packet.Packet.TheVariants.{App}
use Rattle.packet_codec.specs.Bytes.{packet_bytes}
use Rattle.trickle_timer.specs.Intervals as trickle
use Rattle.trickle_timer.specs.Timer.{Timer, after_happening, started_timer}
use Rattle.world_rules.specs.Cause.{Cause}
use Rattle.world_rules.specs.Cause as event
use Rattle.world_rules.specs.World.{World, PlannedLine, handlers, stream_word, receiver, links_from, loss, period_of, called_kind}
use Rattle.world_rules.specs.World.{latency_of}
use Rattle.world_rules.specs.Effect.{Node, NodeEffect, node_effect, event_node, begun_length, cuts, resets, is_owing}

-- an event: when, what it comes from, the entries that it made in its node's journal, and the pace that it left there
pub record Moment : Type 0 where
  pub time : ℕ
  pub cause : Cause
  pub told : List JournalEntry
  pub pace : Pace

-- what is due at each time, in the order in which it was scheduled; the nodes; and who sent each packet so far
pub record WorldState : Type 0 where
  pub due : ℕ → List Cause
  pub nodes : ℕ → Node
  pub senders : List ℕ
  pub records : ℕ

-- an event that is scheduled
pub record Scheduled : Type 0 where
  pub time : ℕ
  pub cause : Cause

abbrev pub at_this : ℕ → Scheduled → Option Cause
at_this t x = if x.time == t then Some x.cause else None

-- those of this time, in order
abbrev pub of_time : ℕ → List Scheduled → List Cause
of_time t xs = filter_map (at_this t) xs

-- ---- calls

abbrev pub asked_by : JournalEntry → Option FunId
asked_by (Asked n f args) = Some f
asked_by _ = None

-- the functions that the entries call
abbrev pub calls_in : List JournalEntry → List FunId
calls_in told = filter_map asked_by told

abbrev pub is_send_kind : FunKind → Bool
is_send_kind fun.Send = true
is_send_kind _ = false

abbrev pub is_rand_kind : FunKind → Bool
is_rand_kind fun.Rand = true
is_rand_kind _ = false

abbrev pub message_in : World → JournalEntry → Option Packet
message_in w (Asked n f args) = if is_send_kind (called_kind w f) then Some (App args) else None
message_in w _ = None

-- the messages that the entries send
abbrev pub messages : World → List JournalEntry → List Packet
messages w told = filter_map (message_in w) told

-- the i-th value of a series, whose last one goes on; 0 for none
abbrev pub series_value : List ℤ → ℕ → ℤ
series_value values i = slice_index_or values (min i (pred (length values))) (pos 0)

-- the answer at this time to a call of f on the node, if these were called before
abbrev pub answer_at : World → ℕ → List FunId → FunId → ℕ → ℤ
answer_at w node called f time = by (called_kind w f) where
  by : FunKind → ℤ
  by fun.Sense = series_value (w.series node f.0) (count_by (λ g. g.0 == f.0) called)
  by (fun.Act args) = pos 0
  by fun.Send = pos 1
  by fun.Id = pos node
  by fun.Rand = pos (stream_word w (2 * node + 1) (count_by (λ g. is_rand_kind (called_kind w g)) called) % 32768)
  by fun.Clock = pos (time / 1000 % 32768)

-- the answers that fall due
abbrev pub answers_due : World → ℕ → ℕ → NodeState → List FunId → List JournalEntry → List Scheduled
answers_due w node time r called [] = []
answers_due w node time r called (t ∷ told) = option_map_or (λ (a : FunId × ℕ). due_for a.0 a.1
    ∷ answers_due w node time r (called ++ a.0 ∷ []) told) (call_in t) (answers_due w node time r called told) where
      call_in : JournalEntry → Option (FunId × ℕ)
      call_in (Asked n f args) = Some (f, n)
      call_in _ = None

      due_for : FunId → ℕ → Scheduled
      due_for f n = record {
        time = time + latency_of w f;
        cause = event.Due node (r.invocations n).context n (answer_at w node called f (time + latency_of w f));
      }

-- ---- transmissions

-- a packet on the air: its number, from 1, and how many its sender sent before
pub record Sending : Type 0 where
  pub number : ℕ
  pub before : ℕ
  pub packet : Packet

abbrev pub numbered_sendings : ℕ → ℕ → List Packet → List Sending
numbered_sendings number before [] = []
numbered_sendings number before (p ∷ ps) = record { number = number; before = before; packet = p }
    ∷ numbered_sendings (suc number) (suc before) ps

abbrev pub sent_bytes : World → Packet → ArrayVec ℕ
sent_bytes w packet = record { items = packet_bytes w.description.vm_id packet }

-- the packets that the node sends next
abbrev pub sendings : World → WorldState → ℕ → List Packet → List Sending
sendings w s node packets = numbered_sendings (suc (length s.senders)) (count_by (λ k. k == node) s.senders) packets

-- a link's next word decides
abbrev pub is_lost : World → Sending → ℕ → Bool
is_lost w x j = nat_lt (stream_word w (128 + j) x.before % 1000) (loss w j)

abbrev pub air_of_sending : World → ℕ → Sending → List Air
air_of_sending w node x = air.Sent x.number (sent_bytes w x.packet)
    ∷ flat_map (λ j. if is_lost w x j then air.Lost x.number (receiver w j) ∷ [] else []) (links_from w node)

abbrev pub deliveries : World → ℕ → ℕ → Sending → List Scheduled
deliveries w node time x =
    flat_map (λ j. if is_lost w x j then []
    else record { time = time + w.description.radio.delay; cause = event.Deliver j x.number x.packet } ∷ []) (links_from w node)

-- ---- an event

abbrev pub node_at : World → WorldState → Moment → Node
node_at w s m = s.nodes (event_node w m.cause)

abbrev pub effect_at : World → WorldState → Moment → NodeEffect
effect_at w s m = node_effect w (node_at w s m) m.cause

-- the packets that the event sends
abbrev pub packets_of : World → WorldState → Moment → List Packet
packets_of w s m = (effect_at w s m).sends ++ messages w m.told

-- what it leaves on the air
abbrev pub air_made : World → WorldState → Moment → List Air
air_made w s m =
    let node = event_node w m.cause in
    (effect_at w s m).first
    ++ map (λ l. air.Interval l) (option_to_list (begun_length (node_at w s m) (effect_at w s m)))
    ++ flat_map (air_of_sending w node) (sendings w s node (packets_of w s m))

abbrev pub timer_after : Node → NodeEffect → ℕ → Timer
timer_after n e time =
    option_map_or (λ (t : trickle.TimerEvent). after_happening n.timer (record { event = t; time = time })) e.timer n.timer

abbrev pub is_pump : Cause → Bool
is_pump (event.Pump node) = true
is_pump _ = false

-- the due pump is still due: it isn't the one that comes, and isn't cancelled
abbrev pub still_pumps : Cause → NodeEffect → Node → Bool
still_pumps c e n = n.pumps && not (is_pump c || resets e.deed)

abbrev pub node_after : World → Node → Moment → Node
node_after w n m =
    let e = node_effect w n m.cause in
    record {
      reading = state_after_entries w.machine n.reading m.told;
      pace = m.pace;
      timer = timer_after n e m.time;
      exchange = e.happened ++ n.exchange;
      pumps = still_pumps m.cause e n || is_owing w (e.happened ++ n.exchange);
      called = n.called ++ calls_in m.told;
    }

-- the next period of a timer handler
abbrev pub next_period : World → Cause → ℕ → List Scheduled
next_period w (event.Period node h) time = option_map_or (λ p. record { time = time + p; cause = event.Period node h }
    ∷ []) (period_of w h.0) []
next_period w _ time = []

-- the point and the end of an interval
abbrev pub of_interval : ℕ → Timer → List Scheduled
of_interval node t = record { time = t.running.point; cause = event.Fire node }
    ∷ record { time = t.running.begin + t.running.length; cause = event.Expire node } ∷ []

abbrev pub new_interval : ℕ → Option ℕ → Timer → List Scheduled
new_interval node None t = []
new_interval node (Some l) t = of_interval node t

abbrev pub new_pump : World → ℕ → ℕ → Bool → List Scheduled
new_pump w node time false = []
new_pump w node time true = record { time = time + w.description.radio.gap; cause = event.Pump node } ∷ []

-- what an event schedules, in this order
abbrev pub schedules : World → WorldState → Moment → List Scheduled
schedules w s m =
    let node = event_node w m.cause in
    let n = node_at w s m in
    let e = effect_at w s m in
    let next = node_after w n m in
    next_period w m.cause m.time
    ++ (new_interval node (begun_length n e) next.timer
    ++ (flat_map (deliveries w node m.time) (sendings w s node (packets_of w s m))
    ++ (new_pump w node m.time (not (still_pumps m.cause e n) && is_owing w next.exchange)
    ++ answers_due w node m.time next.reading n.called m.told)))

-- Cancelled are, at its node: the answers to cut invocations, the point and the end of an interval in which a new one
-- began, and the pump of a node that was reset.
abbrev pub is_kept : ℕ → NodeEffect → Bool → Cause → Bool
is_kept node e begins (event.Fire k) = not (begins && k == node)
is_kept node e begins (event.Expire k) = not (begins && k == node)
is_kept node e begins (event.Pump k) = not (resets e.deed && k == node)
is_kept node e begins (event.Due k c inv value) = not (cuts e.deed && k == node)
is_kept node e begins _ = true

abbrev pub is_some_length : Option ℕ → Bool
is_some_length None = false
is_some_length (Some l) = true

-- what is left at each time: without the event itself, the first of its time, and without what it cancels
abbrev pub left_due : World → WorldState → Moment → ℕ → List Cause
left_due w s m t =
    let n = node_at w s m in
    let e = effect_at w s m in
    filter (is_kept (event_node w m.cause) e (is_some_length (begun_length n e))) (if t == m.time then drop 1 (s.due t) else s.due t)

abbrev pub after_moment : World → WorldState → Moment → WorldState
after_moment w s m =
    let node = event_node w m.cause in
    record {
      due = λ t. left_due w s m t ++ of_time t (schedules w s m);
      nodes = λ k. if k == node then node_after w (s.nodes k) m else s.nodes k;
      senders = s.senders ++ map (λ (p : Packet). node) (packets_of w s m);
      records = s.records + length (air_made w s m) + length m.told;
    }

-- ---- the start

abbrev pub start_node : World → ℕ → Node
start_node w node = record {
  reading = first_state w.machine;
  pace = no_pace;
  timer = started_timer (record { set = w.description.trickle; random = w.random; node = node; time = 0 });
  exchange = [];
  pumps = false;
  called = [];
}

abbrev pub lines_from : ℕ → List PlannedLine → List Scheduled
lines_from i [] = []
lines_from i (l ∷ ls) = record { time = l.time; cause = event.Planned i } ∷ lines_from (suc i) ls

-- the first point and end of a node, and its timer handlers' first periods
abbrev pub first_of : World → ℕ → List Scheduled
first_of w node =
    of_interval node (start_node w node).timer
    ++ filter_map (λ h. option_map_or (λ p. Some (record { time = p; cause = event.Period node (record { 0 = h }) })) (period_of w h)
    None) (range_with_len 0 (handlers w))

-- the script's lines first, then the nodes in order
abbrev pub world_start : World → WorldState
world_start w = record {
  due = λ t. of_time t (lines_from 0 w.plan ++ flat_map (first_of w) (range_with_len 0 w.nodes));
  nodes = start_node w;
  senders = [];
  records = w.nodes;
}

-- the state after these events, the latest first
abbrev pub state : World → List Moment → WorldState
state w [] = world_start w
state w (m ∷ before) = after_moment w (state w before) m
