-- What an event does to the timer of its node.
use Rattle.std.proofs.Common.{◌≡◌, ◌<◌, ℕ, ◌*◌, min, Bool, true, false, List, refl, ap, arith}
use Rattle.std.specs.Prelude.{Option, Some, None, nat_lt, if◌then◌else◌, slice_get}
use Rattle.std.specs.Option.{option_map_or}
use Rattle.vm_shape.specs.Limits.{longest}
use Rattle.mate_num.specs.declared.id.HandlerId.{HandlerId}
use Rattle.packet_codec.specs.declared.packet.Packet.{Packet}
use Rattle.packet_codec.specs.declared.packet.Packet.TheVariants.{Vector, Status, Fragment, App}
use Rattle.trickle_timer.specs.Intervals as trickle
use Rattle.trickle_timer.specs.Timer.{Timer, begun_timer, packet_event}
use Rattle.trickle_timer.specs.declared.timer.Fire.{Fire}
use Rattle.trickle_timer.specs.declared.timer.Fire.TheVariants as fire
use Rattle.capsule_exchange.specs.Happenings.{Happening, completed_by, next_slot}
use Rattle.world_rules.specs.Cause.{Cause}
use Rattle.world_rules.specs.Cause as event
use Rattle.world_rules.specs.World.{World, PlannedLine, Want, Inject, Post, Show, ResetNode, Noise, handlers}
use Rattle.world_rules.specs.Effect.{Node, NodeEffect, no_effect, node_effect, of_line, of_packet, of_fragment, of_point, of_slot, begun_length, resets}
use Rattle.world_rules.specs.State.{timer_after}

-- the same interval, but for what was heard in it
pub record IsSameInterval (s t : Timer) : Type 0 where
  pub set : t.set ≡ s.set
  pub begin : t.running.begin ≡ s.running.begin
  pub length : t.running.length ≡ s.running.length
  pub point : t.running.point ≡ s.running.point

-- no interval begins
pub timer_kept : (n : Node) (e : NodeEffect) (time : ℕ) → begun_length n e ≡ None → IsSameInterval n.timer (timer_after n e time)
timer_kept n e time none = by e.timer none where
  kept : (t : trickle.TimerEvent) (l : Option ℕ) → l ≡ None → IsSameInterval n.timer (option_map_or (λ length. begun_timer n.timer.set n.timer.words length time) l (record n.timer { running = record n.timer.running { heard = min (trickle.count n.timer.running.heard t) 65535 } }))
  kept t None is = record { set = refl; begin = refl; length = refl; point = refl }
  kept t (Some l) is = cc

  by : (o : Option trickle.TimerEvent) → begun_length n (record e { timer = o }) ≡ None → IsSameInterval n.timer (timer_after n (record e { timer = o }) time)
  by None is = record { set = refl; begin = refl; length = refl; point = refl }
  by (Some t) is = kept t (trickle.next_length n.timer.set n.timer.running.length t) is

-- one begins
pub timer_begun : (n : Node) (e : NodeEffect) (time l : ℕ) → begun_length n e ≡ Some l → timer_after n e time ≡ begun_timer n.timer.set n.timer.words l time
timer_begun n e time l some = by e.timer some where
  new : (t : trickle.TimerEvent) (o : Option ℕ) → o ≡ Some l → option_map_or (λ length. begun_timer n.timer.set n.timer.words length time) o (record n.timer { running = record n.timer.running { heard = min (trickle.count n.timer.running.heard t) 65535 } }) ≡ begun_timer n.timer.set n.timer.words l time
  new t None is = cc
  new t (Some k) is = let same : k ≡ l = cc in ap (λ (x : ℕ). begun_timer n.timer.set n.timer.words x time) same

  by : (o : Option trickle.TimerEvent) → begun_length n (record e { timer = o }) ≡ Some l → timer_after n (record e { timer = o }) time ≡ begun_timer n.timer.set n.timer.words l time
  by None is = cc
  by (Some t) is = new t (trickle.next_length n.timer.set n.timer.running.length t) is

-- why an interval begins, and its length: the running one is longer than the shortest, the node is reset, or it ends
pub data Begins (n : Node) (e : NodeEffect) (l : ℕ) : Type 0 where
  shortened : n.timer.set.imin < n.timer.running.length → l ≡ n.timer.set.imin → Begins n e l
  again : e.timer ≡ Some trickle.Again → l ≡ n.timer.set.imin → Begins n e l
  expired : e.timer ≡ Some trickle.Expired → l ≡ min (2 * n.timer.running.length) (longest n.timer.set) → Begins n e l

pub why_begun : (n : Node) (e : NodeEffect) (l : ℕ) → begun_length n e ≡ Some l → Begins n e l
why_begun n e l some = by e.timer refl some where
  short : (b : Bool) → nat_lt n.timer.set.imin n.timer.running.length ≡ b → (if b then Some n.timer.set.imin else None) ≡ Some l → Begins n e l
  short true is given = shortened (grind (arith, is)) (cc)
  short false is given = cc

  by : (o : Option trickle.TimerEvent) → e.timer ≡ o → begun_length n (record e { timer = o }) ≡ Some l → Begins n e l
  by None is given = cc
  by (Some trickle.Consistent) is given = cc
  by (Some trickle.Inconsistent) is given = short (nat_lt n.timer.set.imin n.timer.running.length) refl given
  by (Some trickle.Reset) is given = short (nat_lt n.timer.set.imin n.timer.running.length) refl given
  by (Some trickle.Again) is given = again is (cc)
  by (Some trickle.Expired) is given = expired is (cc)

-- ---- which events end an interval, and which begin one again

-- what is known of the timer's event in an effect
abbrev AreFew : Cause → NodeEffect → Type 0
AreFew c e = (e.timer ≡ Some trickle.Expired → (k : ℕ) × (c ≡ event.Expire k)) × (e.timer ≡ Some trickle.Again → resets e.deed ≡ true)

few_none : (c : Cause) (e : NodeEffect) → e.timer ≡ None → AreFew c e
few_none c e none = (λ is. cc, λ is. cc)

few_reset : (c : Cause) (e : NodeEffect) → e.timer ≡ Some trickle.Reset → AreFew c e
few_reset c e none = (λ is. cc, λ is. cc)

few_heard : (c : Cause) (e : NodeEffect) (b : Bool) → e.timer ≡ Some (packet_event b) → AreFew c e
few_heard c e true none = (λ is. cc, λ is. cc)
few_heard c e false none = (λ is. cc, λ is. cc)

few_line : (c : Cause) (x : Want) → AreFew c (of_line x)
few_line c (Inject p) = few_reset c (of_line (Inject p)) refl
few_line c (Post h payload) = few_none c (of_line (Post h payload)) refl
few_line c Show = few_none c (of_line Show) refl
few_line c ResetNode = (λ is. cc, λ is. refl)
few_line c (Noise bytes) = few_none c (of_line (Noise bytes)) refl

few_fragment : (c : Cause) (packet : Packet) (before : List Happening) (o : Option HandlerId) → AreFew c (of_fragment packet before o)
few_fragment c packet before None = few_none c (of_fragment packet before None) refl
few_fragment c packet before (Some h) = few_reset c (of_fragment packet before (Some h)) refl

few_packet : (c : Cause) (w : World) (before : List Happening) (packet : Packet) → AreFew c (of_packet w before packet)
few_packet c w before (Vector versions) = few_heard c (of_packet w before (Vector versions)) _ refl
few_packet c w before (Status g version missing) = few_none c (of_packet w before (Status g version missing)) refl
few_packet c w before (Fragment g version index count large bytes) = few_fragment c (Fragment g version index count large bytes) before (completed_by (Fragment g version index count large bytes) before)
few_packet c w before (App payload) = few_none c (of_packet w before (App payload)) refl

few_point : (c : Cause) (w : World) (n : Node) (o : Fire) → AreFew c (of_point w n o)
few_point c w n fire.Send = few_none c (of_point w n fire.Send) refl
few_point c w n fire.Keep = few_none c (of_point w n fire.Keep) refl

few_slot : (c : Cause) (before : List Happening) (o : Option ℕ) → AreFew c (of_slot before o)
few_slot c before None = few_none c (of_slot before None) refl
few_slot c before (Some slot) = few_none c (of_slot before (Some slot)) refl

few_planned : (c : Cause) (o : Option PlannedLine) → AreFew c (option_map_or (λ (l : PlannedLine). of_line l.what) o no_effect)
few_planned c None = few_none c no_effect refl
few_planned c (Some l) = few_line c l.what

pub few : (w : World) (n : Node) (c : Cause) → AreFew c (node_effect w n c)
few w n (event.Planned line) = few_planned (event.Planned line) (slice_get w.plan line)
few w n (event.Period node h) = few_none (event.Period node h) (node_effect w n (event.Period node h)) refl
few w n (event.Fire node) = few_point (event.Fire node) w n (trickle.at_point n.timer.set n.timer.running w.suppress)
few w n (event.Expire node) = (λ is. (node, refl), λ is. cc)
few w n (event.Pump node) = few_slot (event.Pump node) n.exchange (next_slot (handlers w) n.exchange)
few w n (event.Due node c inv value) = few_none (event.Due node c inv value) (node_effect w n (event.Due node c inv value)) refl
few w n (event.Deliver link number packet) = few_packet (event.Deliver link number packet) w n.exchange packet
