-- What stands behind the end of an event.
use Rattle.std.proofs.Common.{◌≡◌, ℕ, suc, ◌+◌, Bool, true, false, List, [], ◌∷◌, ◌++◌, map, length, drop, Option, Some, None, refl}
use Rattle.std.specs.Prelude.{if◌then◌else◌, slice_get}
use Rattle.std.specs.List.{filter, flat_map}
use Rattle.std.specs.Option.{option_to_list}
use Rattle.std.proofs.lemmas.Bool.{eq-eqb}
use Rattle.mate_num.specs.declared.id.HandlerId.{HandlerId}
use Rattle.mate_journal.specs.declared.air.Air.{Air}
use Rattle.mate_journal.specs.declared.air.Air.TheVariants as air
use Rattle.packet_codec.specs.declared.packet.Packet.{Packet}
use Rattle.trickle_timer.specs.Timer.{Timer}
use Rattle.world_rules.specs.Cause.{Cause, Period, Expire, Pump}
use Rattle.world_rules.specs.Effect.{NodeEffect}
use Rattle.world_rules.specs.State.{Scheduled, WorldState, is_kept, of_time, next_period, new_interval, new_pump, sendings, air_of_sending, sent_bytes}
use Rattle.world_rules.specs.World.{World, period_of}
use Rattle.world_air.specs.Air.{radio_event}

-- the old end is cancelled
pub end_is_gone : (node : ℕ) (e : NodeEffect) (begins same : Bool) (due : List Cause) → begins ≡ true → same ≡ false → due ≡ Expire node ∷ []
    → filter (is_kept node e begins) (if same then drop 1 due else due) ≡ []
end_is_gone node e begins same due begin apart is = rw (begin, apart, is, eq-eqb node node refl) refl

-- the first that is scheduled for a time comes first where nothing is left there
pub first_comes : (w : World) (t : ℕ) (left : List Cause) (x : Scheduled) (more : List Scheduled) → left ≡ [] → x.time ≡ t
    → slice_get (map (radio_event w) (left ++ of_time t (x ∷ more))) 0 ≡ Some (radio_event w x.cause)
first_comes w t left x more none at = rw (none, at, eq-eqb t t refl) refl

pub a_period : (w : World) (node time period : ℕ) (h : HandlerId) (cause : Cause) → cause ≡ Period node h → period_of w h.0 ≡ Some period
    → next_period w cause time ≡ record { time = time + period; cause = Period node h } ∷ []
a_period w node time period h cause is has = rw (is, has) refl

pub a_pump : (w : World) (node time : ℕ) (due : Bool) → due ≡ true → new_pump w node time due ≡ record { time = time + w.description.radio.gap; cause = Pump node } ∷ []
a_pump w node time due is = rw is refl

-- the first packet is the effect's own
abbrev pub after_first : World → ℕ → WorldState → Packet → List Packet → List Air
after_first w node s p more = drop 1 (flat_map (air_of_sending w node) (sendings w s node (p ∷ more)))

pub sent_first : (w : World) (node : ℕ) (s : WorldState) (first : List Air) (begun : Option ℕ) (sends more : List Packet) (p : Packet) → first ≡ [] → begun ≡ None → sends ≡ p ∷ []
    → first ++ map (λ l. air.Interval l) (option_to_list begun) ++ flat_map (air_of_sending w node) (sendings w s node (sends ++ more))
    ≡ air.Sent (suc (length s.senders)) (sent_bytes w p) ∷ after_first w node s p more
sent_first w node s first begun sends more p nothing no_interval one = rw (nothing, no_interval, one) refl

-- ---- the first of what is scheduled

pub by_first : (w : World) (t : ℕ) (left : List Cause) (first rest : List Scheduled) (x : Scheduled) → left ≡ [] → first ≡ x ∷ [] → x.time ≡ t
    → slice_get (map (radio_event w) (left ++ of_time t (first ++ rest))) 0 ≡ Some (radio_event w x.cause)
by_first w t left first rest x none is at = rw is (first_comes w t left x rest none at)

pub by_fourth : (w : World) (t : ℕ) (left : List Cause) (a b c fourth rest : List Scheduled) (x : Scheduled) → left ≡ [] → a ≡ [] → b ≡ [] → c ≡ [] → fourth ≡ x ∷ [] → x.time ≡ t
    → slice_get (map (radio_event w) (left ++ of_time t (a ++ (b ++ (c ++ (fourth ++ rest)))))) 0 ≡ Some (radio_event w x.cause)
by_fourth w t left a b c fourth rest x none no_a no_b no_c is at = rw (no_a, no_b, no_c) (by_first w t left fourth rest x none is at)

pub no_interval : (node : ℕ) (begun : Option ℕ) (t : Timer) → begun ≡ None → new_interval node begun t ≡ []
no_interval node begun t none = rw none refl
