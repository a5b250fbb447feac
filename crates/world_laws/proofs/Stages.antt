-- The stages of one hop: the Vector, the request, the slot, the fragment.
use Rattle.std.proofs.Common.{◌≡◌, ◌<◌, ◌≤◌, ℕ, ◌+◌, ◌*◌, ◌/◌, Bool, true, false, List, [], ◌∷◌, ◌++◌, length, Option, Some, None, refl, sym, ◌∙◌, ap, subst, arith, inl, inr}
use Rattle.std.specs.Prelude.{nat_lt, slice_index, ◌==◌, if◌then◌else◌}
use Rattle.std.specs.Int.{bit_at}
use Rattle.std.specs.List.{cons_option}
use Rattle.std.proofs.lemmas.Bool.{cases_lt}
use Rattle.std.proofs.lemmas.Bool.Decides.{eqb_tells}
use Rattle.mate_num.specs.declared.id.HandlerId.{HandlerId}
use Rattle.arrayvec.specs.ArrayVec.{ArrayVec}
use Rattle.capsule_codec.specs.Fragments.{count_of, piece_at}
use Rattle.vm_shape.specs.Limits.{longest, round_time}
use Rattle.packet_codec.specs.declared.packet.Packet.{Packet}
use Rattle.packet_codec.specs.declared.packet.Packet.TheVariants.{Vector}
use Rattle.trickle_timer.specs.Intervals as trickle
use Rattle.trickle_timer.specs.declared.timer.Fire.{Fire}
use Rattle.trickle_timer.specs.declared.timer.Fire.TheVariants as fire
use Rattle.capsule_exchange.specs.Happenings.{Happening, Hears, held_version, held_versions, heard_since, target_version, TargetFragment, part_in, target_parts, complete_version, completed_by, asks_after, is_marked_slot, next_slot, fragment_for}
use Rattle.world_rules.specs.Cause as event
use Rattle.world_rules.specs.World.{World, handlers, links_from}
use Rattle.world_rules.specs.Effect.{of_fragment, of_point, of_slot, event_node}
use Rattle.world_rules.specs.State.{Moment, WorldState, packets_of, messages, after_moment, state}
use Rattle.world_rules.specs.Run.{HaveCome, IsDone}
use Rattle.world_laws.specs.Times.{IsRightSet, last_time, NeverResets, Fires}
use Rattle.world_laws.specs.Slots.{AreSparing, SendsSlot}
use Rattle.world_laws.specs.Causes.{HasEvent}
use Rattle.world_laws.specs.Newest.{Version, IsWorldVersion}
use Rattle.world_laws.specs.Passing.{Hop, IsHop}
use Rattle.mate_num.specs.Lists.{Among}
use Rattle.mate_num.proofs.ListLemmas.{each_over-weaker}
use Rattle.world_laws.proofs.Points.{fires_in_time}
use Rattle.world_laws.proofs.Pumps.{sends_in_time}
use Rattle.world_laws.proofs.Collect.{IsTame, AreTame, Has, parts-alike, target-stays, parts-grow, has-got, complete-all, at-range}
use Rattle.world_laws.proofs.Hop.{Holder, Least, Aims, Seeks, IsOpenTo, Sought, Lets, LetAll, At, holder-on, least-on, sought-on, open-on, holder-along, open-along, sought-along, Onward, Middle, middle, whole-is, sent-due, arrives, got-exchange, got-sends, own_status, vector-got, status-got, own_fragment, fragment-is}

-- ---- the fragment

same_number : (n : ℕ) → (n == n) ≡ true
same_number n = elim (eqb_tells n n) [ inl e ↦ e.0 | inr e ↦ absurd (e.1 refl) ]

own_part : Version → ℕ → TargetFragment
own_part v i = record { index = i; count = count_of v.image; large = nat_lt 528 (length v.image); bytes = record { items = piece_at v.image i } }

fragment-has : (v : Version) (hs : List Happening) (i : ℕ) → IsTame v (own_fragment v i) → AreTame v (heard_since v.handler hs) → Aims v hs → Has (target_parts v.handler (Hears (own_fragment v i) ∷ hs)) i
fragment-has v hs i tame all aims =
    let part : TargetFragment = record { index = i; count = count_of v.image; large = nat_lt 528 (length v.image); bytes = record { items = piece_at v.image i } } in
    let is : part_in v.handler v.version (own_fragment v i) ≡ Some part = rw (same_number v.handler, same_number v.version) refl in
    let grown : target_parts v.handler (Hears (own_fragment v i) ∷ hs) ≡ target_parts v.handler hs ++ part ∷ [] =
    parts-grow v hs (own_fragment v i) aims.0 tame ∙ ap (λ (o : Option TargetFragment). target_parts v.handler hs ++ cons_option o []) is in
    subst (λ (ps : List TargetFragment). Has ps i) (sym grown) (has-got v (target_parts v.handler hs) part (parts-alike v hs aims.0 all) (refl, refl))

fragment-got : (v : Version) (hs : List Happening) (i : ℕ) (o : Option HandlerId) → completed_by (own_fragment v i) hs ≡ o → IsTame v (own_fragment v i) → AreTame v (heard_since v.handler hs)
    → Seeks v (λ k. ⊥) hs → (Least v hs → Least v ((of_fragment (own_fragment v i) hs o).happened ++ hs))
    → Seeks v (λ k. k ≡ i) ((of_fragment (own_fragment v i) hs o).happened ++ hs)
fragment-got v hs i o is tame all (inl least) kept = inl (kept least)
fragment-got v hs i None is tame all (inr seeks) kept =
    inr ((target-stays v hs (own_fragment v i) seeks.0.0 tame, seeks.0.1), λ k same. subst (λ (n : ℕ). Has (target_parts v.handler (Hears (own_fragment v i) ∷ hs)) n) (sym same) (fragment-has v hs i tame all seeks.0))
fragment-got v hs i (Some g) is tame all (inr seeks) kept = inl (subst (λ (n : ℕ). v.version ≤ n) (sym (by (nat_lt (complete_version v.handler hs) (complete_version v.handler (Hears (own_fragment v i) ∷ hs))) is)) (omega arith)) where
  held_is : g.0 ≡ v.handler → held_version v.handler ((of_fragment (own_fragment v i) hs (Some g)).happened ++ hs) ≡ v.version
  held_is same = elim (eqb_tells g.0 v.handler) [
    | inl e ↦ rw e.0 (ap (λ (h : ℕ). target_version h (Hears (own_fragment v i) ∷ hs)) same ∙ target-stays v hs (own_fragment v i) seeks.0.0 tame)
    | inr e ↦ absurd (e.1 same)
  ]

  by : (b : Bool) → (if b then Some (record { 0 = v.handler }) else None) ≡ Some g → held_version v.handler ((of_fragment (own_fragment v i) hs (Some g)).happened ++ hs) ≡ v.version
  by true given = let same : record { 0 = v.handler } ≡ g = cc in held_is (ap (λ (x : HandlerId). x.0) (sym same))
  by false given = cc

-- the receiver seeks the version and has, or holds it, after an event in the middle, and so at the end
to-end : (w : World) (v : Version) (x : Hop) (Wanted : ℕ → Type 0) (now rest older newer : List Moment) (m : Moment) (by : ℕ) → Middle w v x now m older newer by → rest ≡ newer ++ m ∷ older
    → At w (Sought v Wanted) x.to (m ∷ (older ++ now)) → At w (Sought v Wanted) x.to (rest ++ now)
to-end w v x Wanted now rest older newer m by mid split sought =
    subst (λ (ms : List Moment). At w (Sought v Wanted) x.to ms) (sym (whole-is now rest older newer m split))
    (sought-along w v x Wanted (m ∷ (older ++ now)) newer mid.onward.let_all sought)

-- a fragment on its way to a node that seeks the version comes to stand with it
stage-fragment : (w : World) (v : Version) (x : Hop) (now rest : List Moment) (by number i t : ℕ) → IsHop w x → Onward w v x now rest by → t ≤ by
    → Among (event.Deliver x.there number (own_fragment v i)) ((state w now).due t) → At w (Sought v (λ k. ⊥)) x.to now → At w (Sought v (λ k. k ≡ i)) x.to (rest ++ now)
stage-fragment w v x now rest by number i t hop on early waits sought = arrived (arrives w now rest t by x.there number (own_fragment v i) on.come on.done early waits) where
  arrived : HasEvent rest t (event.Deliver x.there number (own_fragment v i)) → At w (Sought v (λ k. k ≡ i)) x.to (rest ++ now)
  arrived came = to-end w v x (λ k. k ≡ i) now rest came.older came.newer came.moment by mid came.split (
    open-on w v x (came.older ++ now) came.moment mid.lets before.0,
    subst (λ (hs : List Happening). Seeks v (λ k. k ≡ i) hs) (sym there)
        (fragment-got v hs i (completed_by (own_fragment v i) hs) refl tame before.0.heard_tame before.1
        (λ least. subst (λ (hs : List Happening). Least v hs) there (least-on w v x (came.older ++ now) came.moment mid.lets least))),
  ) where
    mid : Middle w v x now came.moment came.older came.newer by
    mid = middle w v x now rest came.older came.newer came.moment by on came.split

    before : At w (Sought v (λ k. ⊥)) x.to (came.older ++ now)
    before = sought-along w v x (λ k. ⊥) now came.older (middle w v x now rest came.older came.newer came.moment by on came.split).lets_before sought

    hs : List Happening
    hs = ((state w (came.older ++ now)).nodes x.to).exchange

    here : event_node w came.moment.cause ≡ x.to
    here = ap (event_node w) came.cause ∙ hop.gets_there

    tame : IsTame v (own_fragment v i)
    tame = (middle w v x now rest came.older came.newer came.moment by on came.split).lets.tame here x.there number (own_fragment v i) came.cause

    there : ((state w (came.moment ∷ (came.older ++ now))).nodes x.to).exchange
        ≡ (of_fragment (own_fragment v i) ((state w (came.older ++ now)).nodes x.to).exchange (completed_by (own_fragment v i) ((state w (came.older ++ now)).nodes x.to).exchange)).happened ++ ((state w (came.older ++ now)).nodes x.to).exchange
    there = subst (λ (k : ℕ). ((state w (came.moment ∷ (came.older ++ now))).nodes k).exchange
        ≡ (of_fragment (own_fragment v i) ((state w (came.older ++ now)).nodes k).exchange (completed_by (own_fragment v i) ((state w (came.older ++ now)).nodes k).exchange)).happened ++ ((state w (came.older ++ now)).nodes k).exchange)
        hop.gets_there (got-exchange w (state w (came.older ++ now)) came.moment x.there number (own_fragment v i) came.cause)

-- ---- the slot

pump-sends : (w : World) (s : WorldState) (m : Moment) (a slot : ℕ) → m.cause ≡ event.Pump a → next_slot (handlers w) (s.nodes a).exchange ≡ Some slot → Among (fragment_for (s.nodes a).exchange slot) (packets_of w s m)
pump-sends w s m a slot is next =
    let Goal : Moment → Type 0 = λ x. Among (fragment_for (s.nodes a).exchange slot) (packets_of w s x) in
    let n : Moment = record { time = m.time; cause = event.Pump a; told = m.told; pace = m.pace } in
    let same : m ≡ n = λ i. record { time = m.time; cause = is i; told = m.told; pace = m.pace } in
    let Sends : Option ℕ → Type 0 = λ o. Among (fragment_for (s.nodes a).exchange slot) ((of_slot (s.nodes a).exchange o).sends ++ messages w m.told) in
    subst Goal (sym same) (subst Sends (sym next) (inl refl))

sparing-all : (w : World) (v : Version) (x : Hop) (now rest : List Moment) (h : ℕ) → h ≡ v.handler → LetAll w v x now rest → AreSparing w x.from h now rest
sparing-all w v x now rest h same let_all = subst (λ (g : ℕ). AreSparing w x.from g now rest) (sym same)
    (each_over-weaker (λ m later. Lets w v x (state w (later ++ now)) m) _ (λ m later lets. lets.spares) rest let_all)

-- a slot of the version that is marked is sent, and its fragment comes to stand with a neighbour that seeks the version
stage-slot : (w : World) (v : Version) (x : Hop) (now rest : List Moment) (by i time : ℕ) → IsRightSet w.description.trickle → IsWorldVersion w v → IsHop w x → Onward w v x now rest by → i < count_of v.image
    → last_time now ≤ time → time + handlers w * 22 * w.description.radio.gap + w.description.radio.delay ≤ by
    → is_marked_slot ((state w now).nodes x.from).exchange (22 * v.handler + i) ≡ true → At w (Holder v) x.from now → At w (Sought v (λ k. ⊥)) x.to now → At w (Sought v (λ k. k ≡ i)) x.to (rest ++ now)
stage-slot w v x now rest by i time set right hop on within last room marked holds sought = pumped (sends_in_time w set x.from slot time now rest hop.from_low slot_low on.come last marked spares (λ t early. on.done t (omega (arith, early, room)))) where
  slot : ℕ
  slot = 22 * v.handler + i

  few : i < 22
  few = omega (arith, within, right.few)

  slot_low : 22 * v.handler + i < handlers w * 22
  slot_low = omega (arith, few, right.handler)

  handler_is : (22 * v.handler + i) / 22 ≡ v.handler
  handler_is = omega (arith, few)

  spares : AreSparing w x.from ((22 * v.handler + i) / 22) now rest
  spares = sparing-all w v x now rest ((22 * v.handler + i) / 22) handler_is on.let_all

  pumped : SendsSlot w x.from (22 * v.handler + i) (time + handlers w * 22 * w.description.radio.gap) now rest → At w (Sought v (λ k. k ≡ i)) x.to (rest ++ now)
  pumped found = subst (λ (ms : List Moment). At w (Sought v (λ k. k ≡ i)) x.to ms) (sym (whole-is now rest found.older found.newer found.moment found.split))
      (stage-fragment w v x (found.moment ∷ (found.older ++ now)) found.newer by due.0 i (found.moment.time + w.description.radio.delay) hop mid.onward
      (omega (arith, found.in_time, room)) due.1
      (sought-on w v x (λ k. ⊥) (found.older ++ now) found.moment mid.lets (sought-along w v x (λ k. ⊥) now found.older mid.lets_before sought))) where
        mid : Middle w v x now found.moment found.older found.newer by
        mid = middle w v x now rest found.older found.newer found.moment by on found.split

        holds_there : At w (Holder v) x.from (found.older ++ now)
        holds_there = holder-along w v x now found.older (middle w v x now rest found.older found.newer found.moment by on found.split).lets_before holds

        sends : Among (own_fragment v i) (packets_of w (state w (found.older ++ now)) found.moment)
        sends = subst (λ (p : Packet). Among p (packets_of w (state w (found.older ++ now)) found.moment)) (fragment-is v ((state w (found.older ++ now)).nodes x.from).exchange i holds_there.0 holds_there.1 few)
            (pump-sends w (state w (found.older ++ now)) found.moment x.from (22 * v.handler + i) found.cause found.sends)

        node_is : event_node w found.moment.cause ≡ x.from
        node_is = ap (event_node w) found.cause

        due : (number : ℕ) × Among (event.Deliver x.there number (own_fragment v i)) ((after_moment w (state w (found.older ++ now)) found.moment).due (found.moment.time + w.description.radio.delay))
        due = sent-due w (state w (found.older ++ now)) found.moment (own_fragment v i) x.there sends (subst (λ (k : ℕ). Among x.there (links_from w k)) (sym node_is) hop.leaves_from)
            ((middle w v x now rest found.older found.newer found.moment by on found.split).lets.there node_is)

-- ---- the request

stage-status : (w : World) (v : Version) (x : Hop) (now rest : List Moment) (by i number missing t : ℕ) → IsRightSet w.description.trickle → IsWorldVersion w v → IsHop w x → Onward w v x now rest by → i < count_of v.image
    → t + handlers w * 22 * w.description.radio.gap + w.description.radio.delay ≤ by → bit_at missing i ≡ 1
    → Among (event.Deliver x.back number (own_status v missing)) ((state w now).due t) → At w (Holder v) x.from now → At w (Sought v (λ k. ⊥)) x.to now → At w (Sought v (λ k. k ≡ i)) x.to (rest ++ now)
stage-status w v x now rest by i number missing t set right hop on within room bit waits holds sought =
    arrived (arrives w now rest t by x.back number (own_status v missing) on.come on.done (omega (arith, room)) waits) where
      arrived : HasEvent rest t (event.Deliver x.back number (own_status v missing)) → At w (Sought v (λ k. k ≡ i)) x.to (rest ++ now)
      arrived came = subst (λ (ms : List Moment). At w (Sought v (λ k. k ≡ i)) x.to ms) (sym (whole-is now rest came.older came.newer came.moment came.split))
          (stage-slot w v x (came.moment ∷ (came.older ++ now)) came.newer by i t set right hop mid.onward within (omega (arith, came.time)) room marked
          (holder-on w v x (came.older ++ now) came.moment mid.lets holds_there)
          (sought-on w v x (λ k. ⊥) (came.older ++ now) came.moment mid.lets (sought-along w v x (λ k. ⊥) now came.older mid.lets_before sought))) where
            mid : Middle w v x now came.moment came.older came.newer by
            mid = middle w v x now rest came.older came.newer came.moment by on came.split

            holds_there : At w (Holder v) x.from (came.older ++ now)
            holds_there = holder-along w v x now came.older (middle w v x now rest came.older came.newer came.moment by on came.split).lets_before holds

            there : ((state w (came.moment ∷ (came.older ++ now))).nodes x.from).exchange ≡ Hears (own_status v missing) ∷ ((state w (came.older ++ now)).nodes x.from).exchange
            there = subst (λ (k : ℕ). ((state w (came.moment ∷ (came.older ++ now))).nodes k).exchange ≡ Hears (own_status v missing) ∷ ((state w (came.older ++ now)).nodes k).exchange) hop.gets_back
                (got-exchange w (state w (came.older ++ now)) came.moment x.back number (own_status v missing) came.cause)

            marked : is_marked_slot ((state w (came.moment ∷ (came.older ++ now))).nodes x.from).exchange (22 * v.handler + i) ≡ true
            marked = subst (λ (hs : List Happening). is_marked_slot hs (22 * v.handler + i) ≡ true) (sym there)
                (status-got v ((state w (came.older ++ now)).nodes x.from).exchange missing i holds_there.0 holds_there.1 within (omega (arith, within, right.few)) bit)

-- ---- the Vector

stage-vector : (w : World) (v : Version) (x : Hop) (now rest : List Moment) (by i number t : ℕ) (versions : ArrayVec ℕ) → IsRightSet w.description.trickle → IsWorldVersion w v → IsHop w x → Onward w v x now rest by → i < count_of v.image
    → t + w.description.radio.delay + handlers w * 22 * w.description.radio.gap + w.description.radio.delay ≤ by → slice_index versions.items v.handler ≡ v.version
    → Among (event.Deliver x.there number (Vector versions)) ((state w now).due t) → At w (Holder v) x.from now → At w (IsOpenTo v) x.to now → At w (Sought v (λ k. k ≡ i)) x.to (rest ++ now)
stage-vector w v x now rest by i number t versions set right hop on within room value waits holds opened =
    arrived (arrives w now rest t by x.there number (Vector versions) on.come on.done (omega (arith, room)) waits) where
      arrived : HasEvent rest t (event.Deliver x.there number (Vector versions)) → At w (Sought v (λ k. k ≡ i)) x.to (rest ++ now)
      arrived came = elim (vector-got w v ((state w (came.older ++ now)).nodes x.to).exchange versions i right opened_there.heard_tame tame value within) [
        | inl has ↦ to-end w v x (λ k. k ≡ i) now rest came.older came.newer came.moment by mid came.split (opened_then, subst (λ (hs : List Happening). Seeks v (λ k. k ≡ i) hs) (sym there) has)
        | inr asked ↦ asks asked.0 asked.1 asked.2 asked.3
      ] where
        mid : Middle w v x now came.moment came.older came.newer by
        mid = middle w v x now rest came.older came.newer came.moment by on came.split

        opened_there : At w (IsOpenTo v) x.to (came.older ++ now)
        opened_there = open-along w v x now came.older (middle w v x now rest came.older came.newer came.moment by on came.split).lets_before opened

        opened_then : At w (IsOpenTo v) x.to (came.moment ∷ (came.older ++ now))
        opened_then = open-on w v x (came.older ++ now) came.moment (middle w v x now rest came.older came.newer came.moment by on came.split).lets opened_there

        tame : IsTame v (Vector versions)
        tame = omega (arith, value)

        there : ((state w (came.moment ∷ (came.older ++ now))).nodes x.to).exchange ≡ Hears (Vector versions) ∷ ((state w (came.older ++ now)).nodes x.to).exchange
        there = subst (λ (k : ℕ). ((state w (came.moment ∷ (came.older ++ now))).nodes k).exchange ≡ Hears (Vector versions) ∷ ((state w (came.older ++ now)).nodes k).exchange) hop.gets_there
            (got-exchange w (state w (came.older ++ now)) came.moment x.there number (Vector versions) came.cause)

        node_is : event_node w came.moment.cause ≡ x.to
        node_is = ap (event_node w) came.cause ∙ hop.gets_there

        asks : Seeks v (λ k. ⊥) (Hears (Vector versions) ∷ ((state w (came.older ++ now)).nodes x.to).exchange) → (missing : ℕ)
            → Among (own_status v missing) (asks_after (handlers w) (Vector versions) ((state w (came.older ++ now)).nodes x.to).exchange) → bit_at missing i ≡ 1 → At w (Sought v (λ k. k ≡ i)) x.to (rest ++ now)
        asks seeks missing among bit = subst (λ (ms : List Moment). At w (Sought v (λ k. k ≡ i)) x.to ms) (sym (whole-is now rest came.older came.newer came.moment came.split))
            (stage-status w v x (came.moment ∷ (came.older ++ now)) came.newer by i due.0 missing (came.moment.time + w.description.radio.delay) set right hop mid.onward within
            (omega (arith, came.time, room)) bit due.1
            (holder-on w v x (came.older ++ now) came.moment mid.lets (holder-along w v x now came.older mid.lets_before holds))
            (opened_then, subst (λ (hs : List Happening). Seeks v (λ k. ⊥) hs) (sym there) seeks)) where
              sends : Among (own_status v missing) (packets_of w (state w (came.older ++ now)) came.moment)
              sends = got-sends w (state w (came.older ++ now)) came.moment x.there number (Vector versions) (own_status v missing) came.cause
                  (subst (λ (k : ℕ). Among (own_status v missing) (asks_after (handlers w) (Vector versions) ((state w (came.older ++ now)).nodes k).exchange)) (sym hop.gets_there) among)

              due : (number : ℕ) × Among (event.Deliver x.back number (own_status v missing)) ((after_moment w (state w (came.older ++ now)) came.moment).due (came.moment.time + w.description.radio.delay))
              due = sent-due w (state w (came.older ++ now)) came.moment (own_status v missing) x.back sends (subst (λ (k : ℕ). Among x.back (links_from w k)) (sym node_is) hop.leaves_to) (mid.lets.back node_is)

-- ---- the point

-- a point of the node comes among the events `later`, on top of `before`, at this time at the latest, and sends its Vector
pub record Speaks (w : World) (a by : ℕ) (before later : List Moment) : Type 0 where
  pub moment : Moment
  pub newer : List Moment
  pub older : List Moment
  pub split : later ≡ newer ++ moment ∷ older
  pub cause : moment.cause ≡ event.Fire a
  pub sends : trickle.at_point ((state w (older ++ before)).nodes a).timer.set ((state w (older ++ before)).nodes a).timer.running w.suppress ≡ fire.Send
  pub in_time : moment.time ≤ by

fire-sends : (w : World) (s : WorldState) (m : Moment) (a : ℕ) → m.cause ≡ event.Fire a → trickle.at_point (s.nodes a).timer.set (s.nodes a).timer.running w.suppress ≡ fire.Send
    → Among (Vector (record { items = held_versions (handlers w) (s.nodes a).exchange })) (packets_of w s m)
fire-sends w s m a is speaks =
    let Goal : Moment → Type 0 = λ x. Among (Vector (record { items = held_versions (handlers w) (s.nodes a).exchange })) (packets_of w s x) in
    let n : Moment = record { time = m.time; cause = event.Fire a; told = m.told; pace = m.pace } in
    let same : m ≡ n = λ i. record { time = m.time; cause = is i; told = m.told; pace = m.pace } in
    let Sends : Fire → Type 0 = λ f. Among (Vector (record { items = held_versions (handlers w) (s.nodes a).exchange })) ((of_point w (s.nodes a) f).sends ++ messages w m.told) in
    subst Goal (sym same) (subst Sends (sym speaks) (inl refl))

-- where suppression is off, each point sends
pub speaks-loud : (w : World) (v : Version) (x : Hop) (time : ℕ) (before later : List Moment) → IsRightSet w.description.trickle → w.suppress ≡ false → IsHop w x → HaveCome w (later ++ before) → LetAll w v x before later
    → last_time before ≤ time → IsDone (state w (later ++ before)) (time + 2 * longest w.description.trickle) → Speaks w x.from (time + 2 * longest w.description.trickle) before later
speaks-loud w v x time before later set loud hop come let_all last done =
    by (fires_in_time w set x.from time before later hop.from_low come last never done) where
      never : NeverResets w x.from before later
      never = each_over-weaker (λ m after. Lets w v x (state w (after ++ before)) m) _ (λ m after lets. lets.spares.no_reset) later let_all

      by : Fires x.from (time + 2 * longest w.description.trickle) later → Speaks w x.from (time + 2 * longest w.description.trickle) before later
      by found = record {
        moment = found.moment;
        newer = found.among.newer;
        older = found.among.older;
        split = found.among.split;
        cause = found.cause;
        sends = ap (λ (b : Bool). trickle.at_point ((state w (found.among.older ++ before)).nodes x.from).timer.set ((state w (found.among.older ++ before)).nodes x.from).timer.running b) loud;
        in_time = found.in_time;
      }

stage-fire : (w : World) (v : Version) (x : Hop) (i until by : ℕ) (before later : List Moment) → IsRightSet w.description.trickle → round_time (handlers w) w.description.radio ≤ longest w.description.trickle → IsWorldVersion w v → IsHop w x
    → until + longest w.description.trickle ≤ by → Onward w v x before later by → i < count_of v.image → Speaks w x.from until before later
    → At w (Holder v) x.from before → At w (IsOpenTo v) x.to before → At w (Sought v (λ k. k ≡ i)) x.to (later ++ before)
stage-fire w v x i until by before later set fits right hop room on within found holds opened =
    subst (λ (ms : List Moment). At w (Sought v (λ k. k ≡ i)) x.to ms) (sym (whole-is before later found.older found.newer found.moment found.split))
    (stage-vector w v x (found.moment ∷ (found.older ++ before)) found.newer by i due.0 (found.moment.time + w.description.radio.delay)
    (record { items = held_versions (handlers w) ((state w (found.older ++ before)).nodes x.from).exchange }) set right hop mid.onward within
    (omega (arith, found.in_time, round, room)) value due.1
    (holder-on w v x (found.older ++ before) found.moment mid.lets holds_there)
    (open-on w v x (found.older ++ before) found.moment mid.lets (open-along w v x before found.older mid.lets_before opened))) where
      round : handlers w * 22 * w.description.radio.gap + 3 * w.description.radio.delay ≤ longest w.description.trickle
      round = fits

      mid : Middle w v x before found.moment found.older found.newer by
      mid = middle w v x before later found.older found.newer found.moment by on found.split

      holds_there : At w (Holder v) x.from (found.older ++ before)
      holds_there = holder-along w v x before found.older (middle w v x before later found.older found.newer found.moment by on found.split).lets_before holds

      value : slice_index (held_versions (handlers w) ((state w (found.older ++ before)).nodes x.from).exchange) v.handler ≡ v.version
      value = at-range (λ (h : ℕ). held_version h ((state w (found.older ++ before)).nodes x.from).exchange) 0 0 (handlers w) v.handler right.handler
          ∙ ap (λ (h : ℕ). held_version h ((state w (found.older ++ before)).nodes x.from).exchange) (let e : 0 + v.handler ≡ v.handler = omega arith in e) ∙ holds_there.0

      node_is : event_node w found.moment.cause ≡ x.from
      node_is = ap (event_node w) found.cause

      due : (number : ℕ) × Among (event.Deliver x.there number (Vector (record { items = held_versions (handlers w) ((state w (found.older ++ before)).nodes x.from).exchange }))) ((after_moment w (state w (found.older ++ before)) found.moment).due (found.moment.time + w.description.radio.delay))
      due = sent-due w (state w (found.older ++ before)) found.moment (Vector (record { items = held_versions (handlers w) ((state w (found.older ++ before)).nodes x.from).exchange })) x.there
          (fire-sends w (state w (found.older ++ before)) found.moment x.from found.cause found.sends) (subst (λ (k : ℕ). Among x.there (links_from w k)) (sym node_is) hop.leaves_from)
          ((middle w v x before later found.older found.newer found.moment by on found.split).lets.there node_is)

-- ---- the hop

pub hop_passes : (w : World) (v : Version) (x : Hop) (until by : ℕ) (before later : List Moment) → IsRightSet w.description.trickle → round_time (handlers w) w.description.radio ≤ longest w.description.trickle → IsWorldVersion w v → IsHop w x
    → until + longest w.description.trickle ≤ by → Onward w v x before later by → Speaks w x.from until before later
    → At w (Holder v) x.from before → At w (IsOpenTo v) x.to before → At w (Least v) x.to (later ++ before)
hop_passes w v x until by before later set round right hop room on speaks holds opened =
    elim (cases_lt (held_version v.handler ((state w (later ++ before)).nodes x.to).exchange) v.version) [ inr least ↦ least | inl less ↦ absurd (clash less) ] where
      seeks : (i : ℕ) → i < count_of v.image → At w (Sought v (λ k. k ≡ i)) x.to (later ++ before)
      seeks i within = stage-fire w v x i until by before later set round right hop room on within speaks holds opened

      aims : (i : ℕ) → held_version v.handler ((state w (later ++ before)).nodes x.to).exchange < v.version → Seeks v (λ k. k ≡ i) ((state w (later ++ before)).nodes x.to).exchange
          → Aims v ((state w (later ++ before)).nodes x.to).exchange × Has (target_parts v.handler ((state w (later ++ before)).nodes x.to).exchange) i
      aims i less (inl least) = absurd (omega (arith, least, less))
      aims i less (inr found) = (found.0, found.1 i refl)

      clash : held_version v.handler ((state w (later ++ before)).nodes x.to).exchange < v.version → ⊥
      clash less =
          let last = seeks 0 (omega (arith, right.some)) in
          let first = aims 0 less last.1 in
          let whole : complete_version v.handler ((state w (later ++ before)).nodes x.to).exchange ≡ v.version = complete-all v ((state w (later ++ before)).nodes x.to).exchange first.0.0 last.0.heard_tame right.some
          (λ i within. (aims i less (seeks i within).1).1) in
          let none : complete_version v.handler ((state w (later ++ before)).nodes x.to).exchange ≡ 0 = last.0.none_waits in
          let low : 1 ≤ v.version = right.low in
          omega (arith, whole, none, low)
