-- One hop.
use Rattle.std.proofs.Common.{◌≡◌, ◌≢◌, ◌<◌, ◌≤◌, ℕ, zero, suc, ◌+◌, ◌*◌, ◌/◌, ◌%◌, Bool, true, false, List, [], ◌∷◌, ◌++◌, map, length, Some, None, refl, sym, ◌∙◌, ap, subst, arith, inl, inr, ◌⊎◌, append_assoc}
use Rattle.std.specs.Prelude.{is_some, nat_lt, slice_index, slice_get, slice_index_or, ◌==◌, if◌then◌else◌}
use Rattle.std.specs.Int.{bit_at}
use Rattle.std.specs.List.{filter, flat_map, range_with_len}
use Rattle.std.proofs.lemmas.Bool.{cases_lt, ltb-true, lt-ltb}
use Rattle.std.proofs.lemmas.Bool.Decides.{eqb_tells}
use Rattle.mate_num.specs.declared.id.HandlerId.{HandlerId}
use Rattle.arrayvec.specs.ArrayVec.{ArrayVec}
use Rattle.capsule_codec.specs.Fragments.{count_of, piece_at}
use Rattle.mate_journal.specs.Machine.{HeldProgram}
use Rattle.packet_codec.specs.declared.packet.Packet.{Packet}
use Rattle.packet_codec.specs.declared.packet.Packet.TheVariants.{Vector, Status, Fragment}
use Rattle.capsule_exchange.specs.Happenings.{Happening, Hears, Installs, held_version, held_image, heard_since, target_version, target_parts, collected_at, places_of, gaps, mask_of, collected_image, complete_version, completed_by, asks_after, ask_for, asks_of, is_marked, is_marked_slot, fragment_for}
use Rattle.capsule_exchange.proofs.CollectLemmas.{target_over}
use Rattle.world_rules.specs.Cause.{Cause}
use Rattle.world_rules.specs.Cause as event
use Rattle.script_steps.specs.declared.world.Link.{Link}
use Rattle.world_rules.specs.World.{World, handlers, receiver, leaves, links_from, loss, stream_word}
use Rattle.world_rules.specs.Effect.{Node, NodeEffect, Installing, of_packet, event_node, resets}
use Rattle.world_rules.specs.State.{Moment, WorldState, Scheduled, Sending, numbered_sendings, sendings, is_lost, deliveries, next_period, new_interval, packets_of, messages, schedules, node_at, effect_at, after_moment, state}
use Rattle.world_rules.specs.Run.{HaveCome, IsDone}
use Rattle.world_laws.specs.Hops.{HasLink}
use Rattle.world_laws.specs.Newest.{Version, IsWorldVersion}
use Rattle.world_laws.specs.Slots.{IsSparing}
use Rattle.world_laws.specs.Passing.{Hop, LosesNone}
use Rattle.mate_num.specs.Lists.{Among, EachOver}
use Rattle.mate_num.proofs.ListLemmas.{each-push, among-left, among-right, among-filter, none-among}
use Rattle.world_laws.specs.Causes.{HasEvent}
use Rattle.world_laws.proofs.Comes.{come-along}
use Rattle.world_laws.proofs.Due.{at, due-new}
use Rattle.world_laws.proofs.Points.{nodes-here, nodes-other, among-range, among-map_of}
use Rattle.world_laws.proofs.Happens.{Happens, nothing, injected, heard, completed, forgot, sent, happens}
use Rattle.world_laws.proofs.Collect.{IsTame, AreTame, Has, parts-alike, target-stays, target-set, has-stays, asks-gap, complete-stays, complete-other}

-- ---- a completed target

completed-target : (p : Packet) (hs : List Happening) (g : HandlerId) → completed_by p hs ≡ Some g → 1 ≤ target_version g.0 (Hears p ∷ hs)
completed-target (Fragment k version index count large bytes) hs g by_g = own (nat_lt (complete_version k.0 hs) (complete_version k.0 (Hears packet ∷ hs))) refl by_g where
  packet : Packet
  packet = Fragment k version index count large bytes

  most : (b : Bool) (t : ℕ) → 1 ≤ (if b then t else 0) → 1 ≤ t
  most true t h = h
  most false t h = absurd (omega (arith, h))

  own : (b : Bool) → nat_lt (complete_version k.0 hs) (complete_version k.0 (Hears (Fragment k version index count large bytes) ∷ hs)) ≡ b → (if b then Some k else None) ≡ Some g
      → 1 ≤ target_version g.0 (Hears (Fragment k version index count large bytes) ∷ hs)
  own true more given =
      let same : k ≡ g = cc in
      let over : complete_version k.0 hs < complete_version k.0 (Hears (Fragment k version index count large bytes) ∷ hs) = ltb-true _ _ more in
      subst (λ (x : HandlerId). 1 ≤ target_version x.0 (Hears (Fragment k version index count large bytes) ∷ hs)) same
      (most (is_some (collected_image k.0 (Hears (Fragment k version index count large bytes) ∷ hs))) _ (omega (arith, over)))
  own false more given = cc
completed-target _ hs g by_g = cc

-- ---- what an event does to a node that holds the version, and to one that seeks it

installs_else : (v : Version) (g version : ℕ) (image : List ℕ) (hs : List Happening) → g ≢ v.handler → held_version v.handler (Installs g version image ∷ hs) ≡ held_version v.handler hs
installs_else v g version image hs other = elim (eqb_tells g v.handler) [ inl e ↦ absurd (other e.1) | inr e ↦ rw e.0 refl ]

installs_own : (v : Version) (g version : ℕ) (image : List ℕ) (hs : List Happening) → g ≡ v.handler → held_version v.handler (Installs g version image ∷ hs) ≡ version
installs_own v g version image hs same = elim (eqb_tells g v.handler) [ inl e ↦ rw e.0 refl | inr e ↦ absurd (e.1 same) ]

-- holds the version with its image
abbrev pub Holder : Version → List Happening → Type 0
Holder v hs = (held_version v.handler hs ≡ v.version) × (held_image v.handler hs ≡ v.image)

holder-installs : (v : Version) (g version : ℕ) (image : List ℕ) (hs : List Happening) → g ≢ v.handler → Holder v hs → Holder v (Installs g version image ∷ hs)
holder-installs v g version image hs other holds = elim (eqb_tells g v.handler) [ inl e ↦ absurd (other e.1) | inr e ↦ (rw e.0 holds.0, rw e.0 holds.1) ]

pub holder-step : (w : World) (v : Version) (hs : List Happening) (c : Cause) (e : NodeEffect) → Happens w hs c e → ((p : HeldProgram) → e.deed ≡ Installing p → p.handler.0 ≡ v.handler → ⊥) → Holder v hs → Holder v (e.happened ++ hs)
holder-step w v hs c e how none holds = by how where
  Goal : List Happening → Type 0
  Goal new = Holder v (new ++ hs)

  by : Happens w hs c e → Holder v (e.happened ++ hs)
  by (nothing is) = subst Goal (sym is) holds
  by (injected x p cause is deed) = subst Goal (sym is) (holder-installs v p.handler.0 p.version p.image.items hs (λ own. none p deed own) holds)
  by (heard j number packet cause is by_none) = subst Goal (sym is) (holds.0, holds.1)
  by (completed j number packet p cause is deed complete same) = subst Goal (sym is) (holder-installs v p.handler.0 p.version p.image.items (Hears packet ∷ hs) (λ own. none p deed own) (holds.0, holds.1))
  by (forgot is deed) = subst Goal (sym is) (holds.0, holds.1)
  by (sent k slot cause is next) = subst Goal (sym is) (holds.0, holds.1)

-- lines inject the version or a newer one
abbrev pub InjectsNoOlder : Version → Cause → NodeEffect → Type 0
InjectsNoOlder v c e = (x : ℕ) (p : HeldProgram) → c ≡ event.Planned x → e.deed ≡ Installing p → p.handler.0 ≡ v.handler → v.version ≤ p.version

-- the event brings nothing newer than the version, and of it only fragments of its image
abbrev pub BringsTame : Version → Cause → Type 0
BringsTame v c = (j number : ℕ) (p : Packet) → c ≡ event.Deliver j number p → IsTame v p

-- what was heard is of the version or of older ones, and nothing complete waits
pub record IsOpenTo (v : Version) (hs : List Happening) : Type 0 where
  pub heard_tame : AreTame v (heard_since v.handler hs)
  pub none_waits : complete_version v.handler hs ≡ 0

open-installs : (v : Version) (g version : ℕ) (image : List ℕ) (hs : List Happening) → (g ≢ v.handler → AreTame v (heard_since v.handler hs) × (complete_version v.handler hs ≡ 0)) → IsOpenTo v (Installs g version image ∷ hs)
open-installs v g version image hs old = elim (eqb_tells g v.handler) [
  | inl e ↦ record { heard_tame = rw e.0 tt; none_waits = rw e.0 refl }
  | inr e ↦ record { heard_tame = rw e.0 (old e.1).0; none_waits = rw e.0 (old e.1).1 }
]

open-step : (w : World) (v : Version) (hs : List Happening) (c : Cause) (e : NodeEffect) → Happens w hs c e → BringsTame v c → IsOpenTo v hs → IsOpenTo v (e.happened ++ hs)
open-step w v hs c e how tame old = by how where
  Goal : List Happening → Type 0
  Goal new = IsOpenTo v (new ++ hs)

  by : Happens w hs c e → IsOpenTo v (e.happened ++ hs)
  by (nothing is) = subst Goal (sym is) old
  by (injected x p cause is deed) = subst Goal (sym is) (open-installs v p.handler.0 p.version p.image.items hs (λ other. (old.heard_tame, old.none_waits)))
  by (heard j number packet cause is none) = subst Goal (sym is) (record {
    heard_tame = each-push (IsTame v) (heard_since v.handler hs) packet old.heard_tame (tame j number packet cause);
    none_waits = complete-stays v.handler packet hs none old.none_waits;
  })
  by (completed j number packet p cause is deed complete same) = subst Goal (sym is) (open-installs v p.handler.0 p.version p.image.items (Hears packet ∷ hs)
      (λ other. (each-push (IsTame v) (heard_since v.handler hs) packet old.heard_tame (tame j number packet cause), complete-other v.handler packet hs p.handler complete other old.none_waits)))
  by (forgot is deed) = subst Goal (sym is) (record { heard_tame = tt; none_waits = refl })
  by (sent k slot cause is next) = subst Goal (sym is) (record { heard_tame = old.heard_tame; none_waits = old.none_waits })

-- holds the version or a newer one
abbrev pub Least : Version → List Happening → Type 0
Least v hs = v.version ≤ held_version v.handler hs

least-step : (w : World) (v : Version) (hs : List Happening) (c : Cause) (e : NodeEffect) → Happens w hs c e → InjectsNoOlder v c e → Least v hs → Least v (e.happened ++ hs)
least-step w v hs c e how rising least = by how where
  Goal : List Happening → Type 0
  Goal new = v.version ≤ held_version v.handler (new ++ hs)

  by : Happens w hs c e → v.version ≤ held_version v.handler (e.happened ++ hs)
  by (nothing is) = subst Goal (sym is) least
  by (injected x p cause is deed) = subst Goal (sym is) (elim (eqb_tells p.handler.0 v.handler) [
    | inl own ↦ subst (λ (n : ℕ). v.version ≤ n) (sym (installs_own v p.handler.0 p.version p.image.items hs own.1)) (rising x p cause deed own.1)
    | inr other ↦ subst (λ (n : ℕ). v.version ≤ n) (sym (installs_else v p.handler.0 p.version p.image.items hs other.1)) least
  ])
  by (heard j number packet cause is by_none) = subst Goal (sym is) least
  by (completed j number packet p cause is deed complete same) = subst Goal (sym is) (elim (eqb_tells p.handler.0 v.handler) [
    | inl own ↦ subst (λ (n : ℕ). v.version ≤ n) (sym (installs_own v p.handler.0 p.version p.image.items (Hears packet ∷ hs) own.1)) (over own.1 (target_over v.handler (Hears packet ∷ hs)))
    | inr other ↦ subst (λ (n : ℕ). v.version ≤ n) (sym (installs_else v p.handler.0 p.version p.image.items (Hears packet ∷ hs) other.1)) least
  ]) where
    over : p.handler.0 ≡ v.handler → (target_version v.handler (Hears packet ∷ hs) ≡ 0) ⊎ (held_version v.handler (Hears packet ∷ hs) < target_version v.handler (Hears packet ∷ hs)) → v.version ≤ p.version
    over own (inl zero_is) = let some : 1 ≤ target_version v.handler (Hears packet ∷ hs) = subst (λ (h : ℕ). 1 ≤ target_version h (Hears packet ∷ hs)) own (completed-target packet hs p.handler complete) in absurd (omega (arith, some, zero_is))
    over own (inr above) =
        let version_is : p.version ≡ target_version v.handler (Hears packet ∷ hs) = ap (λ (q : HeldProgram). q.version) same ∙ ap (λ (h : ℕ). target_version h (Hears packet ∷ hs)) own in
        let held_is : v.version ≤ held_version v.handler (Hears packet ∷ hs) = least in
        omega (arith, above, held_is, version_is)
  by (forgot is deed) = subst Goal (sym is) least
  by (sent k slot cause is next) = subst Goal (sym is) least

abbrev pub Aims : Version → List Happening → Type 0
Aims v hs = (target_version v.handler hs ≡ v.version) × (held_version v.handler hs < v.version)

-- seeks, and has collected what is told of the indices; or holds the version or a newer one
abbrev pub Seeks : Version → (ℕ → Type 0) → List Happening → Type 0
Seeks v Wanted hs = Least v hs ⊎ (Aims v hs × ((i : ℕ) → Wanted i → Has (target_parts v.handler hs) i))

hears-on : (v : Version) (Wanted : ℕ → Type 0) (hs : List Happening) (p : Packet) → IsTame v p → Aims v hs → ((i : ℕ) → Wanted i → Has (target_parts v.handler hs) i)
    → Aims v (Hears p ∷ hs) × ((i : ℕ) → Wanted i → Has (target_parts v.handler (Hears p ∷ hs)) i)
hears-on v Wanted hs p tame aims has = ((target-stays v hs p aims.0 tame, aims.1), λ i wanted. has-stays v hs p i aims.0 tame (has i wanted))

installs-on : (v : Version) (Wanted : ℕ → Type 0) (g version : ℕ) (image : List ℕ) (hs : List Happening) → g ≢ v.handler → Aims v hs → ((i : ℕ) → Wanted i → Has (target_parts v.handler hs) i)
    → Aims v (Installs g version image ∷ hs) × ((i : ℕ) → Wanted i → Has (target_parts v.handler (Installs g version image ∷ hs)) i)
installs-on v Wanted g version image hs other aims has = elim (eqb_tells g v.handler) [
  | inl e ↦ absurd (other e.1)
  | inr e ↦ ((rw e.0 aims.0, rw e.0 aims.1), λ i wanted. rw e.0 (has i wanted))
]

seeks-on : (w : World) (v : Version) (Wanted : ℕ → Type 0) (hs : List Happening) (c : Cause) (e : NodeEffect) → Happens w hs c e → InjectsNoOlder v c e → resets e.deed ≡ false → BringsTame v c
    → Seeks v Wanted hs → Seeks v Wanted (e.happened ++ hs)
seeks-on w v Wanted hs c e how rising no_reset tame (inl least) = inl (least-step w v hs c e how rising least)
seeks-on w v Wanted hs c e how rising no_reset tame (inr seeks) = by how where
  Goal : List Happening → Type 0
  Goal new = Seeks v Wanted (new ++ hs)

  by : Happens w hs c e → Seeks v Wanted (e.happened ++ hs)
  by (nothing is) = subst Goal (sym is) (inr seeks)
  by (injected x p cause is deed) = subst Goal (sym is) (elim (eqb_tells p.handler.0 v.handler) [
    | inl own ↦ inl (subst (λ (n : ℕ). v.version ≤ n) (sym (installs_own v p.handler.0 p.version p.image.items hs own.1)) (rising x p cause deed own.1))
    | inr other ↦ inr (installs-on v Wanted p.handler.0 p.version p.image.items hs other.1 seeks.0 seeks.1)
  ])
  by (heard j number packet cause is by_none) = subst Goal (sym is) (inr (hears-on v Wanted hs packet (tame j number packet cause) seeks.0 seeks.1))
  by (completed j number packet p cause is deed complete same) =
      let on = hears-on v Wanted hs packet (tame j number packet cause) seeks.0 seeks.1 in
      subst Goal (sym is) (elim (eqb_tells p.handler.0 v.handler) [
        | inl own ↦ (let held : held_version v.handler (Installs p.handler.0 p.version p.image.items ∷ Hears packet ∷ hs) ≡ v.version
            = installs_own v p.handler.0 p.version p.image.items (Hears packet ∷ hs) own.1 ∙ ap (λ (q : HeldProgram). q.version) same ∙ ap (λ (h : ℕ). target_version h (Hears packet ∷ hs)) own.1 ∙ on.0.0 in
            inl (subst (λ (n : ℕ). v.version ≤ n) (sym held) (omega arith)))
        | inr other ↦ inr (installs-on v Wanted p.handler.0 p.version p.image.items (Hears packet ∷ hs) other.1 on.0 on.1)
      ])
  by (forgot is deed) = let clash : true ≡ false = sym (ap resets deed) ∙ no_reset in cc
  by (sent k slot cause is next) = subst Goal (sym is) (inr seeks)

-- seeks the version, and nothing stands in its way
abbrev pub Sought : Version → (ℕ → Type 0) → List Happening → Type 0
Sought v Wanted hs = IsOpenTo v hs × Seeks v Wanted hs

-- ---- along a run

-- what is asked of an event: of the sender's, and of the receiver's
pub record Lets (w : World) (v : Version) (x : Hop) (s : WorldState) (m : Moment) : Type 0 where
  pub spares : IsSparing w s m x.from v.handler
  pub there : event_node w m.cause ≡ x.from → LosesNone w x.there s m
  pub no_reset : event_node w m.cause ≡ x.to → resets (effect_at w s m).deed ≡ false
  pub rising : event_node w m.cause ≡ x.to → InjectsNoOlder v m.cause (effect_at w s m)
  pub tame : event_node w m.cause ≡ x.to → BringsTame v m.cause
  pub back : event_node w m.cause ≡ x.to → LosesNone w x.back s m

abbrev pub LetAll : World → Version → Hop → List Moment → List Moment → Type 0
LetAll w v x now = EachOver (λ m later. Lets w v x (state w (later ++ now)) m)

node-keeps : (w : World) (Q : List Happening → Type 0) (s : WorldState) (m : Moment) (k : ℕ) → (event_node w m.cause ≡ k → Q (node_at w s m).exchange → Q ((effect_at w s m).happened ++ (node_at w s m).exchange))
    → Q (s.nodes k).exchange → Q ((after_moment w s m).nodes k).exchange
node-keeps w Q s m k keep q = elim (eqb_tells k (event_node w m.cause)) [
  | inr other ↦ subst (λ (n : Node). Q n.exchange) (sym (nodes-other w s m k other.1)) q
  | inl same ↦ subst (λ (i : ℕ). Q ((after_moment w s m).nodes i).exchange) (sym same.1)
      (subst (λ (n : Node). Q n.exchange) (sym (nodes-here w s m)) (keep (sym same.1) (subst (λ (i : ℕ). Q (s.nodes i).exchange) same.1 q)))
]

-- a fact of a node's exchange at a place of the run
abbrev pub At : World → (List Happening → Type 0) → ℕ → List Moment → Type 0
At w Q k ms = Q ((state w ms).nodes k).exchange

pub holder-on : (w : World) (v : Version) (x : Hop) (now : List Moment) (m : Moment) → Lets w v x (state w now) m → At w (Holder v) x.from now → At w (Holder v) x.from (m ∷ now)
holder-on w v x now m lets holds = node-keeps w (Holder v) (state w now) m x.from (λ here old. holder-step w v (node_at w (state w now) m).exchange m.cause (effect_at w (state w now) m) (happens w (node_at w (state w now) m) m.cause)
    (λ p deed own. lets.spares.no_install p here deed own) old) holds

pub least-on : (w : World) (v : Version) (x : Hop) (now : List Moment) (m : Moment) → Lets w v x (state w now) m → At w (Least v) x.to now → At w (Least v) x.to (m ∷ now)
least-on w v x now m lets least = node-keeps w (Least v) (state w now) m x.to (λ here old. least-step w v (node_at w (state w now) m).exchange m.cause (effect_at w (state w now) m) (happens w (node_at w (state w now) m) m.cause)
    (lets.rising here) old) least

pub sought-on : (w : World) (v : Version) (x : Hop) (Wanted : ℕ → Type 0) (now : List Moment) (m : Moment) → Lets w v x (state w now) m → At w (Sought v Wanted) x.to now → At w (Sought v Wanted) x.to (m ∷ now)
sought-on w v x Wanted now m lets sought = node-keeps w (Sought v Wanted) (state w now) m x.to (λ here old. (
  open-step w v (node_at w (state w now) m).exchange m.cause (effect_at w (state w now) m) (happens w (node_at w (state w now) m) m.cause) (lets.tame here) old.0,
  seeks-on w v Wanted (node_at w (state w now) m).exchange m.cause (effect_at w (state w now) m) (happens w (node_at w (state w now) m) m.cause) (lets.rising here) (lets.no_reset here) (lets.tame here) old.1,
)) sought

pub open-on : (w : World) (v : Version) (x : Hop) (now : List Moment) (m : Moment) → Lets w v x (state w now) m → At w (IsOpenTo v) x.to now → At w (IsOpenTo v) x.to (m ∷ now)
open-on w v x now m lets old = node-keeps w (IsOpenTo v) (state w now) m x.to
    (λ here old. open-step w v (node_at w (state w now) m).exchange m.cause (effect_at w (state w now) m) (happens w (node_at w (state w now) m) m.cause) (lets.tame here) old) old

pub holder-along : (w : World) (v : Version) (x : Hop) (now rest : List Moment) → LetAll w v x now rest → At w (Holder v) x.from now → At w (Holder v) x.from (rest ++ now)
holder-along w v x now [] let_all holds = holds
holder-along w v x now (m ∷ rest) let_all holds = holder-on w v x (rest ++ now) m let_all.1 (holder-along w v x now rest let_all.0 holds)

pub open-along : (w : World) (v : Version) (x : Hop) (now rest : List Moment) → LetAll w v x now rest → At w (IsOpenTo v) x.to now → At w (IsOpenTo v) x.to (rest ++ now)
open-along w v x now [] let_all old = old
open-along w v x now (m ∷ rest) let_all old = open-on w v x (rest ++ now) m let_all.1 (open-along w v x now rest let_all.0 old)

pub sought-along : (w : World) (v : Version) (x : Hop) (Wanted : ℕ → Type 0) (now rest : List Moment) → LetAll w v x now rest → At w (Sought v Wanted) x.to now → At w (Sought v Wanted) x.to (rest ++ now)
sought-along w v x Wanted now [] let_all sought = sought
sought-along w v x Wanted now (m ∷ rest) let_all sought = sought-on w v x Wanted (rest ++ now) m let_all.1 (sought-along w v x Wanted now rest let_all.0 sought)

-- a part of a run, from `now` on, up to a time at which all is done
pub record Onward (w : World) (v : Version) (x : Hop) (now rest : List Moment) (by : ℕ) : Type 0 where
  pub come : HaveCome w (rest ++ now)
  pub let_all : LetAll w v x now rest
  pub done : IsDone (state w (rest ++ now)) by

-- an event in the middle: the run up to it, and from it on
pub record Middle (w : World) (v : Version) (x : Hop) (now : List Moment) (m : Moment) (older newer : List Moment) (by : ℕ) : Type 0 where
  pub lets_before : LetAll w v x now older
  pub lets : Lets w v x (state w (older ++ now)) m
  pub onward : Onward w v x (m ∷ (older ++ now)) newer by

lets-split : (w : World) (v : Version) (x : Hop) (now older newer : List Moment) (m : Moment) → LetAll w v x now (newer ++ m ∷ older)
    → LetAll w v x now older × Lets w v x (state w (older ++ now)) m × LetAll w v x (m ∷ (older ++ now)) newer
lets-split w v x now older [] m let_all = (let_all.0, let_all.1, tt)
lets-split w v x now older (y ∷ newer) m let_all =
    let rest = lets-split w v x now older newer m let_all.0 in
    (rest.0, rest.1, (rest.2, subst (λ (ms : List Moment). Lets w v x (state w ms) y) (append_assoc newer (m ∷ older) now) let_all.1))

pub middle : (w : World) (v : Version) (x : Hop) (now rest older newer : List Moment) (m : Moment) (by : ℕ) → Onward w v x now rest by → rest ≡ newer ++ m ∷ older → Middle w v x now m older newer by
middle w v x now rest older newer m by on is =
    let whole : rest ++ now ≡ newer ++ (m ∷ (older ++ now)) = ap (λ (ms : List Moment). ms ++ now) is ∙ append_assoc newer (m ∷ older) now in
    let parts = lets-split w v x now older newer m (subst (λ (ms : List Moment). LetAll w v x now ms) is on.let_all) in
    record {
      lets_before = parts.0;
      lets = parts.1;
      onward = record {
        come = subst (λ (ms : List Moment). HaveCome w ms) whole on.come;
        let_all = parts.2;
        done = subst (λ (ms : List Moment). IsDone (state w ms) by) whole on.done;
      };
    }

pub whole-is : (now rest older newer : List Moment) (m : Moment) → rest ≡ newer ++ m ∷ older → rest ++ now ≡ newer ++ (m ∷ (older ++ now))
whole-is now rest older newer m is = ap (λ (ms : List Moment). ms ++ now) is ∙ append_assoc newer (m ∷ older) now

-- ---- what is sent over a link arrives

get-is : (ls : List Link) (k : ℕ) (l : Link) → k < length ls → slice_index_or ls k l ≡ l → slice_get ls k ≡ Some l
get-is [] k l below is = absurd (omega (arith, below))
get-is (x ∷ ls) zero l below is = ap (λ (y : Link). Some y) is
get-is (x ∷ ls) (suc k) l below is = get-is ls k l (omega (arith, below)) is

pub link-at : (w : World) (a b : ℕ) → HasLink w.links a b → (j : ℕ) × Among j (links_from w a) × (receiver w j ≡ b)
link-at w a b linked = (linked.among.0, leaves_a, got_by_b) where
  got : slice_get w.links linked.among.0 ≡ Some linked.link
  got = get-is w.links linked.among.0 linked.link linked.among.1 linked.among.2

  from_is : leaves w a linked.among.0 ≡ true
  from_is = elim (eqb_tells linked.link.from a) [ inl e ↦ rw (got, e.0) refl | inr e ↦ absurd (e.1 linked.from) ]

  leaves_a : Among linked.among.0 (links_from w a)
  leaves_a = among-filter (leaves w a) linked.among.0 (range_with_len 0 (length w.links)) from_is (among-range 0 (length w.links) linked.among.0 (omega arith) (omega (arith, linked.among.1)))

  got_by_b : receiver w linked.among.0 ≡ b
  got_by_b = rw got linked.to

numbered-packet : (p : Packet) (number before : ℕ) (ps : List Packet) → Among p ps → (y : Sending) × Among y (numbered_sendings number before ps) × (y.packet ≡ p)
numbered-packet p number before [] a = absurd a
numbered-packet p number before (q ∷ ps) (inl e) = (record { number = number; before = before; packet = q }, inl refl, e)
numbered-packet p number before (q ∷ ps) (inr a) = let r = numbered-packet p (suc number) (suc before) ps a in (r.0, inr r.1, r.2)

pub not_lost : (w : World) (y : Sending) (j : ℕ) → loss w j ≡ 0 → is_lost w y j ≡ false
not_lost w y j none = by (is_lost w y j) refl where
  by : (b : Bool) → is_lost w y j ≡ b → b ≡ false
  by false is = refl
  by true is = let below : stream_word w (128 + j) y.before % 1000 < loss w j = ltb-true _ _ is in absurd (omega (arith, below, none))

-- a packet that an event sends is due at the other end of each link of its node
pub sent-due : (w : World) (s : WorldState) (m : Moment) (p : Packet) (j : ℕ) → Among p (packets_of w s m) → Among j (links_from w (event_node w m.cause)) → LosesNone w j s m
    → (number : ℕ) × Among (event.Deliver j number p) ((after_moment w s m).due (m.time + w.description.radio.delay))
sent-due w s m p j sends leaves keeps = (y.0.number, due-new w s m (m.time + w.description.radio.delay) (event.Deliver j y.0.number p) scheduled) where
  node : ℕ
  node = event_node w m.cause

  y : (y : Sending) × Among y (sendings w s (event_node w m.cause) (packets_of w s m)) × (y.packet ≡ p)
  y = numbered-packet p _ _ (packets_of w s m) sends

  x : Scheduled
  x = at (m.time + w.description.radio.delay) (event.Deliver j y.0.number p)

  one : Among x (deliveries w (event_node w m.cause) m.time y.0)
  one = among-map_of _ x j (links_from w (event_node w m.cause)) leaves (rw (keeps y.0 y.1) (inl (ap (λ (q : Packet). at (m.time + w.description.radio.delay) (event.Deliver j y.0.number q)) y.2)))

  scheduled : Among x (schedules w s m)
  scheduled = among-right x (next_period w m.cause m.time) _ (among-right x (new_interval (event_node w m.cause) _ _) _ (among-left x (flat_map (deliveries w (event_node w m.cause) m.time) (sendings w s (event_node w m.cause) (packets_of w s m))) _
      (among-map_of (deliveries w (event_node w m.cause) m.time) x y.0 (sendings w s (event_node w m.cause) (packets_of w s m)) y.1 one)))

pub arrives : (w : World) (now rest : List Moment) (t by j number : ℕ) (p : Packet) → HaveCome w (rest ++ now) → IsDone (state w (rest ++ now)) by → t ≤ by
    → Among (event.Deliver j number p) ((state w now).due t) → HasEvent rest t (event.Deliver j number p)
arrives w now rest t by j number p come done early waits = elim (come-along w now rest t (event.Deliver j number p) come waits) [
  | inl (inl found) ↦ found
  | inl (inr cut) ↦ (let clash : true ≡ false = cut.cancels in cc)
  | inr still ↦ absurd (none-among (event.Deliver j number p) _ (done t early) still)
]

-- ---- what the four kinds of events do

-- the same event with its cause written out
with_cause : Moment → Cause → Moment
with_cause m c = record { time = m.time; cause = c; told = m.told; pace = m.pace }

-- what a node that got a packet knows then
pub got-exchange : (w : World) (s : WorldState) (m : Moment) (j number : ℕ) (p : Packet) → m.cause ≡ event.Deliver j number p
    → ((after_moment w s m).nodes (receiver w j)).exchange ≡ (of_packet w (s.nodes (receiver w j)).exchange p).happened ++ (s.nodes (receiver w j)).exchange
got-exchange w s m j number p is =
    let Goal : Moment → Type 0 = λ x. ((after_moment w s x).nodes (receiver w j)).exchange ≡ (of_packet w (s.nodes (receiver w j)).exchange p).happened ++ (s.nodes (receiver w j)).exchange in
    let n : Moment = record { time = m.time; cause = event.Deliver j number p; told = m.told; pace = m.pace } in
    let same : m ≡ n = λ i. record { time = m.time; cause = is i; told = m.told; pace = m.pace } in
    subst Goal (sym same) (ap (λ (x : Node). x.exchange) (nodes-here w s n))

-- what a node that got a packet sends
pub got-sends : (w : World) (s : WorldState) (m : Moment) (j number : ℕ) (p q : Packet) → m.cause ≡ event.Deliver j number p → Among q (of_packet w (s.nodes (receiver w j)).exchange p).sends → Among q (packets_of w s m)
got-sends w s m j number p q is among =
    let Goal : Moment → Type 0 = λ x. Among q (packets_of w s x) in
    let n : Moment = record { time = m.time; cause = event.Deliver j number p; told = m.told; pace = m.pace } in
    let same : m ≡ n = λ i. record { time = m.time; cause = is i; told = m.told; pace = m.pace } in
    subst Goal (sym same) (among-left q (of_packet w (s.nodes (receiver w j)).exchange p).sends (messages w m.told) among)

abbrev pub own_status : Version → ℕ → Packet
own_status v missing = Status (record { 0 = v.handler }) v.version missing

pub among-map : {X Y : Type 0} (f : X → Y) (x : X) (xs : List X) → Among x xs → Among (f x) (map f xs)
among-map f x [] a = absurd a
among-map f x (y ∷ xs) (inl e) = inl (ap f e)
among-map f x (y ∷ xs) (inr a) = inr (among-map f x xs a)

-- a Vector with the version: the node seeks it, and has a fragment or asks for it
pub vector-got : (w : World) (v : Version) (hs : List Happening) (versions : ArrayVec ℕ) (i : ℕ) → IsWorldVersion w v → AreTame v (heard_since v.handler hs) → IsTame v (Vector versions) → slice_index versions.items v.handler ≡ v.version → i < count_of v.image
    → Seeks v (λ k. k ≡ i) (Hears (Vector versions) ∷ hs)
    ⊎ (Seeks v (λ k. ⊥) (Hears (Vector versions) ∷ hs) × (missing : ℕ) × Among (own_status v missing) (asks_after (handlers w) (Vector versions) hs) × (bit_at missing i ≡ 1))
vector-got w v hs versions i right all tame is below = elim (cases_lt (held_version v.handler hs) v.version) [
  | inr not_less ↦ inl (inl (omega (arith, not_less)))
  | inl less ↦ seeking less
] where
  new : List Happening
  new = Hears (Vector versions) ∷ hs

  tame_new : AreTame v (heard_since v.handler (Hears (Vector versions) ∷ hs))
  tame_new = each-push (IsTame v) (heard_since v.handler hs) (Vector versions) all tame

  seeking : held_version v.handler hs < v.version → Seeks v (λ k. k ≡ i) (Hears (Vector versions) ∷ hs)
      ⊎ (Seeks v (λ k. ⊥) (Hears (Vector versions) ∷ hs) × (missing : ℕ) × Among (own_status v missing) (asks_after (handlers w) (Vector versions) hs) × (bit_at missing i ≡ 1))
  seeking less = by (is_some (collected_at (target_parts v.handler (Hears (Vector versions) ∷ hs)) i)) refl where
    target : target_version v.handler (Hears (Vector versions) ∷ hs) ≡ v.version
    target = target-set v hs versions is less all

    missing : ℕ
    missing = mask_of (gaps (places_of (target_parts v.handler (Hears (Vector versions) ∷ hs))))

    asked : Among (own_status v (mask_of (gaps (places_of (target_parts v.handler (Hears (Vector versions) ∷ hs)))))) (asks_after (handlers w) (Vector versions) hs)
    asked = subst (λ (t : ℕ). Among (Status (record { 0 = v.handler }) t (mask_of (gaps (places_of (target_parts v.handler (Hears (Vector versions) ∷ hs)))))) (asks_after (handlers w) (Vector versions) hs)) target
        (among-map (ask_for (Hears (Vector versions) ∷ hs)) v.handler (filter (λ h. nat_lt (held_version h hs) (slice_index versions.items h)) (range_with_len 0 (handlers w)))
        (among-filter (λ h. nat_lt (held_version h hs) (slice_index versions.items h)) v.handler (range_with_len 0 (handlers w)) (lt-ltb _ _ (omega (arith, is, less))) (among-range 0 (handlers w) v.handler (omega arith) (omega (arith, right.handler)))))

    by : (b : Bool) → is_some (collected_at (target_parts v.handler (Hears (Vector versions) ∷ hs)) i) ≡ b → Seeks v (λ k. k ≡ i) (Hears (Vector versions) ∷ hs)
        ⊎ (Seeks v (λ k. ⊥) (Hears (Vector versions) ∷ hs) × (missing : ℕ) × Among (own_status v missing) (asks_after (handlers w) (Vector versions) hs) × (bit_at missing i ≡ 1))
    by true has = inl (inr ((target, less), λ k same. subst (λ (n : ℕ). Has (target_parts v.handler (Hears (Vector versions) ∷ hs)) n) (sym same) has))
    by false lacks = inr (
      inr ((target, less), λ k no_one. absurd no_one),
      mask_of (gaps (places_of (target_parts v.handler (Hears (Vector versions) ∷ hs)))),
      asked,
      asks-gap v (target_parts v.handler (Hears (Vector versions) ∷ hs)) i (parts-alike v (Hears (Vector versions) ∷ hs) target tame_new) right.few below lacks,
    )

-- a Status for the held version marks what it asks for
pub status-got : (v : Version) (hs : List Happening) (missing i : ℕ) → held_version v.handler hs ≡ v.version → held_image v.handler hs ≡ v.image → i < count_of v.image → i < 22 → bit_at missing i ≡ 1
    → is_marked_slot (Hears (own_status v missing) ∷ hs) (22 * v.handler + i) ≡ true
status-got v hs missing i held image below few bit = subst (λ (h : ℕ). is_marked h ((22 * v.handler + i) % 22) (Hears (own_status v missing) ∷ hs) ≡ true) (sym handler_is)
    (subst (λ (k : ℕ). is_marked v.handler k (Hears (own_status v missing) ∷ hs) ≡ true) (sym index_is) (rw asked refl)) where
      handler_is : (22 * v.handler + i) / 22 ≡ v.handler
      handler_is = omega (arith, few)

      index_is : (22 * v.handler + i) % 22 ≡ i
      index_is = omega (arith, few)

      same : (n : ℕ) → (n == n) ≡ true
      same n = elim (eqb_tells n n) [ inl e ↦ e.0 | inr e ↦ absurd (e.1 refl) ]

      below_image : nat_lt i (count_of (held_image v.handler hs)) ≡ true
      below_image = subst (λ (bytes : List ℕ). nat_lt i (count_of bytes) ≡ true) (sym image) (lt-ltb _ _ below)

      version_is : (v.version == held_version v.handler hs) ≡ true
      version_is = subst (λ (n : ℕ). (v.version == n) ≡ true) (sym held) (same v.version)

      bit_is : (bit_at missing i == 1) ≡ true
      bit_is = subst (λ (n : ℕ). (n == 1) ≡ true) (sym bit) refl

      asked : asks_of v.handler i (own_status v missing) hs ≡ true
      asked = rw (same v.handler, version_is, below_image, bit_is) refl

abbrev pub own_fragment : Version → ℕ → Packet
own_fragment v i = Fragment (record { 0 = v.handler }) v.version i (count_of v.image) (nat_lt 528 (length v.image)) (record { items = piece_at v.image i })

-- what the pump sends for a slot of the version
pub fragment-is : (v : Version) (hs : List Happening) (i : ℕ) → held_version v.handler hs ≡ v.version → held_image v.handler hs ≡ v.image → i < 22 → fragment_for hs (22 * v.handler + i) ≡ own_fragment v i
fragment-is v hs i held image few =
    let handler_is : (22 * v.handler + i) / 22 ≡ v.handler = omega (arith, few) in
    let index_is : (22 * v.handler + i) % 22 ≡ i = omega (arith, few) in
    let F : ℕ → ℕ → ℕ → List ℕ → Packet = λ h k version bytes. Fragment (record { 0 = h }) version k (count_of bytes) (nat_lt 528 (length bytes)) (record { items = piece_at bytes k }) in
    ap (λ (h : ℕ). F h ((22 * v.handler + i) % 22) (held_version h hs) (held_image h hs)) handler_is
    ∙ ap (λ (k : ℕ). F v.handler k (held_version v.handler hs) (held_image v.handler hs)) index_is
    ∙ ap (λ (version : ℕ). F v.handler i version (held_image v.handler hs)) held
    ∙ ap (λ (bytes : List ℕ). F v.handler i v.version bytes) image
