-- A version passes over an open window, and along a path of them.
use Rattle.std.proofs.Common.{◌≡◌, ◌<◌, ◌≤◌, ℕ, ◌+◌, ◌*◌, Bool, true, false, cond, List, [], ◌∷◌, ◌++◌, map, length, refl, sym, ◌∙◌, ap, subst, arith, inl, inr, ◌⊎◌}
use Rattle.std.specs.Prelude.{nat_lt, slice_get, ◌==◌, if◌then◌else◌}
use Rattle.std.specs.List.{filter}
use Rattle.std.proofs.lemmas.Bool.{cases_lt, ltb-false}
use Rattle.std.proofs.lemmas.Bool.Decides.{eqb_tells}
use Rattle.mate_num.specs.Lists.{Among}
use Rattle.vm_shape.specs.Limits.{longest}
use Rattle.capsule_codec.specs.Fragments.{count_of}
use Rattle.mate_journal.specs.Machine.{HeldProgram}
use Rattle.packet_codec.specs.declared.packet.Packet.{Packet}
use Rattle.packet_codec.specs.declared.packet.Packet.TheVariants.{Vector, Status, Fragment, App}
use Rattle.trickle_timer.specs.Intervals as trickle
use Rattle.trickle_timer.specs.declared.timer.Fire.TheVariants as fire
use Rattle.capsule_exchange.specs.Happenings.{Happening, Hears, Installs, held_version, held_image, heard_since, version_in, greatest, complete_version}
use Rattle.world_rules.specs.Cause.{Cause}
use Rattle.world_rules.specs.Cause as event
use Rattle.world_rules.specs.World.{World, handlers}
use Rattle.world_rules.specs.Effect.{Node, NodeEffect, Installing, node_effect, event_node}
use Rattle.world_rules.specs.State.{Moment, node_at, effect_at, state}
use Rattle.world_rules.specs.Run.{HaveCome, IsDone}
use Rattle.world_laws.specs.Newest.{Version, IsWorldVersion}
use Rattle.world_laws.specs.Versions.{WasInjected, IsOneImage}
use Rattle.world_laws.specs.HopBound.{version_of}
use Rattle.world_laws.specs.Passing.{Hop, IsHop, LetsPass, up_to, version_at, IsBetween, IsHeardBetween, IsOpenWindow, Leg, path_end, IsRightNetwork, WindowsPass, PathsPass, InjectionsPass}
use Rattle.world_laws.proofs.Points.{among-next, earlier-come, nodes-here, nodes-other}
use Rattle.world_laws.proofs.Happens.{Happens, nothing, injected, heard, completed, forgot, sent, happens}
use Rattle.world_laws.proofs.Collect.{IsTame, AreTame, complete-stays, complete-other}
use Rattle.world_laws.proofs.Injected.{IsOfInjected, AreOfInjected, HoldsInjected, later-injected, one-injected}
use Rattle.world_laws.proofs.Versions.{option-injects, run-injected}
use Rattle.world_laws.proofs.Newer.{line-newer}
use Rattle.world_laws.proofs.Installs.{held_never_falls}
use Rattle.world_laws.proofs.Hop.{Lets, LetAll, Holder, Least, At, IsOpenTo}
use Rattle.world_laws.proofs.Stages.{Speaks, speaks-loud, hop_passes}
use Rattle.world_laws.proofs.Runs.{Part, part, up-to-last, come-up-to, done-up-to, held-rises, reach, each-over, between, in-part}
use Rattle.world_laws.proofs.HopBound.{inject-held}

-- ---- nothing complete waits for an install

waits-installs : (h g version : ℕ) (image : List ℕ) (hs : List Happening) → ((g ≡ h → ⊥) → complete_version h hs ≡ 0) → complete_version h (Installs g version image ∷ hs) ≡ 0
waits-installs h g version image hs none = elim (eqb_tells g h) [ inl e ↦ rw e.0 refl | inr e ↦ rw e.0 (none e.1) ]

waits-step : (w : World) (h : ℕ) (hs : List Happening) (c : Cause) (e : NodeEffect) → Happens w hs c e → complete_version h hs ≡ 0 → complete_version h (e.happened ++ hs) ≡ 0
waits-step w h hs c e how none = by how where
  Goal : List Happening → Type 0
  Goal new = complete_version h (new ++ hs) ≡ 0

  by : Happens w hs c e → complete_version h (e.happened ++ hs) ≡ 0
  by (nothing is) = subst Goal (sym is) none
  by (injected x p cause is deed) = subst Goal (sym is) (waits-installs h p.handler.0 p.version p.image.items hs (λ other. none))
  by (heard j number packet cause is by_none) = subst Goal (sym is) (complete-stays h packet hs by_none none)
  by (completed j number packet p cause is deed complete same) = subst Goal (sym is)
      (waits-installs h p.handler.0 p.version p.image.items (Hears packet ∷ hs) (λ other. complete-other h packet hs p.handler complete other none))
  by (forgot is deed) = subst Goal (sym is) refl
  by (sent k slot cause is next) = subst Goal (sym is) none

none-waits : (w : World) (h k : ℕ) (ms : List Moment) → complete_version h ((state w ms).nodes k).exchange ≡ 0
none-waits w h k [] = refl
none-waits w h k (m ∷ before) = elim (eqb_tells k (event_node w m.cause)) [
  | inr other ↦ subst (λ (n : Node). complete_version h n.exchange ≡ 0) (sym (nodes-other w (state w before) m k other.1)) (none-waits w h k before)
  | inl same ↦ subst (λ (i : ℕ). complete_version h ((state w (m ∷ before)).nodes i).exchange ≡ 0) (sym same.1)
      (subst (λ (n : Node). complete_version h n.exchange ≡ 0) (sym (nodes-here w (state w before) m))
      (waits-step w h (node_at w (state w before) m).exchange m.cause (effect_at w (state w before) m) (happens w (node_at w (state w before) m) m.cause) (none-waits w h (event_node w m.cause) before)))
]

-- ---- what is heard is of the version or of older ones

later-all : (w : World) (front ms : List Moment) (h version : ℕ) (image : List ℕ) → WasInjected w ms h version image → WasInjected w (front ++ ms) h version image
later-all w [] ms h version image was = was
later-all w (m ∷ front) ms h version image was = later-injected w m (front ++ ms) h version image (later-all w front ms h version image was)

tame-of : (w : World) (ms : List Moment) (v : Version) (p : Packet) → IsOneImage w → WasInjected w ms v.handler v.version v.image → IsOfInjected w ms p → version_in v.handler p ≤ v.version → IsTame v p
tame-of w ms v (Vector versions) one was of most = most
tame-of w ms v (Fragment g version index count large bytes) one was of most = λ same. (lower same (g.0 == v.handler) refl most, λ is. alike same is) where
  lower : g.0 ≡ v.handler → (b : Bool) → (g.0 == v.handler) ≡ b → (if b then version else 0) ≤ v.version → version ≤ v.version
  lower same true is most = most
  lower same false is most = elim (eqb_tells g.0 v.handler) [ inl e ↦ (let clash : true ≡ false = sym e.0 ∙ is in cc) | inr e ↦ absurd (e.1 same) ]

  alike : g.0 ≡ v.handler → version ≡ v.version → (count ≡ count_of v.image) × (large ≡ nat_lt 528 (length v.image))
  alike same is =
      let own : WasInjected w ms v.handler v.version of.0 = subst (λ (n : ℕ). WasInjected w ms v.handler n of.0) is (subst (λ (k : ℕ). WasInjected w ms k version of.0) same of.1) in
      let image : of.0 ≡ v.image = one-injected w ms v.handler v.version of.0 v.image one own was in
      (of.2 ∙ ap count_of image, of.4 ∙ ap (λ (xs : List ℕ). nat_lt 528 (length xs)) image)
tame-of w ms v (Status g version missing) one was of most = tt
tame-of w ms v (App payload) one was of most = tt

each-tame : (w : World) (ms : List Moment) (v : Version) (limit : ℕ) (ps : List Packet) → IsOneImage w → WasInjected w ms v.handler v.version v.image → limit ≤ v.version
    → greatest (filter (nat_lt limit) (map (version_in v.handler) ps)) ≤ v.version → AreOfInjected w ms ps → AreTame v ps
each-tame w ms v limit [] one was low most all = tt
each-tame w ms v limit (p ∷ ps) one was low most all = by (nat_lt limit (version_in v.handler p)) refl most (λ top. each-tame w ms v limit ps one was low top all.1) where
  by : (b : Bool) → nat_lt limit (version_in v.handler p) ≡ b → greatest (cond b (version_in v.handler p ∷ filter (nat_lt limit) (map (version_in v.handler) ps)) (filter (nat_lt limit) (map (version_in v.handler) ps))) ≤ v.version
      → (greatest (filter (nat_lt limit) (map (version_in v.handler) ps)) ≤ v.version → AreTame v ps) → AreTame v (p ∷ ps)
  by true is top rest = (tame-of w ms v p one was all.0 (omega (arith, top)), rest (omega (arith, top)))
  by false is top rest = (tame-of w ms v p one was all.0 (let over : version_in v.handler p ≤ limit = ltb-false _ _ is in omega (arith, over, low)), rest top)

-- ---- a window

due-then : (w : World) (ms : List Moment) (m : Moment) (c : Cause) → HaveCome w (m ∷ ms) → m.cause ≡ c → Among c ((state w ms).due m.time)
due-then w ms m c come cause = subst (λ (d : Cause). Among d ((state w ms).due m.time)) cause (among-next (state w ms) m.time m.cause come.1.next)

-- a line that injects for the handler injects something newer than a node held before
rises : (w : World) (older base : List Moment) (m : Moment) (k h line : ℕ) (p : HeldProgram) → IsRightNetwork w → HaveCome w (m ∷ (older ++ base)) → 1 ≤ held_version h ((state w base).nodes k).exchange
    → m.cause ≡ event.Planned line → (effect_at w (state w (older ++ base)) m).deed ≡ Installing p → p.handler.0 ≡ h → held_version h ((state w base).nodes k).exchange ≤ p.version
rises w older base m k h line p net come some cause deed own =
    let grows : held_version h ((state w base).nodes k).exchange ≤ held_version h ((state w (older ++ base)).nodes k).exchange = held_never_falls w k h base older come.0 in
    let injects = option-injects (slice_get w.plan line) p (subst (λ (c : Cause). (node_effect w (node_at w (state w (older ++ base)) m) c).deed ≡ Installing p) cause deed) in
    let newer_line : held_version h ((state w (older ++ base)).nodes k).exchange < p.version
    = line-newer w (older ++ base) k h line m.time p net.plan.one_image net.plan.timely net.plan.rising come.0 (due-then w (older ++ base) m (event.Planned line) come cause) injects own (omega (arith, grows, some)) in
    omega (arith, grows, newer_line)

-- the events of a window let the version pass
lets-one : (w : World) (older base : List Moment) (m : Moment) (v : Version) (x : Hop) → IsRightNetwork w → HaveCome w (m ∷ (older ++ base)) → At w (Holder v) x.from base → 1 ≤ v.version → WasInjected w base v.handler v.version v.image
    → LetsPass w x v.handler v.version (state w (older ++ base)) m → Lets w v x (state w (older ++ base)) m
lets-one w older base m v x net come holds low was let_it = record {
  spares = let_it.spares;
  there = let_it.there;
  no_reset = let_it.no_reset;
  rising = λ here line p cause deed own.
      let newer : held_version v.handler ((state w base).nodes x.from).exchange ≤ p.version
      = rises w older base m x.from v.handler line p net come (subst (λ (n : ℕ). 1 ≤ n) (sym holds.0) low) cause deed own in
      subst (λ (n : ℕ). n ≤ p.version) holds.0 newer;
  tame = λ here j number p cause. tame-of w (older ++ base) v p net.plan.one_image (later-all w older base v.handler v.version v.image was)
      ((run-injected w (older ++ base) net.plan.one_image come.0).air m.time j number p (due-then w (older ++ base) m (event.Deliver j number p) come cause)) (let_it.none_newer here j number p cause);
  back = let_it.back;
}

lets-all : (w : World) (ms : List Moment) (start by : ℕ) (cut : Part start by ms) (v : Version) (x : Hop) → IsRightNetwork w → HaveCome w ms → At w (Holder v) x.from (up_to start ms) → 1 ≤ v.version
    → WasInjected w (up_to start ms) v.handler v.version v.image → ((m : Moment) (older : List Moment) → IsBetween ms start by m older → LetsPass w x v.handler v.version (state w older) m) → LetAll w v x (up_to start ms) cut.later
lets-all w ms start by cut v x net come holds low was passes = each-over (λ m older. Lets w v x (state w (older ++ up_to start ms)) m) cut.later one where
  one : (newer older : List Moment) (m : Moment) → cut.later ≡ newer ++ m ∷ older → Lets w v x (state w (older ++ up_to start ms)) m
  one newer older m is =
      let is_between : IsBetween ms start by m (older ++ up_to start ms) = between w start by ms cut newer older m come is in
      let come_then : HaveCome w (m ∷ (older ++ up_to start ms)) = earlier-come w (m ∷ (older ++ up_to start ms)) is_between.newer (subst (λ (xs : List Moment). HaveCome w xs) is_between.split come) in
      lets-one w older (up_to start ms) m v x net come_then holds low was (passes m (older ++ up_to start ms) is_between)

-- a Vector that is heard in the window is among its events
speaks-in : (w : World) (ms : List Moment) (k start until by : ℕ) (cut : Part start by ms) → HaveCome w ms → IsHeardBetween w ms k start until → until ≤ by → Speaks w k until (up_to start ms) cut.later
speaks-in w ms k start until by cut come found early =
    let place = in-part w start by until ms cut found.moment found.older come found.between early in
    record {
      moment = found.moment;
      newer = place.0;
      older = place.1;
      split = place.2;
      cause = found.cause;
      sends = subst (λ (xs : List Moment). trickle.at_point ((state w xs).nodes k).timer.set ((state w xs).nodes k).timer.running w.suppress ≡ fire.Send) place.3 found.sends;
      in_time = found.between.in_time;
    }

-- over an open window the version passes
over-window : (w : World) (ms : List Moment) (start by : ℕ) (cut : Part start by ms) (v : Version) (x : Hop) → IsRightNetwork w → HaveCome w ms → IsHop w x → IsWorldVersion w v → At w (Holder v) x.from (up_to start ms)
    → LetAll w v x (up_to start ms) cut.later → IsDone (state w ms) by → IsOpenTo v ((state w (up_to start ms)).nodes x.to).exchange
    → ((w.suppress ≡ false) × (start + 3 * longest w.description.trickle ≤ by)) ⊎ ((until : ℕ) × (until + longest w.description.trickle ≤ by) × IsHeardBetween w ms x.from start until)
    → At w (Least v) x.to (cut.later ++ up_to start ms)
over-window w ms start by cut v x net come hop right holds lets done opened heard_ = how heard_ where
  come_cut : HaveCome w (cut.later ++ up_to start ms)
  come_cut = subst (λ (xs : List Moment). HaveCome w xs) cut.split (come-up-to w by ms come)

  done_cut : IsDone (state w (cut.later ++ up_to start ms)) by
  done_cut = subst (λ (xs : List Moment). IsDone (state w xs) by) cut.split (done-up-to w by ms come done)

  how : ((w.suppress ≡ false) × (start + 3 * longest w.description.trickle ≤ by)) ⊎ ((until : ℕ) × (until + longest w.description.trickle ≤ by) × IsHeardBetween w ms x.from start until)
      → At w (Least v) x.to (cut.later ++ up_to start ms)
  how (inl loud) = (
      let room = loud.1 in
      hop_passes w v x (start + 2 * longest w.description.trickle) by (up_to start ms) cut.later net.set net.round right hop (omega (arith, room)) (record { come = come_cut; let_all = lets; done = done_cut })
      (speaks-loud w v x start (up_to start ms) cut.later net.set loud.0 hop come_cut lets (up-to-last start ms) (λ t early. done_cut t (omega (arith, early, room)))) holds opened)
  how (inr found) = (
      let room = found.1 in
      hop_passes w v x found.0 by (up_to start ms) cut.later net.set net.round right hop found.1 (record { come = come_cut; let_all = lets; done = done_cut })
      (speaks-in w ms x.from start found.0 by cut come found.2 (omega (arith, room))) holds opened)

-- a version that was injected is one of the world's
world-version : (w : World) (ms : List Moment) (h version : ℕ) (image : List ℕ) → IsRightNetwork w → WasInjected w ms h version image → IsWorldVersion w (record { handler = h; version = version; image = image })
world-version w ms h version image net was =
    let r : IsWorldVersion w (version_of was.program) = net.versions was.place was.program was.injects in
    record {
      handler = subst (λ (k : ℕ). k < handlers w) was.handler r.handler;
      low = subst (λ (n : ℕ). 1 ≤ n) was.version_is r.low;
      some = subst (λ (xs : List ℕ). 1 ≤ count_of xs) was.image_is r.some;
      few = subst (λ (xs : List ℕ). count_of xs ≤ 22) was.image_is r.few;
    }

-- where the sender holds something
from-held : (w : World) (ms : List Moment) (h : ℕ) (x : Hop) (start by : ℕ) → IsRightNetwork w → HaveCome w ms → IsHop w x → start ≤ by → IsOpenWindow w ms h x start by → IsDone (state w ms) by
    → 1 ≤ version_at w ms x.from h start → WasInjected w (up_to start ms) h (version_at w ms x.from h start) (held_image h ((state w (up_to start ms)).nodes x.from).exchange)
    → version_at w ms x.from h start ≤ version_at w ms x.to h by
from-held w ms h x start by net come hop forward window done some was =
    subst (λ (xs : List Moment). version_at w ms x.from h start ≤ held_version h ((state w xs).nodes x.to).exchange) (sym cut.split)
    (elim (cases_lt (held_version h ((state w (up_to start ms)).nodes x.to).exchange) (version_at w ms x.from h start)) [
      | inr least ↦ kept least
      | inl less ↦ over-window w ms start by cut v x net come hop (world-version w (up_to start ms) h (version_at w ms x.from h start) (held_image h ((state w (up_to start ms)).nodes x.from).exchange) net was) (refl, refl)
          (lets-all w ms start by cut v x net come (refl, refl) some was window.passes) done (opened less) window.heard
    ]) where
      cut : Part start by ms
      cut = part start by ms forward

      v : Version
      v = record { handler = h; version = version_at w ms x.from h start; image = held_image h ((state w (up_to start ms)).nodes x.from).exchange }

      come_base : HaveCome w (up_to start ms)
      come_base = come-up-to w start ms come

      kept : version_at w ms x.from h start ≤ held_version h ((state w (up_to start ms)).nodes x.to).exchange
          → version_at w ms x.from h start ≤ held_version h ((state w ((part start by ms forward).later ++ up_to start ms)).nodes x.to).exchange
      kept least =
          let come_cut : HaveCome w ((part start by ms forward).later ++ up_to start ms) = subst (λ (xs : List Moment). HaveCome w xs) (part start by ms forward).split (come-up-to w by ms come) in
          let grows : held_version h ((state w (up_to start ms)).nodes x.to).exchange ≤ held_version h ((state w ((part start by ms forward).later ++ up_to start ms)).nodes x.to).exchange
          = held_never_falls w x.to h (up_to start ms) (part start by ms forward).later come_cut in
          omega (arith, least, grows)

      opened : held_version h ((state w (up_to start ms)).nodes x.to).exchange < version_at w ms x.from h start
          → IsOpenTo (record { handler = h; version = version_at w ms x.from h start; image = held_image h ((state w (up_to start ms)).nodes x.from).exchange }) ((state w (up_to start ms)).nodes x.to).exchange
      opened less = record {
        heard_tame = each-tame w (up_to start ms) (record { handler = h; version = version_at w ms x.from h start; image = held_image h ((state w (up_to start ms)).nodes x.from).exchange })
            (held_version h ((state w (up_to start ms)).nodes x.to).exchange) (heard_since h ((state w (up_to start ms)).nodes x.to).exchange) net.plan.one_image was
            (omega (arith, less)) window.aims (((run-injected w (up_to start ms) net.plan.one_image come_base).nodes x.to).heard_of h);
        none_waits = none-waits w h x.to (up_to start ms);
      }

pub windows_pass : (w : World) → IsRightNetwork w → WindowsPass w
windows_pass w net ms h x start by come hop forward window done = elim (cases_lt 0 (version_at w ms x.from h start)) [
  | inr none ↦ omega (arith, none)
  | inl some ↦ held (((run-injected w (up_to start ms) net.plan.one_image (come-up-to w start ms come)).nodes x.from).holds h) (omega (arith, some))
] where
  held : HoldsInjected w (up_to start ms) ((state w (up_to start ms)).nodes x.from).exchange h → 1 ≤ version_at w ms x.from h start → version_at w ms x.from h start ≤ version_at w ms x.to h by
  held (inl none) some = let zero_is : version_at w ms x.from h start ≡ 0 = none.0 in omega (arith, zero_is)
  held (inr was) some = from-held w ms h x start by net come hop forward window done some was

-- ---- a path

end-after : (xs : List Leg) (t : ℕ) → t ≤ path_end xs t
end-after [] t = omega arith
end-after (x ∷ xs) t = let rest : t + x.wait + x.lasts ≤ path_end xs (t + x.wait + x.lasts) = end-after xs (t + x.wait + x.lasts) in omega (arith, rest)

pub paths_pass : (w : World) → IsRightNetwork w → PathsPass w
paths_pass w net ms h a b t [] come lead windows done = subst (λ (k : ℕ). version_at w ms a h t ≤ version_at w ms k h t) lead (omega arith)
paths_pass w net ms h a b t (x ∷ xs) come lead windows done =
    let waited : version_at w ms a h t ≤ version_at w ms x.hop.from h (t + x.wait)
    = subst (λ (k : ℕ). version_at w ms k h t ≤ version_at w ms x.hop.from h (t + x.wait)) lead.0 (held-rises w ms x.hop.from h t (t + x.wait) come (omega arith)) in
    let ends : t + x.wait + x.lasts ≤ path_end xs (t + x.wait + x.lasts) = end-after xs (t + x.wait + x.lasts) in
    let passed : version_at w ms x.hop.from h (t + x.wait) ≤ version_at w ms x.hop.to h (t + x.wait + x.lasts)
    = windows_pass w net ms h x.hop (t + x.wait) (t + x.wait + x.lasts) come lead.1 (omega arith) windows.0 (λ u early. done u (omega (arith, early, ends))) in
    let rest : version_at w ms x.hop.to h (t + x.wait + x.lasts) ≤ version_at w ms b h (path_end xs (t + x.wait + x.lasts))
    = paths_pass w net ms h x.hop.to b (t + x.wait + x.lasts) xs come lead.2 windows.1 done in
    omega (arith, waited, passed, rest)

pub injections_pass : (w : World) → IsRightNetwork w → InjectionsPass w
injections_pass w net newer before m i b p xs come cause injects lead windows done =
    let found = reach m.time newer before m (omega arith) in
    let come_then : HaveCome w (found.0 ++ m ∷ before) = subst (λ (ms : List Moment). HaveCome w ms) found.1 (come-up-to w m.time (newer ++ m ∷ before) come) in
    let grows : held_version p.handler.0 ((state w (m ∷ before)).nodes (event_node w m.cause)).exchange ≤ held_version p.handler.0 ((state w (found.0 ++ m ∷ before)).nodes (event_node w m.cause)).exchange
    = held_never_falls w (event_node w m.cause) p.handler.0 (m ∷ before) found.0 come_then in
    let first : held_version p.handler.0 ((state w (m ∷ before)).nodes (event_node w m.cause)).exchange ≡ p.version = inject-held w (state w before) m i p cause injects in
    let holds : p.version ≤ version_at w (newer ++ m ∷ before) (event_node w m.cause) p.handler.0 m.time
    = subst (λ (ms : List Moment). p.version ≤ held_version p.handler.0 ((state w ms).nodes (event_node w m.cause)).exchange) (sym found.1) (omega (arith, grows, first)) in
    let passed = paths_pass w net (newer ++ m ∷ before) p.handler.0 (event_node w m.cause) b m.time xs come lead windows done in
    omega (arith, holds, passed)
