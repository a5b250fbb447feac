-- A report keeps the windows: what it shows of a window makes it open in the run.
use Rattle.std.proofs.Common.{◌≡◌, ◌<◌, ◌≤◌, ℕ, ◌+◌, ◌*◌, ◌^◌, Bool, true, false, List, [], ◌∷◌, ◌++◌, map, refl, sym, ◌∙◌, ap, subst, arith, inl, inr, ◌⊎◌, append_assoc}
use Rattle.std.specs.Prelude.{Contains, Some, slice_index, slice_index_or, ◌==◌, if◌then◌else◌}
use Rattle.std.specs.List.{range_with_len}
use Rattle.std.proofs.lemmas.Bool.Decides.{eqb_tells}
use Rattle.mate_num.specs.Lists.{Among, Each}
use Rattle.mate_num.specs.declared.call.Stamp.{Stamp}
use Rattle.mate_num.specs.declared.id.HandlerId.{HandlerId}
use Rattle.mate_num.proofs.ListLemmas.{among-append}
use Rattle.vm_shape.specs.Limits.{longest}
use Rattle.mate_journal.specs.Journal.{Installed, Reset}
use Rattle.mate_journal.specs.NodeScript.{RunEnd}
use Rattle.mate_journal.specs.declared.air.Air.TheVariants as air
use Rattle.mate_journal.specs.declared.air.Aired.{Aired}
use Rattle.mate_journal.specs.declared.report.Report.{Report}
use Rattle.packet_codec.specs.Bytes.{packet_bytes}
use Rattle.packet_codec.specs.declared.packet.Packet.{Packet}
use Rattle.packet_codec.specs.declared.packet.Packet.TheVariants.{Vector, Fragment}
use Rattle.trickle_timer.specs.Intervals as trickle
use Rattle.trickle_timer.specs.declared.timer.Fire.TheVariants as fire
use Rattle.capsule_exchange.specs.Happenings.{heard_since, held_version, held_versions, version_in}
use Rattle.mate_journal.specs.Machine.{HeldProgram}
use Rattle.script_steps.specs.declared.world.Link.{Link}
use Rattle.script_steps.specs.declared.world.World.{World as Script}
use Rattle.world_rules.specs.Cause.{Cause}
use Rattle.world_rules.specs.Cause as event
use Rattle.world_rules.specs.World.{World, handlers, line_planned, links_from, receiver}
use Rattle.world_rules.specs.Effect.{Node, Resetting, event_node, resets}
use Rattle.world_rules.specs.State.{Moment, Sending, air_made, effect_at, is_lost, state}
use Rattle.world_rules.specs.Run.{HaveCome, IsDone, airs, stamp_of}
use Rattle.world_rules.specs.Report.{IsWorldReport}
use Rattle.world_laws.specs.Arrivals.{sent_by}
use Rattle.world_laws.specs.Passing.{Hop, IsHop, LetsPass, up_to, version_at, IsBetween, IsHeardBetween, IsOpenWindow, IsRightNetwork}
use Rattle.world_laws.specs.TimerRecords.{PointDone, point_of, points_of, point_told}
use Rattle.world_laws.proofs.AirPoints.{points_are_told}
use Rattle.world_laws.proofs.Hop.{link-at}
use Rattle.world_laws.proofs.HopBound.{times-rise}
use Rattle.world_laws.specs.Hops.{HasLink}
use Rattle.world_laws.specs.Times.{last_time}
use Rattle.world_laws.proofs.Passing.{windows_pass}
use Rattle.world_laws.specs.Silence.{WasToldBy}
use Rattle.world_laws.specs.Versions.{IsOneImage}
use Rattle.world_laws.proofs.Injected.{IsOfInjected}
use Rattle.world_laws.proofs.Periods.{among-in_filter_map}
use Rattle.world_laws.proofs.Silence.{vectors_come_from_holders}
use Rattle.world_laws.proofs.Versions.{run-injected}
use Rattle.world_laws.proofs.Points.{among-next, earlier-come}
use Rattle.world_laws.proofs.Runs.{Stands, in_back, in_front, behind, come-up-to, each-middle, held-rises, stands, up-to-last}
use Rattle.script_steps.specs.World.{IsRightLink}
use Rattle.node_programs.specs.ScriptSteps.{program_at}
use Rattle.std.proofs.lemmas.List.Elements.{All-contains, All-map}
use Rattle.world_laws.specs.Premises.{IsRightScript, AreInjectedPrograms}
use Rattle.world_run_laws.proofs.Promised.{promised-low, promised-ahead, promised-passes}
use Rattle.world_laws.proofs.Arrive.{reached_is_done}
use Rattle.world_laws.proofs.Premises.{scripts_are_networks}
use Rattle.world_run_laws.specs.SourceWorld.{source_world}
use Rattle.world_run_laws.specs.Windows.{HasTold, HasAired, FallsBetween, HasInstalled, HearsOf, Speaks, ShowsWindow, PromisesWindow, PassesTo, at_home, over_hop, ReportsKeepTheWindows}
use Rattle.world_run_laws.proofs.Fit.{held-fits}
use Rattle.world_run_laws.proofs.Heard.{AreProgramsFit, index-fits}
use Rattle.world_run_laws.proofs.Programs.{programs-fit, right-script}
use Rattle.world_run_laws.proofs.Reached.{shown_is_reached}
use Rattle.world_run_laws.proofs.Since.{WasHeard, was-heard, aims-low}
use Rattle.world_run_laws.proofs.Shown.{WasTold, told-by-event, event-tells, reset-told, told-resets, install-told, HoldsSome, installed-holds, holds-installed_by, event-airs, lost-aired, got-shown}

-- ---- a point that sends

-- one of these events is a point of the node, at this time, at which the rule decides so
record HadPoint (w : World) (ms : List Moment) (k : ℕ) (y : PointDone) : Type 0 where
  newer : List Moment
  moment : Moment
  older : List Moment
  split : ms ≡ newer ++ moment ∷ older
  cause : moment.cause ≡ event.Fire k
  time_is : moment.time ≡ y.time
  does : trickle.at_point ((state w older).nodes k).timer.set ((state w older).nodes k).timer.running w.suppress ≡ y.does

of-point : (w : World) (k : ℕ) (n : Node) (time : ℕ) (c : Cause) (y : PointDone) → Among y (point_of w k n time c) → (c ≡ event.Fire k) × (time ≡ y.time) × (trickle.at_point n.timer.set n.timer.running w.suppress ≡ y.does)
of-point w k n time (event.Fire node) y a = elim (eqb_tells node k) [
  | inl same ↦ here same.1 (subst (λ (b : Bool). Among y (if b then record { time = time; does = trickle.at_point n.timer.set n.timer.running w.suppress } ∷ [] else [])) same.0 a)
  | inr other ↦ absurd (subst (λ (b : Bool). Among y (if b then record { time = time; does = trickle.at_point n.timer.set n.timer.running w.suppress } ∷ [] else [])) other.0 a)
] where
  here : node ≡ k → Among y (record { time = time; does = trickle.at_point n.timer.set n.timer.running w.suppress } ∷ []) → (event.Fire node ≡ event.Fire k) × (time ≡ y.time) × (trickle.at_point n.timer.set n.timer.running w.suppress ≡ y.does)
  here same (inl e) = (ap (λ (i : ℕ). event.Fire i) same, ap (λ (x : PointDone). x.time) e, ap (λ (x : PointDone). x.does) e)
  here same (inr none) = absurd none
of-point w k n time _ y a = absurd a

had-point : (w : World) (ms : List Moment) (k : ℕ) (y : PointDone) → Among y (points_of w k ms) → HadPoint w ms k y
had-point w [] k y a = absurd a
had-point w (m ∷ before) k y a = elim (among-append y (points_of w k before) (point_of w k ((state w before).nodes k) m.time m.cause) a) [
  | inl old ↦ (let had = had-point w before k y old in
      record { newer = m ∷ had.newer; moment = had.moment; older = had.older; split = ap (λ (ms : List Moment). m ∷ ms) had.split; cause = had.cause; time_is = had.time_is; does = had.does })
  | inr new ↦ (let is = of-point w k ((state w before).nodes k) m.time m.cause y new in
      record { newer = []; moment = m; older = before; split = refl; cause = is.0; time_is = is.1; does = is.2 })
]

speaks-point : (w : World) (how : RunEnd) (r : Report) (of : IsWorldReport w how r) (k start by : ℕ) (is : Speaks w.description r k start by) → HadPoint w of.moments k (record { time = is.at.time; does = fire.Send })
speaks-point w how r of k start by is = had-point w of.moments k point (subst (λ (ys : List PointDone). Among point ys) (points_are_told w of.moments k)
    (among-in_filter_map (point_told k) point record_is (airs w of.moments) (subst (λ (xs : List Aired). Among record_is xs) of.air is.sent) tells)) where
      point : PointDone
      point = record { time = is.at.time; does = fire.Send }

      record_is : Aired
      record_is = record { stamp = is.at; node = k; air = air.Sent is.number (record { items = packet_bytes w.description.vm_id (Vector is.versions) }) }

      tells : point_told k record_is ≡ Some point
      tells = elim (eqb_tells k k) [ inl same ↦ rw same.0 refl | inr other ↦ absurd (other.1 refl) ]

-- ---- versions that are named have 32 bits

small-version : (w : World) (before : List Moment) (m : Moment) (j number h : ℕ) (p : Packet) → IsOneImage w → AreProgramsFit w → HaveCome w (m ∷ before) → m.cause ≡ event.Deliver j number p → version_in h p < 2 ^ 32
small-version w before m j number h (Vector versions) one fit come cause = by (vectors_come_from_holders w before m j number versions come cause) where
  by : WasToldBy w before m.time j versions → slice_index versions.items h < 2 ^ 32
  by was = subst (λ (vs : List ℕ). slice_index vs h < 2 ^ 32) (sym was.own)
      (index-fits (held_versions (handlers w) ((state w was.older).nodes was.holder).exchange) h
      (All-map (λ (v : ℕ). v < 2 ^ 32) (λ (g : ℕ). held_version g ((state w was.older).nodes was.holder).exchange) (range_with_len 0 (handlers w)) (λ k d below. held-fits w was.holder (slice_index_or (range_with_len 0 (handlers w)) k d) was.older one fit come_older))) where
        come_older : HaveCome w was.older
        come_older = (earlier-come w (was.moment ∷ was.older) was.newer (subst (λ (ms : List Moment). HaveCome w ms) was.split come.0)).0
small-version w before m j number h (Fragment g version index count large bytes) one fit come cause = by (g.0 == h) where
  of : IsOfInjected w before (Fragment g version index count large bytes)
  of = (run-injected w before one come.0).air m.time j number (Fragment g version index count large bytes)
      (subst (λ (c : Cause). Among c ((state w before).due m.time)) cause (among-next (state w before) m.time m.cause come.1.next))

  high : version < 2 ^ 32
  high = let own : of.1.program.version < 2 ^ 32 = (fit of.1.place of.1.program of.1.injects).high in let is = of.1.version_is in omega (arith, own, is)

  by : (b : Bool) → (if b then version else 0) < 2 ^ 32
  by true = high
  by false = omega arith
small-version w before m j number h _ one fit come cause = omega arith

-- ---- a window that a report shows is open

module _ (w : World) (script : Script) (how : RunEnd) (r : Report) (of : IsWorldReport w how r) (suppress : script.suppress ≡ w.suppress) (links : script.links ≡ w.links)
    (ends : (l : Link) → Contains w.links l → (l.from < w.nodes) × (l.to < w.nodes)) (net : IsRightNetwork w) (fit : AreProgramsFit w)
    (programs : ℕ → HeldProgram) (plan : w.plan ≡ map (line_planned programs) script.events) (programs_are : AreInjectedPrograms script programs) where
  come-then : (newer older : List Moment) (m : Moment) → of.moments ≡ newer ++ m ∷ older → HaveCome w (m ∷ older)
  come-then newer older m split = earlier-come w (m ∷ older) newer (subst (λ (ms : List Moment). HaveCome w ms) split of.come)

  ends-low : (a b : ℕ) → HasLink script.links a b → (a < w.nodes) × (b < w.nodes)
  ends-low a b linked =
      let own : HasLink w.links a b = subst (λ (ls : List Link). HasLink ls a b) links linked in
      let low : (own.link.from < w.nodes) × (own.link.to < w.nodes) = ends own.link own.among in
      (omega (arith, low.0, own.from), omega (arith, low.1, own.to))

  link-of : (a b : ℕ) → HasLink script.links a b → (j : ℕ) × Among j (links_from w a) × (receiver w j ≡ b)
  link-of a b linked = link-at w a b (subst (λ (ls : List Link). HasLink ls a b) links linked)

  module _ (h : HandlerId) (a b opens closes : ℕ) (shows : ShowsWindow w.description script r h a b opens closes) where
    there : (j : ℕ) × Among j (links_from w a) × (receiver w j ≡ b)
    there = link-of a b shows.there

    back : (j : ℕ) × Among j (links_from w b) × (receiver w j ≡ a)
    back = link-of b a shows.back

    a-low : a < w.nodes
    a-low = (ends-low a b shows.there).0

    pub b-low : b < w.nodes
    b-low = (ends-low a b shows.there).1

    abbrev hop : Hop
    hop = record { from = a; to = b; there = there.0; back = back.0 }

    is-hop : IsHop w hop
    is-hop = record { from_low = a-low; leaves_from = there.1; gets_there = there.2; leaves_to = back.1; gets_back = back.2 }

    pub forward : opens ≤ closes
    forward = by shows.heard where
      by : ((script.suppress ≡ false) × (opens + 3 * longest w.description.trickle ≤ closes)) ⊎ Speaks w.description r a opens closes → opens ≤ closes
      by (inl off) = let long = off.1 in omega (arith, long)
      by (inr is) = let after = is.after in let early = is.in_time in omega (arith, after, early)

    calm : (m : Moment) (older : List Moment) (k : ℕ) → (k ≡ a) ⊎ (k ≡ b) → k < w.nodes → IsBetween of.moments opens closes m older → event_node w m.cause ≡ k → resets (effect_at w (state w older) m).deed ≡ false
    calm m older k which low is node = by (resets (effect_at w (state w older) m).deed) refl where
      by : (x : Bool) → resets (effect_at w (state w older) m).deed ≡ x → x ≡ false
      by false e = refl
      by true e = absurd (shows.no_reset k (stamp_of m older) which (is.after, is.in_time)
          (event-tells w how r of is.newer older m k Reset is.split node low (reset-told w older m (come-then is.newer older m is.split) e)))

    loses : (m : Moment) (older : List Moment) (k to j : ℕ) (y : Sending) → IsBetween of.moments opens closes m older → event_node w m.cause ≡ k → Among j (links_from w k) → receiver w j ≡ to
        → (HasAired r k (stamp_of m older) (air.Lost y.number to) → ⊥) → Among y (sent_by w (state w older) m) → is_lost w y j ≡ false
    loses m older k to j y is node leaves_there gets none sends = by (is_lost w y j) refl where
      by : (x : Bool) → is_lost w y j ≡ x → x ≡ false
      by false e = refl
      by true e = absurd (none (event-airs w how r of is.newer older m k (air.Lost y.number to) is.split node
          (subst (λ (i : ℕ). Among (air.Lost y.number i) (air_made w (state w older) m)) gets
          (lost-aired w (state w older) m y j sends (subst (λ (i : ℕ). Among j (links_from w i)) (sym node) leaves_there) e))))

    -- what the receiver hears, and doesn't forget, is no newer than what the sender holds
    heard-low : (newer older : List Moment) (m : Moment) (j number : ℕ) (p : Packet) → of.moments ≡ newer ++ m ∷ older → m.cause ≡ event.Deliver j number p → receiver w j ≡ b → m.time ≤ closes
        → ((again : Stamp) → FallsBetween m.time opens again → HasTold r b again Reset → ⊥) → version_in h.0 p ≤ version_at w of.moments a h.0 opens
    heard-low newer older m j number p split cause to early kept =
        let shown = got-shown w how r of newer older m b j number p split cause to in
        let hears : HearsOf w.description r b h (version_in h.0 p) (stamp_of m older)
        = record { number = shown.number; from = shown.from; got = shown.got; sent_at = shown.sent_at; packet = p; sent = shown.sent; names = refl; fits = small-version w older m j number h.0 p net.plan.one_image fit (come-then newer older m split) cause } in
        elim (shows.none_newer (stamp_of m older) (version_in h.0 p) early hears) [
          | inl has ↦ (installed-holds w how r of a h (version_in h.0 p) opens has).1.least
          | inr again ↦ absurd (kept again.0 again.1 again.2)
        ]

    lets : (m : Moment) (older : List Moment) → IsBetween of.moments opens closes m older → LetsPass w hop h.0 (version_at w of.moments a h.0 opens) (state w older) m
    lets m older is = record {
      spares = record {
        no_reset = λ node. calm m older a (inl refl) a-low is node;
        no_install = λ p node deed own. shows.no_install (stamp_of m older) p (λ i. record { 0 = own i }) (is.after, is.in_time)
            (event-tells w how r of is.newer older m a (Installed p) is.split node a-low (install-told w older m p (come-then is.newer older m is.split) deed));
      };
      there = λ node y sends. loses m older a b there.0 y is node there.1 there.2 (shows.no_loss (stamp_of m older) y.number (is.after, is.in_time)).0 sends;
      no_reset = λ node. calm m older b (inr refl) b-low is node;
      none_newer = λ node j number p cause. heard-low is.newer older m j number p is.split cause (sym (ap (event_node w) cause) ∙ node) is.in_time
          (λ again within told. (let late = within.0 in let early = within.1 in let after = is.after in omega (arith, late, early, after)));
      back = λ node y sends. loses m older b a back.0 y is node back.1 back.2 (shows.no_loss (stamp_of m older) y.number (is.after, is.in_time)).1 sends;
    }

    come-opens : HaveCome w (up_to opens of.moments)
    come-opens = come-up-to w opens of.moments of.come

    -- a reset behind what was heard would have forgotten it
    unforgotten : (p : Packet) (was : WasHeard w (up_to opens of.moments) b p) (again : Stamp) → FallsBetween was.moment.time opens again → HasTold r b again Reset → ⊥
    unforgotten p was again within tells = by (told-by-event w how r of b again Reset (λ store e. cc) tells).1 where
      by : WasTold w of.moments b again Reset → ⊥
      by reset = outer (stands (behind opens of.moments).later (up_to opens of.moments) reset.newer reset.older reset.moment (sym (behind opens of.moments).split ∙ reset.split)) where
        time_is : reset.moment.time ≡ again.time
        time_is = ap (λ (x : Stamp). x.time) reset.at_is

        deed : (effect_at w (state w reset.older) reset.moment).deed ≡ Resetting
        deed = told-resets w reset.older reset.moment (come-then reset.newer reset.older reset.moment reset.split) reset.told

        inner : (newer : List Moment) → up_to opens of.moments ≡ newer ++ reset.moment ∷ reset.older → Stands was.newer (was.moment ∷ was.older) reset.older reset.moment → ⊥
        inner newer whole (in_front front rest at older_is) = was.kept reset.moment front rest at reset.node
            (ap (λ (ms : List Moment). (effect_at w (state w ms) reset.moment).deed) (sym older_is) ∙ deed)
        inner newer whole (in_back front at) =
            let come : HaveCome w (was.moment ∷ was.older) = earlier-come w (was.moment ∷ was.older) was.newer (subst (λ (ms : List Moment). HaveCome w ms) was.split come-opens) in
            let rises : reset.moment.time ≤ last_time (front ++ reset.moment ∷ reset.older) = times-rise w front reset.older reset.moment (subst (λ (ms : List Moment). HaveCome w ms) at come) in
            let last : last_time (front ++ reset.moment ∷ reset.older) ≡ was.moment.time = ap last_time (sym at) in
            let late = within.0 in
            omega (arith, rises, last, late, time_is)

        outer : Stands (behind opens of.moments).later (up_to opens of.moments) reset.older reset.moment → ⊥
        outer (in_front newer rest at older_is) =
            let late : opens < reset.moment.time = each-middle (λ (x : Moment). opens < x.time) newer rest reset.moment (subst (λ (xs : List Moment). Each (λ (x : Moment). opens < x.time) xs) at (behind opens of.moments).after) in
            let early = within.1 in
            omega (arith, late, early, time_is)
        outer (in_back newer at) = inner newer at (stands was.newer (was.moment ∷ was.older) newer reset.older reset.moment (sym was.split ∙ at))

    heard-before-opens : (p : Packet) → Among p (heard_since h.0 ((state w (up_to opens of.moments)).nodes b).exchange) → version_in h.0 p ≤ version_at w of.moments a h.0 opens
    heard-before-opens p heard_it = by (was-heard w b h.0 (up_to opens of.moments) p heard_it) where
      by : WasHeard w (up_to opens of.moments) b p → version_in h.0 p ≤ version_at w of.moments a h.0 opens
      by was = heard-low ((behind opens of.moments).later ++ was.newer) was.older was.moment was.link was.number p
          ((behind opens of.moments).split ∙ ap (λ (ms : List Moment). (behind opens of.moments).later ++ ms) was.split ∙ sym (append_assoc (behind opens of.moments).later was.newer (was.moment ∷ was.older)))
          was.cause was.to early (unforgotten p was) where
            early : was.moment.time ≤ closes
            early =
                let rises : was.moment.time ≤ last_time (was.newer ++ was.moment ∷ was.older) = times-rise w was.newer was.older was.moment (subst (λ (ms : List Moment). HaveCome w ms) was.split come-opens) in
                let last : last_time (was.newer ++ was.moment ∷ was.older) ≤ opens = subst (λ (ms : List Moment). last_time ms ≤ opens) was.split (up-to-last opens of.moments) in
                omega (arith, rises, last, forward)

    opened : IsOpenWindow w of.moments h.0 hop opens closes
    opened = record {
      passes = lets;
      aims = aims-low h.0 (held_version h.0 ((state w (up_to opens of.moments)).nodes b).exchange) (version_at w of.moments a h.0 opens)
          (heard_since h.0 ((state w (up_to opens of.moments)).nodes b).exchange) heard-before-opens;
      heard = by shows.heard;
    } where
      by : ((script.suppress ≡ false) × (opens + 3 * longest w.description.trickle ≤ closes)) ⊎ Speaks w.description r a opens closes
          → ((w.suppress ≡ false) × (opens + 3 * longest w.description.trickle ≤ closes)) ⊎ ((until : ℕ) × (until + longest w.description.trickle ≤ closes) × IsHeardBetween w of.moments a opens until)
      by (inl off) = inl (sym suppress ∙ off.0, off.1)
      by (inr speaks) = inr (speaks.at.time, speaks.in_time, record { moment = had.moment; older = had.older; between = record { newer = had.newer; split = had.split; after = after; in_time = early }; cause = had.cause; sends = had.does }) where
        had : HadPoint w of.moments a (record { time = speaks.at.time; does = fire.Send })
        had = speaks-point w how r of a opens closes speaks

        after : opens < had.moment.time
        after = let late = speaks.after in let time_is = had.time_is in omega (arith, late, time_is)

        early : had.moment.time ≤ speaks.at.time
        early = let time_is = had.time_is in omega (arith, time_is)

    pub passes : IsDone (state w of.moments) closes → version_at w of.moments a h.0 opens ≤ version_at w of.moments b h.0 closes
    passes done = windows_pass w net of.moments h.0 hop opens closes of.come is-hop forward opened done

  -- ---- a path

  -- a hop with a window of either kind
  over : (h : HandlerId) (a b start closes : ℕ) → ShowsWindow w.description script r h a b start closes ⊎ PromisesWindow w.description script r h a b start closes
      → (b < w.nodes) × (start ≤ closes) × (IsDone (state w of.moments) closes → version_at w of.moments a h.0 start ≤ version_at w of.moments b h.0 closes)
  over h a b start closes (inl shows) = (b-low h a b start closes shows, forward h a b start closes shows, passes h a b start closes shows)
  over h a b start closes (inr promises) = (
    promised-low w script programs how r of plan suppress links ends net programs_are h a b start closes promises,
    promised-ahead w script programs how r of plan suppress links ends net programs_are h a b start closes promises,
    promised-passes w script programs how r of plan suppress links ends net programs_are h a b start closes promises,
  )

  pub reaches : (h : HandlerId) (version : ℕ) {k t : ℕ} → PassesTo w.description script r h version k t → IsDone (state w of.moments) t → (k < w.nodes) × HoldsSome w of.moments k h.0 version t
  reaches h version {k} {t} (at_home has) done = installed-holds w how r of k h version t has
  reaches h version (over_hop {a} {b} {t} {start} {by} before early window) done =
      let one = over h a b start by window in
      let ahead : start ≤ by = one.1 in
      let first = reaches h version before (λ u less. done u (omega (arith, less, early, ahead))) in
      let rises : version_at w of.moments a h.0 t ≤ version_at w of.moments a h.0 start = held-rises w of.moments a h.0 t start of.come early in
      let passed : version_at w of.moments a h.0 start ≤ version_at w of.moments b h.0 by = one.2 done in
      let some : 1 ≤ version_at w of.moments a h.0 t = first.1.some in
      let least : version ≤ version_at w of.moments a h.0 t = first.1.least in
      (one.0, record { some = omega (arith, some, rises, passed); least = omega (arith, least, rises, passed) })

  pub reaches-installed : (h : HandlerId) (version k t : ℕ) → PassesTo w.description script r h version k t → IsDone (state w of.moments) t → HasInstalled r k h version t
  reaches-installed h version k t way done = let there = reaches h version way done in holds-installed_by w how r of k h version t there.0 there.1

pub reports_keep_the_windows : ReportsKeepTheWindows
reports_keep_the_windows d script ps how r programs of h version k t way shows =
    reaches-installed (source_world d script ps) script how r of refl refl ends (scripts_are_networks d _ script (program_at ps) right) fit (program_at ps) refl right.programs_are h version k t way
    (reached_is_done (source_world d script ps) how of.moments t of.come of.at_end (shown_is_reached d script ps how r t of shows)) where
      right : IsRightScript d script (program_at ps)
      right = right-script d script ps programs

      fit : AreProgramsFit (source_world d script ps)
      fit i p injects = let own = programs-fit d script ps programs i p injects in record { low = own.low; high = own.high; few = own.few; bytes = own.bytes }

      ends : (l : Link) → Contains script.links l → (l.from < script.nodes) × (l.to < script.nodes)
      ends l among = let own : IsRightLink script.nodes l = All-contains (IsRightLink script.nodes) script.links l right.right.links among in (own.from_high, own.to_high)
