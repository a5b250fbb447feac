-- A window that a script promises is open in each run.
use Rattle.std.proofs.Common.{◌≡◌, ◌<◌, ◌≤◌, ℕ, zero, suc, ◌+◌, Bool, true, false, List, [], ◌∷◌, ◌++◌, map, length, Option, Some, refl, sym, ◌∙◌, ap, subst, arith, inl, inr, ◌⊎◌, append_assoc}
use Rattle.std.specs.Prelude.{Contains, slice_get, slice_index, slice_index_or, ◌==◌, if◌then◌else◌}
use Rattle.std.specs.List.{range_with_len}
use Rattle.std.specs.Option.{option_map_or}
use Rattle.std.proofs.lemmas.Bool.{cases_lt}
use Rattle.std.proofs.lemmas.Bool.Decides.{eqb_tells}
use Rattle.std.proofs.lemmas.List.FromFn.{length-map-range_with_len}
use Rattle.mate_num.specs.Lists.{Among}
use Rattle.mate_num.specs.declared.id.HandlerId.{HandlerId}
use Rattle.mate_num.proofs.ListLemmas.{among-filter}
use Rattle.mate_journal.specs.Machine.{HeldProgram}
use Rattle.mate_journal.specs.NodeScript.{RunEnd}
use Rattle.mate_journal.specs.declared.report.Report.{Report}
use Rattle.packet_codec.specs.declared.packet.Packet.{Packet}
use Rattle.packet_codec.specs.declared.packet.Packet.TheVariants.{Vector, Status, Fragment, App}
use Rattle.capsule_exchange.specs.Happenings.{Happening, heard_since, held_version, held_versions, version_in}
use Rattle.script_steps.specs.declared.world.Link.{Link}
use Rattle.script_steps.specs.declared.world.Planned.{Planned}
use Rattle.script_steps.specs.declared.world.What.{What}
use Rattle.script_steps.specs.declared.world.What.TheVariants as what
use Rattle.script_steps.specs.declared.world.World.{World as Script}
use Rattle.world_rules.specs.Cause.{Cause}
use Rattle.world_rules.specs.Cause as event
use Rattle.world_rules.specs.World.{World, PlannedLine, Inject, handlers, leaves, line_planned, links_from, loss, receiver, want_of}
use Rattle.world_rules.specs.Effect.{Installing, event_node, resets}
use Rattle.world_rules.specs.State.{Moment, effect_at, node_at, state}
use Rattle.world_rules.specs.Run.{HaveCome, IsDone}
use Rattle.world_rules.specs.Report.{IsWorldReport}
use Rattle.world_laws.specs.Hops.{HasLink}
use Rattle.world_laws.specs.Passing.{Hop, IsHop, LetsPass, up_to, version_at, IsBetween, IsOpenWindow, IsRightNetwork}
use Rattle.world_laws.specs.Premises.{IsInjectedProgram, AreInjectedPrograms}
use Rattle.world_laws.specs.Silence.{WasToldBy}
use Rattle.world_laws.specs.Times.{last_time}
use Rattle.world_laws.specs.Versions.{WasInjected}
use Rattle.world_laws.proofs.Collect.{at-range}
use Rattle.world_laws.proofs.Hop.{not_lost}
use Rattle.world_laws.proofs.HopBound.{times-rise}
use Rattle.world_laws.proofs.Injected.{IsOfInjected, HoldsInjected}
use Rattle.world_laws.proofs.Installs.{held_never_falls, newer-than}
use Rattle.world_laws.proofs.Passing.{windows_pass}
use Rattle.world_laws.proofs.Points.{among-next, among-range, earlier-come}
use Rattle.world_laws.proofs.Premises.{IsPlannedAt, planned-at}
use Rattle.world_laws.proofs.Runs.{behind, come-up-to, in-part, part, up-to-last}
use Rattle.world_laws.proofs.Silence.{vectors_come_from_holders}
use Rattle.world_laws.proofs.Versions.{installs_injected, run-injected}
use Rattle.world_run_laws.specs.Bound.{InjectsOn}
use Rattle.world_run_laws.specs.Windows.{PromisesWindow}
use Rattle.world_run_laws.proofs.Lines.{ResetsBy, line-time, resets-by, says-reset}
use Rattle.world_run_laws.proofs.Reached.{last-rises}
use Rattle.world_run_laws.proofs.Shown.{installed-holds}
use Rattle.world_run_laws.proofs.Since.{WasHeard, was-heard, aims-low}

-- ---- links without loss

get-link : (ls : List Link) (k : ℕ) (l : Link) → k < length ls → slice_index_or ls k l ≡ l → slice_get ls k ≡ Some l
get-link [] k l below is = absurd (omega (arith, below))
get-link (x ∷ ls) zero l below is = ap (λ (y : Link). Some y) is
get-link (x ∷ ls) (suc k) l below is = get-link ls k l (omega (arith, below)) is

-- a link by its place
record IsSure (w : World) (a b : ℕ) : Type 0 where
  place : ℕ
  leaves_there : Among place (links_from w a)
  gets : receiver w place ≡ b
  lossless : loss w place ≡ 0

sure-link : (w : World) (a b : ℕ) (linked : HasLink w.links a b) → linked.link.loss ≡ 0 → IsSure w a b
sure-link w a b linked none = record {
  place = linked.among.0;
  leaves_there = among-filter (leaves w a) linked.among.0 (range_with_len 0 (length w.links)) from_is (among-range 0 (length w.links) linked.among.0 (omega arith) (omega (arith, linked.among.1)));
  gets = ap (λ (o : Option Link). option_map_or (λ (l : Link). l.to) o 0) got ∙ linked.to;
  lossless = ap (λ (o : Option Link). option_map_or (λ (l : Link). l.loss) o 0) got ∙ none;
} where
  got : slice_get w.links linked.among.0 ≡ Some linked.link
  got = get-link w.links linked.among.0 linked.link linked.among.1 linked.among.2

  from_is : leaves w a linked.among.0 ≡ true
  from_is = elim (eqb_tells linked.link.from a) [ inl e ↦ rw (got, e.0) refl | inr e ↦ absurd (e.1 linked.from) ]

-- ---- versions that are named

slice-past : (xs : List ℕ) (i : ℕ) → length xs ≤ i → slice_index xs i ≡ 0
slice-past [] i long = refl
slice-past (x ∷ xs) zero long = absurd (omega (arith, long))
slice-past (x ∷ xs) (suc i) long = slice-past xs i (omega (arith, long))

named-held : (n h : ℕ) (hs : List Happening) → slice_index (held_versions n hs) h ≤ held_version h hs
named-held n h hs = elim (cases_lt h n) [
  | inl below ↦ (let value : slice_index (held_versions n hs) h ≡ held_version h hs = at-range (λ (g : ℕ). held_version g hs) 0 0 n h below ∙ ap (λ (g : ℕ). held_version g hs) (let e : 0 + h ≡ h = omega arith in e) in omega (arith, value))
  | inr past ↦ (
      let long : length (held_versions n hs) ≡ n = length-map-range_with_len (λ (g : ℕ). held_version g hs) 0 n in
      let none : slice_index (held_versions n hs) h ≡ 0 = slice-past (held_versions n hs) h (omega (arith, long, past)) in
      omega (arith, none))
]

-- ---- the window

module _ (w : World) (script : Script) (programs : ℕ → HeldProgram) (how : RunEnd) (r : Report) (of : IsWorldReport w how r) (plan : w.plan ≡ map (line_planned programs) script.events) (suppress : script.suppress ≡ w.suppress)
    (links : script.links ≡ w.links) (ends : (l : Link) → Contains w.links l → (l.from < w.nodes) × (l.to < w.nodes)) (net : IsRightNetwork w) (programs_are : AreInjectedPrograms script programs)
    (h : HandlerId) (a b start closes : ℕ) (promises : PromisesWindow w.description script r h a b start closes) where
  line-at : (i : ℕ) (l : PlannedLine) → slice_get w.plan i ≡ Some l → IsPlannedAt script programs i l
  line-at i l stands = planned-at script programs i l (subst (λ (ls : List PlannedLine). slice_get ls i ≡ Some l) plan stands)

  there : IsSure w a b
  there = let own = subst (λ (ls : List Link). (l : HasLink ls a b) × (l.link.loss ≡ 0)) links promises.there in sure-link w a b own.0 own.1

  back : IsSure w b a
  back = let own = subst (λ (ls : List Link). (l : HasLink ls b a) × (l.link.loss ≡ 0)) links promises.back in sure-link w b a own.0 own.1

  lows : (a < w.nodes) × (b < w.nodes)
  lows =
      let own : HasLink w.links a b = subst (λ (ls : List Link). HasLink ls a b) links promises.there.0 in
      let low : (own.link.from < w.nodes) × (own.link.to < w.nodes) = ends own.link own.among in
      (omega (arith, low.0, own.from), omega (arith, low.1, own.to))

  pub promised-low : b < w.nodes
  promised-low = lows.1

  pub promised-ahead : start ≤ closes
  promised-ahead = let lasts = promises.lasts in omega (arith, lasts)

  abbrev hop : Hop
  hop = record { from = a; to = b; there = there.place; back = back.place }

  is-hop : IsHop w hop
  is-hop = record { from_low = lows.0; leaves_from = there.leaves_there; gets_there = there.gets; leaves_to = back.leaves_there; gets_back = back.gets }

  come-then : (newer older : List Moment) (m : Moment) → of.moments ≡ newer ++ m ∷ older → HaveCome w (m ∷ older)
  come-then newer older m split = earlier-come w (m ∷ older) newer (subst (λ (ms : List Moment). HaveCome w ms) split of.come)

  calm : (m : Moment) (older : List Moment) (k : ℕ) → (k ≡ a) ⊎ (k ≡ b) → IsBetween of.moments start closes m older → event_node w m.cause ≡ k → resets (effect_at w (state w older) m).deed ≡ false
  calm m older k which is node = elim (resets-by w (node_at w (state w older) m) m.cause) [ inl quiet ↦ quiet | inr found ↦ absurd (refused found (line-at found.place found.line found.stands)) ] where
    refused : (found : ResetsBy w m.cause) → IsPlannedAt script programs found.place found.line → ⊥
    refused found at =
        let time_is : m.time ≡ found.line.time = line-time w older m found.place found.line net.plan.timely (come-then is.newer older m is.split) found.cause found.stands in
        let own_time : at.planned.time ≡ found.line.time = ap (λ (l : PlannedLine). l.time) at.line in
        let own_node : at.planned.node ≡ k = ap (λ (l : PlannedLine). l.node) at.line ∙ sym (ap (event_node w) found.cause ∙ ap (λ (o : Option PlannedLine). option_map_or (λ (l : PlannedLine). l.node) o 0) found.stands) ∙ node in
        let after = is.after in
        let early = is.in_time in
        promises.no_reset found.place at.planned at.stands (elim which [ inl e ↦ inl (own_node ∙ e) | inr e ↦ inr (own_node ∙ e) ]) (omega (arith, time_is, own_time, after)) (omega (arith, time_is, own_time, early))
        (says-reset programs at.planned.what (ap (λ (l : PlannedLine). l.what) at.line ∙ found.says))

  -- what a line injects, in the script's words
  injects-on : (i version : ℕ) (q : HeldProgram) (x : Planned) (y : What) → slice_get script.events i ≡ Some x → x.what ≡ y → want_of programs y ≡ Inject q → q.handler ≡ h → q.version ≡ version → InjectsOn script i x.time x.node h version
  injects-on i version q x (what.Inject program g v) stands is same own version_is =
      let one : IsInjectedProgram g v (programs program) = programs_are i program v g x stands is in
      let e : programs program ≡ q = cc in
      let handler_is : g ≡ h = sym one.handler_is ∙ ap (λ (p : HeldProgram). p.handler) e ∙ own in
      let number_is : v ≡ version = sym one.version_is ∙ ap (λ (p : HeldProgram). p.version) e ∙ version_is in
      let says : x.what ≡ what.Inject program h version = is ∙ ap (λ (k : HandlerId). what.Inject program k v) handler_is ∙ ap (λ (n : ℕ). what.Inject program h n) number_is in
      record { program = program; line = stands ∙ ap (λ (y : What). Some (record { time = x.time; node = x.node; what = y })) says }
  injects-on i version q x (what.Post handler payload) stands is same own version_is = cc
  injects-on i version q x what.Show stands is same own version_is = cc
  injects-on i version q x what.Reset stands is same own version_is = cc
  injects-on i version q x (what.Noise bytes) stands is same own version_is = cc

  -- what was injected for the handler by the window's end is no newer than what the sender holds at its start
  injected-low : (ms : List Moment) (version : ℕ) (image : List ℕ) → HaveCome w ms → last_time ms ≤ closes → WasInjected w ms h.0 version image → version ≤ version_at w of.moments a h.0 start
  injected-low ms version image come last was = by (line-at was.place was.injects.0 was.injects.1) where
    by : IsPlannedAt script programs was.place was.injects.0 → version ≤ version_at w of.moments a h.0 start
    by at = (installed-holds w how r of a h version start (promises.none_newer was.place at.planned.time at.planned.node version
        (injects-on was.place version was.program at.planned at.planned.what at.stands refl (ap (λ (l : PlannedLine). l.what) at.line ∙ was.injects.2) (λ i. record { 0 = was.handler i }) was.version_is) early)).1.least where
          early : at.planned.time ≤ closes
          early =
              let come_was : HaveCome w (was.newer ++ was.moment ∷ was.older) = subst (λ (xs : List Moment). HaveCome w xs) was.split come in
              let time_is : was.moment.time ≡ was.injects.0.time = line-time w was.older was.moment was.place was.injects.0 net.plan.timely (earlier-come w (was.moment ∷ was.older) was.newer come_was) was.cause was.injects.1 in
              let own_time : at.planned.time ≡ was.injects.0.time = ap (λ (l : PlannedLine). l.time) at.line in
              let rises : was.moment.time ≤ last_time (was.newer ++ was.moment ∷ was.older) = times-rise w was.newer was.older was.moment come_was in
              let end : last_time (was.newer ++ was.moment ∷ was.older) ≤ closes = subst (λ (xs : List Moment). last_time xs ≤ closes) was.split last in
              omega (arith, time_is, own_time, rises, end)

  held-low : (k : ℕ) (ms : List Moment) → HaveCome w ms → last_time ms ≤ closes → held_version h.0 ((state w ms).nodes k).exchange ≤ version_at w of.moments a h.0 start
  held-low k ms come last = by (((run-injected w ms net.plan.one_image come).nodes k).holds h.0) where
    by : HoldsInjected w ms ((state w ms).nodes k).exchange h.0 → held_version h.0 ((state w ms).nodes k).exchange ≤ version_at w of.moments a h.0 start
    by (inl none) = let zero_is : held_version h.0 ((state w ms).nodes k).exchange ≡ 0 = none.0 in omega (arith, zero_is)
    by (inr was) = injected-low ms (held_version h.0 ((state w ms).nodes k).exchange) _ come last was

  -- and so is what a packet names
  named-low : (newer older : List Moment) (m : Moment) (j number : ℕ) (p : Packet) → of.moments ≡ newer ++ m ∷ older → m.cause ≡ event.Deliver j number p → m.time ≤ closes → version_in h.0 p ≤ version_at w of.moments a h.0 start
  named-low newer older m j number (Vector versions) split cause early = by (vectors_come_from_holders w older m j number versions (come-then newer older m split) cause) where
    by : WasToldBy w older m.time j versions → slice_index versions.items h.0 ≤ version_at w of.moments a h.0 start
    by was = subst (λ (vs : List ℕ). slice_index vs h.0 ≤ version_at w of.moments a h.0 start) (sym was.own)
        (let named = named-held (handlers w) h.0 ((state w was.older).nodes was.holder).exchange in let held = held-low was.holder was.older come_then.0 last in omega (arith, named, held)) where
          come_then : HaveCome w (was.moment ∷ was.older)
          come_then = earlier-come w (was.moment ∷ was.older) was.newer (subst (λ (ms : List Moment). HaveCome w ms) was.split (come-then newer older m split).0)

          last : last_time was.older ≤ closes
          last = let rises = last-rises w was.moment was.older come_then in let sent = was.in_time in omega (arith, rises, sent, early)
  named-low newer older m j number (Fragment g version index count large bytes) split cause early = by (g.0 == h.0) refl where
    come : HaveCome w (m ∷ older)
    come = come-then newer older m split

    of_injected : IsOfInjected w older (Fragment g version index count large bytes)
    of_injected = (run-injected w older net.plan.one_image come.0).air m.time j number (Fragment g version index count large bytes)
        (subst (λ (c : Cause). Among c ((state w older).due m.time)) cause (among-next (state w older) m.time m.cause come.1.next))

    by : (x : Bool) → (g.0 == h.0) ≡ x → (if x then version else 0) ≤ version_at w of.moments a h.0 start
    by true is = injected-low older version of_injected.0 come.0 (let rises = last-rises w m older come in omega (arith, rises, early))
        (subst (λ (k : ℕ). WasInjected w older k version of_injected.0) (elim (eqb_tells g.0 h.0) [ inl e ↦ e.1 | inr e ↦ (let clash : true ≡ false = sym is ∙ e.0 in cc) ]) of_injected.1)
    by false is = omega arith
  named-low newer older m j number (Status g version missing) split cause early = omega arith
  named-low newer older m j number (App payload) split cause early = omega arith

  -- so the sender installs nothing in the window
  no-install : (m : Moment) (older : List Moment) (p : HeldProgram) → IsBetween of.moments start closes m older → event_node w m.cause ≡ a → (effect_at w (state w older) m).deed ≡ Installing p → p.handler.0 ≡ h.0 → ⊥
  no-install m older p is node deed own = by (in-part w start closes closes of.moments (part start closes of.moments promised-ahead) m older of.come is (omega arith)) where
    come : HaveCome w (m ∷ older)
    come = come-then is.newer older m is.split

    low : p.version ≤ version_at w of.moments a h.0 start
    low = injected-low (m ∷ older) p.version p.image.items come is.in_time
        (subst (λ (k : ℕ). WasInjected w (m ∷ older) k p.version p.image.items) own (installs_injected w net.plan.one_image m older p come deed))

    newer_than : held_version h.0 ((state w older).nodes a).exchange < p.version
    newer_than = subst (λ (k : ℕ). held_version h.0 ((state w older).nodes k).exchange < p.version) node
        (subst (λ (g : ℕ). held_version g (node_at w (state w older) m).exchange < p.version) own (newer-than w older m p come deed))

    by : (front rest : List Moment) × ((part start closes of.moments promised-ahead).later ≡ front ++ m ∷ rest) × (older ≡ rest ++ up_to start of.moments) → ⊥
    by found =
        let come_rest : HaveCome w (found.1 ++ up_to start of.moments) = subst (λ (ms : List Moment). HaveCome w ms) found.3 come.0 in
        let grows : version_at w of.moments a h.0 start ≤ held_version h.0 ((state w (found.1 ++ up_to start of.moments)).nodes a).exchange = held_never_falls w a h.0 (up_to start of.moments) found.1 come_rest in
        let same : held_version h.0 ((state w (found.1 ++ up_to start of.moments)).nodes a).exchange ≡ held_version h.0 ((state w older).nodes a).exchange
        = ap (λ (ms : List Moment). held_version h.0 ((state w ms).nodes a).exchange) (sym found.3) in
        omega (arith, low, newer_than, grows, same)

  lets : (m : Moment) (older : List Moment) → IsBetween of.moments start closes m older → LetsPass w hop h.0 (version_at w of.moments a h.0 start) (state w older) m
  lets m older is = record {
    spares = record { no_reset = λ node. calm m older a (inl refl) is node; no_install = λ p node deed own. no-install m older p is node deed own };
    there = λ node y sends. not_lost w y there.place there.lossless;
    no_reset = λ node. calm m older b (inr refl) is node;
    none_newer = λ node j number p cause. named-low is.newer older m j number p is.split cause is.in_time;
    back = λ node y sends. not_lost w y back.place back.lossless;
  }

  heard-low : (p : Packet) → Among p (heard_since h.0 ((state w (up_to start of.moments)).nodes b).exchange) → version_in h.0 p ≤ version_at w of.moments a h.0 start
  heard-low p heard_it = by (was-heard w b h.0 (up_to start of.moments) p heard_it) where
    by : WasHeard w (up_to start of.moments) b p → version_in h.0 p ≤ version_at w of.moments a h.0 start
    by was = named-low ((behind start of.moments).later ++ was.newer) was.older was.moment was.link was.number p
        ((behind start of.moments).split ∙ ap (λ (ms : List Moment). (behind start of.moments).later ++ ms) was.split ∙ sym (append_assoc (behind start of.moments).later was.newer (was.moment ∷ was.older)))
        was.cause early where
          early : was.moment.time ≤ closes
          early =
              let rises : was.moment.time ≤ last_time (was.newer ++ was.moment ∷ was.older) = times-rise w was.newer was.older was.moment (subst (λ (ms : List Moment). HaveCome w ms) was.split (come-up-to w start of.moments of.come)) in
              let last : last_time (was.newer ++ was.moment ∷ was.older) ≤ start = subst (λ (ms : List Moment). last_time ms ≤ start) was.split (up-to-last start of.moments) in
              omega (arith, rises, last, promised-ahead)

  opened : IsOpenWindow w of.moments h.0 hop start closes
  opened = record {
    passes = lets;
    aims = aims-low h.0 (held_version h.0 ((state w (up_to start of.moments)).nodes b).exchange) (version_at w of.moments a h.0 start)
        (heard_since h.0 ((state w (up_to start of.moments)).nodes b).exchange) heard-low;
    heard = inl (sym suppress ∙ promises.loud, promises.lasts);
  }

  pub promised-passes : IsDone (state w of.moments) closes → version_at w of.moments a h.0 start ≤ version_at w of.moments b h.0 closes
  promised-passes done = windows_pass w net of.moments h.0 hop start closes of.come is-hop promised-ahead opened done
