-- What a report shows of a run: each entry and each record stands there, and each entry comes from its event.
use Rattle.std.proofs.Common.{◌≡◌, ◌<◌, ◌≤◌, ℕ, suc, Bool, true, false, List, [], ◌∷◌, ◌++◌, map, length, Option, Some, None, refl, sym, ◌∙◌, ap, subst, arith, inl, inr, append_assoc}
use Rattle.std.specs.Prelude.{slice_get, IsSomeAnd, if◌then◌else◌}
use Rattle.std.specs.List.{range_with_len}
use Rattle.std.proofs.lemmas.Option.{slice_get_within}
use Rattle.std.proofs.lemmas.Bool.Decides.{eqb_tells}
use Rattle.mate_num.specs.Lists.{Among}
use Rattle.mate_num.specs.declared.call.Stamp.{Stamp}
use Rattle.mate_num.specs.declared.store.Store.{Store}
use Rattle.mate_num.specs.declared.id.HandlerId.{HandlerId}
use Rattle.mate_num.proofs.ListLemmas.{among-append, among-left, among-right, among-unfilter}
use Rattle.mate_journal.specs.Log.{Log}
use Rattle.mate_journal.specs.Machine.{Machine, HeldProgram}
use Rattle.mate_journal.specs.Journal.{JournalEntry, Installed, Reset, Seen, journal_of}
use Rattle.mate_journal.specs.Journal.{TimedEntry as Entered}
use Rattle.mate_journal.specs.NodeScript.{RunEnd, Whole, Full, Cut}
use Rattle.mate_journal.specs.declared.air.Air.{Air}
use Rattle.mate_journal.specs.declared.air.Air.TheVariants as air
use Rattle.mate_journal.specs.declared.air.Aired.{Aired}
use Rattle.mate_journal.specs.declared.report.Report.{Report}
use Rattle.packet_codec.specs.declared.packet.Packet.{Packet}
use Rattle.capsule_exchange.specs.Happenings.{held_version}
use Rattle.world_rules.specs.Cause.{Cause}
use Rattle.world_rules.specs.Cause as event
use Rattle.world_rules.specs.World.{World, links_from, leaves, receiver}
use Rattle.world_rules.specs.Effect.{Node, Deed, Nothing, Installing, Posting, Answering, Showing, Resetting, begun_length, event_node, node_effect, resets, sender}
use Rattle.world_rules.specs.State.{Moment, WorldState, Sending, air_made, air_of_sending, effect_at, is_lost, node_at, sent_bytes, state}
use Rattle.world_rules.specs.Run.{HaveCome, EndsJournal, airs, journal, stamp_of}
use Rattle.world_rules.specs.Report.{IsLogOf, IsWorldReport}
use Rattle.world_laws.specs.Arrivals.{sent_by, WasSent}
use Rattle.world_laws.specs.Given.{Given, GivesOccasion, GivesReset, given_in, given_by}
use Rattle.world_laws.specs.Installs.{WasInstalled}
use Rattle.world_laws.specs.Passing.{up_to, version_at}
use Rattle.world_laws.specs.Times.{last_time}
use Rattle.world_laws.proofs.Agree.{HeldAfter, moves}
use Rattle.world_laws.proofs.Given.{events_give_theirs}
use Rattle.world_laws.proofs.Hop.{among-map}
use Rattle.world_laws.proofs.HopBound.{times-rise}
use Rattle.world_laws.proofs.Installs.{entry-of, held_never_falls, held_was_installed, installs_its_own, newer-than, tells-among}
use Rattle.world_laws.proofs.Journals.{journal-here, journal-other}
use Rattle.world_laws.proofs.Origins.{among-get, arrivals_were_sent}
use Rattle.world_laws.proofs.Packets.{split-at}
use Rattle.world_laws.proofs.Periods.{among-in_filter_map}
use Rattle.world_laws.proofs.Points.{among-filter_map, among-map_of, earlier-come, nodes-here}
use Rattle.world_laws.proofs.Records.{interval_air, sendings_air, stamped}
use Rattle.world_laws.proofs.Runs.{behind, come-up-to, reach, up-to-last}
use Rattle.world_run_laws.specs.Windows.{HasTold, HasAired, HasSent, HasInstalled}
use Rattle.world_run_laws.proofs.Bound.{some-and}

-- an entry under a stamp
abbrev pub entered : Stamp → JournalEntry → Entered
entered at t = record { stamp = at; told = t }

-- ---- an entry comes from its event

-- one of these events, of this node, made the entry
pub record WasTold (w : World) (ms : List Moment) (k : ℕ) (at : Stamp) (t : JournalEntry) : Type 0 where
  pub newer : List Moment
  pub moment : Moment
  pub older : List Moment
  pub split : ms ≡ newer ++ moment ∷ older
  pub node : event_node w moment.cause ≡ k
  pub at_is : stamp_of moment older ≡ at
  pub told : Among t moment.told

told-before : (w : World) (m : Moment) (ms : List Moment) (k : ℕ) (at : Stamp) (t : JournalEntry) → WasTold w ms k at t → WasTold w (m ∷ ms) k at t
told-before w m ms k at t was = record { newer = m ∷ was.newer; moment = was.moment; older = was.older; split = ap (λ (xs : List Moment). m ∷ xs) was.split; node = was.node; at_is = was.at_is; told = was.told }

among-entered : (at other : Stamp) (t : JournalEntry) (told : List JournalEntry) → Among (entered other t) (map (λ (u : JournalEntry). record { stamp = at; told = u }) told) → (at ≡ other) × Among t told
among-entered at other t [] a = absurd a
among-entered at other t (u ∷ told) (inl e) = (ap (λ (x : Entered). x.stamp) e, inl (ap (λ (x : Entered). x.told) e))
among-entered at other t (u ∷ told) (inr a) = let rest = among-entered at other t told a in (rest.0, inr rest.1)

journal-told : (w : World) (k : ℕ) (ms : List Moment) (at : Stamp) (t : JournalEntry) → Among (entered at t) (journal w k ms) → WasTold w ms k at t
journal-told w k [] at t a = absurd a
journal-told w k (m ∷ before) at t a = elim (eqb_tells k (event_node w m.cause)) [
  | inr other ↦ told-before w m before k at t (journal-told w k before at t (subst (λ (es : List Entered). Among (entered at t) es) (journal-other w k m before other.1) a))
  | inl same ↦ here same.1 (λ b. journal-told w k before at t b)
] where
  here : k ≡ event_node w m.cause → (Among (entered at t) (journal w k before) → WasTold w before k at t) → WasTold w (m ∷ before) k at t
  here same earlier = elim (among-append (entered at t) (journal w (event_node w m.cause) before) (map (λ (u : JournalEntry). record { stamp = stamp_of m before; told = u }) m.told)
      (subst (λ (es : List Entered). Among (entered at t) es) (journal-here w m before) (subst (λ (j : ℕ). Among (entered at t) (journal w j (m ∷ before))) same a))) [
        | inl old ↦ told-before w m before k at t (earlier (subst (λ (j : ℕ). Among (entered at t) (journal w j before)) (sym same) old))
        | inr new ↦ (let found = among-entered (stamp_of m before) at t m.told new in
            record { newer = []; moment = m; older = before; split = refl; node = sym same; at_is = found.0; told = found.1 })
      ]

-- the last entries of a run are of stores that are seen
last-seen : (w : World) (k : ℕ) (how : RunEnd) (ms : List Moment) (last : List Entered) (at : Stamp) (t : JournalEntry) → EndsJournal w k how ms last → Among (entered at t) last → (store : Store) × (t ≡ Seen store)
last-seen w k Whole ms last at t ends a =
    seen (subst (λ (ts : List JournalEntry). Among t ts) ends.shown.made
    (among-entered (record { event = suc (length ms); time = w.until }) at t ends.told (subst (λ (es : List Entered). Among (entered at t) es) ends.stamped a)).1) where
      seen : Among t (Seen ends.shown.seen ∷ []) → (store : Store) × (t ≡ Seen store)
      seen (inl e) = (ends.shown.seen, sym e)
      seen (inr none) = absurd none
last-seen w k Full ms last at t ends a = absurd (subst (λ (es : List Entered). Among (entered at t) es) ends a)
last-seen w k Cut ms last at t ends a = absurd (subst (λ (es : List Entered). Among (entered at t) es) ends a)

-- an entry of a node's journal that shows no store was made by an event
pub told-by-event : (w : World) (how : RunEnd) (r : Report) (of : IsWorldReport w how r) (k : ℕ) (at : Stamp) (t : JournalEntry) → ((store : Store) → t ≡ Seen store → ⊥) → HasTold r k at t
    → (k < w.nodes) × WasTold w of.moments k at t
told-by-event w how r of k at t unseen tells = by (slice_get r.nodes k) refl tells where
  by : (o : Option Log) → slice_get r.nodes k ≡ o → IsSomeAnd o (λ l. Among (entered at t) (journal_of l)) → (k < w.nodes) × WasTold w of.moments k at t
  by None is a = absurd a
  by (Some l) is a = (
    low,
    elim (among-append (entered at t) (journal w k of.moments) own.journal.last (subst (λ (es : List Entered). Among (entered at t) es) own.journal.journal_is a)) [
      | inl came ↦ journal-told w k of.moments at t came
      | inr last ↦ (let shown = last-seen w k how of.moments own.journal.last at t own.journal.ends last in absurd (unseen shown.0 shown.1))
    ],
  ) where
    low : k < w.nodes
    low = let within : k < length r.nodes = slice_get_within r.nodes k l is in let count : length r.nodes ≡ w.nodes = of.nodes in omega (arith, within, count)

    own : IsLogOf w how of.moments k l
    own = subst (λ (o : Option Log). IsSomeAnd o (IsLogOf w how of.moments k)) is (of.logs k low)

-- ---- and each entry of an event stands there

stamped-among : (at : Stamp) (t : JournalEntry) (told : List JournalEntry) → Among t told → Among (entered at t) (map (λ (u : JournalEntry). record { stamp = at; told = u }) told)
stamped-among at t told a = among-map (λ (u : JournalEntry). record { stamp = at; told = u }) t told a

journal-tells : (w : World) (k : ℕ) (newer older : List Moment) (m : Moment) (t : JournalEntry) → event_node w m.cause ≡ k → Among t m.told → Among (entered (stamp_of m older) t) (journal w k (newer ++ m ∷ older))
journal-tells w k [] older m t node a = subst (λ (j : ℕ). Among (entered (stamp_of m older) t) (journal w j (m ∷ older))) node
    (subst (λ (es : List Entered). Among (entered (stamp_of m older) t) es) (sym (journal-here w m older))
    (among-right (entered (stamp_of m older) t) (journal w (event_node w m.cause) older) _ (stamped-among (stamp_of m older) t m.told a)))
journal-tells w k (x ∷ newer) older m t node a = among-left (entered (stamp_of m older) t) (journal w k (newer ++ m ∷ older)) _ (journal-tells w k newer older m t node a)

pub event-tells : (w : World) (how : RunEnd) (r : Report) (of : IsWorldReport w how r) (newer older : List Moment) (m : Moment) (k : ℕ) (t : JournalEntry) → of.moments ≡ newer ++ m ∷ older → event_node w m.cause ≡ k → k < w.nodes
    → Among t m.told → HasTold r k (stamp_of m older) t
event-tells w how r of newer older m k t split node low a =
    some-and (IsLogOf w how of.moments k) (λ (l : Log). Among (entered (stamp_of m older) t) (journal_of l)) (slice_get r.nodes k)
    (λ l is. subst (λ (es : List Entered). Among (entered (stamp_of m older) t) es) (sym is.journal.journal_is)
    (among-left (entered (stamp_of m older) t) (journal w k of.moments) is.journal.last
    (subst (λ (ms : List Moment). Among (entered (stamp_of m older) t) (journal w k ms)) (sym split) (journal-tells w k newer older m t node a))))
    (of.logs k low)

-- ---- resets

resetting : (d : Deed) → resets d ≡ true → d ≡ Resetting
resetting Resetting is = refl
resetting _ is = cc

is-reset : (t : JournalEntry) → given_in t ≡ Some GivesReset → t ≡ Reset
is-reset Reset is = refl
is-reset _ is = cc

pub reset-told : (w : World) (older : List Moment) (m : Moment) → HaveCome w (m ∷ older) → resets (effect_at w (state w older) m).deed ≡ true → Among Reset m.told
reset-told w older m come is =
    let gives = events_give_theirs w older m come ∙ ap (given_by w.machine) (resetting (effect_at w (state w older) m).deed is) in
    let found = among-filter_map given_in GivesReset m.told (subst (λ (gs : List Given). Among GivesReset gs) (sym gives) (inr (inl refl))) in
    subst (λ (t : JournalEntry). Among t m.told) (is-reset found.0 found.2) found.1

no-reset : (hs : List HandlerId) → Among GivesReset (map GivesOccasion hs) → ⊥
no-reset [] a = a
no-reset (h ∷ hs) (inl e) = cc
no-reset (h ∷ hs) (inr a) = no-reset hs a

gives-reset : (m : Machine) (d : Deed) → Among GivesReset (given_by m d) → d ≡ Resetting
gives-reset m Resetting a = refl
gives-reset m Nothing a = absurd a
gives-reset m (Installing p) (inl e) = cc
gives-reset m (Installing p) (inr (inl e)) = cc
gives-reset m (Installing p) (inr (inr a)) = absurd (none (m.runs_once p.handler) a) where
  none : (b : Bool) → Among GivesReset (if b then GivesOccasion p.handler ∷ [] else []) → ⊥
  none true (inl e) = cc
  none true (inr b) = b
  none false b = b
gives-reset m (Posting hs payload) a = absurd (no-reset hs a)
gives-reset m (Answering inv value) (inl e) = cc
gives-reset m (Answering inv value) (inr a) = absurd a
gives-reset m Showing (inl e) = cc
gives-reset m Showing (inr a) = absurd a

pub told-resets : (w : World) (older : List Moment) (m : Moment) → HaveCome w (m ∷ older) → Among Reset m.told → (effect_at w (state w older) m).deed ≡ Resetting
told-resets w older m come a = gives-reset w.machine (effect_at w (state w older) m).deed
    (subst (λ (gs : List Given). Among GivesReset gs) (events_give_theirs w older m come) (among-in_filter_map given_in GivesReset Reset m.told a refl))

-- ---- installs

pub install-told : (w : World) (older : List Moment) (m : Moment) (p : HeldProgram) → HaveCome w (m ∷ older) → (effect_at w (state w older) m).deed ≡ Installing p → Among (Installed p) m.told
install-told w older m p come deed = tells-among m.told p (entry-of w older m p come deed)

-- what a node holds, and that it is something
pub record HoldsSome (w : World) (ms : List Moment) (k h version t : ℕ) : Type 0 where
  pub some : 1 ≤ version_at w ms k h t
  pub least : version ≤ version_at w ms k h t

pub installed-holds : (w : World) (how : RunEnd) (r : Report) (of : IsWorldReport w how r) (k : ℕ) (h : HandlerId) (version t : ℕ) → HasInstalled r k h version t → (k < w.nodes) × HoldsSome w of.moments k h.0 version t
installed-holds w how r of k h version t has = let told = told-by-event w how r of k has.at (Installed has.program) (λ store e. cc) has.told in (told.0, by told.1) where
  by : WasTold w of.moments k has.at (Installed has.program) → HoldsSome w of.moments k h.0 version t
  by was = record { some = omega (arith, positive, now, grows); least = let least = has.at_least in omega (arith, now, grows, least) } where
    come : HaveCome w (was.newer ++ was.moment ∷ was.older)
    come = subst (λ (ms : List Moment). HaveCome w ms) was.split of.come

    come_then : HaveCome w (was.moment ∷ was.older)
    come_then = earlier-come w (was.moment ∷ was.older) was.newer come

    deed : (effect_at w (state w was.older) was.moment).deed ≡ Installing has.program
    deed = let at_place = split-at (Installed has.program) was.moment.told was.told in
        installs_its_own w was.older was.moment has.program come_then (record { front = at_place.0; rest = at_place.1; split = at_place.2 })

    positive : 1 ≤ has.program.version
    positive = let newer = newer-than w was.older was.moment has.program come_then deed in omega (arith, newer)

    own : has.program.handler.0 ≡ h.0
    own = ap (λ (g : HandlerId). g.0) has.handler

    now : held_version h.0 ((state w (was.moment ∷ was.older)).nodes k).exchange ≡ has.program.version
    now = subst (λ (j : ℕ). held_version h.0 ((state w (was.moment ∷ was.older)).nodes j).exchange ≡ has.program.version) was.node
        (ap (λ (n : Node). held_version h.0 n.exchange) (nodes-here w (state w was.older) was.moment)
        ∙ moves w h.0 (node_at w (state w was.older) was.moment) was.moment.cause
        ∙ ap (λ (d : Deed). HeldAfter d h.0 (held_version h.0 (node_at w (state w was.older) was.moment).exchange)) deed
        ∙ elim (eqb_tells has.program.handler.0 h.0) [ inl same ↦ rw same.0 refl | inr other ↦ absurd (other.1 own) ])

    found : (front : List Moment) × (up_to t (was.newer ++ was.moment ∷ was.older) ≡ front ++ was.moment ∷ was.older)
    found = reach t was.newer was.older was.moment (let early : has.at.time ≤ t = has.in_time in let time_is : was.moment.time ≡ has.at.time = ap (λ (x : Stamp). x.time) was.at_is in omega (arith, early, time_is))

    up : up_to t of.moments ≡ found.0 ++ was.moment ∷ was.older
    up = ap (up_to t) was.split ∙ found.1

    grows : held_version h.0 ((state w (was.moment ∷ was.older)).nodes k).exchange ≤ version_at w of.moments k h.0 t
    grows = subst (λ (ms : List Moment). held_version h.0 ((state w (was.moment ∷ was.older)).nodes k).exchange ≤ held_version h.0 ((state w ms).nodes k).exchange) (sym up)
        (held_never_falls w k h.0 (was.moment ∷ was.older) found.0 (subst (λ (ms : List Moment). HaveCome w ms) up (come-up-to w t of.moments of.come)))

pub holds-installed_by : (w : World) (how : RunEnd) (r : Report) (of : IsWorldReport w how r) (k : ℕ) (h : HandlerId) (version t : ℕ) → k < w.nodes → HoldsSome w of.moments k h.0 version t → HasInstalled r k h version t
holds-installed_by w how r of k h version t low holds = by (held_was_installed w k h.0 (up_to t of.moments) (come-up-to w t of.moments of.come) holds.some) where
  by : WasInstalled w (up_to t of.moments) k h.0 (version_at w of.moments k h.0 t) → HasInstalled r k h version t
  by was = record {
    at = stamp_of was.moment was.older;
    program = was.program;
    told = event-tells w how r of ((behind t of.moments).later ++ was.newer) was.older was.moment k (Installed was.program)
        ((behind t of.moments).split ∙ ap (λ (ms : List Moment). (behind t of.moments).later ++ ms) was.split ∙ sym (append_assoc (behind t of.moments).later was.newer (was.moment ∷ was.older)))
        was.node low (tells-among was.moment.told was.program was.entry);
    handler = λ i. record { 0 = was.handler i };
    at_least = let is = was.version_is in let least = holds.least in omega (arith, is, least);
    in_time = early;
  } where
    early : was.moment.time ≤ t
    early =
        let rises : was.moment.time ≤ last_time (was.newer ++ was.moment ∷ was.older) = times-rise w was.newer was.older was.moment (subst (λ (ms : List Moment). HaveCome w ms) was.split (come-up-to w t of.moments of.come)) in
        let last : last_time (was.newer ++ was.moment ∷ was.older) ≤ t = subst (λ (ms : List Moment). last_time ms ≤ t) was.split (up-to-last t of.moments) in
        omega (arith, rises, last)

-- ---- the air

airs-shows : (w : World) (newer older : List Moment) (m : Moment) (a : Air) → Among a (air_made w (state w older) m) → Among (stamped (stamp_of m older) (event_node w m.cause) a) (airs w (newer ++ m ∷ older))
airs-shows w [] older m a has = among-right (stamped (stamp_of m older) (event_node w m.cause) a) (airs w older) _ (among-map (stamped (stamp_of m older) (event_node w m.cause)) a (air_made w (state w older) m) has)
airs-shows w (x ∷ newer) older m a has = among-left (stamped (stamp_of m older) (event_node w m.cause) a) (airs w (newer ++ m ∷ older)) _ (airs-shows w newer older m a has)

pub event-airs : (w : World) (how : RunEnd) (r : Report) (of : IsWorldReport w how r) (newer older : List Moment) (m : Moment) (k : ℕ) (a : Air) → of.moments ≡ newer ++ m ∷ older → event_node w m.cause ≡ k
    → Among a (air_made w (state w older) m) → HasAired r k (stamp_of m older) a
event-airs w how r of newer older m k a split node has =
    subst (λ (j : ℕ). Among (stamped (stamp_of m older) j a) r.air) node
    (subst (λ (xs : List Aired). Among (stamped (stamp_of m older) (event_node w m.cause) a) xs) (sym of.air)
    (subst (λ (ms : List Moment). Among (stamped (stamp_of m older) (event_node w m.cause) a) (airs w ms)) (sym split) (airs-shows w newer older m a has)))

sent-aired : (w : World) (s : WorldState) (m : Moment) (y : Sending) → Among y (sent_by w s m) → Among (air.Sent y.number (sent_bytes w y.packet)) (air_made w s m)
sent-aired w s m y a = among-right (air.Sent y.number (sent_bytes w y.packet)) ((effect_at w s m).first ++ interval_air (begun_length (node_at w s m) (effect_at w s m))) (sendings_air w s m)
    (among-map_of (air_of_sending w (event_node w m.cause)) (air.Sent y.number (sent_bytes w y.packet)) y (sent_by w s m) a (inl refl))

pub lost-aired : (w : World) (s : WorldState) (m : Moment) (y : Sending) (j : ℕ) → Among y (sent_by w s m) → Among j (links_from w (event_node w m.cause)) → is_lost w y j ≡ true → Among (air.Lost y.number (receiver w j)) (air_made w s m)
lost-aired w s m y j a leaves_there lost = among-right (air.Lost y.number (receiver w j)) ((effect_at w s m).first ++ interval_air (begun_length (node_at w s m) (effect_at w s m))) (sendings_air w s m)
    (among-map_of (air_of_sending w (event_node w m.cause)) (air.Lost y.number (receiver w j)) y (sent_by w s m) a
    (inr (among-map_of (λ (l : ℕ). if is_lost w y l then air.Lost y.number (receiver w l) ∷ [] else []) (air.Lost y.number (receiver w j)) j (links_from w (event_node w m.cause)) leaves_there (rw lost (inl refl)))))

got-aired : (w : World) (s : WorldState) (m : Moment) (j number : ℕ) (p : Packet) → m.cause ≡ event.Deliver j number p → Among (air.Got number (sender w j)) (air_made w s m)
got-aired w s m j number p cause = among-left (air.Got number (sender w j)) ((effect_at w s m).first ++ interval_air (begun_length (node_at w s m) (effect_at w s m))) (sendings_air w s m)
    (among-left (air.Got number (sender w j)) (effect_at w s m).first (interval_air (begun_length (node_at w s m) (effect_at w s m)))
    (subst (λ (c : Cause). Among (air.Got number (sender w j)) (node_effect w (node_at w s m) c).first) (sym cause) (inl refl)))

-- a packet that is got, and that it was sent
pub record ShowsPacket (w : World) (r : Report) (k : ℕ) (at : Stamp) (p : Packet) : Type 0 where
  pub number : ℕ
  pub from : ℕ
  pub got : HasAired r k at (air.Got number from)
  pub sent_at : Stamp
  pub sent : HasSent w.description r from sent_at number p

pub got-shown : (w : World) (how : RunEnd) (r : Report) (of : IsWorldReport w how r) (newer older : List Moment) (m : Moment) (k j number : ℕ) (p : Packet) → of.moments ≡ newer ++ m ∷ older → m.cause ≡ event.Deliver j number p
    → receiver w j ≡ k → ShowsPacket w r k (stamp_of m older) p
got-shown w how r of newer older m k j number p split cause to = by (arrivals_were_sent w older m j number p come cause) where
  come : HaveCome w (m ∷ older)
  come = earlier-come w (m ∷ older) newer (subst (λ (ms : List Moment). HaveCome w ms) split of.come)

  by : WasSent w older m.time j number p → ShowsPacket w r k (stamp_of m older) p
  by was = record {
    number = number;
    from = sender w j;
    got = event-airs w how r of newer older m k (air.Got number (sender w j)) split (ap (event_node w) cause ∙ to) (got-aired w (state w older) m j number p cause);
    sent_at = stamp_of was.moment was.older;
    sent = event-airs w how r of (newer ++ m ∷ was.newer) was.older was.moment (sender w j) (air.Sent number (sent_bytes w p))
        (split ∙ ap (λ (ms : List Moment). newer ++ m ∷ ms) was.split ∙ sym (append_assoc newer (m ∷ was.newer) (was.moment ∷ was.older))) node
        (sent-aired w (state w was.older) was.moment (record { number = number; before = was.before; packet = p }) (among-get (sent_by w (state w was.older) was.moment) was.place _ was.sent));
  } where
    leaves_it : leaves w (event_node w was.moment.cause) j ≡ true
    leaves_it = (among-unfilter (leaves w (event_node w was.moment.cause)) j (range_with_len 0 (length w.links)) (among-get (links_from w (event_node w was.moment.cause)) was.link j was.leaves_there)).1

    node : event_node w was.moment.cause ≡ sender w j
    node = elim (eqb_tells (sender w j) (event_node w was.moment.cause)) [ inl same ↦ sym same.1 | inr other ↦ (let clash : true ≡ false = sym leaves_it ∙ other.0 in cc) ]
