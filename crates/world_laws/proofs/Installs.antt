-- The installs of a node over a whole run.
use Rattle.std.proofs.Common.{◌≡◌, ◌<◌, ◌≤◌, ℕ, List, [], ◌∷◌, ◌++◌, refl, sym, ◌∙◌, ap, subst, arith, inl, inr, ◌⊎◌}
use Rattle.std.proofs.lemmas.Bool.Decides.{eqb_tells}
use Rattle.mate_journal.specs.Machine.{Machine, HeldProgram}
use Rattle.mate_journal.specs.Journal.{JournalEntry, Installed, Seen, NodeState, state_after_entries}
use Rattle.mate_journal.specs.Pace.{Pace, paced_all}
use Rattle.capsule_exchange.specs.Happenings.{held_version}
use Rattle.world_rules.specs.World.{World}
use Rattle.world_rules.specs.Effect.{Node, Deed, Installing, event_node}
use Rattle.world_rules.specs.State.{Moment, WorldState, node_at, effect_at, state}
use Rattle.world_rules.specs.Run.{DeedMakes, HaveCome}
use Rattle.world_laws.specs.Installs.{TellsInstall, InstallsItsOwn, WasInstalled, HeldWasInstalled, HeldNeverFalls, InstallsRise}
use Rattle.mate_num.specs.Lists.{Among}
use Rattle.mate_num.proofs.ListLemmas.{each-among, among-right, among-append}
use Rattle.world_laws.proofs.Points.{nodes-here, nodes-other, earlier-come}
use Rattle.journal_laws.proofs.Plain.{NoInstall, NoneInstall}
use Rattle.world_laws.proofs.Agree.{HeldAfter, deed-none, installs-rest, settles-none, moves, held_agrees}

-- ---- an event's installs are its deed's

none-installs : (told : List JournalEntry) (p : HeldProgram) → NoneInstall told → Among (Installed p) told → ⊥
none-installs told p none a = each-among NoInstall told (Installed p) none a

deed-installs : (m : Machine) (r : NodeState) (q : Pace) (d : Deed) (told : List JournalEntry) (p : HeldProgram) → DeedMakes m d r q told → Among (Installed p) told → d ≡ Installing p
deed-installs m r q (Installing x) told p is a = by (subst (λ (ts : List JournalEntry). Among (Installed p) ts) is.made a) where
  by : Among (Installed p) (Seen is.seen ∷ Installed x ∷ is.rest) → Installing x ≡ Installing p
  by (inl e) = cc
  by (inr (inl e)) = cc
  by (inr (inr b)) = absurd (none-installs is.rest p (installs-rest m r q x told is) b)
deed-installs m r q d told p is a = absurd (none-installs told p (deed-none m r q d told is) a)

pub tells-among : (told : List JournalEntry) (p : HeldProgram) → TellsInstall told p → Among (Installed p) told
tells-among told p t = subst (λ (ts : List JournalEntry). Among (Installed p) ts) (sym t.split) (among-right (Installed p) t.front (Installed p ∷ t.rest) (inl refl))

pub installs_its_own : (w : World) → InstallsItsOwn w
installs_its_own w before m p come told = by (among-append (Installed p) come.1.makes.front come.1.makes.rest (subst (λ (ts : List JournalEntry). Among (Installed p) ts) come.1.makes.made (tells-among m.told p told))) where
  s : WorldState
  s = state w before

  by : Among (Installed p) come.1.makes.front ⊎ Among (Installed p) come.1.makes.rest → (effect_at w (state w before) m).deed ≡ Installing p
  by (inl a) = deed-installs w.machine (node_at w s m).reading (node_at w s m).pace (effect_at w s m).deed come.1.makes.front p come.1.makes.by_first a
  by (inr a) = absurd (none-installs come.1.makes.rest p (settles-none w.machine (state_after_entries w.machine (node_at w s m).reading come.1.makes.front) (paced_all (node_at w s m).pace come.1.makes.front) come.1.makes.rest m.pace come.1.makes.by_second) a)

-- ---- a deed and its entry

-- what an installing event made first
made-install : (w : World) (before : List Moment) (m : Moment) (p : HeldProgram) (come : HaveCome w (m ∷ before)) → (effect_at w (state w before) m).deed ≡ Installing p
    → DeedMakes w.machine (Installing p) (node_at w (state w before) m).reading (node_at w (state w before) m).pace come.1.makes.front
made-install w before m p come is = subst (λ (d : Deed). DeedMakes w.machine d (node_at w (state w before) m).reading (node_at w (state w before) m).pace come.1.makes.front) is come.1.makes.by_first

pub entry-of : (w : World) (before : List Moment) (m : Moment) (p : HeldProgram) → HaveCome w (m ∷ before) → (effect_at w (state w before) m).deed ≡ Installing p → TellsInstall m.told p
entry-of w before m p come is = record {
  front = Seen (made-install w before m p come is).seen ∷ [];
  rest = (made-install w before m p come is).rest ++ come.1.makes.rest;
  split = come.1.makes.made ∙ ap (λ (ts : List JournalEntry). ts ++ come.1.makes.rest) (made-install w before m p come is).made;
}

-- it is newer than what the node held
pub newer-than : (w : World) (before : List Moment) (m : Moment) (p : HeldProgram) → HaveCome w (m ∷ before) → (effect_at w (state w before) m).deed ≡ Installing p
    → held_version p.handler.0 (node_at w (state w before) m).exchange < p.version
newer-than w before m p come is =
    subst (λ (n : ℕ). n < p.version) (held_agrees w (event_node w m.cause) p.handler.0 before come.0) (made-install w before m p come is).newer

-- ---- what is held after an event

held-here : (w : World) (before : List Moment) (m : Moment) (h : ℕ) → held_version h ((state w (m ∷ before)).nodes (event_node w m.cause)).exchange ≡ HeldAfter (effect_at w (state w before) m).deed h (held_version h (node_at w (state w before) m).exchange)
held-here w before m h = ap (λ (n : Node). held_version h n.exchange) (nodes-here w (state w before) m) ∙ moves w h (node_at w (state w before) m) m.cause

-- it is as before, or a program of the handler was installed
held-source : (d : Deed) (h old : ℕ) → (HeldAfter d h old ≡ old) ⊎ ((p : HeldProgram) × (d ≡ Installing p) × (p.handler.0 ≡ h) × (HeldAfter d h old ≡ p.version))
held-source (Installing p) h old = elim (eqb_tells p.handler.0 h) [
  | inl same ↦ inr (p, refl, same.1, rw same.0 refl)
  | inr other ↦ inl (rw other.0 refl)
]
held-source _ h old = inl refl

held-step : (w : World) (before : List Moment) (m : Moment) (k h : ℕ) → HaveCome w (m ∷ before) → held_version h ((state w before).nodes k).exchange ≤ held_version h ((state w (m ∷ before)).nodes k).exchange
held-step w before m k h come = elim (eqb_tells k (event_node w m.cause)) [
  | inr other ↦ subst (λ (n : Node). held_version h ((state w before).nodes k).exchange ≤ held_version h n.exchange) (sym (nodes-other w (state w before) m k other.1)) (omega arith)
  | inl same ↦ subst (λ (i : ℕ). held_version h ((state w before).nodes i).exchange ≤ held_version h ((state w (m ∷ before)).nodes i).exchange) (sym same.1)
      (subst (λ (v : ℕ). old ≤ v) (sym (held-here w before m h)) (rises (held-source (effect_at w (state w before) m).deed h old)))
] where
  old : ℕ
  old = held_version h (node_at w (state w before) m).exchange

  rises : (HeldAfter (effect_at w (state w before) m).deed h old ≡ old) ⊎ ((p : HeldProgram) × ((effect_at w (state w before) m).deed ≡ Installing p) × (p.handler.0 ≡ h) × (HeldAfter (effect_at w (state w before) m).deed h old ≡ p.version))
      → old ≤ HeldAfter (effect_at w (state w before) m).deed h old
  rises (inl same) = omega (arith, same)
  rises (inr found) =
      let newer : held_version h (node_at w (state w before) m).exchange < found.0.version = subst (λ (g : ℕ). held_version g (node_at w (state w before) m).exchange < found.0.version) found.2 (newer-than w before m found.0 come found.1) in
      omega (arith, newer, found.3)

pub held_never_falls : (w : World) → HeldNeverFalls w
held_never_falls w k h before [] come = omega arith
held_never_falls w k h before (m ∷ later) come =
    let earlier : held_version h ((state w before).nodes k).exchange ≤ held_version h ((state w (later ++ before)).nodes k).exchange = held_never_falls w k h before later come.0 in
    let step : held_version h ((state w (later ++ before)).nodes k).exchange ≤ held_version h ((state w (m ∷ (later ++ before))).nodes k).exchange = held-step w (later ++ before) m k h come in
    omega (arith, earlier, step)

-- ---- what is held was installed

behind : (w : World) (m : Moment) (before : List Moment) (k h version : ℕ) → WasInstalled w before k h version → WasInstalled w (m ∷ before) k h version
behind w m before k h version was = record {
  newer = m ∷ was.newer;
  moment = was.moment;
  older = was.older;
  split = ap (λ (ms : List Moment). m ∷ ms) was.split;
  node = was.node;
  program = was.program;
  handler = was.handler;
  version_is = was.version_is;
  entry = was.entry;
}

pub held_was_installed : (w : World) → HeldWasInstalled w
held_was_installed w k h [] come some = absurd (omega (arith, some))
held_was_installed w k h (m ∷ before) come some = elim (eqb_tells k (event_node w m.cause)) [
  | inr other ↦ as_before (held_was_installed w k h before come.0) (ap (λ (n : Node). held_version h n.exchange) (nodes-other w (state w before) m k other.1))
  | inl same ↦ here (held_was_installed w k h before come.0) same.1 (held-source (effect_at w (state w before) m).deed h (held_version h (node_at w (state w before) m).exchange))
] where
  as_before : (1 ≤ held_version h ((state w before).nodes k).exchange → WasInstalled w before k h (held_version h ((state w before).nodes k).exchange))
      → held_version h ((state w (m ∷ before)).nodes k).exchange ≡ held_version h ((state w before).nodes k).exchange → WasInstalled w (m ∷ before) k h (held_version h ((state w (m ∷ before)).nodes k).exchange)
  as_before earlier is = subst (λ (v : ℕ). WasInstalled w (m ∷ before) k h v) (sym is)
      (behind w m before k h (held_version h ((state w before).nodes k).exchange) (earlier (subst (λ (v : ℕ). 1 ≤ v) is some)))

  held_then : k ≡ event_node w m.cause → held_version h ((state w (m ∷ before)).nodes k).exchange ≡ HeldAfter (effect_at w (state w before) m).deed h (held_version h (node_at w (state w before) m).exchange)
  held_then same = ap (λ (i : ℕ). held_version h ((state w (m ∷ before)).nodes i).exchange) same ∙ held-here w before m h

  here : (1 ≤ held_version h ((state w before).nodes k).exchange → WasInstalled w before k h (held_version h ((state w before).nodes k).exchange)) → k ≡ event_node w m.cause
      → (HeldAfter (effect_at w (state w before) m).deed h (held_version h (node_at w (state w before) m).exchange) ≡ held_version h (node_at w (state w before) m).exchange)
      ⊎ ((p : HeldProgram) × ((effect_at w (state w before) m).deed ≡ Installing p) × (p.handler.0 ≡ h) × (HeldAfter (effect_at w (state w before) m).deed h (held_version h (node_at w (state w before) m).exchange) ≡ p.version))
      → WasInstalled w (m ∷ before) k h (held_version h ((state w (m ∷ before)).nodes k).exchange)
  here earlier same (inl kept) = as_before earlier (held_then same ∙ kept ∙ ap (λ (i : ℕ). held_version h ((state w before).nodes i).exchange) (sym same))
  here earlier same (inr found) = record {
    newer = [];
    moment = m;
    older = before;
    split = refl;
    node = sym same;
    program = found.0;
    handler = found.2;
    version_is = sym (held_then same ∙ found.3);
    entry = entry-of w before m found.0 come found.1;
  }

-- ---- versions rise

-- an install's version is held after it
held-now : (w : World) (before : List Moment) (m : Moment) (p : HeldProgram) → (effect_at w (state w before) m).deed ≡ Installing p → held_version p.handler.0 ((state w (m ∷ before)).nodes (event_node w m.cause)).exchange ≡ p.version
held-now w before m p is = held-here w before m p.handler.0 ∙ ap (λ (d : Deed). HeldAfter d p.handler.0 (held_version p.handler.0 (node_at w (state w before) m).exchange)) is ∙ own where
  own : HeldAfter (Installing p) p.handler.0 (held_version p.handler.0 (node_at w (state w before) m).exchange) ≡ p.version
  own = elim (eqb_tells p.handler.0 p.handler.0) [ inl same ↦ rw same.0 refl | inr other ↦ absurd (other.1 refl) ]

pub installs_rise : (w : World) → InstallsRise w
installs_rise w before later x y p q come node tells_y tells_x handler =
    let come_y : HaveCome w (y ∷ before) = earlier-come w (y ∷ before) later come.0 in
    let held_y : held_version p.handler.0 ((state w (y ∷ before)).nodes (event_node w y.cause)).exchange ≡ p.version = held-now w before y p (installs_its_own w before y p come_y tells_y) in
    let never : held_version p.handler.0 ((state w (y ∷ before)).nodes (event_node w y.cause)).exchange ≤ held_version p.handler.0 ((state w (later ++ (y ∷ before))).nodes (event_node w y.cause)).exchange
    = held_never_falls w (event_node w y.cause) p.handler.0 (y ∷ before) later come.0 in
    let newer : held_version q.handler.0 ((state w (later ++ (y ∷ before))).nodes (event_node w x.cause)).exchange < q.version
    = newer-than w (later ++ (y ∷ before)) x q come (installs_its_own w (later ++ (y ∷ before)) x q come tells_x) in
    let same : held_version p.handler.0 ((state w (later ++ (y ∷ before))).nodes (event_node w y.cause)).exchange < q.version
    = subst (λ (h : ℕ). held_version h ((state w (later ++ (y ∷ before))).nodes (event_node w y.cause)).exchange < q.version) (sym handler)
    (subst (λ (k : ℕ). held_version q.handler.0 ((state w (later ++ (y ∷ before))).nodes k).exchange < q.version) node newer) in
    omega (arith, held_y, never, same)
