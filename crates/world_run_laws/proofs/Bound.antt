-- The hop bound of a report.
use Rattle.std.proofs.Common.{◌≡◌, ◌≢◌, ◌<◌, ◌≤◌, ℕ, zero, suc, ◌+◌, ◌*◌, false, List, ◌∷◌, ◌++◌, map, Option, Some, None, refl, sym, ◌∙◌, ap, subst, arith, inl, inr, append_assoc}
use Rattle.std.specs.Prelude.{slice_get, IsSomeAnd, Contains}
use Rattle.std.specs.Option.{option_map, option_map_or}
use Rattle.std.proofs.lemmas.Option.{slice_get-map}
use Rattle.mate_num.specs.declared.id.HandlerId.{HandlerId}
use Rattle.vm_shape.specs.declared.description.Description.{Description}
use Rattle.vm_shape.specs.Limits.{longest}
use Rattle.mate_journal.specs.Log.{Log}
use Rattle.mate_journal.specs.Machine.{Meaning, HeldProgram}
use Rattle.mate_journal.specs.Journal.{Installed, first_state, next_state, state_after_all, held, journal_of, AtEachEntry}
use Rattle.mate_journal.specs.Journal.{TimedEntry as Entered}
use Rattle.mate_journal.specs.NodeScript.{RunEnd}
use Rattle.mate_journal.specs.declared.report.Report.{Report}
use Rattle.script_steps.specs.declared.world.World.{World as Script}
use Rattle.script_steps.specs.declared.world.Link.{Link}
use Rattle.script_steps.specs.declared.world.Planned.{Planned}
use Rattle.script_steps.specs.declared.world.What.{What}
use Rattle.script_steps.specs.declared.world.What.TheVariants as what
use Rattle.script_steps.specs.World.{IfInjects, IsRightPlanned}
use Rattle.world_rules.specs.Cause.{Cause}
use Rattle.world_rules.specs.Cause as event
use Rattle.world_rules.specs.World.{World, PlannedLine, Inject, line_planned, world_of}
use Rattle.world_rules.specs.Effect.{event_node, resets}
use Rattle.world_rules.specs.State.{Moment, node_at, effect_at, state}
use Rattle.world_rules.specs.Run.{HaveCome, IsDone, IsJournalOf, stamp_of, journal}
use Rattle.world_rules.specs.Report.{IsLogOf, IsWorldReport}
use Rattle.world_laws.specs.Causes.{HasEvent}
use Rattle.world_laws.specs.Times.{last_time}
use Rattle.mate_num.proofs.ListLemmas.{all-at}
use Rattle.world_laws.proofs.Points.{earlier-come}
use Rattle.world_laws.specs.PacketRecords.{HasReached}
use Rattle.world_laws.proofs.Arrive.{reached_is_done}
use Rattle.world_laws.specs.Installs.{WasInstalled}
use Rattle.world_laws.specs.Lines.{IsPlanTimely}
use Rattle.world_laws.specs.Versions.{InjectsAt}
use Rattle.world_laws.proofs.Lines.{lines_in_order}
use Rattle.world_laws.specs.Hops.{IsAway}
use Rattle.world_laws.specs.HopBound.{IsUndisturbed}
use Rattle.world_laws.specs.Premises.{IsInjectedProgram, IsOpenScript, IsRightScript, InstalledBy}
use Rattle.world_laws.proofs.HopBound.{times-rise}
use Rattle.world_laws.proofs.Premises.{IsPlannedAt, planned-at, SaysInject, says-inject, open_scripts, plans_rightly, injected_is_installed}
use Rattle.world_run_laws.proofs.Programs.{right-script}
use Rattle.world_run_laws.specs.Bound.{InjectsOn, IsLeftAlone, TellsInstallBy, ReportsKeepTheBound, ReportsShowTheBound}
use Rattle.world_run_laws.proofs.Journals.{NoFall, HasEntry, holds-installed, journal-climbs, entries-behind, holds-on, entry-before, install-entry}
use Rattle.world_run_laws.proofs.Reached.{shown_is_reached}
use Rattle.world_run_laws.proofs.Lines.{line-comes, line-time, says-reset, ResetsBy, resets-by}

-- ---- an install in the journal

install-by : (w : World) (how : RunEnd) (ms newer now : List Moment) (b by : ℕ) (h : HandlerId) (p : HeldProgram) (es : List Entered) → HaveCome w ms → ms ≡ newer ++ now → last_time now ≤ by
    → WasInstalled w now b p.handler.0 p.version → p.handler ≡ h → IsJournalOf w how ms b es → TellsInstallBy w.machine h p.version by es
install-by w how ms newer now b by h p es come is last was own of = record {
  front = has.front;
  entry = record { stamp = stamp_of was.moment was.older; told = Installed was.program };
  rest = has.rest;
  split = has.split;
  program = was.program;
  told = refl;
  handler = handler_is;
  version_is = was.version_is;
  in_time = in_time;
  ever = holds-on w.machine h p.version (next_state w.machine (state_after_all w.machine (first_state w.machine) has.front) (Installed was.program)) has.rest first
      (entries-behind w.machine (first_state w.machine) has.front (record { stamp = stamp_of was.moment was.older; told = Installed was.program }) has.rest
      (subst (λ (xs : List Entered). AtEachEntry (NoFall w.machine) w.machine (first_state w.machine) xs) has.split (journal-climbs w how ms b es come of)));
} where
  handler_is : was.program.handler ≡ h
  handler_is = (λ i. record { 0 = was.handler i }) ∙ own

  whole : (newer ++ was.newer) ++ was.moment ∷ was.older ≡ ms
  whole = append_assoc newer was.newer (was.moment ∷ was.older) ∙ ap (λ (xs : List Moment). newer ++ xs) (sym was.split) ∙ sym is

  has : HasEntry es (stamp_of was.moment was.older) was.program
  has = subst (λ (xs : List Entered). HasEntry xs (stamp_of was.moment was.older) was.program) (sym of.journal_is)
      (entry-before (journal w b ms) of.last (stamp_of was.moment was.older) was.program
      (subst (λ (xs : List Moment). HasEntry (journal w b xs) (stamp_of was.moment was.older) was.program) whole
      (install-entry w b (newer ++ was.newer) was.older was.moment was.program was.node was.entry)))

  in_time : was.moment.time ≤ by
  in_time =
      let come_now : HaveCome w now = earlier-come w now newer (subst (λ (xs : List Moment). HaveCome w xs) is come) in
      let early : was.moment.time ≤ last_time (was.newer ++ (was.moment ∷ was.older)) = times-rise w was.newer was.older was.moment (subst (λ (xs : List Moment). HaveCome w xs) was.split come_now) in
      let late : last_time (was.newer ++ (was.moment ∷ was.older)) ≤ by = subst (λ (xs : List Moment). last_time xs ≤ by) was.split last in
      omega (arith, early, late)

  first : p.version ≤ held (next_state w.machine (state_after_all w.machine (first_state w.machine) has.front) (Installed was.program)) h
  first =
      let now_held : held (next_state w.machine (state_after_all w.machine (first_state w.machine) has.front) (Installed was.program)) h ≡ was.program.version
      = holds-installed w.machine (state_after_all w.machine (first_state w.machine) has.front) was.program h handler_is in
      let version_is : was.program.version ≡ p.version = was.version_is in
      omega (arith, now_held, version_is)

-- ---- a line that is left alone

undisturbed : (d : Description) (meaning : Meaning) (script : Script) (programs : ℕ → HeldProgram) (i by : ℕ) (h : HandlerId) (p : HeldProgram) (before later : List Moment) (m : Moment)
    → IsRightScript d script programs → p.handler ≡ h → HaveCome (world_of d meaning script programs) (later ++ (m ∷ before)) → m.cause ≡ event.Planned i → IsLeftAlone script i h by
    → IsUndisturbed (world_of d meaning script programs) p by (m ∷ before) later
undisturbed d meaning script programs i by h p before later m right own come cause alone newer older x is low = (calm, none) where
  come_x : HaveCome (world_of d meaning script programs) (x ∷ (older ++ (m ∷ before)))
  come_x = earlier-come (world_of d meaning script programs) (x ∷ (older ++ (m ∷ before))) newer
      (subst (λ (ms : List Moment). HaveCome (world_of d meaning script programs) ms) (ap (λ (ms : List Moment). ms ++ (m ∷ before)) is ∙ append_assoc newer (x ∷ older) (m ∷ before)) come)

  timely : IsPlanTimely (world_of d meaning script programs)
  timely = (plans_rightly d meaning script programs right).timely

  said : (j : ℕ) (l : Planned) → x.cause ≡ event.Planned j → slice_get script.events j ≡ Some l → (l.what ≢ what.Reset) × IfInjects l.what (λ g version. g ≢ h)
  said j l cause_x stands =
      let order : i < j = lines_in_order (world_of d meaning script programs) timely before older x m i j come_x cause cause_x in
      let line_stands : slice_get (map (line_planned programs) script.events) j ≡ Some (line_planned programs l)
      = slice_get-map (line_planned programs) script.events j ∙ ap (λ (o : Option Planned). option_map (line_planned programs) o) stands in
      let time_is : x.time ≡ l.time = line-time (world_of d meaning script programs) (older ++ (m ∷ before)) x j (line_planned programs l) timely come_x cause_x line_stands in
      alone j l order stands (omega (arith, time_is, low))

  calm : resets (effect_at (world_of d meaning script programs) (state (world_of d meaning script programs) (older ++ (m ∷ before))) x).deed ≡ false
  calm = elim (resets-by (world_of d meaning script programs) (node_at (world_of d meaning script programs) (state (world_of d meaning script programs) (older ++ (m ∷ before))) x) x.cause) [
    | inl quiet ↦ quiet
    | inr found ↦ absurd (refused found (planned-at script programs found.place found.line found.stands))
  ] where
    refused : (found : ResetsBy (world_of d meaning script programs) x.cause) → IsPlannedAt script programs found.place found.line → ⊥
    refused found at = (said found.place at.planned found.cause at.stands).0 (says-reset programs at.planned.what (ap (λ (y : PlannedLine). y.what) at.line ∙ found.says))

  none : (j : ℕ) (q : HeldProgram) → x.cause ≡ event.Planned j → InjectsAt (world_of d meaning script programs) j q → q.handler.0 ≡ p.handler.0 → q.version ≤ p.version
  none j q cause_x injects same = absurd (refused (says-inject d meaning script programs j q injects)) where
    refused : SaysInject script programs j q → ⊥
    refused says =
        let other : says.handler ≢ h = subst (λ (y : What). IfInjects y (λ g version. g ≢ h)) says.what_is (said j says.planned cause_x says.stands).1 in
        let held_as : (programs says.program).handler ≡ says.handler = (right.programs_are j says.program says.version says.handler says.planned says.stands says.what_is).handler_is in
        let is_h : q.handler ≡ h = (λ k. record { 0 = same k }) ∙ own in
        other (sym held_as ∙ ap (λ (y : HeldProgram). y.handler) says.program_is ∙ is_h)

-- ---- nodes that are away

away-node : (w : World) (a b hops : ℕ) → ((l : Link) → Contains w.links l → (l.from < w.nodes) × (l.to < w.nodes)) → a < w.nodes → IsAway w.links a b hops → b < w.nodes
away-node w a b zero ends low away = subst (λ (k : ℕ). k < w.nodes) away low
away-node w a b (suc d) ends low away = omega (arith, (ends away.2.link away.2.among).1, away.2.to)

-- ---- the bound

pub some-and : {X : Type 0} (P Q : X → Type 0) (o : Option X) → ((x : X) → P x → Q x) → IsSomeAnd o P → IsSomeAnd o Q
some-and P Q None step is = absurd is
some-and P Q (Some x) step is = step x is

-- whatever the programs mean
pub report-bound : (d : Description) (meaning : Meaning) (script : Script) (programs : ℕ → HeldProgram) (how : RunEnd) (r : Report) (i time a b hops : ℕ) (h : HandlerId) (version : ℕ)
    → IsRightScript d script programs → IsOpenScript script → (of : IsWorldReport (world_of d meaning script programs) how r)
    → InjectsOn script i time a h version → IsAway script.links a b hops
    → IsLeftAlone script i h (time + 3 * longest d.trickle * hops)
    → HasReached (world_of d meaning script programs) how of.moments (time + 3 * longest d.trickle * hops)
    → IsSomeAnd (slice_get r.nodes b) (λ l. TellsInstallBy (world_of d meaning script programs).machine h version (time + 3 * longest d.trickle * hops) (journal_of l))
report-bound d meaning script programs how r i time a b hops h version right is_open of injects away alone reached =
    at_event (line-comes (world_of d meaning script programs) of.moments i (line_planned programs planned) (time + 3 * longest d.trickle * hops) of.come stands done (omega arith)) where
      planned : Planned
      planned = record { time = time; node = a; what = what.Inject injects.program h version }

      stands : slice_get (map (line_planned programs) script.events) i ≡ Some (record { time = time; node = a; what = Inject (programs injects.program) })
      stands = slice_get-map (line_planned programs) script.events i ∙ ap (λ (o : Option Planned). option_map (line_planned programs) o) injects.line

      injects_at : InjectsAt (world_of d meaning script programs) i (programs injects.program)
      injects_at = (record { time = time; node = a; what = Inject (programs injects.program) }, stands, refl)

      done : IsDone (state (world_of d meaning script programs) of.moments) (time + 3 * longest d.trickle * hops)
      done = reached_is_done (world_of d meaning script programs) how of.moments (time + 3 * longest d.trickle * hops) of.come of.at_end reached

      program_is : IsInjectedProgram h version (programs injects.program)
      program_is = right.programs_are i injects.program version h (record { time = time; node = a; what = what.Inject injects.program h version }) injects.line refl

      node_low : a < script.nodes
      node_low = (all-at (IsRightPlanned d script.nodes script.until _) script.events i _ right.right.events injects.line).node_high

      b_low : b < script.nodes
      b_low = away-node (world_of d meaning script programs) a b hops (open_scripts d meaning script programs right is_open).ends node_low away

      at_event : HasEvent of.moments time (event.Planned i) → IsSomeAnd (slice_get r.nodes b) (λ l. TellsInstallBy (world_of d meaning script programs).machine h version (time + 3 * longest d.trickle * hops) (journal_of l))
      at_event found = installs (injected_is_installed d meaning script programs right is_open found.older found.newer found.moment i b hops (programs injects.program) come found.cause injects_at away_event calm done_event) where
        come : HaveCome (world_of d meaning script programs) (found.newer ++ (found.moment ∷ found.older))
        come = subst (λ (ms : List Moment). HaveCome (world_of d meaning script programs) ms) found.split of.come

        node_is : event_node (world_of d meaning script programs) found.moment.cause ≡ a
        node_is = ap (event_node (world_of d meaning script programs)) found.cause ∙ ap (λ (o : Option PlannedLine). option_map_or (λ (l : PlannedLine). l.node) o 0) stands

        away_event : IsAway script.links (event_node (world_of d meaning script programs) found.moment.cause) b hops
        away_event = subst (λ (k : ℕ). IsAway script.links k b hops) (sym node_is) away

        calm : IsUndisturbed (world_of d meaning script programs) (programs injects.program) (found.moment.time + 3 * longest d.trickle * hops) (found.moment ∷ found.older) found.newer
        calm = undisturbed d meaning script programs i (found.moment.time + 3 * longest d.trickle * hops) h (programs injects.program) found.older found.newer found.moment right program_is.handler_is come found.cause
            (subst (λ (t : ℕ). IsLeftAlone script i h (t + 3 * longest d.trickle * hops)) (sym found.time) alone)

        done_event : IsDone (state (world_of d meaning script programs) (found.newer ++ (found.moment ∷ found.older))) (found.moment.time + 3 * longest d.trickle * hops)
        done_event = subst (λ (t : ℕ). IsDone (state (world_of d meaning script programs) (found.newer ++ (found.moment ∷ found.older))) (t + 3 * longest d.trickle * hops)) (sym found.time)
            (subst (λ (ms : List Moment). IsDone (state (world_of d meaning script programs) ms) (time + 3 * longest d.trickle * hops)) found.split done)

        installs : InstalledBy (world_of d meaning script programs) (programs injects.program) b (found.moment.time + 3 * longest d.trickle * hops) (found.moment ∷ found.older) found.newer
            → IsSomeAnd (slice_get r.nodes b) (λ l. TellsInstallBy (world_of d meaning script programs).machine h version (time + 3 * longest d.trickle * hops) (journal_of l))
        installs by = some-and (IsLogOf (world_of d meaning script programs) how of.moments b) (λ (l : Log). TellsInstallBy (world_of d meaning script programs).machine h version (time + 3 * longest d.trickle * hops) (journal_of l)) (slice_get r.nodes b)
            (λ l is. subst (λ (v : ℕ). TellsInstallBy (world_of d meaning script programs).machine h v (time + 3 * longest d.trickle * hops) (journal_of l)) program_is.version_is
            (install-by (world_of d meaning script programs) how of.moments by.newer (by.older ++ (found.moment ∷ found.older)) b (time + 3 * longest d.trickle * hops) h (programs injects.program) (journal_of l) of.come
            (found.split ∙ ap (λ (ms : List Moment). ms ++ (found.moment ∷ found.older)) by.split ∙ append_assoc by.newer by.older (found.moment ∷ found.older))
            (subst (λ (t : ℕ). last_time (by.older ++ (found.moment ∷ found.older)) ≤ t + 3 * longest d.trickle * hops) found.time by.in_time)
            by.installed program_is.handler_is is.journal))
            (of.logs b b_low)

pub reports_keep_the_bound : ReportsKeepTheBound
reports_keep_the_bound d script ps how r i time a b hops h version programs is_open of injects away alone reached =
    report-bound d _ script _ how r i time a b hops h version (right-script d script ps programs) is_open of injects away alone reached

pub reports_show_the_bound : ReportsShowTheBound
reports_show_the_bound d script ps how r programs of is_open i time a b hops h version injects away alone shows =
    reports_keep_the_bound d script ps how r i time a b hops h version programs is_open of injects away alone (shown_is_reached d script ps how r (time + 3 * longest d.trickle * hops) of shows)
