-- What stands between the events of a right world with right programs.
use Rattle.std.proofs.Common.{◌≡◌, ◌<◌, ℕ, List, [], ◌∷◌, refl, sym, ◌∙◌, ap, subst, inl, inr}
use Rattle.std.specs.Prelude.{ℤ}
use Rattle.mate_num.specs.declared.bounds.TheConstants.{CONTEXTS_MAX}
use Rattle.mate_num.specs.declared.id.ContextId.{ContextId}
use Rattle.vm_shape.specs.declared.description.Description.{Description}
use Rattle.vm_shape.specs.Shapes.{shape_of}
use Rattle.mate_journal.specs.Machine.{HeldProgram}
use Rattle.mate_journal.specs.Pace.{no_pace}
use Rattle.mate_journal.specs.declared.program.Program.{Program}
use Rattle.node_state.specs.Meaning.{meaning_of}
use Rattle.node_programs.specs.ScriptSteps.{program_at}
use Rattle.script_steps.specs.declared.world.World.{World as Script}
use Rattle.journal_laws.specs.Waiting.{HasFewContexts}
use Rattle.world_rules.specs.Cause.{Cause}
use Rattle.world_rules.specs.Cause as event
use Rattle.world_rules.specs.World.{World}
use Rattle.world_rules.specs.Effect.{Installing, node_effect, event_node}
use Rattle.world_rules.specs.State.{Moment, state}
use Rattle.world_rules.specs.Run.{IsNext, HaveCome}
use Rattle.world_laws.specs.Times.{IsRightSet, last_time}
use Rattle.mate_num.specs.Lists.{Among}
use Rattle.world_laws.proofs.Points.{among-next, last-before, run-timed}
use Rattle.world_laws.specs.Installs.{InstallsAreNewer}
use Rattle.world_laws.specs.Versions.{InjectsAt}
use Rattle.world_laws.proofs.Agree.{held_agrees}
use Rattle.world_laws.proofs.Versions.{run-injected}
use Rattle.world_laws.specs.HopBound.{IsRightPlan}
use Rattle.world_laws.proofs.Premises.{right_set, plans_rightly, scripts_installs_are_newer}
use Rattle.world_run_laws.specs.Coming.{code_world, IsTaken, AwaitsAlone, IsExpected}
use Rattle.node_programs.specs.WorldPrograms.{AreProgramsOfWorld}
use Rattle.world_run_laws.specs.Sound.{AreOfNodes, HaveFitMessages, HasWellFormed, NextMayCome, NodesAreSound, DuesAreOfNodes}
use Rattle.world_laws.proofs.Placed.{IsPlaced, HasEnds, placed-node, run-placed, script-ends}
use Rattle.world_run_laws.proofs.Follows.{few-contexts, run-apart, run-small}
use Rattle.world_run_laws.proofs.Awaited.{run-awaited}
use Rattle.world_run_laws.proofs.Open.{run-none, open-node}
use Rattle.world_run_laws.proofs.Installed.{IsInjected, next-injected}
use Rattle.world_run_laws.proofs.Heard.{AreProgramsFit}
use Rattle.world_run_laws.proofs.Fit.{run-fit}
use Rattle.world_run_laws.proofs.Programs.{HasProgram, line-program, right-script, programs-fit, IsCapsuleProgram, capsule-program}

-- what holds of the world of a right script with right programs
record IsRunnable (w : World) : Type 0 where
  ends : HasEnds w
  set : IsRightSet w.description.trickle
  few : HasFewContexts w.machine
  plan : IsRightPlan w
  fit : AreProgramsFit w
  newer : InstallsAreNewer w
  lines : (i : ℕ) (q : HeldProgram) → InjectsAt w i q → HasProgram w.description q

runnable : (d : Description) (script : Script) (ps : List Program) → AreProgramsOfWorld d script ps → IsRunnable (code_world d script ps)
runnable d script ps right = record {
  ends = script-ends d (meaning_of (shape_of d)) script (program_at ps) right.world;
  set = right_set d;
  few = few-contexts d (meaning_of (shape_of d));
  plan = plans_rightly d (meaning_of (shape_of d)) script (program_at ps) (right-script d script ps right);
  fit = programs-fit d script ps right;
  newer = scripts_installs_are_newer d (meaning_of (shape_of d)) script (program_at ps) (right-script d script ps right);
  lines = λ i q injects. line-program d script ps i q right injects;
}

-- ---- nodes

of-nodes : (w : World) (cs : List Cause) → ((c : Cause) → Among c cs → event_node w c < w.nodes) → AreOfNodes w cs
of-nodes w [] all = tt
of-nodes w (c ∷ cs) all = (all c (inl refl), of-nodes w cs (λ x a. all x (inr a)))

dues : (w : World) → IsRunnable w → DuesAreOfNodes w
dues w right ms t come in_time = of-nodes w ((state w ms).due t) (λ c a. placed-node w c right.ends (run-placed w ms right.ends come t c a))

nodes : (w : World) → IsRunnable w → NodesAreSound w
nodes w right ms k come well below = record {
  apart = run-apart w k ms well.follow;
  small = run-small w k ms right.few well.follow;
  begun = (run-timed w k ms right.set below come).0.begun_before;
  is_open = λ h within. open-node w ms h ((state w ms).nodes k).exchange right.plan.one_image (λ i q injects. (right.fit i q injects).low)
      ((run-injected w ms right.plan.one_image come).nodes k) (run-none w k h ms);
}

-- ---- what comes next

alone : (w : World) (ms : List Moment) (time node : ℕ) (c : ContextId) (inv : ℕ) (value : ℤ) → IsRunnable w → HaveCome w ms → HasWellFormed w node ms → Among (event.Due node c inv value) ((state w ms).due time)
    → AwaitsAlone ((state w ms).nodes node).reading c inv
alone w ms time node c inv value right come well a =
    let awaits = (run-awaited w node ms come well.follow).each time c inv value a in
    record {
      waits = awaits.waits;
      context = awaits.context;
      small = subst (λ (x : ContextId). x.0 < CONTEXTS_MAX) awaits.context (run-small w node ms right.few well.follow inv awaits.waits);
      alone = λ other waits context. run-apart w node ms well.follow other inv waits awaits.waits (context ∙ sym awaits.context);
    }

expected : (w : World) (ms : List Moment) (time : ℕ) (c : Cause) → IsRunnable w → HaveCome w ms → HaveFitMessages w ms → HasWellFormed w (event_node w c) ms → Among c ((state w ms).due time) → IsPlaced w c
    → IsExpected w ((state w ms).nodes (event_node w c)) time c
expected w ms time (event.Planned line) right come told well a placed = placed
expected w ms time (event.Period node h) right come told well a placed = placed.1
expected w ms time (event.Fire node) right come told well a placed = tt
expected w ms time (event.Expire node) right come told well a placed = (run-timed w node ms right.set placed come).0.only_end time a
expected w ms time (event.Pump node) right come told well a placed = tt
expected w ms time (event.Due node c inv value) right come told well a placed = alone w ms time node c inv value right come well a
expected w ms time (event.Deliver link number packet) right come told well a placed = (placed, (run-fit w ms right.plan.one_image right.fit come told).air time link number packet a)

taken : (w : World) (ms : List Moment) (time : ℕ) (c : Cause) (p : HeldProgram) → IsRunnable w → HaveCome w ms → IsNext (state w ms) time c → (node_effect w ((state w ms).nodes (event_node w c)) c).deed ≡ Installing p
    → IsTaken w ((state w ms).nodes (event_node w c)) p
taken w ms time c p right come next deed = by (next-injected w ms time c p right.plan.one_image come next deed) where
  by : IsInjected w p.handler.0 p.version p.image.items → IsTaken w ((state w ms).nodes (event_node w c)) p
  by is =
      let own = right.lines is.place is.program is.injects in
      let capsule : IsCapsuleProgram w.description p = capsule-program w.description own.program p own.right
      (ap (λ (x : HeldProgram). x.handler.0) own.is ∙ is.handler) (ap (λ (x : HeldProgram). x.version) own.is ∙ is.version_is) (ap (λ (x : HeldProgram). x.image.items) own.is ∙ is.image_is) in
      let newer = right.newer ms (record { time = time; cause = c; told = []; pace = no_pace }) p come next deed in
      record {
        capsule = capsule.capsule;
        right = capsule.right;
        is = capsule.is;
        newer = newer;
        newer_known = subst (λ (v : ℕ). v < p.version) (held_agrees w (event_node w c) p.handler.0 ms come) newer;
        filled = capsule.filled;
      }

next_event : (w : World) → IsRunnable w → NextMayCome w
next_event w right ms time c come told well next in_time =
    let a = among-next (state w ms) time c next in
    let placed = run-placed w ms right.ends come time c a in
    let below = placed-node w c right.ends placed in (
      below,
      last-before (state w ms) (last_time ms) time c (run-timed w (event_node w c) ms right.set below come).1 next,
      record { expected = expected w ms time c right come told well a placed; installs = λ p deed. taken w ms time c p right come next deed },
    )

-- ---- of a right world

pub next-may-come : (d : Description) (script : Script) (ps : List Program) → AreProgramsOfWorld d script ps → NextMayCome (code_world d script ps)
next-may-come d script ps right = next_event (code_world d script ps) (runnable d script ps right)

pub nodes-sound : (d : Description) (script : Script) (ps : List Program) → AreProgramsOfWorld d script ps → NodesAreSound (code_world d script ps)
nodes-sound d script ps right = nodes (code_world d script ps) (runnable d script ps right)

pub dues-of-nodes : (d : Description) (script : Script) (ps : List Program) → AreProgramsOfWorld d script ps → DuesAreOfNodes (code_world d script ps)
dues-of-nodes d script ps right = dues (code_world d script ps) (runnable d script ps right)
