-- What the next event installs was injected by a line of the script.
use Rattle.std.proofs.Common.{◌≡◌, ℕ, List, refl, subst, inl, inr}
use Rattle.std.specs.Prelude.{slice_get}
use Rattle.mate_journal.specs.Machine.{HeldProgram}
use Rattle.world_rules.specs.Cause.{Cause}
use Rattle.world_rules.specs.Cause as event
use Rattle.world_rules.specs.World.{World}
use Rattle.world_rules.specs.Effect.{Node, Installing, node_effect, event_node}
use Rattle.world_rules.specs.State.{Moment, state}
use Rattle.world_rules.specs.Run.{IsNext, HaveCome}
use Rattle.mate_num.specs.Lists.{Among}
use Rattle.world_laws.proofs.Points.{among-next}
use Rattle.world_laws.proofs.Happens.{Installer, installer}
use Rattle.world_laws.specs.Versions.{WasInjected, InjectsAt, IsOneImage}
use Rattle.world_laws.proofs.Injected.{IsOfInjected}
use Rattle.world_laws.proofs.Versions.{IsInjectedWorld, node-hears, completed-injected, option-injects, run-injected}

-- a line injects a program of this handler and version with this image
pub record IsInjected (w : World) (h version : ℕ) (image : List ℕ) : Type 0 where
  pub place : ℕ
  pub program : HeldProgram
  pub injects : InjectsAt w place program
  pub handler : program.handler.0 ≡ h
  pub version_is : program.version ≡ version
  pub image_is : program.image.items ≡ image

pub is-injected : (w : World) (ms : List Moment) (h version : ℕ) (image : List ℕ) → WasInjected w ms h version image → IsInjected w h version image
is-injected w ms h version image was = record { place = was.place; program = was.program; injects = was.injects; handler = was.handler; version_is = was.version_is; image_is = was.image_is }

by-line : (w : World) (n : Node) (c : Cause) (i : ℕ) (p : HeldProgram) → c ≡ event.Planned i → (node_effect w n c).deed ≡ Installing p → IsInjected w p.handler.0 p.version p.image.items
by-line w n c i p is deed = record {
  place = i;
  program = p;
  injects = option-injects (slice_get w.plan i) p (subst (λ (x : Cause). (node_effect w n x).deed ≡ Installing p) is deed);
  handler = refl;
  version_is = refl;
  image_is = refl;
}

pub next-injected : (w : World) (ms : List Moment) (time : ℕ) (c : Cause) (p : HeldProgram) → IsOneImage w → HaveCome w ms → IsNext (state w ms) time c → (node_effect w ((state w ms).nodes (event_node w c)) c).deed ≡ Installing p
    → IsInjected w p.handler.0 p.version p.image.items
next-injected w ms time c p one come next deed = by (installer w ((state w ms).nodes (event_node w c)) c p deed) where
  world : IsInjectedWorld w ms (state w ms)
  world = run-injected w ms one come

  by : Installer c ((state w ms).nodes (event_node w c)).exchange p → IsInjected w p.handler.0 p.version p.image.items
  by (inl line) = by-line w ((state w ms).nodes (event_node w c)) c line.0 p line.1 deed
  by (inr got) =
      let exchange = ((state w ms).nodes (event_node w c)).exchange in
      let fits : IsOfInjected w ms got.2 = world.air time got.0 got.1 got.2 (subst (λ (x : Cause). Among x ((state w ms).due time)) got.3 (among-next (state w ms) time c next)) in
      is-injected w ms p.handler.0 p.version p.image.items (completed-injected w ms exchange got.2 p one (node-hears w ms exchange got.2 (world.nodes (event_node w c)) fits) got.4 got.5)
