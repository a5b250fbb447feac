-- What an event that comes to a node finds there.
use Rattle.std.specs.Prelude.{◌≡◌, ◌≢◌, ℕ, ◌+◌, ◌<◌, List, [], length}
use Rattle.mate_num.specs.declared.bounds.TheConstants.{CONTEXTS_MAX}
use Rattle.mate_num.specs.declared.id.ContextId.{ContextId}
use Rattle.mate_journal.specs.Machine.{HeldProgram}
use Rattle.mate_journal.specs.Journal.{NodeState, held}
use Rattle.mate_journal.specs.WellFormed.{IsWaiting}
use Rattle.mate_journal.specs.declared.program.Program.{Program}
use Rattle.node_state.specs.Meaning.{meaning_of}
use Rattle.node_calls.specs.Installing.{IsRightCapsule, program_by}
use Rattle.capsule_codec.specs.Image.{CapsuleParts}
use Rattle.node_programs.specs.ScriptSteps.{program_at}
use Rattle.capsule_exchange.specs.Happenings.{held_version}
use Rattle.vm_shape.specs.declared.description.Description.{Description}
use Rattle.vm_shape.specs.Shapes.{shape_of}
use Rattle.script_steps.specs.declared.world.World.{World as Script}
use Rattle.world_rules.specs.Cause.{Cause}
use Rattle.world_rules.specs.Cause as event
use Rattle.world_rules.specs.World.{World, world_of}
use Rattle.world_rules.specs.Effect.{Node, Installing, node_effect}
use Rattle.world_air.specs.Air.{IsFitPacket}

-- the world of a script with its programs, whose nodes run the programs' code
abbrev pub code_world : Description → Script → List Program → World
code_world d script ps = world_of d (meaning_of (shape_of d)) script (program_at ps)

-- the program is one that the node installs: a right capsule, with bytes, and newer than what is held, by the journal and by the exchange
pub record IsTaken (w : World) (n : Node) (p : HeldProgram) : Type 0 where
  pub capsule : CapsuleParts
  pub right : IsRightCapsule w.description p.image.items capsule
  pub is : program_by capsule p.image.items ≡ p
  pub newer : held n.reading p.handler < p.version
  pub newer_known : held_version p.handler.0 n.exchange < p.version
  pub filled : p.image.items ≢ []

-- the one invocation that waits in the context is this one
pub record AwaitsAlone (r : NodeState) (c : ContextId) (inv : ℕ) : Type 0 where
  pub waits : IsWaiting r inv
  pub context : (r.invocations inv).context ≡ c
  pub small : c.0 < CONTEXTS_MAX
  pub alone : (other : ℕ) → IsWaiting r other → (r.invocations other).context ≡ c → other ≡ inv

-- an answer comes to the invocation that waits in its context, a packet is right for the machine, and an interval ends at its end
abbrev pub IsExpected : World → Node → ℕ → Cause → Type 0
IsExpected w n time (event.Planned line) = line < length w.plan
IsExpected w n time (event.Period node h) = h.0 < length w.description.handlers.items
IsExpected w n time (event.Fire node) = Unit {0}
IsExpected w n time (event.Expire node) = time ≡ n.timer.running.begin + n.timer.running.length
IsExpected w n time (event.Pump node) = Unit {0}
IsExpected w n time (event.Due node c inv value) = AwaitsAlone n.reading c inv
IsExpected w n time (event.Deliver link number packet) = (link < length w.links) × IsFitPacket w packet

-- the state between events lets this one come to the node: it is expected, and its program, if it has one, is taken
pub record MayComeTo (w : World) (n : Node) (time : ℕ) (c : Cause) : Type 0 where
  pub expected : IsExpected w n time c
  pub installs : (p : HeldProgram) → (node_effect w n c).deed ≡ Installing p → IsTaken w n p
