-- How the contexts of a node, and what it holds of its handlers, agree with the state that its journal leads to.
use Rattle.std.specs.Prelude.{length, ◌≡◌, ℕ, ◌<◌, ◌≤◌, true, Option, Some, None}
use Rattle.std.specs.Option.{option_map}
use Rattle.mate_num.specs.declared.id.ContextId.{ContextId}
use Rattle.mate_num.specs.declared.id.HandlerId.{HandlerId}
use Rattle.mate_num.specs.Locks as locks
use Rattle.mate_num.specs.Uses.{IsSameUses}
use Rattle.mate_code.specs.CodeUses.{uses_of}
use Rattle.mate_code.specs.Effect.{Private}
use Rattle.code_verifier.specs.Verified.{VerifiedCode, IsVerifiedCode, IsAtVerified as FitsCode}
use Rattle.exec_unit.specs.Step.{Waits}
use Rattle.vm_shape.specs.declared.description.Description.{Description}
use Rattle.vm_shape.specs.Shapes.{shape_of}
use Rattle.mate_journal.specs.Machine.{HeldProgram}
use Rattle.mate_journal.specs.Journal.{Phase, Unposted, Queued, Ready, Waiting, Over, is_live, Invocation, NodeState}
use Rattle.node_state.specs.declared.handlers.Held.{Held}
use Rattle.node_state.specs.declared.seat.Seat.{Seat}
use Rattle.node_state.specs.declared.contexts.Contexts.{Contexts}
use Rattle.node_state.specs.At.{At, idle, at, IsPlaced}
use Rattle.node_state.specs.Programs.{Programs}
use Rattle.node_state.specs.Standing.{standing}
use Rattle.node_state.specs.Meaning.{image_code}

-- the program, as a journal has it
abbrev pub program_of : HandlerId → Held → HeldProgram
program_of h x = record { handler = h; version = x.version; image = x.image }

-- the verified code of the image, with the locks that it takes
pub record IsHeld (d : Description) (x : Held) : Type 0 where
  pub shape : x.code.shape ≡ shape_of d
  pub code : x.code.code ≡ image_code (shape_of d) x.image
  pub verified : IsVerifiedCode x.code
  pub locks_are : IsSameUses (locks.lock_uses x.locks) (uses_of (shape_of d) (image_code (shape_of d) x.image))
  pub version_is : 0 < x.version
  pub full : 0 < length x.image.items

-- what is held is what the journal records to be installed
pub record AreInstalled (d : Description) (installed : HandlerId → Option HeldProgram) (held : Programs) : Type 0 where
  pub each : (h : HandlerId) (x : Held) → held h ≡ Some x → IsHeld d x
  pub same : (h : HandlerId) → installed h ≡ option_map (program_of h) (held h)

-- ---- contexts

-- the invocation's machine fits its code, or waits in it
abbrev pub FitsIn : VerifiedCode → Phase → Private → Type 0
FitsIn v Unposted p = Unit {0}
FitsIn v Queued p = FitsCode v p
FitsIn v Ready p = FitsCode v p
FitsIn v (Waiting f args) p = Waits v p
FitsIn v Over p = Unit {0}

-- the seat is that of the live invocation i, which has the context and the program that is held for its handler
pub record IsSeated (held : Programs) (posts : ℕ) (i : Invocation) (c : ContextId) (s : Seat) (a : At) : Type 0 where
  pub x : Held
  pub is_held : held s.handler ≡ Some x
  pub handler : i.handler ≡ s.handler
  pub program : i.program ≡ program_of s.handler x
  pub context : i.context ≡ c
  pub number : s.inv ≤ posts
  pub live : is_live i.phase ≡ true
  pub stands : a ≡ standing i.phase s x.locks
  pub fits : FitsIn x.code i.phase s.machine

-- a context is idle, or has its invocation
abbrev pub IsRightWith : Programs → NodeState → ContextId → At → Option Seat → Type 0
IsRightWith held r c a None = a ≡ idle
IsRightWith held r c a (Some s) = IsSeated held r.posts (r.invocations s.inv) c s a

abbrev pub IsRightContext : Programs → NodeState → ContextId → At → Type 0
IsRightContext held r c a = IsRightWith held r c a a.seat

-- each context is idle or has a live invocation, and each live invocation has its context
pub record ContextsMatch (held : Programs) (r : NodeState) (contexts : Contexts) : Type 0 where
  pub each : (c : ContextId) → IsRightContext held r c (at contexts c)
  pub placed : (n : ℕ) → is_live (r.invocations n).phase ≡ true → IsPlaced (at contexts (r.invocations n).context) n
