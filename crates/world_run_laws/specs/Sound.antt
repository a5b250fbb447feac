-- The state between the events of a right world: whatever comes next finds what it needs.
use Rattle.std.specs.Prelude.{ℕ, ◌<◌, ◌≤◌, List}
use Rattle.mate_num.specs.Lists.{Each, EachOver}
use Rattle.mate_journal.specs.Journal.{first_state}
use Rattle.mate_journal.specs.WellFormed.{IsWellFormed}
use Rattle.capsule_exchange.specs.Happenings.{IsOpen}
use Rattle.journal_laws.specs.Waiting.{WaitApart, WaitSmall}
use Rattle.world_rules.specs.Cause.{Cause}
use Rattle.world_rules.specs.World.{World, handlers}
use Rattle.world_rules.specs.Effect.{Node, event_node}
use Rattle.world_rules.specs.State.{Moment, messages, state}
use Rattle.world_rules.specs.Run.{IsNext, HaveCome, journal}
use Rattle.world_air.specs.Air.{AreFitPackets}
use Rattle.world_laws.specs.Times.{last_time}
use Rattle.world_run_laws.specs.Coming.{MayComeTo}

-- a node between events: those that wait do so apart, in contexts of a machine; its interval began before; and nothing that is complete
-- waits to be installed
pub record IsSoundNode (w : World) (n : Node) (last : ℕ) : Type 0 where
  pub apart : WaitApart n.reading
  pub small : WaitSmall n.reading
  pub begun : n.timer.running.begin ≤ last
  pub is_open : IsOpen (handlers w) n.exchange

-- each cause that is due is of a node of the world
abbrev pub AreOfNodes : World → List Cause → Type 0
AreOfNodes w = Each (λ c. event_node w c < w.nodes)

-- the messages of the calls that these events recorded are right for the machine
abbrev pub HaveFitMessages : World → List Moment → Type 0
HaveFitMessages w = EachOver (λ m before. AreFitPackets w (messages w m.told))

-- the node made a well-formed journal in these events
abbrev pub HasWellFormed : World → ℕ → List Moment → Type 0
HasWellFormed w k ms = IsWellFormed w.machine (first_state w.machine) (journal w k ms)

-- ---- the laws

-- whatever is due next finds what it needs on its node
abbrev pub NextMayCome : World → Type 0
NextMayCome w = (ms : List Moment) (time : ℕ) (c : Cause) → HaveCome w ms → HaveFitMessages w ms → HasWellFormed w (event_node w c) ms
    → IsNext (state w ms) time c → time ≤ w.until
    → (event_node w c < w.nodes) × (last_time ms ≤ time) × MayComeTo w ((state w ms).nodes (event_node w c)) time c

-- each node is sound between events
abbrev pub NodesAreSound : World → Type 0
NodesAreSound w = (ms : List Moment) (k : ℕ) → HaveCome w ms → HasWellFormed w k ms → k < w.nodes
    → IsSoundNode w ((state w ms).nodes k) (last_time ms)

-- and all that is due is of nodes of the world
abbrev pub DuesAreOfNodes : World → Type 0
DuesAreOfNodes w = (ms : List Moment) (t : ℕ) → HaveCome w ms → t ≤ w.until → AreOfNodes w ((state w ms).due t)
