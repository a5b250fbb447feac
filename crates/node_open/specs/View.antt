-- What contracts see of a node: its machine, its log and how much of it is gone, the line of its ready invocations, how many
-- instructions each live one executed, and its places for programs.
use Rattle.std.specs.Prelude.{◌≡◌, ◌≤◌, ℕ, true, List, length, slice_index_or}
use Rattle.mate_num.specs.declared.call.Stamp.{Stamp}
use Rattle.mate_num.specs.declared.id.ContextId.{ContextId}
use Rattle.vm_shape.specs.declared.description.Description.{Description}
use Rattle.mate_journal.specs.Log.{Log, IsSameLog}
use Rattle.mate_journal.specs.Journal.{JournalEntry, is_started, NodeState}
use Rattle.mate_journal.specs.Pace.{Pace}
use Rattle.mate_journal.specs.OpenLog.{Gone}
use Rattle.node_state.specs.Keeps.{reading, Grows}

-- `log` is the whole log, of which `gone` may be forgotten. `line` has the ready invocations, the one that has the next
-- turn first. `counts` has for each context the number of its invocation and how many instructions this one executed, or 0
-- and 0. For so many handlers as `places` says, from the first on, the node has room for a program of its own.
pub record NodeView : Type 0 where
  pub description : Description
  pub log : Log
  pub gone : Gone
  pub line : List ℕ
  pub counts : List (ℕ × ℕ)
  pub places : ℕ

-- it has for each handler
abbrev pub HasPlaces : NodeView → Type 0
HasPlaces v = length v.description.handlers.items ≤ v.places

-- the state of the node
abbrev pub heard_of : NodeView → NodeState
heard_of v = reading v.description v.log

abbrev pub count_at : NodeView → ContextId → ℕ × ℕ
count_at v c = slice_index_or v.counts c.0 (0, 0)

-- the pace of the node
pub record HasPace (v : NodeView) (p : Pace) : Type 0 where
  pub line : p.line ≡ v.line
  pub counts : (c : ContextId) → is_started ((heard_of v).invocations (count_at v c).0).phase ≡ true
      → (count_at v c).1 ≡ p.counts (count_at v c).0

-- the node records more with this stamp, and what it records and the pace after it meet the rule
pub record Tells (old new : NodeView) (at : Stamp) (Rule : Pace → List JournalEntry → Pace → Type 0) : Type 0 where
  pub told : List JournalEntry
  pub description : new.description ≡ old.description
  pub grows : Grows old.log new.log at told
  pub gone : new.gone ≡ old.gone
  pub places : old.places ≤ new.places
  pub paces : (p : Pace) → HasPace old p → (q : Pace) × Rule p told q × HasPace new q

-- the same node, with as much room or more
pub record IsSameNode (old new : NodeView) : Type 0 where
  pub description : new.description ≡ old.description
  pub log : IsSameLog new.log old.log
  pub gone : new.gone ≡ old.gone
  pub line : new.line ≡ old.line
  pub counts : new.counts ≡ old.counts
  pub places : old.places ≤ new.places
  pub room : old.log.spare ≤ new.log.spare
