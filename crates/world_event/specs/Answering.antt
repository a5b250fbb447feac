-- The answers that fall due to a node's calls.
use Rattle.std.specs.Prelude.{ℕ, ◌+◌, List, [], ◌∷◌, ◌++◌, Option, Some, None}
use Rattle.mate_num.specs.declared.id.FunId.{FunId}
use Rattle.mate_journal.specs.Journal.{NodeState}
use Rattle.world_rules.specs.Cause as event
use Rattle.world_rules.specs.World.{World, latency_of}
use Rattle.world_rules.specs.State.{Scheduled, answer_at}

-- the answer to a call of f by the invocation n, if these were called before
abbrev pub answer_item : World → ℕ → ℕ → NodeState → List FunId → FunId → ℕ → Scheduled
answer_item w node time r called f n = record {
  time = time + latency_of w f;
  cause = event.Due node (r.invocations n).context n (answer_at w node called f (time + latency_of w f));
}

abbrev pub answer_items : World → ℕ → ℕ → NodeState → List FunId → Option (ℕ × FunId) → List Scheduled
answer_items w node time r called None = []
answer_items w node time r called (Some a) = answer_item w node time r called a.1 a.0 ∷ []

abbrev pub with_call : List FunId → Option (ℕ × FunId) → List FunId
with_call called None = called
with_call called (Some a) = called ++ a.1 ∷ []
