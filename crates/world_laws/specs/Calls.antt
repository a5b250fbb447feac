-- Each call is answered after the function's latency, with the value that the call's place among all calls gives.
use Rattle.std.specs.Prelude.{◌≡◌, ℕ, ◌+◌, ℤ, List, ◌∷◌, ◌++◌, ◌⊎◌}
use Rattle.arrayvec.specs.ArrayVec.{ArrayVec}
use Rattle.mate_num.specs.declared.id.FunId.{FunId}
use Rattle.mate_journal.specs.Journal.{JournalEntry, Asked}
use Rattle.world_rules.specs.Cause.{Cause}
use Rattle.world_rules.specs.Cause as event
use Rattle.world_rules.specs.World.{World, latency_of}
use Rattle.world_rules.specs.Effect.{event_node}
use Rattle.world_rules.specs.State.{Moment, WorldState, node_at, node_after, calls_in, answer_at, state}
use Rattle.world_rules.specs.Run.{HaveCome, IsDone}
use Rattle.world_laws.specs.Causes.{HasEvent, IsCancelled}

-- the answer to a call of f by invocation n in the event, after these entries of it
abbrev pub answer_for : World → WorldState → Moment → List JournalEntry → ℕ → FunId → Cause
answer_for w s m front n f =
    event.Due (event_node w m.cause) ((node_after w (node_at w s m) m).reading.invocations n).context n
    (answer_at w (event_node w m.cause) ((node_at w s m).called ++ calls_in front) f (m.time + latency_of w f))

-- a call has its answer then, or an event before cuts its invocation
abbrev pub CallsAreAnswered : World → Type 0
CallsAreAnswered w = (before later : List Moment) (m : Moment) (front rest : List JournalEntry) (n : ℕ) (f : FunId) (args : ArrayVec ℤ)
    → HaveCome w (later ++ (m ∷ before))
    → m.told ≡ front ++ Asked n f args ∷ rest → IsDone (state w (later ++ (m ∷ before))) (m.time + latency_of w f)
    → HasEvent later (m.time + latency_of w f) (answer_for w (state w before) m front n f)
    ⊎ IsCancelled w (m ∷ before) later (answer_for w (state w before) m front n f)

-- where an answer comes from
pub record WasCalled (w : World) (ms : List Moment) (x : Moment) : Type 0 where
  pub newer : List Moment
  pub moment : Moment
  pub older : List Moment
  pub split : ms ≡ newer ++ moment ∷ older
  pub front : List JournalEntry
  pub rest : List JournalEntry
  pub invocation : ℕ
  pub fun : FunId
  pub args : ArrayVec ℤ
  pub told : moment.told ≡ front ++ Asked invocation fun args ∷ rest
  pub cause : x.cause ≡ answer_for w (state w older) moment front invocation fun
  pub time : x.time ≡ moment.time + latency_of w fun

-- and each answer is of such a call
abbrev pub AnswersWereCalled : World → Type 0
AnswersWereCalled w = (before : List Moment) (x : Moment) (node n : ℕ) (c : _) (value : ℤ) → HaveCome w (x ∷ before)
    → x.cause ≡ event.Due node c n value → WasCalled w before x
