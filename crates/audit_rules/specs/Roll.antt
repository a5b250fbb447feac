-- The roll of a node: the live invocations, and what is installed. It is what a reader of a journal has to keep.
use Rattle.std.specs.Prelude.{◌≡◌, ℕ, ℤ, ◌==◌, ◌&&◌, not, Bool, true, false, List, [], ◌∷◌, ◌++◌, map, filter, Option, Some, None}
use Rattle.std.specs.Prelude.{unwrap_or, Contains, IsTrue, if◌then◌else◌}
use Rattle.std.specs.List.{list_any}
use Rattle.mate_num.specs.declared.call.Call.{Call}
use Rattle.mate_num.specs.declared.id.HandlerId.{HandlerId}
use Rattle.mate_journal.specs.Machine.{HeldProgram}
use Rattle.mate_journal.specs.Journal.{JournalEntry, Posted, Dropped, Started, Asked, Answered, Ended, Installed, Reset, Seen, Void, Phase}
use Rattle.mate_journal.specs.Journal.{Unposted, Queued, Ready, Waiting, Over, is_live, Invocation, NodeState, no_program, in_phase}

-- a live invocation, with its number
pub record Seat : Type 0 where
  pub number : ℕ
  pub invocation : Invocation

-- how many invocations were posted, what is installed for each handler, and the live invocations in the order of their posts
pub record Roll : Type 0 where
  pub posts : ℕ
  pub installed : HandlerId → Option HeldProgram
  pub seats : List Seat

-- the roll before any entry
abbrev pub nobody : Roll
nobody = record { posts = 0; installed = λ _. None; seats = [] }

abbrev pub seat : ℕ → Invocation → Seat
seat n i = record { number = n; invocation = i }

-- the phase is that of a queued, a ready or a waiting invocation
abbrev pub is_queued : Phase → Bool
is_queued Unposted = false
is_queued Queued = true
is_queued Ready = false
is_queued (Waiting f args) = false
is_queued Over = false

abbrev pub is_ready : Phase → Bool
is_ready Unposted = false
is_ready Queued = false
is_ready Ready = true
is_ready (Waiting f args) = false
is_ready Over = false

abbrev pub is_waiting : Phase → Bool
is_waiting Unposted = false
is_waiting Queued = false
is_waiting Ready = false
is_waiting (Waiting f args) = true
is_waiting Over = false

-- the invocation of that number has another state
abbrev pub seat_changed : ℕ → (Invocation → Invocation) → Seat → Seat
seat_changed n f s = if s.number == n then record s { invocation = f s.invocation } else s

abbrev pub roll_changed : ℕ → (Invocation → Invocation) → Roll → Roll
roll_changed n f x = record x { seats = map (seat_changed n f) x.seats }

-- without the invocation of that number
abbrev pub has_other_number : ℕ → Seat → Bool
has_other_number n s = not (s.number == n)

-- the calls of an invocation that waits, with the answer
abbrev pub calls_with : Phase → ℤ → List Call → List Call
calls_with Unposted value calls = calls
calls_with Queued value calls = calls
calls_with Ready value calls = calls
calls_with (Waiting f args) value calls = calls ++ record { fun = f; args = args; result = value } ∷ []
calls_with Over value calls = calls

-- an invocation with one more answer
abbrev pub with_answer : ℤ → Invocation → Invocation
with_answer value i = record i { calls = calls_with i.phase value i.calls; phase = Ready }

-- the roll after an entry
abbrev pub rolled : Roll → JournalEntry → Roll
rolled x (Posted n h c payload) = record x {
  posts = n;
  seats = x.seats ++ seat n (record {
    handler = h;
    context = c;
    program = unwrap_or (x.installed h) no_program;
    payload = payload;
    calls = [];
    phase = Queued;
  }) ∷ [];
}
rolled x (Started n) = roll_changed n (in_phase Ready) x
rolled x (Asked n f args) = roll_changed n (in_phase (Waiting f args)) x
rolled x (Answered n value) = roll_changed n (with_answer value) x
rolled x (Ended n how) = record x { seats = filter (has_other_number n) x.seats }
rolled x (Installed p) = record {
  posts = x.posts;
  installed = λ h. if h.0 == p.handler.0 then Some p else x.installed h;
  seats = [];
}
rolled x Reset = record x { seats = [] }
rolled x _ = x

-- the roll is that of the state: it has exactly the live invocations, as they are
pub record IsRoll (r : NodeState) (x : Roll) : Type 0 where
  pub posts : x.posts ≡ r.posts
  pub installed : (h : HandlerId) → x.installed h ≡ r.installed h
  pub lives : (s : Seat) → Contains x.seats s → IsTrue (is_live s.invocation.phase) × (r.invocations s.number ≡ s.invocation)
  pub seated : (n : ℕ) → IsTrue (is_live (r.invocations n).phase) → Contains x.seats (seat n (r.invocations n))

-- Each live invocation has the program that is installed for its handler now: after an install, none is live.
pub record LiveAreInstalled (x : Roll) : Type 0 where
  pub programs : (s : Seat) → Contains x.seats s → x.installed s.invocation.handler ≡ Some s.invocation.program

-- some live invocation of that number passes a test of its phase
abbrev pub is_at : Roll → ℕ → (Phase → Bool) → Bool
is_at x n test = list_any (λ s. (s.number == n) && test s.invocation.phase) x.seats
