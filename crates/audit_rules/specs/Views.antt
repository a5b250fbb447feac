-- What the roll in memory means.
use Rattle.std.specs.Prelude.{ℕ, ℤ, ◌==◌, ◌&&◌, Bool, true, false, List, [], ◌∷◌, ◌++◌, map, Option, Some, None, unwrap_or, slice_index_or}
use Rattle.std.specs.Prelude.{not, ◌<◌, if◌then◌else◌}
use Rattle.arrayvec.specs.ArrayVec.{ArrayVec}
use Rattle.mate_num.specs.declared.call.Call.{Call}
use Rattle.mate_num.specs.declared.id.ContextId.{ContextId}
use Rattle.mate_num.specs.declared.id.HandlerId.{HandlerId}
use Rattle.mate_journal.specs.Machine.{HeldProgram}
use Rattle.mate_journal.specs.Journal as journal
use Rattle.mate_journal.specs.Journal.{Invocation, no_image, no_program}
use Rattle.mate_journal.specs.declared.entry.Entry.{Entry}
use Rattle.mate_journal.specs.declared.entry.Entry.TheVariants as entry
use Rattle.audit_rules.specs.Roll as told
use Rattle.audit_rules.specs.declared.phase.Phase.{Phase}
use Rattle.audit_rules.specs.declared.phase.Phase.TheVariants as phase
use Rattle.audit_rules.specs.declared.phase.Stage.{Stage}
use Rattle.audit_rules.specs.declared.phase.Stage.TheVariants as stage
use Rattle.audit_rules.specs.declared.roll.InstalledImage.{InstalledImage}
use Rattle.audit_rules.specs.declared.roll.Roll.{Roll}
use Rattle.audit_rules.specs.declared.seat.Seat.{Seat}

-- ---- in memory

abbrev pub stands_at : Stage → Phase → Bool
stands_at stage.Queued phase.Queued = true
stands_at stage.Queued phase.Ready = false
stands_at stage.Queued (phase.Waiting f args) = false
stands_at stage.Ready phase.Queued = false
stands_at stage.Ready phase.Ready = true
stands_at stage.Ready (phase.Waiting f args) = false
stands_at stage.Waiting phase.Queued = false
stands_at stage.Waiting phase.Ready = false
stands_at stage.Waiting (phase.Waiting f args) = true

abbrev pub sits_at : ℕ → Stage → Seat → Bool
sits_at n stage s = (s.number == n) && stands_at stage s.phase

abbrev pub has_context : ContextId → Seat → Bool
has_context c s = s.context.0 == c.0

abbrev pub come_to : ℕ → Phase → Seat → Seat
come_to n phase s = if s.number == n then record s { phase = phase } else s

abbrev pub calls_after : Phase → ℤ → List Call → List Call
calls_after phase.Queued value calls = calls
calls_after phase.Ready value calls = calls
calls_after (phase.Waiting f args) value calls = calls ++ record { fun = f; args = args; result = value } ∷ []

abbrev pub seat_answered : ℤ → Seat → Seat
seat_answered value s = record s { calls = calls_after s.phase value s.calls; phase = phase.Ready }

abbrev pub answered_at : ℕ → ℤ → Seat → Seat
answered_at n value s = if s.number == n then seat_answered value s else s

abbrev pub keeps_seat : ℕ → Seat → Bool
keeps_seat n s = not (s.number == n)

-- the handler that an entry posts to, or installs for, is below a number
abbrev pub HasHandlerBelow : ℕ → Entry → Type 0
HasHandlerBelow n (entry.Post k h c payload) = h.0 < n
HasHandlerBelow n (entry.Install h version image) = h.0 < n
HasHandlerBelow n _ = Unit {0}

-- ---- what it means, if the log has these images

abbrev pub phase_in : Phase → journal.Phase
phase_in phase.Queued = journal.Queued
phase_in phase.Ready = journal.Ready
phase_in (phase.Waiting f args) = journal.Waiting f args

abbrev pub installed_in : List (ArrayVec ℕ) → HandlerId → Option InstalledImage → Option HeldProgram
installed_in images h None = None
installed_in images h (Some v) = Some (record { handler = h; version = v.version; image = slice_index_or images v.image no_image })

abbrev pub seat_in : List (ArrayVec ℕ) → Seat → told.Seat
seat_in images s =
    told.seat s.number (record {
      handler = s.handler;
      context = s.context;
      program = unwrap_or (installed_in images s.handler s.held) no_program;
      payload = s.payload;
      calls = s.calls;
      phase = phase_in s.phase;
    })

abbrev pub roll_in : List (ArrayVec ℕ) → Roll → told.Roll
roll_in images x = record {
  posts = x.posts;
  installed = λ h. installed_in images h (slice_index_or x.installed h.0 None);
  seats = map (seat_in images) x.seats.items;
}
