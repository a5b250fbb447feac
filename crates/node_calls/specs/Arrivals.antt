-- A program that comes to a handler: before anything of it is recorded, and when its era has begun.
use Rattle.std.specs.Prelude.{◌≡◌, ℕ, ◌<◌, ◌≤◌, ℤ, true, false, ⊤, List, [], ◌∷◌, length, slice_set}
use Rattle.std.specs.Prelude.{Option, Some, Result, MatchBool, MatchResult, IsSomeAnd}
use Rattle.arrayvec.specs.ArrayVec.{ArrayVec}
use Rattle.mate_num.specs.declared.bounds.TheConstants.{IMAGE_MAX}
use Rattle.mate_num.specs.declared.call.Stamp.{Stamp}
use Rattle.mate_num.specs.declared.id.HandlerId.{HandlerId}
use Rattle.vm_shape.specs.declared.description.Description.{Description}
use Rattle.mate_journal.specs.Journal.{Installed, journal_of}
use Rattle.mate_journal.specs.declared.report.TheConstants.{ENTRIES_MAX}
use Rattle.journal_laws.specs.Growth.{last_is_seen}
use Rattle.node_state.specs.declared.handlers.Held.{Held}
use Rattle.node_state.specs.Programs.{held_at, held_version_in, renewed}
use Rattle.node_state.specs.declared.parts.Parts.{Parts}
use Rattle.node_state.specs.Fits.{IsHeld, program_of}
use Rattle.node_state.specs.Keeps.{IsTimely, reading}
use Rattle.node_state.specs.Meaning.{machine_in}
use Rattle.node_state.specs.Starting.{Rests}
use Rattle.node_calls.specs.Calls.{RestsAgain, TellsStore}
use Rattle.node_calls.specs.Installing.{IsInstallable}
use Rattle.node_calls.specs.Posting.{PostGives}
use Rattle.node_calls.specs.declared.installing.InstallFault.{InstallFault}
use Rattle.node_calls.specs.declared.installing.InstallFault.TheVariants.{Capsule, Code, NotNewer}
use Rattle.node_calls.specs.declared.posting.PostAnswer.{PostAnswer}

-- an install may come to the node with this stamp: it rests, and its log has room for all that an install records
pub record MayInstall (d : Description) (s : Parts) (at : Stamp) : Type 0 where
  pub rests : Rests d s
  pub timely : IsTimely at s.log.all
  pub room : 4 ≤ s.log.all.spare
  pub few : length s.log.all.entries < ENTRIES_MAX

-- what is held has this code
abbrev pub HoldsCode : Option Held → List ℕ → Type 0
HoldsCode held code = IsSomeAnd held (λ x. x.code.bytes ≡ code)

-- with this version and the image of these bytes, what the handler holds can be installed
pub record CanRenew (d : Description) (bytes : List ℕ) (s : Parts) (h : HandlerId) (version : ℕ) : Type 0 where
  pub x : Held
  pub after : renewed version (record { items = bytes }) (held_at s.handlers.programs h) ≡ Some x
  pub version_is : x.version ≡ version
  pub fits : length bytes ≤ IMAGE_MAX
  pub can : IsInstallable d bytes (record { handler = h; held = x })

-- the version is newer than what was held, and the store was recorded
pub record HasShown (d : Description) (old new : Parts) (h : HandlerId) (version : ℕ) (at : Stamp) : Type 0 where
  pub tells : TellsStore d old new at
  pub newer : held_version_in (held_at old.handlers.programs h) < version

-- it is not newer than the one that is held
abbrev pub IsOlder : Parts → HandlerId → ℕ → InstallFault → Type 0
IsOlder s h version (NotNewer held) = (held ≡ held_version_in (held_at s.handlers.programs h)) × (version ≤ held)
IsOlder s h version (Capsule fault) = ⊥
IsOlder s h version (Code fault) = ⊥

abbrev pub Prepares : Description → Parts → Parts → HandlerId → ℕ → Stamp → Result ⊤ InstallFault → Type 0
Prepares d old new h version at result = MatchResult result
    (λ _. HasShown d old new h version at)
    (λ fault. IsOlder old h version fault × (new ≡ old))

-- a program has come to the handler of a node that rested, whose last entry shows the store
pub record Arrives (d : Description) (h : HandlerId) (at : Stamp) (now : Parts) : Type 0 where
  pub before : Parts
  pub x : Held
  pub rests : Rests d before
  pub timely : IsTimely at before.log.all
  pub room : 3 ≤ before.log.all.spare
  pub few : length before.log.all.entries ≤ ENTRIES_MAX
  pub seen : last_is_seen false (journal_of before.log.all) ≡ true
  pub is_held : IsHeld d x
  pub handler : h.0 < length d.handlers.items
  pub has_come : now ≡ record before { handlers = record (before.handlers) { programs = slice_set before.handlers.programs h.0 (Some x) } }

-- a post with no values
pub record IsPosted (d : Description) (old new : Parts) (h : HandlerId) (at : Stamp) : Type 0 where
  pub payload : ArrayVec ℤ
  pub empty : payload.items ≡ []
  pub answer : PostAnswer
  pub again : RestsAgain d old new at (PostGives (machine_in d) (reading d old.log.all) h payload answer)

-- the install was recorded, an era began, and a handler that runs once was posted
pub record HasBegun (d : Description) (before new : Parts) (h : HandlerId) (x : Held) (at : Stamp) : Type 0 where
  pub next : Parts
  pub begun : RestsAgain d before next at (λ told. told ≡ Installed (program_of h x) ∷ [])
  pub follows : MatchBool ((machine_in d).runs_once h) (IsPosted d next new h at) (new ≡ next)
