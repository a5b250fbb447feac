-- The refusals of the program: their statuses and their lines.
use Rattle.std.specs.Prelude.{◌≡◌, ℕ, List, ◌++◌, codes, Option, ◌⊎◌}
use Rattle.mate_files.specs.Counts.{Rose}
use Rattle.mate_files.specs.Sink.{Sent, SentPart}
use Rattle.command_refusals.specs.CapsuleCauses.{capsule_words}
use Rattle.command_refusals.specs.DescriptionCauses.{description_words}
use Rattle.command_refusals.specs.ExpansionCauses.{expansion_words}
use Rattle.command_refusals.specs.LineEnds.{name_line, number_line}
use Rattle.command_refusals.specs.Refutations.{refutation_words}
use Rattle.command_refusals.specs.ScriptCauses.{bad_line_words}
use Rattle.command_refusals.specs.SourceCauses.{source_words, code_words}
use Rattle.command_refusals.specs.declared.status.Status.{Status}
use Rattle.command_refusals.specs.declared.status.Status.TheVariants as status
use Rattle.command_refusals.specs.declared.cause.Unread.TheVariants.{Failed, Large}
use Rattle.command_refusals.specs.declared.cause.Cause.{Cause}
use Rattle.command_refusals.specs.declared.cause.Cause.TheVariants as cause
use Rattle.command_refusals.specs.declared.refusal.Refusal.{Refusal}
use Rattle.command_refusals.specs.declared.refusal.Refusal.TheVariants as refusal

abbrev pub cause_status : Cause → Status
cause_status (cause.Unread why) = status.FileFault
cause_status (cause.Capsule why) = status.BadCapsule
cause_status _ = status.BadSource

abbrev pub status_of : Refusal → Status
status_of refusal.Usage = status.Usage
status_of (refusal.BadDescription why) = status.BadDescription
status_of (refusal.BadScript line why) = status.BadScript
status_of (refusal.InFile name why) = cause_status why
status_of (refusal.BadStream place) = status.BadStream
status_of (refusal.Refuted why) = status.Refuted
status_of refusal.LogFull = status.LogFull
status_of refusal.SinkFault = status.SinkFault
status_of refusal.NoMemory = status.NoMemory

-- what is wrong with a file of this name
abbrev pub file_line : List ℕ → Cause → List ℕ
file_line name (cause.Unread Failed) = name_line (codes "file fault ") name
file_line name (cause.Unread Large) = name_line (codes "file large ") name
file_line name (cause.Source why) = codes "bad source " ++ name ++ codes " " ++ source_words why
file_line name (cause.Code why) = codes "bad source " ++ name ++ codes " " ++ code_words why
file_line name (cause.Capsule why) = codes "bad capsule " ++ name ++ codes " " ++ capsule_words why
file_line name (cause.Expansion why) = codes "bad source " ++ name ++ codes " " ++ expansion_words why

-- the one line that reports it
abbrev pub line_of : Refusal → List ℕ
line_of refusal.Usage = codes "usage\n"
line_of (refusal.BadDescription why) = codes "bad description " ++ description_words why
line_of (refusal.BadScript line why) = codes "bad script line " ++ bad_line_words line why
line_of (refusal.InFile name why) = file_line name why
line_of (refusal.BadStream place) = number_line (codes "bad stream ") place
line_of (refusal.Refuted why) = refutation_words why
line_of refusal.LogFull = codes "log full\n"
line_of refusal.SinkFault = codes "sink fault\n"
line_of refusal.NoMemory = codes "no memory\n"

-- the line was appended, or a prefix of it if the sink's faults rose
abbrev pub TellsLine : Option (List ℕ) → ℕ → Option (List ℕ) → ℕ → List ℕ → Type 0
TellsLine written faults written' faults' line = Sent written written' line ⊎ (Rose faults faults' × SentPart written written' line)

-- the refusal's status comes and its line is written, or that of lack of memory comes and a prefix of the line is written
abbrev pub TellsRefusal : Option (List ℕ) → ℕ → Option (List ℕ) → ℕ → Refusal → Status → Type 0
TellsRefusal written faults written' faults' r s =
    ((s ≡ status_of r) × TellsLine written faults written' faults' (line_of r))
    ⊎ ((s ≡ status.NoMemory) × SentPart written written' (line_of r))
