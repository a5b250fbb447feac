-- How a refusal is reported: a status and a line.
use Rattle.std.specs.Prelude.{◌≡◌, ℕ, List, Option, ◌⊎◌}
use Rattle.mate_files.specs.Sink.{SentPart}
use Rattle.command_refusals.specs.Refusals.{TellsLine}
use Rattle.command_refusals.specs.declared.status.Status.{Status}
use Rattle.command_refusals.specs.declared.status.Status.TheVariants.{NoMemory}

-- this status comes and this line is written, or that of lack of memory comes and a prefix of the line is written
abbrev pub TellsAs : Status → List ℕ → Option (List ℕ) → ℕ → Option (List ℕ) → ℕ → Status → Type 0
TellsAs status line written faults written' faults' s =
    ((s ≡ status) × TellsLine written faults written' faults' line) ⊎ ((s ≡ NoMemory) × SentPart written written' line)
