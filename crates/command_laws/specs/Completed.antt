-- What a call comes to if nothing is in its way.
use Rattle.std.specs.Prelude.{◌≡◌, ◌⊎◌, ℕ, true, false, List, None, Some, Ok, Err, IsTrue}
use Rattle.command_laws.specs.Texts.{IsOutputText}
use Rattle.mate_cli.specs.Ends.{Owes, Sinks, TellsEnding}
use Rattle.command_documents.specs.Owed.{Owed}
use Rattle.mate_files.specs.Counts.{Rose}
use Rattle.mate_files.specs.Files.{Names}
use Rattle.mate_files.specs.Sink.{Sent}
use Rattle.command_refusals.specs.declared.refusal.Refusal.{Refusal}
use Rattle.command_refusals.specs.declared.refusal.Refusal.TheVariants.{LogFull, NoMemory}
use Rattle.command_refusals.specs.declared.status.Status.{Status}
use Rattle.command_refusals.specs.declared.status.Status.TheVariants.{NoMemory as OutOfMemory}
use Rattle.command_steps.specs.OneAnswer.{steady}
use Rattle.command_steps.specs.Parts.{Folder}

-- Nothing is in the way of a call: the words and the bytes of the files are owed no refusal; the files are steady, or no
-- read failed in the call; and no write of the output failed.
pub record IsUnhindered (f : Folder) (names : Names) (words : List (List ℕ)) (before now : ℕ) (s t : Sinks) : Type 0 where
  pub told : f.told ≡ Some names
  pub owed : (r : Refusal) → Owes (steady names) words (Err r) → r ≡ NoMemory
  pub read : IsTrue f.steady ⊎ (Rose before now → ⊥)
  pub put : Rose s.out.faults t.out.faults → ⊥

-- How it ends.
pub data Completes (names : Names) (words : List (List ℕ)) (s t : Sinks) (status : Status) : Type 0 where
  -- the whole text that is owed was written, and no refusal
  whole : (o : Owed) → Owes (steady names) words (Ok o) → (bs : List ℕ) → IsOutputText false o bs → Sent s.out.written t.out.written bs
      → TellsEnding None s.err t.err status → Completes names words s t status
  -- the whole text of a run that a full log ended
  full : (o : Owed) → Owes (steady names) words (Ok o) → (bs : List ℕ) → IsOutputText true o bs → Sent s.out.written t.out.written bs
      → TellsEnding (Some LogFull) s.err t.err status → Completes names words s t status
  -- memory ran out
  wanting : status ≡ OutOfMemory → Completes names words s t status
