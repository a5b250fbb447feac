-- Outputs: what the program holds of what it is to write.
use Rattle.std.specs.Prelude.{true, Result, Ok, Err}
use Rattle.node_programs.specs.ScriptSteps.{AreProgramsOf}
use Rattle.node_programs.specs.WorldPrograms.{AreProgramsOfWorld}
use Rattle.command_documents.specs.Documents.{document_text, HasText}
use Rattle.command_documents.specs.Owed.{Owed, a_text, a_run}
use Rattle.command_documents.specs.declared.output.Output.{Output}
use Rattle.command_documents.specs.declared.output.Output.TheVariants as output
use Rattle.command_documents.specs.declared.output.Run.{Run}
use Rattle.command_documents.specs.declared.output.Run.TheVariants as run_of
use Rattle.report_writer.specs.Summary.{IsSmall, summary_text}
use Rattle.command_refusals.specs.declared.refusal.Refusal.{Refusal}

-- what is owed, of which this is the output
abbrev pub owed_of : Output → Owed
owed_of (output.Document x) = a_text true (document_text x)
owed_of (output.Summary d s) = a_text s.whole (summary_text d s)
owed_of (output.Run r) = a_run r

abbrev pub owed_in : Result Output Refusal → Result Owed Refusal
owed_in (Ok o) = Ok (owed_of o)
owed_in (Err r) = Err r

-- its programs are those of its files
abbrev pub HasPrograms : Run → Type 0
HasPrograms (run_of.Script d script ps) = AreProgramsOf d script ps
HasPrograms (run_of.World d w ps) = AreProgramsOfWorld d w ps

-- it can be written
abbrev pub CanBeWritten : Output → Type 0
CanBeWritten (output.Document x) = HasText x
CanBeWritten (output.Summary d s) = IsSmall s
CanBeWritten (output.Run r) = HasPrograms r
