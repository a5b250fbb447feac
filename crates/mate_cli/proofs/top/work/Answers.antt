use Rattle.std.proofs.Common.{refl, sym}
use Rattle.mate_cli.specs.Ends.{written, refused}
use Rattle.command_documents.specs.Outputs.{owed_of}
use Rattle.command_documents.specs.Owed.{Owed}
use Rattle.command_documents.specs.declared.output.Output.{Output}
use Rattle.command_steps.proofs.Laws.{unread-as}
use Rattle.mate_cli.proofs.top.work.Goals as goal

pub returns-in-Ok : goal.returns-in-Ok
returns-in-Ok g c = written (owed_of c.in-Ok.output) c.in-Ok.ensures.does (rw (sym c.as_refusal.ensures) at c.write_output-written.ensures)

pub returns-in-Err : goal.returns-in-Err
returns-in-Err g c = refused c.in-Err.refusal c.in-Err.ensures.does (λ unread. c.in-Err.ensures.reads.counted (unread-as Owed Output c.in-Err.refusal unread)) refl refl
