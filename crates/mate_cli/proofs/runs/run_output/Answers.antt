use Rattle.std.proofs.Common.{Bool, false, Ok, refl, sym, subst}
use Rattle.mate_cli.specs.Runs.{run_output}
use Rattle.command_documents.specs.Owed.{a_run}
use Rattle.command_documents.specs.declared.output.Run.{Run}
use Rattle.command_documents.specs.declared.output.Run.TheVariants as run
use Rattle.command_documents.specs.Outputs.{owed_in}
use Rattle.mate_cli.proofs.runs.run_output.Goals as goal

whole : (r : Run) → run_output false r (Ok (a_run r))
whole (run.Script d s ps) = refl
whole (run.World d w ps) = refl

pub returns-then-brief-clause-does : goal.returns-then-brief-clause-does
returns-then-brief-clause-does c = subst (λ (b : Bool). run_output b c.args.run (owed_in c.summary.result)) (sym c.if-brief.true) c.summary.ensures.does

pub returns-else-brief-clause-does : goal.returns-else-brief-clause-does
returns-else-brief-clause-does c = subst (λ (b : Bool). run_output b c.args.run (Ok (a_run c.args.run))) (sym c.if-brief.false) (whole c.args.run)

pub returns-then-brief-clause-memory : goal.returns-then-brief-clause-memory
returns-then-brief-clause-memory c = c.summary.ensures.memory

pub returns-then-brief-clause-writable : goal.returns-then-brief-clause-writable
returns-then-brief-clause-writable c = c.summary.ensures.writable

pub returns-else-brief-clause-memory : goal.returns-else-brief-clause-memory
returns-else-brief-clause-memory c = tt

pub returns-else-brief-clause-writable : goal.returns-else-brief-clause-writable
returns-else-brief-clause-writable c = c.requires
