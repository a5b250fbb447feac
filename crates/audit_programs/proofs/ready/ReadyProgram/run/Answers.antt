use Rattle.audit_programs.specs.Kept.{answers_to}
use Rattle.audit_programs.proofs.KeptLemmas.{caught, run-calls}
use Rattle.audit_programs.proofs.ready.ReadyProgram.run.Goals as goal

pub returns-clause-run : goal.returns-clause-run
returns-clause-run c =
    caught c.args.self.now.code c.args.self.now.program.now.image c.args.turns c.args.store.now c.args.payload.now (answers_to c.args.calls.now) c.kept_or_new-run.result c.catch_up.new.self c.kept_or_new-run.ensures c.in_ok-catch_up.ensures

pub returns-clause-calls : goal.returns-clause-calls
returns-clause-calls c =
    run-calls c.args.self.now.code c.args.self.now.program.now.image c.args.turns c.args.store.now c.args.payload.now (answers_to c.args.calls.now) c.catch_up.new.self c.shape-verified.ensures.verified
    (caught c.args.self.now.code c.args.self.now.program.now.image c.args.turns c.args.store.now c.args.payload.now (answers_to c.args.calls.now) c.kept_or_new-run.result c.catch_up.new.self c.kept_or_new-run.ensures c.in_ok-catch_up.ensures)

pub catch_up-requires-clause-run : goal.catch_up-requires-clause-run
catch_up-requires-clause-run c = c.kept_or_new-run.ensures.run

pub catch_up-requires-clause-behind : goal.catch_up-requires-clause-behind
catch_up-requires-clause-behind c = c.kept_or_new-run.ensures.serves.taken
